-- Every unit met anywhere in any history is lawful.
use Rattle.std.proofs.Common.{◌≡◌, ℕ, ◌*◌, ◌/◌, ◌≤◌, true, false, List, [], ◌∷◌, ◌++◌, map, length, take, drop, Some, None, Option, sym, refl, ap, ◌∙◌, subst, inl, inr, arith}
use Rattle.std.proofs.Math.Logic.{∥∥₁_map}
use Rattle.std.proofs.lemmas.Bool.{both_ways}
use Rattle.std.proofs.lemmas.List.{length-map}
use Rattle.std.specs.List.{slice_get}
use Rattle.language.specs.Expressions.{truth_sees, truth_value}
use Rattle.language.specs.laws.Expressions.{truth_by_sight}
use Rattle.model.specs.Meanings.{Valuation, Meaning}
use Rattle.model.specs.States as states
use Rattle.model.specs.States.{value, nothing, InitialState, Successor}
use Rattle.theory.specs.Enumerations.{below}
use Rattle.theory.specs.Members.{Member}
use Rattle.theory.proofs.Enumerations.{length_below}
use Rattle.theory.proofs.Runs.{map_ends, visited_reachable}
use Rattle.units.specs.Evidence.{states_in, certificate_count}
use Rattle.units.specs.Models.{Claim, held, broken, idle, standing, UnitModel, standing_state}
use Rattle.units.specs.Units.{holds, with_claims, claim_sight, claims_marked}
use Rattle.units.proofs.Calls.{Good}
use Rattle.units.proofs.Claims.{Right, all_nth}
use Rattle.units.proofs.FoundEvidence.{evidence_had}
use Rattle.units.proofs.Lives.{came_good, good_is_sound}
use Rattle.units.proofs.Theory.{certificates_judged, certificates_hold}
use Rattle.reactive.specs.Counts.{AtMost}
use Rattle.reactive.specs.Modules.{module_of}
use Rattle.reactive.specs.Reactive.{Among, Agree, Variable, IsTrajectory, IsReachable}
use Rattle.reactive.specs.Runs.{AgreeAlong}
use Rattle.reactive.proofs.Reaching.{reachable_listed}
use Rattle.reactive.proofs.Runs.{trajectories_are}
use Rattle.reactive.proofs.States.{variable_from}
use Rattle.life.specs.Fitness.{IsFit}
use Rattle.life.specs.Histories.{History, sealing, calling, renaming, hiding, joining, with_state, stood_after, stood}
use Rattle.life.specs.Law.{Falsified, ReachableRow, Certificate, Refutation, EvidenceFound}
use Rattle.life.specs.Promises.{EveryHistoryIsLawful, LivesAreLawful}
use Rattle.life.specs.Rules.{back_at, Call, claim_call, certify_call, refute_call, open_call, fire_call, end_call, stop_call, Reply, number_reply, slip_reply, refusal_reply, Allows}
use Rattle.life.specs.Subject.{RowAfter, IsTrueAt}
use Rattle.life.proofs.Bridge.{row_initial, row_next}
use Rattle.life.proofs.Claims.{certificate_of, breaking_of, certify_through, certify_made, refute_made, rows_trajectory}
use Rattle.life.proofs.Fitness.{fit_none}
use Rattle.life.proofs.Judging.{none≢some}
use Rattle.life.proofs.Lives.{history_came, came_history}

-- claims at valuations

module _ (m : Meaning) (c : Claim) (sees : truth_sees (claim_sight m) c.says ≡ true) where
  about : (v w : Valuation) → Agree (Variable (module_of m)) v w → truth_value c.says v (value nothing) ≡ truth_value c.says w (value nothing)
  about v w same =
      truth_by_sight (claim_sight m) v (value nothing) w (value nothing)
      (record { old_same = λ n e. same n (variable_from m n e); new_same = λ n e. absurd (both_ways false refl e) }) c.says sees

  -- what holds of each reachable row holds of each reachable state of the module
  holds_there : ((t : List ℕ) → states.Reachable m t → holds c t ≡ true) → (v : Valuation) → IsReachable (module_of m) v → IsTrueAt c v
  holds_there h v r =
      let found = (trajectories_are m).reached_row v r in
      about v (value found.0) found.2 ∙ h found.0 found.1

  among_row : (run : List Valuation) (told : List (List ℕ)) → AgreeAlong (Variable (module_of m)) run (map value told) → (v : Valuation) → Among v run → (t : List ℕ) × Member t told × Agree (Variable (module_of m)) v (value t)
  among_row [] told along v h = absurd h
  among_row (s ∷ ss) [] along v h = absurd along
  among_row (s ∷ ss) (t ∷ ts) along v (inl e) = (t, inl refl, subst (λ (x : Valuation). Agree (Variable (module_of m)) x (value t)) e along.0)
  among_row (s ∷ ss) (t ∷ ts) along v (inr h) = let k = among_row ss ts along.1 v h in (k.0, inr k.1, k.2)

  holds_along : ((t : List ℕ) → states.Reachable m t → holds c t ≡ true) → (run : List Valuation) → IsTrajectory (module_of m) run → (v : Valuation) → Among v run → IsTrueAt c v
  holds_along h run trajectory v there =
      let told = (trajectories_are m).rows run trajectory in
      let row = among_row run told.0 told.2 v there in
      let r = visited_reachable {Initial = InitialState m} {Step = Successor m} told.0 row.0 told.1 row.1 in
      about v (value row.0) row.2 ∙ h row.0 (record { run = r.run; trajectory = r.trajectory; ends = r.ends })

falsified_at : (m : Meaning) (c : Claim) (t : List ℕ) → states.Reachable m t → holds c t ≡ false → Falsified m c
falsified_at m c t r e =
    let there = (trajectories_are m).reached t r in
    record { run = there.run; trajectory = there.trajectory; last = value t; ends = there.ends; false_there = e }

-- the states that stood

pub record StoodRight (u : UnitModel) (ss : List (List ℕ)) : Type 0 where
  pub last : (s : List ℕ) → standing_state u.phase ≡ Some s → states.Trajectory u.meaning ss × states.Ends ss s
  pub none : standing_state u.phase ≡ None → ss ≡ []

unchanged : (u w : UnitModel) (ss : List (List ℕ)) → w.meaning ≡ u.meaning → standing_state w.phase ≡ standing_state u.phase → StoodRight u ss → StoodRight w ss
unchanged u w ss a b h = record {
  last = λ s e. let k = h.last s (sym b ∙ e) in (subst (λ x. states.Trajectory x ss) (sym a) k.0, k.1);
  none = λ e. h.none (sym b ∙ e);
}

same_phase : (u w : UnitModel) (ss : List (List ℕ)) → w ≡ u → StoodRight u ss → StoodRight w ss
same_phase u w ss e h = subst (λ x. StoodRight x ss) (sym e) h

none_stands : (w : UnitModel) → w.phase ≡ idle → StoodRight w []
none_stands w e = record { last = λ s k. absurd (none≢some s (sym (ap standing_state e) ∙ k)); none = λ _. refl }

more : (m : Meaning) (s : List ℕ) (ts : List (List ℕ)) (x t : List ℕ) → states.Continues m s ts → states.Ends (s ∷ ts) x → Successor m x t → states.Continues m s (ts ++ (t ∷ [])) × states.Ends (s ∷ (ts ++ (t ∷ []))) t
more m s [] x t c e h = ((subst (λ y. Successor m y t) (sym e) h, tt), refl)
more m s (u ∷ us) x t c e h = let k = more m u us x t c.1 e h in ((c.0, k.0), k.1)

one_more : (m : Meaning) (ss : List (List ℕ)) (s t : List ℕ) → states.Trajectory m ss × states.Ends ss s → Successor m s t → states.Trajectory m (ss ++ (t ∷ [])) × states.Ends (ss ++ (t ∷ [])) t
one_more m [] s t h k = absurd h.0
one_more m (x ∷ xs) s t h k = let more-now = more m x xs s t h.0.1 h.1 k in ((h.0.0, more-now.0), more-now.1)

ended : (u w : UnitModel) (ss : List (List ℕ)) (before : Option (List ℕ)) (new : List ℕ) → standing_state u.phase ≡ before → RowAfter u.meaning before new → w.meaning ≡ u.meaning → w.phase ≡ standing new → StoodRight u ss → StoodRight w (with_state ss (standing_state w.phase))
ended u w ss before new e follows a b h =
    subst (λ o. StoodRight w (with_state ss o)) (sym (ap standing_state b)) (record {
      last = λ s k. let same : new ≡ s = let z : Some new ≡ Some s = sym (ap standing_state b) ∙ k in cc in subst (λ x. states.Trajectory w.meaning (ss ++ (new ∷ [])) × states.Ends (ss ++ (new ∷ [])) x) same (subst (λ x. states.Trajectory x (ss ++ (new ∷ [])) × states.Ends (ss ++ (new ∷ [])) new) (sym a) (go before e follows));
      none = λ k. absurd (none≢some new (sym k ∙ ap standing_state b));
    })
  where
    go : (before : Option (List ℕ)) → standing_state u.phase ≡ before → RowAfter u.meaning before new → states.Trajectory u.meaning (ss ++ (new ∷ [])) × states.Ends (ss ++ (new ∷ [])) new
    go None e f = subst (λ xs. states.Trajectory u.meaning (xs ++ (new ∷ [])) × states.Ends (xs ++ (new ∷ [])) new) (sym (h.none e)) ((row_initial u.meaning new f, tt), refl)
    go (Some s) e f = one_more u.meaning ss s new (h.last s e) (row_next u.meaning s new f)

back_stands : (before : Option (List ℕ)) → standing_state (back_at before) ≡ before
back_stands None = refl
back_stands (Some s) = refl

early : (u w : UnitModel) (ss : List (List ℕ)) (before : Option (List ℕ)) → standing_state u.phase ≡ before → w.meaning ≡ u.meaning → w.phase ≡ back_at before → StoodRight u ss → StoodRight w ss
early u w ss before e a b h = unchanged u w ss a (ap standing_state b ∙ back_stands before ∙ sym e) h

called : (u : UnitModel) (call : Call) (reply : Reply) (w : UnitModel) (ss : List (List ℕ)) → Allows u call reply w → StoodRight u ss → StoodRight w (stood_after ss call reply w)
called u (claim_call bytes) (number_reply n) w ss r h = unchanged u w ss (ap (λ (x : UnitModel). x.meaning) r.after) (ap (λ (x : UnitModel). standing_state x.phase) r.after) h
called u (claim_call bytes) (slip_reply s) w ss r h = absurd r
called u (claim_call bytes) (refusal_reply q) w ss r h = same_phase u w ss r.1 h
called u (certify_call i bytes) (number_reply n) w ss r h = unchanged u w ss (ap (λ (x : UnitModel). x.meaning) r.after) (ap (λ (x : UnitModel). standing_state x.phase) r.after) h
called u (certify_call i bytes) (slip_reply s) w ss r h = absurd r
called u (certify_call i bytes) (refusal_reply q) w ss r h = same_phase u w ss r.1 h
called u (refute_call i bytes) (number_reply n) w ss r h = unchanged u w ss (ap (λ (x : UnitModel). x.meaning) r.after) (ap (λ (x : UnitModel). standing_state x.phase) r.after) h
called u (refute_call i bytes) (slip_reply s) w ss r h = absurd r
called u (refute_call i bytes) (refusal_reply q) w ss r h = same_phase u w ss r.1 h
called u (open_call given) (number_reply n) w ss r h = absurd r
called u (open_call given) (slip_reply s) w ss r h = unchanged u w ss (ap (λ (x : UnitModel). x.meaning) r.1.after) (ap (λ (x : UnitModel). standing_state x.phase) r.1.after) h
called u (open_call given) (refusal_reply q) w ss r h = same_phase u w ss r.1.1 h
called u (fire_call slip a k) (number_reply n) w ss r h = unchanged u w ss (ap (λ (x : UnitModel). x.meaning) r.after) (ap (λ (x : UnitModel). standing_state x.phase) r.after ∙ sym (ap standing_state r.round.open_now)) h
called u (fire_call slip a k) (slip_reply s) w ss r h = absurd r
called u (fire_call slip a k) (refusal_reply q) w ss r h = same_phase u w ss r.1 h
called u (end_call slip) (number_reply n) w ss r h = ended u w ss r.round.before r.round.new (ap standing_state r.round.open_now) r.follows (ap (λ (x : UnitModel). x.meaning) r.after) (ap (λ (x : UnitModel). x.phase) r.after) h
called u (end_call slip) (slip_reply s) w ss r h = absurd r
called u (end_call slip) (refusal_reply q) w ss (inl r) h = same_phase u w ss r.1 h
called u (end_call slip) (refusal_reply q) w ss (inr r) h = early u w ss r.round.before (ap standing_state r.round.open_now) (ap (λ (x : UnitModel). x.meaning) r.after) (ap (λ (x : UnitModel). x.phase) r.after) h
called u stop_call (number_reply n) w ss r h = none_stands w (ap (λ (x : UnitModel). x.phase) r.after)
called u stop_call (slip_reply s) w ss r h = absurd r
called u stop_call (refusal_reply q) w ss r h = same_phase u w ss r.1 h

stood_right : (u : UnitModel) (h : History u) → StoodRight u (stood h)
stood_right _ (sealing m number w rule) = none_stands w rule.anew.idle_now
stood_right _ (calling u call reply w h rule) = called u call reply w (stood h) rule (stood_right u h)
stood_right _ (renaming u a b w h rule) = none_stands w rule.anew.idle_now
stood_right _ (hiding u n w h rule) = none_stands w rule.anew.idle_now
stood_right _ (joining l r w h k rule) = none_stands w rule.anew.idle_now

-- evidence

module _ (u : UnitModel) (good : Good u) where
  abbrev m : Meaning
  m = u.meaning

  row_reachable : (t : List ℕ) → states.Reachable m t → ReachableRow m t
  row_reachable t r = record { run = r.run; trajectory = rows_trajectory m r.run r.trajectory; ends = r.ends }

  module _ (i : ℕ) (c : Claim) (there : slice_get u.claims i ≡ Some c) where
    sees : truth_sees (claim_sight m) c.says ≡ true
    sees = (all_nth (Right m) u.claims i c good.claims_right there).sees

    many_states : (bytes : List ℕ) → length (states_in bytes) ≡ length bytes / 32
    many_states bytes = length-map (below (length bytes / 32)) (λ k. take 32 (drop (32 * k) bytes)) ∙ length_below (length bytes / 32)

    found : IsFit u → (n : ℕ) → n ≤ 2048 → AtMost (ReachableRow m) n → EvidenceFound u n i c
    found fit n few most =
        let listed = (reachable_listed m).1 in
        let all = listed.all in
        let short : length all ≤ n = most all listed.distinct (λ t k. row_reachable t (listed.exactly.sound t k)) in
        let fits : length all ≤ 2048 = omega (arith, short, few) in
        let had = evidence_had u (fit_none u fit) i c there all listed.exactly fits in
        record {
          certificate = (
            λ h.
                let k = had.certificate.0 (λ t r. h (value t) ((trajectories_are m).reached t r)) in
                record { bytes = k.0; count = certificate_count m (states_in k.0); after = with_claims u (claims_marked i held u.claims); accepted = certify_made u i k.0 k.1 },
            λ k. holds_there m c sees (had.certificate.1 (k.bytes, (certify_through u i k.bytes k.count k.after k.accepted).clear)),
          );
          refutation = λ v r e.
              let row = (trajectories_are m).reached_row v r in
              let k = had.run row.0 row.1 (sym (about m c sees v (value row.0) row.2) ∙ e) in
              record {
                bytes = k.0;
                count = length (states_in k.0);
                after = with_claims u (claims_marked i broken u.claims);
                accepted = refute_made u i k.0 k.1;
                short = omega (arith, many_states k.0, k.2, short);
              };
        }

  never : (i most : ℕ) → Certificate u i → Refutation u i most → ⊥
  never i most a b =
      let e = a.accepted.evidence in
      let f = b.accepted.evidence in
      let same : e.claim ≡ f.claim = let z : Some e.claim ≡ Some f.claim = sym e.there ∙ f.there in cc in
      let run = breaking_of m f.claim f.states b.accepted.breaks in
      let true-there : holds e.claim run.last ≡ true = certificates_hold m (holds e.claim) e.states ((certificates_judged m (holds e.claim) e.states).1 (certificate_of m e.claim e.states a.accepted.certifies)) run.last (record { run = f.states; trajectory = run.trajectory; ends = run.ends }) in
      both_ways (holds f.claim run.last) run.false_at_last (subst (λ c. holds c run.last ≡ true) same true-there)

pub lawful : EveryHistoryIsLawful
lawful u h =
    let good = came_good (history_came u h) in
    let sound = good_is_sound u good in
    let right = stood_right u h in
    record {
      marks = λ i c e.
          let mark = sound.marks i c e in
          let sees-now = (all_nth (Right u.meaning) u.claims i c good.claims_right e).sees in
          record {
            held_true = λ k. holds_along u.meaning c sees-now (mark.held_holds k);
            broken_false = λ k. let f = mark.broken_fails k in falsified_at u.meaning c f.0 f.1 f.2;
          };
      standing = λ s e.
          let k = right.last s e in
          record {
            trajectory = (trajectories_are u.meaning).published (stood h) k.0;
            ends = map_ends value (stood h) s k.1;
            claims_true = λ i c there. (sound.state s e).claims_hold i c there;
          };
      none_standing = right.none;
      evidence = λ fit n few most i c there. found u good i c there fit n few most;
      never_both = never u good;
    }

pub lives_lawful : LivesAreLawful
lives_lawful u kept = ∥∥₁_map kept (λ came. let h = came_history u came in (h, lawful u h))
