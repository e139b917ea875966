-- Sealed units and piles of units follow the rules, and the rules leave no choice.
use Rattle.std.proofs.Common.{◌≡◌, ℕ, max, Bool, true, false, cond, eqb, ltb, ◌↔◌, List, [], ◌∷◌, ◌++◌, map, length, is_some, Some, None, Option, sym, refl, ap, ap₂, ◌∙◌, subst, ⊎_elim, arith}
use Rattle.std.proofs.lemmas.Bool.{and_parts, both_ways, cases_Bool, ltb-true, ltb-false, lt-ltb, le-ltb, ne_eqb, cond-false}
use Rattle.std.proofs.lemmas.List.{length-map}
use Rattle.std.specs.List.{AllByRecursion as All}
use Rattle.model.specs.Exchange.{exchange}
use Rattle.composition.specs.Meanings.{renamed, hidden, joined}
use Rattle.composition.specs.laws.Faults.{renames}
use Rattle.language.specs.Expressions.{Number, constant, old_value, new_value, sum, difference, Truth, equal, less, negation, conjunction, disjunction, always, Seen, number_sees, truth_sees, number_renamed, truth_renamed}
use Rattle.model.specs.Meanings.{Meaning}
use Rattle.units.specs.Models.{Mark, open_mark, held, broken, Claim, Phase, UnitModel}
use Rattle.units.specs.Sealing.{if_so, verdict, ◌else◌}
use Rattle.units.specs.Units.{verdict_with, verdict_of, kept_claims, fresh_unit, claim_sight, claim_renamed, mark_joined, claim_joined, seal, rename_unit, hide_unit, join_units}
use Rattle.units.specs.declared.refusal.Refusal.{Refusal}
use Rattle.units.specs.declared.refusal.Refusal.TheVariants.{TooManyClaims}
use Rattle.units.proofs.Calls.{Good}
use Rattle.units.proofs.Claims.{Right}
use Rattle.units.proofs.Fitness.{fault_clear}
use Rattle.reactive.proofs.Operations.{joins_are, hides_are}
use Rattle.reactive.proofs.Renamed.{renames_are}
use Rattle.life.specs.Fitness.{IsFit}
use Rattle.life.specs.Piles.{MadeAnew, Sealed, name_put, number_put, truth_put, claim_put, Renamed, Hidden, mark_in_whole, claim_in_whole, Joined}
use Rattle.life.proofs.Fitness.{fit_from, fit_none}

build : Meaning → ℕ → ℕ → Bool → List Claim → Phase → UnitModel
build m n r c cs p = record { meaning = m; number = n; rounds = r; crowded = c; claims = cs; phase = p }

same_unit : (w v : UnitModel) → w.meaning ≡ v.meaning → w.number ≡ v.number → w.rounds ≡ v.rounds → w.crowded ≡ v.crowded → w.claims ≡ v.claims → w.phase ≡ v.phase → w ≡ v
unfolding build
same_unit w v a b c d e f =
    ap (λ x. build x w.number w.rounds w.crowded w.claims w.phase) a ∙
    ap (λ x. build v.meaning x w.rounds w.crowded w.claims w.phase) b ∙
    ap (λ x. build v.meaning v.number x w.crowded w.claims w.phase) c ∙
    ap (λ x. build v.meaning v.number v.rounds x w.claims w.phase) d ∙
    ap (λ x. build v.meaning v.number v.rounds v.crowded x w.phase) e ∙ ap (λ x. build v.meaning v.number v.rounds v.crowded v.claims x) f

module _ (m : Meaning) (number rounds : ℕ) (brought : List Claim) where
  abbrev fresh : UnitModel
  fresh = fresh_unit m number rounds brought

  fresh_anew : MadeAnew fresh number rounds brought
  fresh_anew = record {
    number = refl;
    rounds = refl;
    idle_now = refl;
    too_many = λ l. lt-ltb 8 (length brought) l;
    few = λ l. le-ltb 8 (length brought) l;
    kept = λ fit. ap (λ v. kept_claims v brought) (fit_none fresh fit);
    dropped = λ unfit. go unfit (verdict_of fresh) refl;
  }
    where
      go : (IsFit fresh → ⊥) → (v : Option Refusal) → verdict_of fresh ≡ v → fresh.claims ≡ []
      go unfit None e = absurd (unfit (fit_from fresh e))
      go unfit (Some r) e = ap (λ v. kept_claims v brought) e

  anew_fresh : (w : UnitModel) → w.meaning ≡ m → MadeAnew w number rounds brought → w ≡ fresh
  anew_fresh w same h = same_unit w fresh same h.number h.rounds crowded (go (verdict_of fresh) refl) h.idle_now
    where
      crowded : w.crowded ≡ ltb 8 (length brought)
      crowded = ⊎_elim (λ t. h.too_many (ltb-true 8 (length brought) t) ∙ sym t) (λ f. h.few (ltb-false 8 (length brought) f) ∙ sym f) (cases_Bool (ltb 8 (length brought)))

      verdicts : verdict_of w ≡ verdict_of fresh
      verdicts = ap (λ x. verdict_with x w.crowded) same ∙ ap (verdict_with m) crowded

      go : (v : Option Refusal) → verdict_of fresh ≡ v → w.claims ≡ fresh.claims
      go None e = h.kept (fit_from w (verdicts ∙ e)) ∙ sym (ap (λ v. kept_claims v brought) e)
      go (Some r) e = h.dropped (λ fit. let z : None ≡ Some r = sym (fit_none w fit) ∙ verdicts ∙ e in let y : ◌≡◌ {A = ℕ} 0 1 = cc in omega arith) ∙ sym (ap (λ v. kept_claims v brought) e)

-- what was brought matters only where the drawing is fit
fresh_same : (m : Meaning) (number rounds : ℕ) (cs ds : List Claim) → length cs ≡ length ds → (verdict m ≡ None → cs ≡ ds) → fresh_unit m number rounds cs ≡ fresh_unit m number rounds ds
fresh_same m number rounds cs ds many f = go (verdict m) refl
  where
    dropped : (r : Refusal) → verdict m ≡ Some r → (xs : List Claim) → (fresh_unit m number rounds xs).claims ≡ []
    dropped r e xs = ap (λ v. kept_claims (v else if_so TooManyClaims (ltb 8 (length xs))) xs) e

    go : (v : Option Refusal) → verdict m ≡ v → fresh_unit m number rounds cs ≡ fresh_unit m number rounds ds
    go None e = ap (fresh_unit m number rounds) (f e)
    go (Some r) e = same_unit (fresh_unit m number rounds cs) (fresh_unit m number rounds ds) refl refl refl (ap (ltb 8) many) (dropped r e cs ∙ sym (dropped r e ds)) refl

pub sealed_rules : (m : Meaning) (number : ℕ) (w : UnitModel) → Sealed m number w ↔ (w ≡ seal m number)
sealed_rules m number w = (
  λ s. anew_fresh m number 0 [] w s.drawing s.anew,
  λ e. subst (Sealed m number) (sym e) (record { drawing = refl; anew = fresh_anew m number 0 [] }),
)

-- claims under new names

module _ (a b : ℕ) (s : Seen) (no_old : s.old b ≡ false) (no_new : s.new b ≡ false) where
  name_same : (n : ℕ) → (n ≡ b → ⊥) → name_put a b n ≡ exchange a b n
  name_same n apart = ap (λ x. cond (eqb n a) b x) (sym (cond-false (eqb n b) a n (ne_eqb n b apart)))

  number_same : (e : Number) → number_sees s e ≡ true → number_put a b e ≡ number_renamed a b e
  number_same (constant v) h = refl
  number_same (old_value n) h = ap old_value (name_same n (λ e. both_ways (s.old b) no_old (subst (λ x. s.old x ≡ true) e (and_parts (ltb n 256) (s.old n) h).1)))
  number_same (new_value n) h = ap new_value (name_same n (λ e. both_ways (s.new b) no_new (subst (λ x. s.new x ≡ true) e (and_parts (ltb n 256) (s.new n) h).1)))
  number_same (sum x y) h = let p = and_parts (number_sees s x) (number_sees s y) h in ap₂ sum (number_same x p.0) (number_same y p.1)
  number_same (difference x y) h = let p = and_parts (number_sees s x) (number_sees s y) h in ap₂ difference (number_same x p.0) (number_same y p.1)

  truth_same : (p : Truth) → truth_sees s p ≡ true → truth_put a b p ≡ truth_renamed a b p
  truth_same (equal x y) h = let p = and_parts (number_sees s x) (number_sees s y) h in ap₂ equal (number_same x p.0) (number_same y p.1)
  truth_same (less x y) h = let p = and_parts (number_sees s x) (number_sees s y) h in ap₂ less (number_same x p.0) (number_same y p.1)
  truth_same (negation p) h = ap negation (truth_same p h)
  truth_same (conjunction p q) h = let k = and_parts (truth_sees s p) (truth_sees s q) h in ap₂ conjunction (truth_same p k.0) (truth_same q k.1)
  truth_same (disjunction p q) h = let k = and_parts (truth_sees s p) (truth_sees s q) h in ap₂ disjunction (truth_same p k.0) (truth_same q k.1)
  truth_same always h = refl

module _ (m : Meaning) (a b : ℕ) where
  abbrev whole : Meaning
  whole = renamed m a b

  claims_same : (cs : List Claim) → All (Right m) cs → verdict whole ≡ None → map (claim_put a b) cs ≡ map (claim_renamed a b) cs
  claims_same cs h fine = go cs h
    where
      free : is_some (m.outline.kind b) ≡ false
      free = ap is_some (renames m.outline a b (fault_clear whole fine)).new_free

      go : (cs : List Claim) → All (Right m) cs → map (claim_put a b) cs ≡ map (claim_renamed a b) cs
      go [] h = refl
      go (c ∷ cs) h = ap₂ (λ p rest. record { says = p; mark = c.mark } ∷ rest) (truth_same a b (claim_sight m) free refl c.says h.0.sees) (go cs h.1)

module _ (u : UnitModel) (good : Good u) (a b : ℕ) where
  puts : fresh_unit (renamed u.meaning a b) u.number u.rounds (map (claim_put a b) u.claims) ≡ rename_unit u a b
  puts = fresh_same (renamed u.meaning a b) u.number u.rounds (map (claim_put a b) u.claims) (map (claim_renamed a b) u.claims)
      (length-map u.claims (claim_put a b) ∙ sym (length-map u.claims (claim_renamed a b))) (claims_same u.meaning a b u.claims good.claims_right)

  pub renamed_rules : (w : UnitModel) → Renamed u a b w ↔ (w ≡ rename_unit u a b)
  renamed_rules w = (
    λ r. anew_fresh (renamed u.meaning a b) u.number u.rounds (map (claim_put a b) u.claims) w r.drawing r.anew ∙ puts,
    λ e. subst (Renamed u a b) (sym e) (record {
      drawing = refl;
      published = renames_are u.meaning a b;
      anew = subst (λ v. MadeAnew v u.number u.rounds (map (claim_put a b) u.claims)) puts (fresh_anew (renamed u.meaning a b) u.number u.rounds (map (claim_put a b) u.claims));
    }),
  )

pub hidden_rules : (u : UnitModel) (n : ℕ) (w : UnitModel) → Hidden u n w ↔ (w ≡ hide_unit u n)
hidden_rules u n w = (
  λ r. anew_fresh (hidden u.meaning n) u.number u.rounds u.claims w r.drawing r.anew,
  λ e. subst (Hidden u n) (sym e) (record { drawing = refl; published = hides_are u.meaning n; anew = fresh_anew (hidden u.meaning n) u.number u.rounds u.claims }),
)

-- joins

mark_same : (mark : Mark) → mark_in_whole mark ≡ mark_joined mark
mark_same open_mark = refl
mark_same held = refl
mark_same broken = refl

parts_same : (cs : List Claim) → map claim_in_whole cs ≡ map claim_joined cs
parts_same [] = refl
parts_same (c ∷ cs) = ap₂ (λ mark rest. record { says = c.says; mark = mark } ∷ rest) (mark_same c.mark) (parts_same cs)

module _ (l r : UnitModel) where
  abbrev brought : List Claim
  brought = map claim_in_whole l.claims ++ map claim_in_whole r.claims

  abbrev fresh_join : UnitModel
  fresh_join = fresh_unit (joined l.meaning r.meaning) l.number (max l.rounds r.rounds) brought

  joins : fresh_join ≡ join_units l r
  joins = ap (fresh_unit (joined l.meaning r.meaning) l.number (max l.rounds r.rounds)) (ap₂ (λ x y. x ++ y) (parts_same l.claims) (parts_same r.claims))

  pub joined_rules : (w : UnitModel) → Joined l r w ↔ (w ≡ join_units l r)
  joined_rules w = (
    λ j. anew_fresh (joined l.meaning r.meaning) l.number (max l.rounds r.rounds) brought w j.drawing j.anew ∙ joins,
    λ e. subst (Joined l r) (sym e) (record {
      drawing = refl;
      published = joins_are l.meaning r.meaning;
      anew = subst (λ v. MadeAnew v l.number (max l.rounds r.rounds) brought) joins (fresh_anew (joined l.meaning r.meaning) l.number (max l.rounds r.rounds) brought);
    }),
  )
