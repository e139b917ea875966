-- A renamed module does what the module does, under the exchanged names.
use Rattle.std.proofs.Common.{◌≡◌, ℕ, ◌<◌, ◌≤◌, Bool, true, false, ◌&&◌, List, length, pos, is_some, None, Option, sym, refl, ap, ◌∙◌, subst}
use mathlib.Core.Path.{fun_ext}
use Rattle.std.proofs.lemmas.Bool.Decides.{same_from_decides, Decides-like}
use Rattle.model.specs.Meanings.{Valuation, Meaning}
use Rattle.model.specs.States.{value, is_state, is_value, takes, yields, nothing, Reachable}
use Rattle.model.specs.Tests.{every, some, implies}
use Rattle.model.specs.declared.Fault.{Fault}
use Rattle.model.specs.declared.Round.{Round}
use Rattle.model.specs.declared.Round.TheVariants.{Initial, Update}
use Rattle.model.proofs.Bounded.{every_decides}
use Rattle.composition.proofs.Faults.{sound_is, rename_sound}
use Rattle.composition.proofs.Seen.{leads, leads_seen}
use Rattle.composition.proofs.States.{is_state_from, state_value, state_length, yields_state, reachable_state}
use Rattle.composition.proofs.Tests.{every_same, some_same}
use Rattle.composition.proofs.Trajectories.{Simulates, reachable_along}
use Rattle.composition.proofs.Views.{length_as_state, exchanged_at, exchanged_twice, exchanged_nothing}
use Rattle.composition.specs.Acts.{seen_below}
use Rattle.composition.specs.Same.{SameAnswers}
use Rattle.model.specs.Exchange.{exchange}
use Rattle.composition.specs.laws.Exchange.{exchange_old, exchange_new, exchange_twice, exchange_flip, exchange_within}
use Rattle.composition.specs.Allowed.{MayRename}
use Rattle.composition.specs.laws.Faults.{renames}
use Rattle.composition.specs.Faults.{fault_of_renamed}
use Rattle.composition.specs.Meanings.{renamed}
use Rattle.composition.specs.Outlines.{sound_or}
use Rattle.composition.specs.Statements.{Corresponds}
use Rattle.composition.specs.Views.{exchanged}

-- a test holds of each name exchanged where it holds of each name
every_exchanged : (a b : ℕ) → a < 32 → b < 32 → (p : ℕ → Bool) → every (λ n. p (exchange a b n)) 32 ≡ every p 32
every_exchanged a b low high p =
    same_from_decides (every (λ n. p (exchange a b n)) 32) (every p 32)
    (Decides-like (every (λ n. p (exchange a b n)) 32)
    (λ h n l. sym (ap p (exchange_twice a b n)) ∙ h (exchange a b n) (exchange_within 32 a b n low high l))
    (λ h n l. h (exchange a b n) (exchange_within 32 a b n low high l)) (every_decides (λ n. p (exchange a b n)) 32)) (every_decides p 32)

module _ (m : Meaning) (a b : ℕ) (sound : fault_of_renamed m.outline a b ≡ None) where
  abbrev whole : Meaning
  whole = renamed m a b

  abbrev found : Option Fault
  found = fault_of_renamed m.outline a b

  fine : MayRename m.outline a b
  fine = renames m.outline a b sound

  pub old_name : a < 32
  old_name = m.outline_laws.names a fine.old_there

  pub new_name : b < 32
  new_name = fine.new_name

  module _ (r : Round) (old new : Valuation) where
    abbrev old' : Valuation
    old' = seen_below a b old

    abbrev new' : Valuation
    new' = seen_below a b new

    given : (x k n : ℕ) →
        implies (whole.outline.controls x n) (is_value (whole.acts.gives r x k n old new) (new n)) ≡
        implies (m.outline.controls x (exchange a b n)) (is_value (m.acts.gives r x k (exchange a b n) old' new') (new' (exchange a b n)))
    given x k n =
        ap (λ t. implies t (is_value (whole.acts.gives r x k n old new) (new n))) (sound_is found false (m.outline.controls x (exchange a b n)) sound) ∙
        ap (λ z. implies (m.outline.controls x (exchange a b n)) (is_value z (new n))) (sound_is found (pos 0) (m.acts.gives r x k (exchange a b n) old' new') sound) ∙
        ap (λ i. implies (m.outline.controls x (exchange a b n)) (is_value (m.acts.gives r x k (exchange a b n) old' new') (new i))) (sym (exchange_twice a b n))

    takes_renamed : (x k : ℕ) → takes whole r x k old new ≡ takes m r x k old' new'
    takes_renamed x k =
        let test : ℕ → Bool = λ n. implies (m.outline.controls x n) (is_value (m.acts.gives r x k n old' new') (new' n)) in
        let above : ℕ → Bool = λ n. implies (whole.outline.controls x n) (is_value (whole.acts.gives r x k n old new) (new n)) in
        ap (λ t. t && every above 32) (sound_is found false (m.acts.opens r x k old' new') sound) ∙
        ap (λ t. m.acts.opens r x k old' new' && t) (every_same above (λ n. test (exchange a b n)) 32 (λ n h. given x k n) ∙ every_exchanged a b old_name new_name test)

    leads_renamed : leads whole r old new ≡ leads m r old' new'
    leads_renamed =
        every_same (λ x. some (λ k. takes whole r x k old new) (whole.acts.choices r x)) (λ x. some (λ k. takes m r x k old' new') (m.acts.choices r x)) whole.outline.atoms
        (λ x h. some_same (λ k. takes whole r x k old new) (λ k. takes m r x k old' new') (whole.acts.choices r x) (λ k l. takes_renamed x k) ∙
        ap (some (λ k. takes m r x k old' new')) (sound_is found 0 (m.acts.choices r x) sound)) ∙
        ap (every (λ x. some (λ k. takes m r x k old' new') (m.acts.choices r x))) (sound_is found 0 m.outline.atoms sound)

  top_renamed : (n : ℕ) → whole.outline.top n ≡ m.outline.top (exchange a b n)
  top_renamed n = sound_is found 0 (m.outline.top (exchange a b n)) sound

  -- a state of the renamed module is one of the module with the two values exchanged
  pub state_renamed : (t : List ℕ) → length t ≡ 32 → is_state whole.outline t ≡ is_state m.outline (exchanged a b t)
  state_renamed t long =
      same_from_decides (is_state whole.outline t) (is_state m.outline (exchanged a b t)) (forth, back) (λ e. e, λ e. e)
    where
      forth : is_state whole.outline t ≡ true → is_state m.outline (exchanged a b t) ≡ true
      forth h =
          is_state_from m.outline (exchanged a b t) (length_as_state (λ n. value t (exchange a b n)))
          (λ n l. subst (λ v. v ≤ m.outline.top n) (sym (exchanged_at a b t n l))
          (subst (λ v. value t (exchange a b n) ≤ v) (top_renamed (exchange a b n) ∙ ap m.outline.top (exchange_twice a b n)) (state_value whole.outline t h (exchange a b n) (exchange_within 32 a b n old_name new_name l))))

      back : is_state m.outline (exchanged a b t) ≡ true → is_state whole.outline t ≡ true
      back h =
          is_state_from whole.outline t long
          (λ n l. subst (λ v. value t n ≤ v) (sym (top_renamed n))
          (subst (λ v. v ≤ m.outline.top (exchange a b n)) (exchanged_at a b t (exchange a b n) (exchange_within 32 a b n old_name new_name l) ∙ ap (value t) (exchange_twice a b n))
          (state_value m.outline (exchanged a b t) h (exchange a b n) (exchange_within 32 a b n old_name new_name l))))

  -- a round of the renamed module is one of the module with the two values exchanged before and after
  pub yields_renamed : (r : Round) (s t : List ℕ) → length t ≡ 32 → yields whole r s t ≡ yields m r (exchanged a b s) (exchanged a b t)
  yields_renamed r s t long =
      ap (λ x. x && leads whole r (value s) (value t)) (state_renamed t long) ∙
      ap (λ x. is_state m.outline (exchanged a b t) && x) (leads_renamed r (value s) (value t) ∙
      leads_seen m r (seen_below a b (value s)) (seen_below a b (value t)) (value (exchanged a b s)) (value (exchanged a b t))
      (λ n e. sym (exchanged_at a b s n (m.outline_laws.names n e))) (λ n e. sym (exchanged_at a b t n (m.outline_laws.names n e))))

  long_after : (n : Meaning) (r : Round) (s t : List ℕ) → yields n r s t ≡ true → length t ≡ 32
  long_after n r s t h = state_length n.outline t (yields_state n r s t h)

  pub yields_forth : (r : Round) (s t : List ℕ) → yields whole r s t ≡ true → yields m r (exchanged a b s) (exchanged a b t) ≡ true
  yields_forth r s t h = sym (yields_renamed r s t (long_after whole r s t h)) ∙ h

  pub yields_back : (r : Round) (s t : List ℕ) → yields m r s t ≡ true → yields whole r (exchanged a b s) (exchanged a b t) ≡ true
  yields_back r s t h =
      let s'' : List ℕ = exchanged a b (exchanged a b s) in
      yields_renamed r (exchanged a b s) (exchanged a b t) (length_as_state (λ n. value t (exchange a b n))) ∙
      ap (λ u. yields m r s'' u) (exchanged_twice a b old_name new_name t (long_after m r s t h)) ∙
      ap (λ x. is_state m.outline t && x) (leads_seen m r (value s'') (value t) (value s) (value t) agree (λ n e. refl)) ∙ h
    where
      agree : (n : ℕ) → is_some (m.outline.kind n) ≡ true → value (exchanged a b (exchanged a b s)) n ≡ value s n
      agree n e =
          let l = m.outline_laws.names n e in
          exchanged_at a b (exchanged a b s) n l ∙ exchanged_at a b s (exchange a b n) (exchange_within 32 a b n old_name new_name l) ∙ ap (value s) (exchange_twice a b n)

  renamed_simulates : Simulates whole m (exchanged a b)
  renamed_simulates =
      record {
        starts = λ t h. record { yielded = subst (λ s. yields m Initial s (exchanged a b t) ≡ true) (exchanged_nothing a b old_name new_name) (yields_forth Initial nothing t h.yielded) };
        steps = λ s t h. record { yielded = yields_forth Update s t h.yielded };
      }

  simulates_renamed : Simulates m whole (exchanged a b)
  simulates_renamed =
      record {
        starts = λ t h. record { yielded = subst (λ s. yields whole Initial s (exchanged a b t) ≡ true) (exchanged_nothing a b old_name new_name) (yields_back Initial nothing t h.yielded) };
        steps = λ s t h. record { yielded = yields_back Update s t h.yielded };
      }

  twice : (n : Meaning) (t : List ℕ) → Reachable n t → exchanged a b (exchanged a b t) ≡ t
  twice n t h = exchanged_twice a b old_name new_name t (state_length n.outline t (reachable_state n t h))

  pub renamed_corresponds : Corresponds whole m (exchanged a b)
  renamed_corresponds =
      record {
        there = reachable_along renamed_simulates;
        back = reachable_along simulates_renamed;
        undone = twice whole;
        redone = twice m;
      }

  -- the new name can be renamed back to the old one
  pub renames_back : fault_of_renamed whole.outline b a ≡ None
  renames_back =
      rename_sound whole.outline b a
      record {
        sound = sound;
        old_there = ap is_some (sound_is found None (m.outline.kind (exchange a b b)) sound ∙ ap m.outline.kind (exchange_new a b)) ∙ fine.old_there;
        new_free = sound_is found None (m.outline.kind (exchange a b a)) sound ∙ ap m.outline.kind (exchange_old a b) ∙ fine.new_free;
        new_name = old_name;
      }

  there_and_back : (n : ℕ) → exchange a b (exchange b a n) ≡ n
  there_and_back n = ap (exchange a b) (exchange_flip a b n) ∙ exchange_twice a b n

  values_back : (v : Valuation) → seen_below a b (seen_below b a v) ≡ v
  values_back v = fun_ext (λ n. ap v (ap (exchange b a) (sym (exchange_flip a b n)) ∙ exchange_twice b a n))

  abbrev again : Option Fault
  again = fault_of_renamed whole.outline b a

  told_twice : {A : Type 0} (empty x y : A) → x ≡ y → sound_or again empty (sound_or found empty x) ≡ y
  told_twice empty x y e = sound_is again empty (sound_or found empty x) renames_back ∙ sound_is found empty x sound ∙ e

  -- a module renamed there and back answers as before
  pub renamed_back : SameAnswers (renamed whole b a) m
  renamed_back =
      record {
        fault = renames_back ∙ sym fine.sound;
        kind = λ n. told_twice None _ _ (ap m.outline.kind (there_and_back n));
        top = λ n. told_twice 0 _ _ (ap m.outline.top (there_and_back n));
        atoms = told_twice 0 _ _ refl;
        atom = λ x.
            record {
              controls = λ n. told_twice false _ _ (ap (m.outline.controls x) (there_and_back n));
              reads = λ n. told_twice false _ _ (ap (m.outline.reads x) (there_and_back n));
              awaits = λ n. told_twice false _ _ (ap (m.outline.awaits x) (there_and_back n));
              choices = λ r. told_twice 0 _ _ refl;
              opens = λ r k old new. told_twice false _ _ (ap (λ v. m.acts.opens r x k v (seen_below a b (seen_below b a new))) (values_back old) ∙ ap (λ v. m.acts.opens r x k old v) (values_back new));
              gives = λ r k n old new.
                  told_twice (pos 0) _ _
                  (ap (λ i. m.acts.gives r x k i (seen_below a b (seen_below b a old)) (seen_below a b (seen_below b a new))) (there_and_back n) ∙
                  ap (λ v. m.acts.gives r x k n v (seen_below a b (seen_below b a new))) (values_back old) ∙ ap (λ v. m.acts.gives r x k n old v) (values_back new));
            };
      }
