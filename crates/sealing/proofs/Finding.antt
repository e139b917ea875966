-- What the first values tell.
use Rattle.std.proofs.Common.{◌≡◌, ℕ, ◌<◌, Bool, true, false, cond, not, ◌&&◌, ◌||◌, ◌⊎◌, List, [], ◌∷◌, is_some, Some, None, Option, sym, refl, ap, ◌∙◌, subst, ap₂, inl, inr, ⊎_elim}
use Rattle.std.proofs.lemmas.Bool.{cases_Bool, cond-true, cond-false}
use Rattle.std.specs.Option.{option_or}
use Rattle.model.specs.Meanings.{Meaning}
use Rattle.model.specs.Sets.{has}
use Rattle.model.specs.States.{value}
use Rattle.model.specs.Tests.{some}
use Rattle.model.specs.declared.Round.{Round}
use Rattle.model.specs.declared.Round.TheVariants.{Initial, Update}
use Rattle.theory.specs.Members.{Member}
use Rattle.units.specs.Counting.{any}
use Rattle.units.specs.Sealing.{sights, in_some_round, within, nothing_open, gives_outside}
use Rattle.sealing.specs.Search.{open_at, wrong_name, wrong_choice, failure_at}
use Rattle.sealing.specs.Witnesses.{test_of, witness_at, first_in_list, witness_if_at, first_in_round, first_witness, WitnessOrNone}
use Rattle.sealing.specs.declared.query.Query.{Query}
use Rattle.sealing.specs.declared.query.Failure.{Failure}
use Rattle.sealing.specs.declared.query.Failure.TheVariants.{NothingOpen, GivesOutside, Either}
use Rattle.sealing.specs.declared.witness.Witness.{Witness}
use Rattle.composition.proofs.Tests.{some_same}

-- what has to be known of an atom is known
pub record Known (m : Meaning) (r : Round) (a : ℕ) (l : Query) : Type 0 where
  pub atom_is : l.atom ≡ a
  pub choices_are : l.choices ≡ m.acts.choices r a
  pub controls_are : (n : ℕ) → has l.controlled n ≡ m.outline.controls a n
  pub tops_are : (n : ℕ) → n < 32 → value l.tops n ≡ m.outline.top n

module _ (m : Meaning) (r : Round) (a : ℕ) (l : Query) (known : Known m r a l) where
  same_open : (p : List ℕ × List ℕ) (k : ℕ) → open_at m.acts l (witness_at r p) k ≡ m.acts.opens r a k (value p.0) (value p.1)
  same_open p k = ap (λ x. m.acts.opens r x k (value p.0) (value p.1)) known.atom_is

  same_name : (p : List ℕ × List ℕ) (k n : ℕ) → n < 32 →
      wrong_name m.acts l (witness_at r p) k n ≡ (m.outline.controls a n && not (within (m.outline.top n) (m.acts.gives r a k n (value p.0) (value p.1))))
  same_name p k n h =
      ap₂ (λ x y. x && not (within y (m.acts.gives r l.atom k n (value p.0) (value p.1)))) (known.controls_are n) (known.tops_are n h)
      ∙ ap (λ x. m.outline.controls a n && not (within (m.outline.top n) (m.acts.gives r x k n (value p.0) (value p.1)))) known.atom_is

  same_nothing : (p : List ℕ × List ℕ) → failure_at NothingOpen m.acts l (witness_at r p) ≡ nothing_open m r a p
  same_nothing p =
      ap not (ap (some (open_at m.acts l (witness_at r p))) known.choices_are ∙ some_same (open_at m.acts l (witness_at r p)) (λ k. m.acts.opens r a k (value p.0) (value p.1)) (m.acts.choices r a) (λ k _. same_open p k))

  same_outside : (p : List ℕ × List ℕ) → failure_at GivesOutside m.acts l (witness_at r p) ≡ gives_outside m r a p
  same_outside p =
      ap (some (wrong_choice m.acts l (witness_at r p))) known.choices_are
      ∙ some_same (wrong_choice m.acts l (witness_at r p)) (λ k. m.acts.opens r a k (value p.0) (value p.1) && some (λ n. m.outline.controls a n && not (within (m.outline.top n) (m.acts.gives r a k n (value p.0) (value p.1)))) 32) (m.acts.choices r a)
      (λ k _. ap₂ ◌&&◌ (same_open p k) (some_same (wrong_name m.acts l (witness_at r p) k) (λ n. m.outline.controls a n && not (within (m.outline.top n) (m.acts.gives r a k n (value p.0) (value p.1)))) 32 (λ n h. same_name p k n h)))

  -- so what is looked for is what sealing judges
  pub failure_at_same : (t : Failure) (p : List ℕ × List ℕ) → failure_at t m.acts l (witness_at r p) ≡ test_of t m r a p
  failure_at_same NothingOpen p = same_nothing p
  failure_at_same GivesOutside p = same_outside p
  failure_at_same Either p = ap₂ ◌||◌ (same_nothing p) (same_outside p)

some_or : {X : Type 0} (a b : Option X) → is_some (option_or a b) ≡ (is_some a || is_some b)
some_or None b = refl
some_or (Some x) b = refl

some_cond : {X : Type 0} (b : Bool) (x : X) → is_some (cond b (Some x) None) ≡ b
some_cond true x = refl
some_cond false x = refl

module _ (m : Meaning) (t : Failure) (a : ℕ) where
  found_any : (r : Round) (xs : List (List ℕ × List ℕ)) → is_some (first_in_list (witness_if_at m t r a) xs) ≡ any (test_of t m r a) xs
  found_any r [] = refl
  found_any r (x ∷ xs) = some_or (witness_if_at m t r a x) (first_in_list (witness_if_at m t r a) xs) ∙ ap₂ ◌||◌ (some_cond (test_of t m r a x) (witness_at r x)) (found_any r xs)

  pub witness_found : is_some (first_witness m t a) ≡ in_some_round m (test_of t) a
  witness_found =
      some_or (first_in_round m t Initial a) (first_in_round m t Update a) ∙ ap₂ ◌||◌ (found_any Initial (sights m.outline Initial a)) (found_any Update (sights m.outline Update a))

  -- what an answer tells of a list of values
  abbrev ToldIn : Round → List (List ℕ × List ℕ) → Option Witness → Type 0
  ToldIn r xs None = (p : List ℕ × List ℕ) → Member p xs → test_of t m r a p ≡ false
  ToldIn r xs (Some s) = (s.round ≡ r) × Member (s.old, s.new) xs × (test_of t m r a (s.old, s.new) ≡ true)

  told_more : (r : Round) (x : List ℕ × List ℕ) (xs : List (List ℕ × List ℕ)) (o : Option Witness) → test_of t m r a x ≡ false → ToldIn r xs o → ToldIn r (x ∷ xs) o
  told_more r x xs None f h = λ p k. ⊎_elim (λ e. subst (λ q. test_of t m r a q ≡ false) e f) (h p) k
  told_more r x xs (Some s) f h = (h.0, inr h.1, h.2)

  told_in : (r : Round) (xs : List (List ℕ × List ℕ)) → ToldIn r xs (first_in_list (witness_if_at m t r a) xs)
  told_in r [] = λ p k. absurd k
  told_in r (x ∷ xs) = go (first_in_list (witness_if_at m t r a) xs) (told_in r xs) (cases_Bool (test_of t m r a x))
    where
      go : (o : Option Witness) → ToldIn r xs o → (test_of t m r a x ≡ true) ⊎ (test_of t m r a x ≡ false) → ToldIn r (x ∷ xs) (option_or (witness_if_at m t r a x) o)
      go o h (inl e) = subst (λ v. ToldIn r (x ∷ xs) (option_or v o)) (sym (cond-true (test_of t m r a x) (Some (witness_at r x)) None e)) (refl, inl refl, e)
      go o h (inr e) = subst (λ v. ToldIn r (x ∷ xs) (option_or v o)) (sym (cond-false (test_of t m r a x) (Some (witness_at r x)) None e)) (told_more r x xs o e h)

  told_some : (r : Round) (s : Witness) → ToldIn r (sights m.outline r a) (Some s) → WitnessOrNone m t a (Some s)
  told_some r s h = subst (λ q. Member (s.old, s.new) (sights m.outline q a) × (test_of t m q a (s.old, s.new) ≡ true)) (sym h.0) (h.1, h.2)

  told_both : (i u : Option Witness) → ToldIn Initial (sights m.outline Initial a) i → ToldIn Update (sights m.outline Update a) u → WitnessOrNone m t a (option_or i u)
  told_both (Some s) u h k = told_some Initial s h
  told_both None (Some s) h k = told_some Update s k
  told_both None None h k = both h k
    where
      both : ToldIn Initial (sights m.outline Initial a) None → ToldIn Update (sights m.outline Update a) None → (r : Round) (p : List ℕ × List ℕ) → Member p (sights m.outline r a) → test_of t m r a p ≡ false
      both h k Initial p e = h p e
      both h k Update p e = k p e

  pub witness_or_none : WitnessOrNone m t a (first_witness m t a)
  witness_or_none = told_both (first_in_round m t Initial a) (first_in_round m t Update a) (told_in Initial (sights m.outline Initial a)) (told_in Update (sights m.outline Update a))
