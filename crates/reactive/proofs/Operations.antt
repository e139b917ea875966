-- Joining and hiding of drawings are composition and hiding of their modules.
use mathlib.Core.HLevel.{is_prop→PathP}
use Rattle.std.proofs.Common.{◌≡◌, ℕ, ◌+◌, ◌-◌, ◌<◌, ◌≤◌, Bool, true, false, cond, not, ◌&&◌, ◌||◌, eqb, ltb, ◌⊎◌, ◌↔◌, is_some, Some, None, Option, sym, refl, ap, ◌∙◌, subst, inl, inr, ⊎_elim, arith}
use native.Mathlib.Bridge.{le_prop}
use Rattle.std.proofs.lemmas.Bool.{true≢false, false≢true, both_ways, cases_lt, cases_Bool, cond_both, cond-true, cond-false, eq-eqb, ne_eqb, eqb-true, eqb-false, lt-ltb, le-ltb, and_from, and_parts, or_left, or_right, or_cases, not-true, not_from_false}
use Rattle.composition.specs.Acts.{acts_with, joined_choices}
use Rattle.composition.specs.Allowed.{Fits}
use Rattle.composition.specs.laws.Faults.{hides, joins}
use Rattle.composition.specs.Faults.{is_private, is_interface, clash}
use Rattle.composition.specs.laws.Outlines.{joined_some_rest}
use Rattle.composition.specs.Outlines.{outline_with, hidden_tables, joined_kind, joined_tables}
use Rattle.composition.proofs.Fitting.{fits, top_left, top_right}
use Rattle.model.specs.Meanings.{Meaning}
use Rattle.model.specs.declared.Kind.{Kind}
use Rattle.model.specs.declared.Kind.TheVariants.{Private, Interface, External}
use Rattle.units.specs.Sealing.{is_external}
use Rattle.reactive.specs.Modules.{Below, atom_from, atom_of, module_from, module_of}
use Rattle.reactive.specs.Operations.{composed, hidden_module, SameAtom, SameModule}
use Rattle.reactive.specs.Reactive.{Atom, Module, Variable}
use Rattle.reactive.specs.Statements.{JoinsAreCompositions, HidesAreHidings}
use Rattle.reactive.proofs.States.{variable_from, variable_there}

same_type : {A : Type 0} → A ↔ A
same_type = (λ h. h, λ h. h)

same_atom : (A : Atom) → SameAtom A A
same_atom A = record { controls = λ x. same_type; reads = λ x. same_type; awaits = λ x. same_type; init = λ new t. same_type; update = λ old new t. same_type }

pub same_number : {n : ℕ} (i j : Below n) → i.number ≡ j.number → i ≡ j
same_number {n} i j e = λ t. record { number = e t; low = is_prop→PathP (λ u. e u < n) (λ u. le_prop) i.low j.low t }

-- kinds as tests
pub private_iff : (k : Option Kind) → (k ≡ Some Private) ↔ (is_private k ≡ true)
private_iff k = (ap is_private, back k)
  where
    back : (k : Option Kind) → is_private k ≡ true → k ≡ Some Private
    back None e = absurd (false≢true e)
    back (Some Private) e = refl
    back (Some Interface) e = absurd (false≢true e)
    back (Some External) e = absurd (false≢true e)

pub interface_iff : (k : Option Kind) → (k ≡ Some Interface) ↔ (is_interface k ≡ true)
interface_iff k = (ap is_interface, back k)
  where
    back : (k : Option Kind) → is_interface k ≡ true → k ≡ Some Interface
    back None e = absurd (false≢true e)
    back (Some Private) e = absurd (false≢true e)
    back (Some Interface) e = refl
    back (Some External) e = absurd (false≢true e)

pub external_iff : (k : Option Kind) → (k ≡ Some External) ↔ (is_external k ≡ true)
external_iff k = (ap is_external, back k)
  where
    back : (k : Option Kind) → is_external k ≡ true → k ≡ Some External
    back None e = absurd (false≢true e)
    back (Some Private) e = absurd (false≢true e)
    back (Some Interface) e = absurd (false≢true e)
    back (Some External) e = refl

-- Hiding

module _ (m : Meaning) (name : ℕ) (interface : m.outline.kind name ≡ Some Interface) where
  abbrev kind_there : ℕ → Option Kind
  kind_there n = cond (eqb n name) (Some Private) (m.outline.kind n)

  hidden_private : (n : ℕ) → (kind_there n ≡ Some Private) ↔ ((m.outline.kind n ≡ Some Private) ⊎ ((n ≡ name) × (m.outline.kind n ≡ Some Interface)))
  hidden_private n = (
    cond_both (eqb n name) (Some Private) (m.outline.kind n) (λ k. k ≡ Some Private → (m.outline.kind n ≡ Some Private) ⊎ ((n ≡ name) × (m.outline.kind n ≡ Some Interface)))
        (λ t _. inr (eqb-true n name t, ap m.outline.kind (eqb-true n name t) ∙ interface)) (λ _ e. inl e),
    ⊎_elim (λ e. cond_both (eqb n name) (Some Private) (m.outline.kind n) (λ k. k ≡ Some Private) (λ _. refl) (λ _. e)) (λ e. cond-true (eqb n name) (Some Private) (m.outline.kind n) (eq-eqb n name e.0)),
  )

  hidden_interface : (n : ℕ) → (kind_there n ≡ Some Interface) ↔ ((m.outline.kind n ≡ Some Interface) × (n ≡ name → ⊥))
  hidden_interface n = (
    cond_both (eqb n name) (Some Private) (m.outline.kind n) (λ k. k ≡ Some Interface → (m.outline.kind n ≡ Some Interface) × (n ≡ name → ⊥))
        (λ _ e. absurd (true≢false (ap is_private e))) (λ f e. (e, eqb-false n name f)),
    λ e. cond-false (eqb n name) (Some Private) (m.outline.kind n) (ne_eqb n name e.1) ∙ e.0,
  )

  hidden_external : (n : ℕ) → (kind_there n ≡ Some External) ↔ (m.outline.kind n ≡ Some External)
  hidden_external n = (
    cond_both (eqb n name) (Some Private) (m.outline.kind n) (λ k. k ≡ Some External → m.outline.kind n ≡ Some External) (λ _ e. absurd (true≢false (ap is_private e))) (λ _ e. e),
    λ e. cond_both (eqb n name) (Some Private) (m.outline.kind n) (λ k. k ≡ Some External)
        (λ t. absurd (true≢false (ap is_interface (sym interface ∙ ap m.outline.kind (sym (eqb-true n name t)) ∙ e)))) (λ _. e),
  )

  hidden_same : SameModule (module_from (outline_with None (hidden_tables m.outline name)) (acts_with None m.acts)) (hidden_module (module_of m) name)
  hidden_same =
      record {
        private = hidden_private;
        interface = hidden_interface;
        external = hidden_external;
        typed = λ x v _. same_type;
        there = λ i. i;
        back = λ i. i;
        there_and_back = λ i. refl;
        back_and_there = λ i. refl;
        atoms = λ i. same_atom (atom_of m.outline m.acts i.number);
      }

pub hides_are : HidesAreHidings
hides_are m n e =
    subst (λ f. SameModule (module_from (outline_with f (hidden_tables m.outline n)) (acts_with f m.acts)) (hidden_module (module_of m) n)) (sym e) (hidden_same m n (hides m.outline n e).interface)

-- Joining

-- where the two kinds do not clash
record KindsOfJoin (j k : Option Kind) : Type 0 where
  private : is_private (joined_kind j k) ≡ (is_private j || is_private k)
  interface : is_interface (joined_kind j k) ≡ (is_interface j || is_interface k)
  external : is_external (joined_kind j k) ≡ ((is_external j || is_external k) && not (is_interface j || is_interface k))

kinds_of_join : (j k : Option Kind) → clash j k ≡ false → KindsOfJoin j k
kinds_of_join None None h = record { private = refl; interface = refl; external = refl }
kinds_of_join None (Some Private) h = record { private = refl; interface = refl; external = refl }
kinds_of_join None (Some Interface) h = record { private = refl; interface = refl; external = refl }
kinds_of_join None (Some External) h = record { private = refl; interface = refl; external = refl }
kinds_of_join (Some Private) None h = record { private = refl; interface = refl; external = refl }
kinds_of_join (Some Private) (Some k) h = absurd (true≢false h)
kinds_of_join (Some Interface) None h = record { private = refl; interface = refl; external = refl }
kinds_of_join (Some Interface) (Some Private) h = absurd (true≢false h)
kinds_of_join (Some Interface) (Some Interface) h = absurd (true≢false h)
kinds_of_join (Some Interface) (Some External) h = record { private = refl; interface = refl; external = refl }
kinds_of_join (Some External) None h = record { private = refl; interface = refl; external = refl }
kinds_of_join (Some External) (Some Private) h = absurd (true≢false h)
kinds_of_join (Some External) (Some Interface) h = record { private = refl; interface = refl; external = refl }
kinds_of_join (Some External) (Some External) h = record { private = refl; interface = refl; external = refl }

either_iff : (b : Bool) {A B C : Type 0} (p q : Bool) → b ≡ (p || q) → C ↔ (b ≡ true) → A ↔ (p ≡ true) → B ↔ (q ≡ true) → C ↔ (A ⊎ B)
either_iff b p q e whole left right = (
  λ c. ⊎_elim (λ h. inl (left.1 h)) (λ h. inr (right.1 h)) (or_cases p q (sym e ∙ whole.0 c)),
  ⊎_elim (λ x. whole.1 (e ∙ or_left p q (left.0 x))) (λ x. whole.1 (e ∙ or_right p q (right.0 x))),
)

module _ (j k : Option Kind) (h : clash j k ≡ false) where
  joined_private : (joined_kind j k ≡ Some Private) ↔ ((j ≡ Some Private) ⊎ (k ≡ Some Private))
  joined_private = either_iff (is_private (joined_kind j k)) (is_private j) (is_private k) (kinds_of_join j k h).private (private_iff (joined_kind j k)) (private_iff j) (private_iff k)

  joined_interface : (joined_kind j k ≡ Some Interface) ↔ ((j ≡ Some Interface) ⊎ (k ≡ Some Interface))
  joined_interface = either_iff (is_interface (joined_kind j k)) (is_interface j) (is_interface k) (kinds_of_join j k h).interface (interface_iff (joined_kind j k)) (interface_iff j) (interface_iff k)

  joined_external : (joined_kind j k ≡ Some External) ↔ (((j ≡ Some External) ⊎ (k ≡ Some External)) × ((j ≡ Some Interface) ⊎ (k ≡ Some Interface) → ⊥))
  joined_external = (
    λ e.
        let both = and_parts (is_external j || is_external k) (not (is_interface j || is_interface k)) (sym (kinds_of_join j k h).external ∙ (external_iff (joined_kind j k)).0 e) in
        (some.1 both.0, λ i. both_ways (is_interface j || is_interface k) (not-true _ both.1) (interfaces.0 i)),
    λ p. (external_iff (joined_kind j k)).1 ((kinds_of_join j k h).external ∙ and_from (is_external j || is_external k) (not (is_interface j || is_interface k)) (some.0 p.0)
        (not_from_false _ (⊎_elim (λ t. absurd (p.1 (interfaces.1 t))) (λ f. f) (cases_Bool (is_interface j || is_interface k))))),
  )
    where
      some : ((j ≡ Some External) ⊎ (k ≡ Some External)) ↔ ((is_external j || is_external k) ≡ true)
      some = let e = either_iff (is_external j || is_external k) (is_external j) (is_external k) refl same_type (external_iff j) (external_iff k) in (e.1, e.0)

      interfaces : ((j ≡ Some Interface) ⊎ (k ≡ Some Interface)) ↔ ((is_interface j || is_interface k) ≡ true)
      interfaces = let e = either_iff (is_interface j || is_interface k) (is_interface j) (is_interface k) refl same_type (interface_iff j) (interface_iff k) in (e.1, e.0)

module _ (l r : Meaning) (h : Fits l.outline r.outline) where
  abbrev whole : Module
  whole = module_from (outline_with None (joined_tables l.outline r.outline)) (acts_with None (joined_choices l.outline.atoms l.acts r.acts))

  abbrev count : ℕ
  count = l.outline.atoms

  joined_typed : (x v : ℕ) → Variable whole x →
      (v ≤ (joined_tables l.outline r.outline).top x) ↔ ((Variable (module_of l) x → v ≤ l.outline.top x) × (Variable (module_of r) x → v ≤ r.outline.top x))
  joined_typed x v there = (
    λ e. (λ y. subst (λ t. v ≤ t) (top_left l.outline r.outline h x (variable_there l x y)) e, λ y. subst (λ t. v ≤ t) (top_right l.outline r.outline h x (variable_there r x y)) e),
    λ e. cond_both (is_some (l.outline.kind x)) (l.outline.top x) (r.outline.top x) (λ t. v ≤ t) (λ y. e.0 (variable_from l x y)) (λ n. e.1 (variable_from r x (joined_some_rest (l.outline.kind x) (r.outline.kind x) (present there) n))),
  )
    where
      present : Variable whole x → is_some (joined_kind (l.outline.kind x) (r.outline.kind x)) ≡ true
      present (inl (inl e)) = ap is_some e
      present (inl (inr e)) = ap is_some e
      present (inr e) = ap is_some e

  -- an atom of the whole, told by whether it is the left part's
  abbrev by_side : ℕ → Bool → Atom
  by_side a left =
      atom_from
      (λ n. cond left (l.outline.controls a n) (r.outline.controls (a - count) n))
      (λ n. cond left (l.outline.reads a n) (r.outline.reads (a - count) n))
      (λ n. cond left (l.outline.awaits a n) (r.outline.awaits (a - count) n))
      (λ k. record {
        many = cond left (l.acts.choices k a) (r.acts.choices k (a - count));
        opens = λ i old new. cond left (l.acts.opens k a i old new) (r.acts.opens k (a - count) i old new);
        gives = λ i n old new. cond left (l.acts.gives k a i n old new) (r.acts.gives k (a - count) i n old new);
      })

  left_atom : (a : ℕ) → a < count → SameAtom (by_side a (ltb a count)) (atom_of l.outline l.acts a)
  left_atom a lt = subst (λ b. SameAtom (by_side a b) (atom_of l.outline l.acts a)) (sym (lt-ltb a count lt)) (same_atom (atom_of l.outline l.acts a))

  right_atom : (a : ℕ) → count ≤ a → SameAtom (by_side a (ltb a count)) (atom_of r.outline r.acts (a - count))
  right_atom a le = subst (λ b. SameAtom (by_side a b) (atom_of r.outline r.acts (a - count))) (sym (le-ltb a count le)) (same_atom (atom_of r.outline r.acts (a - count)))

  parts : (a : ℕ) → a < count + r.outline.atoms → (a < count) ⊎ (count ≤ a) → Below count ⊎ Below r.outline.atoms
  parts a b (inl lt) = inl (record { number = a; low = lt })
  parts a b (inr le) = inr (record { number = a - count; low = omega arith })

  abbrev there : Below (count + r.outline.atoms) → Below count ⊎ Below r.outline.atoms
  there i = parts i.number i.low (cases_lt i.number count)

  abbrev back : Below count ⊎ Below r.outline.atoms → Below (count + r.outline.atoms)
  back (inl i) = record { number = i.number; low = omega (arith, i.low) }
  back (inr i) = record { number = count + i.number; low = omega (arith, i.low) }

  there_and_back : (i : Below (count + r.outline.atoms)) → back (there i) ≡ i
  unfolding parts
  there_and_back i = go (cases_lt i.number count)
    where
      go : (c : (i.number < count) ⊎ (count ≤ i.number)) → back (parts i.number i.low c) ≡ i
      go (inl lt) = same_number _ i refl
      go (inr le) = same_number _ i (omega arith)

  back_and_there : (j : Below count ⊎ Below r.outline.atoms) → there (back j) ≡ j
  unfolding parts
  back_and_there (inl i) = go (cases_lt i.number count)
    where
      go : (c : (i.number < count) ⊎ (count ≤ i.number)) → parts i.number (omega (arith, i.low)) c ≡ inl i
      go (inl lt) = ap inl (same_number _ i refl)
      go (inr le) = absurd (omega (arith, i.low))
  back_and_there (inr i) = go (cases_lt (count + i.number) count)
    where
      go : (c : (count + i.number < count) ⊎ (count ≤ count + i.number)) → parts (count + i.number) (omega (arith, i.low)) c ≡ inr i
      go (inl lt) = absurd (omega arith)
      go (inr le) = ap inr (same_number _ i (omega arith))

  joined_same : SameModule whole (composed (module_of l) (module_of r))
  unfolding parts
  joined_same =
      record {
        private = λ x. joined_private (l.outline.kind x) (r.outline.kind x) (h.apart x);
        interface = λ x. joined_interface (l.outline.kind x) (r.outline.kind x) (h.apart x);
        external = λ x. joined_external (l.outline.kind x) (r.outline.kind x) (h.apart x);
        typed = joined_typed;
        there = there;
        back = back;
        there_and_back = there_and_back;
        back_and_there = back_and_there;
        atoms = λ i. go i (cases_lt i.number count);
      }
    where
      go : (i : Below (count + r.outline.atoms)) (c : (i.number < count) ⊎ (count ≤ i.number)) → SameAtom (by_side i.number (ltb i.number count)) ((composed (module_of l) (module_of r)).atom (parts i.number i.low c))
      go i (inl lt) = left_atom i.number lt
      go i (inr le) = right_atom i.number le

pub joins_are : JoinsAreCompositions
joins_are l r e =
    subst (λ f. SameModule (module_from (outline_with f (joined_tables l.outline r.outline)) (acts_with f (joined_choices l.outline.atoms l.acts r.acts))) (composed (module_of l) (module_of r))) (sym e)
    (joined_same l r (fits l r (joins l.outline r.outline e)))
