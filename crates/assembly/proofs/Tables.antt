-- Tables, and forms that are kept in them.
use mathlib.Core.Path.{fun_ext}
use Rattle.std.proofs.Common.{◌≡◌, ℕ, ◌+◌, ◌-◌, ◌<◌, ◌≤◌, Bool, false, cond, List, length, get_or, is_some, Some, None, Option, eqb, ltb, sym, refl, ap, ap₂, ◌∙◌, ⊎_elim, arith}
use Rattle.std.proofs.lemmas.List.{get_or_past}
use Rattle.std.proofs.lemmas.Bool.{cases_lt, cond-true, cond-false, lt-ltb, le-ltb, both_ways, ne_eqb}
use Rattle.std.specs.Option.{option_map}
use Rattle.composition.specs.Outlines.{by_atom, joined_kind}
use Rattle.composition.specs.laws.Exchange.{exchange_other}
use Rattle.composition.specs.laws.Outlines.{by_atom_right}
use Rattle.model.specs.Exchange.{exchange}
use Rattle.model.specs.Meanings.{OutlineFacts, OutlineLaws, Meaning}
use Rattle.model.specs.declared.Fault.{Fault}
use Rattle.model.specs.declared.Kind.{Kind}
use Rattle.model.specs.declared.Kind.TheVariants.{Private, Interface}
use Rattle.assembly.specs.Facts.{AtomFacts, FormFacts}
use Rattle.assembly.specs.Atoms.{atom_facts}
use Rattle.assembly.specs.Forms.{own_atom, leaf_form, moved_atom}
use Rattle.assembly.specs.declared.atom.FormAtom.{FormAtom}

-- a table whose items are f of their numbers, as is what stands for those that are not there
pub table_is : {A : Type 0} (bound : ℕ) (xs : List A) (d f : ℕ → A) → length xs ≡ bound → ((n : ℕ) → n < bound → get_or xs n (d n) ≡ f n) → ((n : ℕ) → bound ≤ n → d n ≡ f n) → (λ n. get_or xs n (d n)) ≡ f
table_is bound xs d f long within past =
    fun_ext (λ n. ⊎_elim (within n) (λ h. get_or_past xs n (d n) (omega (arith, long, h)) ∙ past n h) (cases_lt n bound))

-- atoms that are v of their numbers, as is what stands for those that are not there
pub atoms_are : (count : ℕ) (u v : ℕ → Option AtomFacts) → ((a : ℕ) → a < count → u a ≡ v a) → ((a : ℕ) → count ≤ a → None ≡ v a) → (λ a. cond (ltb a count) (u a) None) ≡ v
atoms_are count u v within past =
    fun_ext (λ a. ⊎_elim (λ h. cond-true (ltb a count) (u a) None (lt-ltb a count h) ∙ within a h) (λ h. cond-false (ltb a count) (u a) None (le-ltb a count h) ∙ past a h) (cases_lt a count))

pub form_equal : (fault : Option Fault) (layers count : ℕ) {k k' : ℕ → Option Kind} {t t' : ℕ → ℕ} {a a' : ℕ → Option AtomFacts} → k ≡ k' → t ≡ t' → a ≡ a' →
    ◌≡◌ {A = FormFacts} (record { fault = fault; layers = layers; kind = k; top = t; atoms = count; atom = a }) (record { fault = fault; layers = layers; kind = k'; top = t'; atoms = count; atom = a' })
form_equal fault layers count p q r = λ i. record { fault = fault; layers = layers; kind = p i; top = q i; atoms = count; atom = r i }

pub atom_equal : (leaf number : ℕ) {c c' r r' w w' : ℕ → Bool} {i i' l l' : ℕ → ℕ} → c ≡ c' → r ≡ r' → w ≡ w' → i ≡ i' → l ≡ l' →
    ◌≡◌ {A = AtomFacts} (record { controls = c; reads = r; awaits = w; leaf = leaf; number = number; in_whole = i; in_leaf = l }) (record { controls = c'; reads = r'; awaits = w'; leaf = leaf; number = number; in_whole = i'; in_leaf = l' })
atom_equal leaf number p q s t u = λ j. record { controls = p j; reads = q j; awaits = s j; leaf = leaf; number = number; in_whole = t j; in_leaf = u j }

-- past the names, an exchange of two names changes nothing
pub exchange_past : (a b n : ℕ) → a < 32 → b < 32 → 32 ≤ n → exchange a b n ≡ n
exchange_past a b n h k l = exchange_other a b n (λ e. omega arith) (λ e. omega arith)

pub exchanged_past : {A : Type 0} (xs : List A) (d : A) (a b n : ℕ) → length xs ≡ 32 → a < 32 → b < 32 → 32 ≤ n → d ≡ get_or xs (exchange a b n) d
exchanged_past xs d a b n long h k l = sym (ap (λ m. get_or xs m d) (exchange_past a b n h k l) ∙ get_or_past xs n d (omega (arith, long)))

pub named_past : (xs : List ℕ) (n : ℕ) → length xs ≡ 32 → 32 ≤ n → get_or xs n n ≡ n
named_past xs n long l = get_or_past xs n n (omega (arith, long))

-- a table of names is asked at the exchanged name, or answers by it
pub named_exchange : (xs : List ℕ) (a b n : ℕ) → length xs ≡ 32 → a < 32 → b < 32 → 32 ≤ n → n ≡ exchange a b (get_or xs n n)
named_exchange xs a b n long h k l = sym (ap (exchange a b) (named_past xs n long l) ∙ exchange_past a b n h k l)

pub named_exchanged : (xs : List ℕ) (a b n : ℕ) → length xs ≡ 32 → a < 32 → b < 32 → 32 ≤ n → n ≡ get_or xs (exchange a b n) (exchange a b n)
named_exchanged xs a b n long h k l = sym (ap (λ m. get_or xs m m) (exchange_past a b n h k l) ∙ named_past xs n long l)

-- past the count there is no atom
pub absent_past : (count : ℕ) (u : ℕ → Option AtomFacts) (a : ℕ) → count ≤ a → ◌≡◌ {A = Option AtomFacts} (cond (ltb a count) (u a) None) None
absent_past count u a h = cond-false (ltb a count) (u a) None (le-ltb a count h)

-- past both parts' atoms a join has none
pub joined_past : (l r leaves : ℕ) (u v : ℕ → Option AtomFacts) (a : ℕ) → l + r ≤ a → None ≡ by_atom l u (λ x. option_map (moved_atom leaves) (cond (ltb x r) (v x) None)) a
joined_past l r leaves u v a h =
    sym (by_atom_right l u (λ x. option_map (moved_atom leaves) (cond (ltb x r) (v x) None)) a (omega arith) ∙ ap (option_map (moved_atom leaves)) (absent_past r v (a - l) (omega arith)))

-- what a drawing tells past its names
pub no_kind : (o : OutlineFacts) → OutlineLaws o → (n : ℕ) → 32 ≤ n → None ≡ o.kind n
no_kind o laws n h = go (o.kind n) refl
  where
    go : (k : Option Kind) → o.kind n ≡ k → None ≡ k
    go None e = refl
    go (Some k) e = absurd (omega (arith, laws.names n (ap is_some e)))

pub no_top : (o : OutlineFacts) → OutlineLaws o → (n : ℕ) → 32 ≤ n → 0 ≡ o.top n
no_top o laws n h = sym (laws.no_top n (sym (no_kind o laws n h)))

-- tables filled by what a drawing answers are its form
pub leaf_of : (m : Meaning) (o : OutlineFacts) → m.outline ≡ o → (fault : Option Fault) (layers count : ℕ) (kinds : List (Option Kind)) (tops : List ℕ) (atoms : List (Option FormAtom))
    → length kinds ≡ 32 → length tops ≡ 32 → fault ≡ o.fault → layers ≡ o.layers → count ≡ o.atoms
    → ((n : ℕ) → n < 32 → get_or kinds n None ≡ o.kind n) → ((n : ℕ) → n < 32 → get_or tops n 0 ≡ o.top n)
    → ((a : ℕ) → a < 16 → option_map atom_facts (get_or atoms a None) ≡ Some (own_atom a (m.outline.controls a) (m.outline.reads a) (m.outline.awaits a)))
    → ◌≡◌ {A = FormFacts} (record { fault = fault; layers = layers; kind = λ n. get_or kinds n None; top = λ n. get_or tops n 0; atoms = count; atom = λ a. cond (ltb a count) (option_map atom_facts (get_or atoms a None)) None }) (leaf_form m.outline)
leaf_of m o agree fault layers count kinds tops atoms long_kinds long_tops faults layered counted kinds_are tops_are atoms_made =
    λ i. record { fault = fault_path i; layers = layer_path i; kind = kind_path i; top = top_path i; atoms = count_path i; atom = atom_path i }
  where
    fault_path : fault ≡ m.outline.fault
    fault_path = faults ∙ sym (ap (λ (q : OutlineFacts). q.fault) agree)

    layer_path : layers ≡ m.outline.layers
    layer_path = layered ∙ sym (ap (λ (q : OutlineFacts). q.layers) agree)

    count_path : count ≡ m.outline.atoms
    count_path = counted ∙ sym (ap (λ (q : OutlineFacts). q.atoms) agree)

    kind_path : (λ n. get_or kinds n None) ≡ m.outline.kind
    kind_path = table_is 32 kinds (λ n. None) m.outline.kind long_kinds (λ n l. kinds_are n l ∙ sym (ap (λ (q : OutlineFacts). q.kind n) agree)) (no_kind m.outline m.outline_laws)

    top_path : (λ n. get_or tops n 0) ≡ m.outline.top
    top_path = table_is 32 tops (λ n. 0) m.outline.top long_tops (λ n l. tops_are n l ∙ sym (ap (λ (q : OutlineFacts). q.top n) agree)) (no_top m.outline m.outline_laws)

    atom_path : (λ a. cond (ltb a count) (option_map atom_facts (get_or atoms a None)) None) ≡ (leaf_form m.outline).atom
    atom_path =
        atoms_are count (λ a. option_map atom_facts (get_or atoms a None)) (leaf_form m.outline).atom
        (λ a l. atoms_made a (omega (arith, l, count_path, m.outline_laws.few_atoms)) ∙ sym (cond-true (ltb a m.outline.atoms) (Some (own_atom a (m.outline.controls a) (m.outline.reads a) (m.outline.awaits a))) None (lt-ltb a m.outline.atoms (omega (arith, l, count_path)))))
        (λ a l. sym (cond-false (ltb a m.outline.atoms) (Some (own_atom a (m.outline.controls a) (m.outline.reads a) (m.outline.awaits a))) None (le-ltb a m.outline.atoms (omega (arith, l, count_path)))))

-- past both parts' names a join has none
pub joined_kind_past : (xs ys : List (Option Kind)) (n : ℕ) → length xs ≡ 32 → length ys ≡ 32 → 32 ≤ n → None ≡ joined_kind (get_or xs n None) (get_or ys n None)
joined_kind_past xs ys n p q h = sym (ap₂ joined_kind (get_or_past xs n None (omega (arith, p))) (get_or_past ys n None (omega (arith, q))))

pub joined_top_past : (ks : List (Option Kind)) (xs ys : List ℕ) (n : ℕ) → length ks ≡ 32 → length ys ≡ 32 → 32 ≤ n → 0 ≡ cond (is_some (get_or ks n None)) (get_or xs n 0) (get_or ys n 0)
joined_top_past ks xs ys n p q h = sym (ap (λ k. cond (is_some k) (get_or xs n 0) (get_or ys n 0)) (get_or_past ks n None (omega (arith, p))) ∙ get_or_past ys n 0 (omega (arith, q)))

-- past the names nothing is concealed, as a name that is interface is no higher
pub concealed_past : (xs : List (Option Kind)) (name : ℕ) → length xs ≡ 32 → get_or xs name None ≡ Some Interface → (n : ℕ) → 32 ≤ n → None ≡ cond (eqb n name) (Some Private) (get_or xs n None)
concealed_past xs name long there n h =
    sym (cond-false (eqb n name) (Some Private) (get_or xs n None) (ne_eqb n name other) ∙ get_or_past xs n None (omega (arith, long)))
  where
    other : n ≡ name → ⊥
    other e = let z : ◌≡◌ {A = Option Kind} None (Some Interface) = sym (get_or_past xs name None (omega (arith, long, h, e))) ∙ there in absurd (both_ways false refl (ap is_some z))
