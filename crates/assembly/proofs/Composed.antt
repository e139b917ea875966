-- Forms that are renamed, hidden and joined mean what the definitions of renaming, hiding and joining make of the parts.
use mathlib.Core.Path.{fun_ext}
use Rattle.std.proofs.Common.{◌≡◌, ℕ, zero, suc, ◌+◌, ◌-◌, ◌<◌, ◌≤◌, Bool, true, false, cond, List, [], ◌∷◌, length, ◌++◌, Some, None, Option, ltb, pos, sym, refl, ap, ◌∙◌, subst, ⊎_elim, not-suc-le-zero, le_of_suc-le-suc, arith}
use Rattle.std.proofs.lemmas.List.{length-append}
use Rattle.std.proofs.lemmas.Bool.{cases_lt, cond-true, cond-false, lt-ltb, le-ltb}
use Rattle.std.specs.Option.{option_map}
use Rattle.composition.specs.Acts.{acts_with, seen_below, renamed_choices, joined_choices}
use Rattle.composition.specs.Faults.{fault_of_renamed, fault_of_hidden, fault_of_joined}
use Rattle.composition.specs.Outlines.{outline_with, renamed_tables, joined_tables, renamed_outline, hidden_outline, joined_outline}
use Rattle.model.specs.Exchange.{exchange}
use Rattle.model.specs.Meanings.{OutlineFacts, OutlineLaws, ChoiceFacts, ChoiceLaws, Meaning}
use Rattle.model.specs.declared.Fault.{Fault}
use Rattle.assembly.specs.Facts.{AtomFacts, FormFacts, seen_by}
use Rattle.assembly.specs.Forms.{own_atom, leaf_form, form_with, renamed_atom, moved_atom, exchanged_form, concealed_form, paired_form, renamed_form, hidden_form, joined_form}
use Rattle.composition.specs.Meanings.{renamed, hidden, joined}
use Rattle.assembly.specs.Meanings.{of_atom, form_outline, Origin, with_leaf, origin, of_origin, form_choices, form_meaning, leaf_meanings, Rooted}

-- a fault, or none

pub with_outline : (e : Option Fault) (f : FormFacts) → f.fault ≡ None → form_outline (form_with e f) ≡ outline_with e (form_outline f)
with_outline None f h = refl
with_outline (Some e) f h = refl

pub with_choices : (e : Option Fault) (leaf : ℕ → Option Meaning) (f : FormFacts) → form_choices leaf (form_with e f) ≡ acts_with e (form_choices leaf f)
with_choices None leaf f = refl
with_choices (Some e) leaf f = refl

pub with_rooted : (e : Option Fault) (f : FormFacts) (n : ℕ) → Rooted f n → Rooted (form_with e f) n
with_rooted None f n h = h
with_rooted (Some e) f n h = λ a t is. let z : ◌≡◌ {A = ℕ} 0 1 = cc in absurd (omega arith)

-- what is asked of an atom that was changed
of_mapped : {X : Type 0} (g : AtomFacts → AtomFacts) (f : AtomFacts → X) (absent : X) (o : Option AtomFacts) → of_atom f absent (option_map g o) ≡ of_atom (λ t. f (g t)) absent o
of_mapped g f absent None = refl
of_mapped g f absent (Some t) = refl

-- and of its origin, where its leaf is found as before
origin_mapped : {X : Type 0} (leaf leaf' : ℕ → Option Meaning) (g : AtomFacts → AtomFacts) (f f' : Origin → X) (absent : X) (o : Option AtomFacts) → ((t : AtomFacts) → o ≡ Some t → leaf (g t).leaf ≡ leaf' t.leaf) → ((t : AtomFacts) (m : Meaning) → f (record { atom = g t; meaning = m }) ≡ f' (record { atom = t; meaning = m })) → of_origin f absent (origin leaf (option_map g o)) ≡ of_origin f' absent (origin leaf' o)
origin_mapped leaf leaf' g f f' absent None found same = refl
origin_mapped leaf leaf' g f f' absent (Some t) found same = ap (λ m. of_origin f absent (with_leaf (g t) m)) (found t refl) ∙ go (leaf' t.leaf)
  where
    go : (m : Option Meaning) → of_origin f absent (with_leaf (g t) m) ≡ of_origin f' absent (with_leaf t m)
    go None = refl
    go (Some m) = same t m

-- the origin of an atom that is kept, where its leaf is found as before
origin_found : (leaf leaf' : ℕ → Option Meaning) (o : Option AtomFacts) → ((t : AtomFacts) → o ≡ Some t → leaf t.leaf ≡ leaf' t.leaf) → origin leaf o ≡ origin leaf' o
origin_found leaf leaf' None found = refl
origin_found leaf leaf' (Some t) found = ap (with_leaf t) (found t refl)

-- an atom that was changed stems from one that was there
mapped_some : (g : AtomFacts → AtomFacts) (o : Option AtomFacts) (t : AtomFacts) → option_map g o ≡ Some t → (u : AtomFacts) × (o ≡ Some u) × (g u ≡ t)
mapped_some g None t e = let z : ◌≡◌ {A = ℕ} 0 1 = cc in absurd (omega arith)
mapped_some g (Some u) t e = let is : g u ≡ t = cc in (u, refl, is)

-- renaming

module _ (a b : ℕ) (f : FormFacts) where
  exchanged_controls : (form_outline (exchanged_form a b f)).controls ≡ (renamed_tables (form_outline f) a b).controls
  exchanged_controls = fun_ext (λ x. fun_ext (λ n. of_mapped (renamed_atom a b) (λ t. t.controls n) false (f.atom x)))

  exchanged_reads : (form_outline (exchanged_form a b f)).reads ≡ (renamed_tables (form_outline f) a b).reads
  exchanged_reads = fun_ext (λ x. fun_ext (λ n. of_mapped (renamed_atom a b) (λ t. t.reads n) false (f.atom x)))

  exchanged_awaits : (form_outline (exchanged_form a b f)).awaits ≡ (renamed_tables (form_outline f) a b).awaits
  exchanged_awaits = fun_ext (λ x. fun_ext (λ n. of_mapped (renamed_atom a b) (λ t. t.awaits n) false (f.atom x)))

  exchanged_outline : form_outline (exchanged_form a b f) ≡ renamed_tables (form_outline f) a b
  exchanged_outline = λ i. record (renamed_tables (form_outline f) a b) { controls = exchanged_controls i; reads = exchanged_reads i; awaits = exchanged_awaits i }

  pub renamed_means_outline : form_outline (renamed_form a b f) ≡ renamed_outline (form_outline f) a b
  renamed_means_outline = with_outline (fault_of_renamed (form_outline f) a b) (exchanged_form a b f) refl ∙ ap (outline_with (fault_of_renamed (form_outline f) a b)) exchanged_outline

  module _ (leaf : ℕ → Option Meaning) where
    exchanged_count : (form_choices leaf (exchanged_form a b f)).choices ≡ (renamed_choices (form_choices leaf f) a b).choices
    exchanged_count =
        fun_ext (λ r. fun_ext (λ x.
        origin_mapped leaf leaf (renamed_atom a b) (λ o. o.meaning.acts.choices r o.atom.number) (λ o. o.meaning.acts.choices r o.atom.number) 0 (f.atom x) (λ t e. refl) (λ t m. refl)))

    exchanged_opens : (form_choices leaf (exchanged_form a b f)).opens ≡ (renamed_choices (form_choices leaf f) a b).opens
    exchanged_opens =
        fun_ext (λ r. fun_ext (λ x. fun_ext (λ k. fun_ext (λ old. fun_ext (λ new.
        origin_mapped leaf leaf (renamed_atom a b) (λ o. o.meaning.acts.opens r o.atom.number k (seen_by o.atom old) (seen_by o.atom new)) (λ o. o.meaning.acts.opens r o.atom.number k (seen_by o.atom (seen_below a b old)) (seen_by o.atom (seen_below a b new))) false (f.atom x) (λ t e. refl) (λ t m. refl))))))

    exchanged_gives : (form_choices leaf (exchanged_form a b f)).gives ≡ (renamed_choices (form_choices leaf f) a b).gives
    exchanged_gives =
        fun_ext (λ r. fun_ext (λ x. fun_ext (λ k. fun_ext (λ n. fun_ext (λ old. fun_ext (λ new.
        origin_mapped leaf leaf (renamed_atom a b) (λ o. o.meaning.acts.gives r o.atom.number k (o.atom.in_leaf n) (seen_by o.atom old) (seen_by o.atom new)) (λ o. o.meaning.acts.gives r o.atom.number k (o.atom.in_leaf (exchange a b n)) (seen_by o.atom (seen_below a b old)) (seen_by o.atom (seen_below a b new))) (pos 0) (f.atom x) (λ t e. refl) (λ t m. refl)))))))

    exchanged_choices : form_choices leaf (exchanged_form a b f) ≡ renamed_choices (form_choices leaf f) a b
    exchanged_choices = λ i. record { choices = exchanged_count i; opens = exchanged_opens i; gives = exchanged_gives i }

    pub renamed_means_choices : form_choices leaf (renamed_form a b f) ≡ acts_with (fault_of_renamed (form_outline f) a b) (renamed_choices (form_choices leaf f) a b)
    renamed_means_choices = with_choices (fault_of_renamed (form_outline f) a b) leaf (exchanged_form a b f) ∙ ap (acts_with (fault_of_renamed (form_outline f) a b)) exchanged_choices

  pub renamed_rooted : (n : ℕ) → Rooted f n → Rooted (renamed_form a b f) n
  renamed_rooted n h =
      with_rooted (fault_of_renamed (form_outline f) a b) (exchanged_form a b f) n
      (λ x t e.
      let u = mapped_some (renamed_atom a b) (f.atom x) t e in
      subst (λ (v : AtomFacts). v.leaf < n) u.2 (h x u.0 u.1))

-- hiding

module _ (name : ℕ) (f : FormFacts) where
  pub hidden_means_outline : form_outline (hidden_form name f) ≡ hidden_outline (form_outline f) name
  hidden_means_outline = with_outline (fault_of_hidden (form_outline f) name) (concealed_form name f) refl

  pub hidden_means_choices : (leaf : ℕ → Option Meaning) → form_choices leaf (hidden_form name f) ≡ acts_with (fault_of_hidden (form_outline f) name) (form_choices leaf f)
  hidden_means_choices leaf = with_choices (fault_of_hidden (form_outline f) name) leaf (concealed_form name f)

  pub hidden_rooted : (n : ℕ) → Rooted f n → Rooted (hidden_form name f) n
  hidden_rooted n h = with_rooted (fault_of_hidden (form_outline f) name) (concealed_form name f) n h

-- joining

of_either : {X : Type 0} (f : AtomFacts → X) (absent : X) (g : AtomFacts → AtomFacts) (t : Bool) (p q : Option AtomFacts) → ((u : AtomFacts) → f (g u) ≡ f u) → of_atom f absent (cond t p (option_map g q)) ≡ cond t (of_atom f absent p) (of_atom f absent q)
of_either f absent g true p q same = refl
of_either f absent g false p None same = refl
of_either f absent g false p (Some u) same = same u

module _ (leaf left right : ℕ → Option Meaning) (leaves : ℕ) where
  origin_either : {X : Type 0} (f : Origin → X) (absent : X) (t : Bool) (p q : Option AtomFacts) → ((u : AtomFacts) → p ≡ Some u → leaf u.leaf ≡ left u.leaf) → ((u : AtomFacts) → q ≡ Some u → leaf (moved_atom leaves u).leaf ≡ right u.leaf) → ((u : AtomFacts) (m : Meaning) → f (record { atom = moved_atom leaves u; meaning = m }) ≡ f (record { atom = u; meaning = m })) → of_origin f absent (origin leaf (cond t p (option_map (moved_atom leaves) q))) ≡ cond t (of_origin f absent (origin left p)) (of_origin f absent (origin right q))
  origin_either f absent true p q h k same = ap (of_origin f absent) (origin_found leaf left p h)
  origin_either f absent false p q h k same = origin_mapped leaf right (moved_atom leaves) f f absent q k same

module _ (leaves : ℕ) (l r : FormFacts) where
  paired_controls : (form_outline (paired_form leaves l r)).controls ≡ (joined_tables (form_outline l) (form_outline r)).controls
  paired_controls = fun_ext (λ x. fun_ext (λ n. of_either (λ t. t.controls n) false (moved_atom leaves) (ltb x l.atoms) (l.atom x) (r.atom (x - l.atoms)) (λ u. refl)))

  paired_reads : (form_outline (paired_form leaves l r)).reads ≡ (joined_tables (form_outline l) (form_outline r)).reads
  paired_reads = fun_ext (λ x. fun_ext (λ n. of_either (λ t. t.reads n) false (moved_atom leaves) (ltb x l.atoms) (l.atom x) (r.atom (x - l.atoms)) (λ u. refl)))

  paired_awaits : (form_outline (paired_form leaves l r)).awaits ≡ (joined_tables (form_outline l) (form_outline r)).awaits
  paired_awaits = fun_ext (λ x. fun_ext (λ n. of_either (λ t. t.awaits n) false (moved_atom leaves) (ltb x l.atoms) (l.atom x) (r.atom (x - l.atoms)) (λ u. refl)))

  paired_outline : form_outline (paired_form leaves l r) ≡ joined_tables (form_outline l) (form_outline r)
  paired_outline = λ i. record (joined_tables (form_outline l) (form_outline r)) { controls = paired_controls i; reads = paired_reads i; awaits = paired_awaits i }

  pub joined_means_outline : form_outline (joined_form leaves l r) ≡ joined_outline (form_outline l) (form_outline r)
  joined_means_outline = with_outline (fault_of_joined (form_outline l) (form_outline r)) (paired_form leaves l r) refl ∙ ap (outline_with (fault_of_joined (form_outline l) (form_outline r))) paired_outline

  module _ (leaf left right : ℕ → Option Meaning) (h : (x : ℕ) (u : AtomFacts) → l.atom x ≡ Some u → leaf u.leaf ≡ left u.leaf) (k : (x : ℕ) (u : AtomFacts) → r.atom x ≡ Some u → leaf (moved_atom leaves u).leaf ≡ right u.leaf) where
    paired_count : (form_choices leaf (paired_form leaves l r)).choices ≡ (joined_choices l.atoms (form_choices left l) (form_choices right r)).choices
    paired_count =
        fun_ext (λ q. fun_ext (λ x.
        origin_either leaf left right leaves (λ o. o.meaning.acts.choices q o.atom.number) 0 (ltb x l.atoms) (l.atom x) (r.atom (x - l.atoms)) (h x) (k (x - l.atoms)) (λ u m. refl)))

    paired_opens : (form_choices leaf (paired_form leaves l r)).opens ≡ (joined_choices l.atoms (form_choices left l) (form_choices right r)).opens
    paired_opens =
        fun_ext (λ q. fun_ext (λ x. fun_ext (λ i. fun_ext (λ old. fun_ext (λ new.
        origin_either leaf left right leaves (λ o. o.meaning.acts.opens q o.atom.number i (seen_by o.atom old) (seen_by o.atom new)) false (ltb x l.atoms) (l.atom x) (r.atom (x - l.atoms)) (h x) (k (x - l.atoms)) (λ u m. refl))))))

    paired_gives : (form_choices leaf (paired_form leaves l r)).gives ≡ (joined_choices l.atoms (form_choices left l) (form_choices right r)).gives
    paired_gives =
        fun_ext (λ q. fun_ext (λ x. fun_ext (λ i. fun_ext (λ n. fun_ext (λ old. fun_ext (λ new.
        origin_either leaf left right leaves (λ o. o.meaning.acts.gives q o.atom.number i (o.atom.in_leaf n) (seen_by o.atom old) (seen_by o.atom new)) (pos 0) (ltb x l.atoms) (l.atom x) (r.atom (x - l.atoms)) (h x) (k (x - l.atoms)) (λ u m. refl)))))))

    paired_choices : form_choices leaf (paired_form leaves l r) ≡ joined_choices l.atoms (form_choices left l) (form_choices right r)
    paired_choices = λ i. record { choices = paired_count i; opens = paired_opens i; gives = paired_gives i }

    pub joined_means_choices : form_choices leaf (joined_form leaves l r) ≡ acts_with (fault_of_joined (form_outline l) (form_outline r)) (joined_choices l.atoms (form_choices left l) (form_choices right r))
    joined_means_choices = with_choices (fault_of_joined (form_outline l) (form_outline r)) leaf (paired_form leaves l r) ∙ ap (acts_with (fault_of_joined (form_outline l) (form_outline r))) paired_choices

  pub joined_rooted : (more : ℕ) → Rooted l leaves → Rooted r more → Rooted (joined_form leaves l r) (leaves + more)
  joined_rooted more h k =
      with_rooted (fault_of_joined (form_outline l) (form_outline r)) (paired_form leaves l r) (leaves + more) (λ x t e. go (ltb x l.atoms) x t e)
    where
      go : (b : Bool) (x : ℕ) (t : AtomFacts) → cond b (l.atom x) (option_map (moved_atom leaves) (r.atom (x - l.atoms))) ≡ Some t → t.leaf < leaves + more
      go true x t e = omega (arith, h x t e)
      go false x t e =
          let u = mapped_some (moved_atom leaves) (r.atom (x - l.atoms)) t e in
          subst (λ (v : AtomFacts). v.leaf < leaves + more) u.2 (omega (arith, k (x - l.atoms) u.0 u.1))

-- leaves

false_or : (b : Bool) → (b ≡ true → ⊥) → false ≡ b
false_or false h = refl
false_or true h = absurd (h refl)

module _ (m : Meaning) where
  abbrev o : OutlineFacts
  o = m.outline

  -- what is told of an atom that is there, or past those
  leaf_asked : (s : ℕ → ℕ → Bool) (f : AtomFacts → Bool) (a n : ℕ) → f (own_atom a (o.controls a) (o.reads a) (o.awaits a)) ≡ s a n → (s a n ≡ true → a < o.atoms) → of_atom f false ((leaf_form o).atom a) ≡ s a n
  leaf_asked s f a n is known =
      ⊎_elim (λ h. ap (of_atom f false) (cond-true (ltb a o.atoms) (Some (own_atom a (o.controls a) (o.reads a) (o.awaits a))) None (lt-ltb a o.atoms h)) ∙ is)
      (λ h. ap (of_atom f false) (cond-false (ltb a o.atoms) (Some (own_atom a (o.controls a) (o.reads a) (o.awaits a))) None (le-ltb a o.atoms h)) ∙ false_or (s a n) (λ t. omega (arith, known t, h)))
      (cases_lt a o.atoms)

  leaf_controls : (form_outline (leaf_form o)).controls ≡ o.controls
  leaf_controls = fun_ext (λ a. fun_ext (λ n. leaf_asked o.controls (λ t. t.controls n) a n refl (λ e. (m.outline_laws.controls_known a n e).0)))

  leaf_reads : (form_outline (leaf_form o)).reads ≡ o.reads
  leaf_reads = fun_ext (λ a. fun_ext (λ n. leaf_asked o.reads (λ t. t.reads n) a n refl (λ e. (m.outline_laws.reads_known a n e).0)))

  leaf_awaits : (form_outline (leaf_form o)).awaits ≡ o.awaits
  leaf_awaits = fun_ext (λ a. fun_ext (λ n. leaf_asked o.awaits (λ t. t.awaits n) a n refl (λ e. (m.outline_laws.awaits_known a n e).0)))

  pub leaf_means_outline : form_outline (leaf_form o) ≡ o
  leaf_means_outline = λ i. record o { controls = leaf_controls i; reads = leaf_reads i; awaits = leaf_awaits i }

  module _ (leaf : ℕ → Option Meaning) (found : leaf 0 ≡ Some m) where
    leaf_origin : {X : Type 0} (f : Origin → X) (absent value : X) (a : ℕ) → f (record { atom = own_atom a (o.controls a) (o.reads a) (o.awaits a); meaning = m }) ≡ value → (o.atoms ≤ a → absent ≡ value) → of_origin f absent (origin leaf ((leaf_form o).atom a)) ≡ value
    leaf_origin f absent value a is past =
        let own : AtomFacts = own_atom a (o.controls a) (o.reads a) (o.awaits a) in
        ⊎_elim (λ h. ap (λ t. of_origin f absent (origin leaf t)) (cond-true (ltb a o.atoms) (Some own) None (lt-ltb a o.atoms h)) ∙ ap (λ t. of_origin f absent (with_leaf own t)) found ∙ is)
        (λ h. ap (λ t. of_origin f absent (origin leaf t)) (cond-false (ltb a o.atoms) (Some own) None (le-ltb a o.atoms h)) ∙ past h)
        (cases_lt a o.atoms)

    leaf_count : (form_choices leaf (leaf_form o)).choices ≡ m.acts.choices
    leaf_count =
        fun_ext (λ r. fun_ext (λ a.
        leaf_origin (λ q. q.meaning.acts.choices r q.atom.number) 0 (m.acts.choices r a) a refl (λ h. sym (m.choice_laws.no_choice r a h))))

    leaf_opens : (form_choices leaf (leaf_form o)).opens ≡ m.acts.opens
    leaf_opens =
        fun_ext (λ r. fun_ext (λ a. fun_ext (λ k. fun_ext (λ old. fun_ext (λ new.
        leaf_origin (λ q. q.meaning.acts.opens r q.atom.number k (seen_by q.atom old) (seen_by q.atom new)) false (m.acts.opens r a k old new) a refl (λ h. sym (m.choice_laws.absent_closed r a k old new (omega (arith, m.choice_laws.no_choice r a h)))))))))

    leaf_gives : (form_choices leaf (leaf_form o)).gives ≡ m.acts.gives
    leaf_gives =
        fun_ext (λ r. fun_ext (λ a. fun_ext (λ k. fun_ext (λ n. fun_ext (λ old. fun_ext (λ new.
        leaf_origin (λ q. q.meaning.acts.gives r q.atom.number k (q.atom.in_leaf n) (seen_by q.atom old) (seen_by q.atom new)) (pos 0) (m.acts.gives r a k n old new) a refl (λ h. sym (m.choice_laws.absent_gives r a k n old new (omega (arith, m.choice_laws.no_choice r a h))))))))))

    pub leaf_means_choices : form_choices leaf (leaf_form o) ≡ m.acts
    leaf_means_choices = λ i. record { choices = leaf_count i; opens = leaf_opens i; gives = leaf_gives i }

  pub leaf_rooted : Rooted (leaf_form o) 1
  leaf_rooted x t e = go (ltb x o.atoms) e
    where
      go : (b : Bool) → cond b (Some (own_atom x (o.controls x) (o.reads x) (o.awaits x))) None ≡ Some t → t.leaf < 1
      go true h = let is : own_atom x (o.controls x) (o.reads x) (o.awaits x) ≡ t = cc in subst (λ (v : AtomFacts). v.leaf < 1) is (omega arith)
      go false h = let z : ◌≡◌ {A = ℕ} 0 1 = cc in absurd (omega arith)

-- what is equal to a meaning's outline and choices keeps its laws
pub outline_kept : (m : Meaning) (q : OutlineFacts) → q ≡ m.outline → OutlineLaws q
outline_kept m q e = subst OutlineLaws (sym e) m.outline_laws

pub choices_kept : (m : Meaning) (q : OutlineFacts) (c : ChoiceFacts) → q ≡ m.outline → c ≡ m.acts → ChoiceLaws q c
choices_kept m q c e f = subst (ChoiceLaws q) (sym f) (subst (λ p. ChoiceLaws p m.acts) (sym e) m.choice_laws)

-- leaves that stand one after the other are found where they stand
pub found_left : {L : Type 0} (meaning : L → Meaning) (xs ys : List L) (i : ℕ) → i < length xs → leaf_meanings meaning (xs ++ ys) i ≡ leaf_meanings meaning xs i
found_left meaning [] ys i h = absurd (not-suc-le-zero h)
found_left meaning (x ∷ xs) ys zero h = refl
found_left meaning (x ∷ xs) ys (suc i) h = found_left meaning xs ys i (le_of_suc-le-suc h)

found_after : {L : Type 0} (meaning : L → Meaning) (xs ys : List L) (i : ℕ) → leaf_meanings meaning (xs ++ ys) (length xs + i) ≡ leaf_meanings meaning ys i
found_after meaning [] ys i = let same : 0 + i ≡ i = omega arith in ap (leaf_meanings meaning ys) same
found_after meaning (x ∷ xs) ys i =
    let more : length (x ∷ xs) + i ≡ suc (length xs + i) = omega arith in
    ap (leaf_meanings meaning (x ∷ (xs ++ ys))) more ∙ found_after meaning xs ys i

pub found_right : {L : Type 0} (meaning : L → Meaning) (xs ys : List L) (u : AtomFacts) → u.leaf < length ys → length xs + length ys ≤ 18446744073709551615 → leaf_meanings meaning (xs ++ ys) (moved_atom (length xs) u).leaf ≡ leaf_meanings meaning ys u.leaf
found_right meaning xs ys u h k =
    let exact : (moved_atom (length xs) u).leaf ≡ length xs + u.leaf = omega arith in
    ap (leaf_meanings meaning (xs ++ ys)) exact ∙ found_after meaning xs ys u.leaf

-- the form and its leaves mean m, and each atom comes from one of so many leaves
pub record Made (f : FormFacts) (leaf : ℕ → Option Meaning) (leaves : ℕ) (m : Meaning) : Type 0 where
  pub outline : form_outline f ≡ m.outline
  pub choices : form_choices leaf f ≡ m.acts
  pub rooted : Rooted f leaves

pub leaf_made : {L : Type 0} (meaning : L → Meaning) (d : L) (g : FormFacts) (zs : List L) → zs ≡ d ∷ [] → g ≡ leaf_form (meaning d).outline → Made g (leaf_meanings meaning zs) (length zs) (meaning d)
leaf_made meaning d g zs e h =
    subst (λ q. Made q (leaf_meanings meaning zs) (length zs) (meaning d)) (sym h)
    (subst (λ q. Made (leaf_form (meaning d).outline) (leaf_meanings meaning q) (length q) (meaning d)) (sym e)
    (record { outline = leaf_means_outline (meaning d); choices = leaf_means_choices (meaning d) (leaf_meanings meaning (d ∷ [])) refl; rooted = leaf_rooted (meaning d) }))

module _ (g f : FormFacts) (leaf : ℕ → Option Meaning) (leaves : ℕ) (outline_laws : OutlineLaws (form_outline f)) (choice_laws : ChoiceLaws (form_outline f) (form_choices leaf f)) (rooted : Rooted f leaves) where
  pub renamed_made : (a b : ℕ) → g ≡ renamed_form a b f → Made g leaf leaves (renamed (form_meaning f leaf outline_laws choice_laws) a b)
  renamed_made a b h =
      subst (λ q. Made q leaf leaves (renamed (form_meaning f leaf outline_laws choice_laws) a b)) (sym h)
      (record { outline = renamed_means_outline a b f; choices = renamed_means_choices a b f leaf; rooted = renamed_rooted a b f leaves rooted })

  pub hidden_made : (name : ℕ) → g ≡ hidden_form name f → Made g leaf leaves (hidden (form_meaning f leaf outline_laws choice_laws) name)
  hidden_made name h =
      subst (λ q. Made q leaf leaves (hidden (form_meaning f leaf outline_laws choice_laws) name)) (sym h)
      (record { outline = hidden_means_outline name f; choices = hidden_means_choices name f leaf; rooted = hidden_rooted name f leaves rooted })

module _ {L : Type 0} (meaning : L → Meaning) (g l r : FormFacts) (xs ys zs : List L) (left : OutlineLaws (form_outline l)) (left_choices : ChoiceLaws (form_outline l) (form_choices (leaf_meanings meaning xs) l)) (right : OutlineLaws (form_outline r)) (right_choices : ChoiceLaws (form_outline r) (form_choices (leaf_meanings meaning ys) r)) where
  abbrev whole : Meaning
  whole = joined (form_meaning l (leaf_meanings meaning xs) left left_choices) (form_meaning r (leaf_meanings meaning ys) right right_choices)

  pub joined_made : Rooted l (length xs) → Rooted r (length ys) → length xs + length ys ≤ 18446744073709551615 → zs ≡ xs ++ ys → g ≡ joined_form (length xs) l r → Made g (leaf_meanings meaning zs) (length zs) whole
  joined_made root_left root_right room e h =
      subst (λ q. Made q (leaf_meanings meaning zs) (length zs) whole) (sym h)
      (subst (λ q. Made (joined_form (length xs) l r) (leaf_meanings meaning q) (length q) whole) (sym e)
      (record {
        outline = joined_means_outline (length xs) l r;
        choices = joined_means_choices (length xs) l r (leaf_meanings meaning (xs ++ ys)) (leaf_meanings meaning xs) (leaf_meanings meaning ys)
            (λ x u is. found_left meaning xs ys u.leaf (root_left x u is))
            (λ x u is. found_right meaning xs ys u (root_right x u is) room);
        rooted = subst (Rooted (joined_form (length xs) l r)) (sym (length-append xs ys)) (joined_rooted (length xs) l r (length ys) root_left root_right);
      }))
