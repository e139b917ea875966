-- Renaming of drawings is renaming of their modules.
use Rattle.std.proofs.Common.{◌≡◌, ℕ, ◌≤◌, Bool, true, eqb, ◌↔◌, is_some, Some, None, ◌≢◌, sym, refl, ap, ◌∙◌, subst, inl, inr, ⊎_elim}
use Rattle.std.proofs.lemmas.Bool.{true≢false, cond-true, cond-false, eq-eqb, ne_eqb}
use Rattle.composition.specs.Acts.{acts_with, renamed_choices}
use Rattle.composition.specs.Allowed.{MayRename}
use Rattle.composition.specs.Outlines.{outline_with, renamed_tables}
use Rattle.composition.specs.laws.Exchange.{exchange_both, exchange_old, exchange_twice}
use Rattle.composition.specs.laws.Faults.{renames}
use Rattle.model.specs.Exchange.{exchange}
use Rattle.model.specs.Meanings.{Meaning}
use Rattle.model.specs.declared.Kind.{Kind}
use Rattle.model.specs.declared.Kind.TheVariants.{Private, Interface, External}
use Rattle.model.specs.declared.Round.{Round}
use Rattle.model.specs.declared.Round.TheVariants.{Initial, Update}
use Rattle.reactive.specs.Modules.{as_value, no_old, Choices, Leads, choices_of, module_from, module_of}
use Rattle.reactive.specs.Operations.{renamed_set, values_before, renamed_module, SameModule}
use Rattle.reactive.specs.Reactive.{Variables, Valuation, Module, Variable}
use Rattle.reactive.specs.Statements.{RenamesAreRenamings}
use Rattle.reactive.proofs.Leading.{Leading, leading_concerned}

module _ (a b : ℕ) where
  -- what is told of a name under the exchanged one is told of the renamed set, but at the old name
  set_elsewhere : (X : Variables) (n : ℕ) → n ≢ a → X (exchange a b n) ↔ renamed_set a b X n
  set_elsewhere X = exchange_both a b (λ n k. n ≢ a → X k ↔ renamed_set a b X n)
      (λ d. absurd (d refl))
      (λ _. (λ x. inl (refl, x), ⊎_elim (λ p. p.1) (λ p. absurd (p.1 refl))))
      (λ n d e _. (λ x. inr (d, e, x), ⊎_elim (λ p. absurd (e p.0)) (λ p. p.2)))

  -- and there too, where the new name is not in the set
  set_renamed : (X : Variables) → (X b → ⊥) → (n : ℕ) → X (exchange a b n) ↔ renamed_set a b X n
  set_renamed X free = exchange_both a b (λ n k. X k ↔ renamed_set a b X n)
      (λ x. absurd (free x), ⊎_elim (λ p. subst X p.0 p.1) (λ p. absurd (p.0 refl)))
      (λ x. inl (refl, x), ⊎_elim (λ p. p.1) (λ p. absurd (p.1 refl)))
      (λ n d e. (λ x. inr (d, e, x), ⊎_elim (λ p. absurd (e p.0)) (λ p. p.2)))

  -- the values under the exchanged names
  abbrev under_other_names : Valuation → Valuation
  under_other_names s n = s (exchange a b n)

  values_same : (s : Valuation) (n : ℕ) → n ≢ b → under_other_names s n ≡ values_before a b s n
  values_same s = exchange_both a b (λ n k. n ≢ b → s k ≡ values_before a b s n)
      (λ _. sym (cond-true (eqb a a) (s b) (s a) (eq-eqb a a refl)))
      (λ d. absurd (d refl))
      (λ n d e _. sym (cond-false (eqb n a) (s b) (s n) (ne_eqb n a d)))

  module _ (c : Choices) (controls : ℕ → Bool) where
    -- the choices, under the exchanged names
    abbrev renamed_below : Choices
    renamed_below =
        record {
          many = c.many;
          opens = λ k old new. c.opens k (under_other_names old) (under_other_names new);
          gives = λ k n old new. c.gives k (exchange a b n) (under_other_names old) (under_other_names new);
        }

    renamed_leads : (old new t : Valuation) →
        Leads renamed_below (λ n. controls (exchange a b n)) old new t ↔ Leads c controls (under_other_names old) (under_other_names new) (under_other_names t)
    renamed_leads old new t = (
      λ l. record {
        choice = l.choice;
        there = l.there;
        opened = l.opened;
        given = λ n. subst (λ j. controls j ≡ true → as_value (c.gives l.choice j (under_other_names old) (under_other_names new)) ≡ t (exchange a b n)) (exchange_twice a b n) (l.given (exchange a b n));
      },
      λ l. record {
        choice = l.choice;
        there = l.there;
        opened = l.opened;
        given = λ n h. l.given (exchange a b n) h ∙ ap t (exchange_twice a b n);
      },
    )

module _ (m : Meaning) (a b : ℕ) (h : MayRename m.outline a b) where
  -- the new name is no variable
  free : (n : ℕ) → is_some (m.outline.kind n) ≡ true → n ≢ b
  free n e same = true≢false (sym e ∙ ap (λ k. is_some (m.outline.kind k)) same ∙ ap is_some h.new_free)

  -- what an atom leads to under the exchanged names, and as it knew them
  leads_before : (r : Round) (i : ℕ) (old old' new t : Valuation) → ((n : ℕ) → n ≢ b → old n ≡ old' n) →
      Leading m r i old (under_other_names a b new) (under_other_names a b t) ↔ Leading m r i old' (values_before a b new) (values_before a b t)
  leads_before r i old old' new t same = (
    leading_concerned m r i _ _ _ _ _ _
        (record { awaited = λ n e. values_same a b new n (awaited n e); read = λ _ n e. same n (read n e) })
        (λ n e. values_same a b t n (own n e)),
    leading_concerned m r i _ _ _ _ _ _
        (record { awaited = λ n e. sym (values_same a b new n (awaited n e)); read = λ _ n e. sym (same n (read n e)) })
        (λ n e. sym (values_same a b t n (own n e))),
  )
    where
      awaited : (n : ℕ) → m.outline.awaits i n ≡ true → n ≢ b
      awaited n e = free n (m.outline_laws.awaits_known i n e).1

      read : (n : ℕ) → m.outline.reads i n ≡ true → n ≢ b
      read n e = free n (m.outline_laws.reads_known i n e).1

      own : (n : ℕ) → m.outline.controls i n ≡ true → n ≢ b
      own n e = free n (m.outline_laws.controls_known i n e).1

  abbrev whole : Module
  whole = module_from (outline_with None (renamed_tables m.outline a b)) (acts_with None (renamed_choices m.acts a b))

  kind_free : (k : Kind) → m.outline.kind b ≡ Some k → ⊥
  kind_free k e = free b (ap is_some e) refl

  -- a variable of the renamed module is not the old name
  not_old : (n : ℕ) → Variable whole n → n ≢ a
  not_old n v e = free (exchange a b n) (there v) (ap (exchange a b) e ∙ exchange_old a b)
    where
      there : Variable whole n → is_some (m.outline.kind (exchange a b n)) ≡ true
      there (inl (inl e)) = ap is_some e
      there (inl (inr e)) = ap is_some e
      there (inr e) = ap is_some e

  in_turn : {A B C : Type 0} → A ↔ B → B ↔ C → A ↔ C
  in_turn p q = (λ x. q.0 (p.0 x), λ x. p.1 (q.1 x))

  renamed_same : SameModule whole (renamed_module (module_of m) a b)
  renamed_same =
      record {
        private = set_renamed a b (λ n. m.outline.kind n ≡ Some Private) (kind_free Private);
        interface = set_renamed a b (λ n. m.outline.kind n ≡ Some Interface) (kind_free Interface);
        external = set_renamed a b (λ n. m.outline.kind n ≡ Some External) (kind_free External);
        typed = λ n v there. set_elsewhere a b (λ k. v ≤ m.outline.top k) n (not_old n there);
        there = λ i. i;
        back = λ i. i;
        there_and_back = λ i. refl;
        back_and_there = λ i. refl;
        atoms = λ i. record {
          controls = set_renamed a b (λ n. m.outline.controls i.number n ≡ true) (λ e. free b (m.outline_laws.controls_known i.number b e).1 refl);
          reads = set_renamed a b (λ n. m.outline.reads i.number n ≡ true) (λ e. free b (m.outline_laws.reads_known i.number b e).1 refl);
          awaits = set_renamed a b (λ n. m.outline.awaits i.number n ≡ true) (λ e. free b (m.outline_laws.awaits_known i.number b e).1 refl);
          init = λ new t.
              in_turn (renamed_leads a b (choices_of m.acts i.number Initial) (m.outline.controls i.number) no_old new t) (leads_before Initial i.number no_old no_old new t (λ n _. refl));
          update = λ old new t.
              in_turn (renamed_leads a b (choices_of m.acts i.number Update) (m.outline.controls i.number) old new t)
              (leads_before Update i.number (under_other_names a b old) (values_before a b old) new t (values_same a b old));
        };
      }

pub renames_are : RenamesAreRenamings
renames_are m a b e =
    subst (λ f. SameModule (module_from (outline_with f (renamed_tables m.outline a b)) (acts_with f (renamed_choices m.acts a b))) (renamed_module (module_of m) a b)) (sym e) (renamed_same m a b (renames m.outline a b e))
