-- Asking a table at the exchanged names puts one name for the other.
use Rattle.std.proofs.Common.{◌≡◌, ℕ, Bool, true, false, cond, eqb, ◌⊎◌, pos, is_some, None, Option, sym, refl, ap, ◌∙◌, inl, inr}
use Rattle.std.proofs.lemmas.Bool.{true≢false, cases_Bool, cond-true, cond-false, eq-eqb, ne_eqb}
use Rattle.model.specs.Meanings.{Valuation, Meaning, Alike}
use Rattle.model.specs.declared.Fault.{Fault}
use Rattle.model.specs.declared.Round.{Round}
use Rattle.composition.proofs.Faults.{sound_is}
use Rattle.composition.specs.Acts.{seen_below}
use Rattle.model.specs.Exchange.{exchange}
use Rattle.composition.specs.laws.Exchange.{exchange_both}
use Rattle.composition.specs.Allowed.{MayRename}
use Rattle.composition.specs.laws.Faults.{renames}
use Rattle.composition.specs.Faults.{fault_of_renamed}
use Rattle.composition.specs.Outlines.{sound_or}
use Rattle.composition.specs.Statements.{put, Puts}

-- at the old name b's value, at any other but b its own
seen : (a b : ℕ) (v : Valuation) (n : ℕ) → (n ≡ b → ⊥) → v (exchange a b n) ≡ put b a 0 v n
seen a b v n d =
    exchange_both a b (λ i j. (i ≡ b → ⊥) → v j ≡ put b a 0 v i) (λ _. sym (cond-true (eqb a a) (v b) (cond (eqb a b) 0 (v a)) (eq-eqb a a refl))) (λ e. absurd (e refl))
    (λ i e f _. sym (cond-false (eqb i a) (v b) (cond (eqb i b) 0 (v i)) (ne_eqb i a e) ∙ cond-false (eqb i b) 0 (v i) (ne_eqb i b f))) n d

exchange_put : {A : Type 0} (a b : ℕ) → (a ≡ b → ⊥) → (nothing : A) (f : ℕ → A) → f b ≡ nothing → (n : ℕ) → f (exchange a b n) ≡ put a b nothing f n
exchange_put a b apart nothing f e =
    exchange_both a b (λ i j. f j ≡ put a b nothing f i) (e ∙ sym (cond-false (eqb a b) (f a) (cond (eqb a a) nothing (f a)) (ne_eqb a b apart) ∙ cond-true (eqb a a) nothing (f a) (eq-eqb a a refl)))
    (sym (cond-true (eqb b b) (f a) (cond (eqb b a) nothing (f b)) (eq-eqb b b refl)))
    (λ i p q. sym (cond-false (eqb i b) (f a) (cond (eqb i a) nothing (f i)) (ne_eqb i b q) ∙ cond-false (eqb i a) nothing (f i) (ne_eqb i a p)))

module _ (m : Meaning) (a b : ℕ) (sound : fault_of_renamed m.outline a b ≡ None) where
  abbrev found : Option Fault
  found = fault_of_renamed m.outline a b

  fine : MayRename m.outline a b
  fine = renames m.outline a b sound

  -- the new name is no variable
  free : is_some (m.outline.kind b) ≡ true → ⊥
  free e = true≢false (sym e ∙ ap is_some fine.new_free)

  apart : a ≡ b → ⊥
  apart e = free (ap (λ n. is_some (m.outline.kind n)) (sym e) ∙ fine.old_there)

  told_put : {A : Type 0} (nothing : A) (f : ℕ → A) → f b ≡ nothing → (n : ℕ) → sound_or found nothing (f (exchange a b n)) ≡ put a b nothing f n
  told_put nothing f e n = sound_is found nothing (f (exchange a b n)) sound ∙ exchange_put a b apart nothing f e n

  -- a set of variables lacks the new name
  lacks : (s : ℕ → Bool) → ((n : ℕ) → s n ≡ true → is_some (m.outline.kind n) ≡ true) → s b ≡ false
  lacks s known = go (cases_Bool (s b))
    where
      go : (s b ≡ true) ⊎ (s b ≡ false) → s b ≡ false
      go (inl e) = absurd (free (known b e))
      go (inr e) = e

  alike : (r : Round) (x : ℕ) (old new : Valuation) → Alike m.outline r x (seen_below a b old) (seen_below a b new) (put b a 0 old) (put b a 0 new)
  alike r x old new =
      record {
        awaited = λ n e. seen a b new n (λ f. free (ap (λ i. is_some (m.outline.kind i)) (sym f) ∙ (m.outline_laws.awaits_known x n e).1));
        read = λ u n e. seen a b old n (λ f. free (ap (λ i. is_some (m.outline.kind i)) (sym f) ∙ (m.outline_laws.reads_known x n e).1));
      }

  pub puts : Puts m a b
  puts =
      record {
        kind = told_put None m.outline.kind fine.new_free;
        top = told_put 0 m.outline.top (m.outline_laws.no_top b fine.new_free);
        atoms = sound_is found 0 m.outline.atoms sound;
        controls = λ x. told_put false (m.outline.controls x) (lacks (m.outline.controls x) (λ n e. (m.outline_laws.controls_known x n e).1));
        reads = λ x. told_put false (m.outline.reads x) (lacks (m.outline.reads x) (λ n e. (m.outline_laws.reads_known x n e).1));
        awaits = λ x. told_put false (m.outline.awaits x) (lacks (m.outline.awaits x) (λ n e. (m.outline_laws.awaits_known x n e).1));
        choices = λ r x. sound_is found 0 (m.acts.choices r x) sound;
        opens = λ r x k old new.
            sound_is found false _ sound ∙ m.choice_laws.opens_by_sight r x k (seen_below a b old) (seen_below a b new) (put b a 0 old) (put b a 0 new) (alike r x old new);
        gives = λ r x k n old new.
            ap (sound_or found (pos 0)) (m.choice_laws.gives_by_sight r x k (exchange a b n) (seen_below a b old) (seen_below a b new) (put b a 0 old) (put b a 0 new) (alike r x old new)) ∙
            told_put (pos 0) (λ i. m.acts.gives r x k i (put b a 0 old) (put b a 0 new))
            (m.choice_laws.other_gives r x k b (put b a 0 old) (put b a 0 new) (lacks (m.outline.controls x) (λ n e. (m.outline_laws.controls_known x n e).1))) n;
      }
