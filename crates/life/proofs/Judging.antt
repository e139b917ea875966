-- What it means that a definition's refusal is told for a reason, one reason after the other.
use Rattle.std.proofs.Common.{◌≡◌, ℕ, ◌<◌, Bool, true, false, Some, None, Option, sym, refl, ap, ◌∙◌, inl, inr, ⊎_elim, arith}
use Rattle.std.proofs.lemmas.Bool.{both_ways, cases_Bool}
use Rattle.model.specs.Tests.{lowest}
use Rattle.model.proofs.Bounded.{lowest_at}
use Rattle.model.proofs.Lowest.{lowest_found, clear_lowest}
use Rattle.units.specs.Sealing.{at_lowest, if_so, ◌else◌}
use Rattle.units.specs.declared.refusal.Refusal.{Refusal}
use Rattle.life.specs.Reasons.{Because, AtLowest, ◌or-else◌}

-- this is refused exactly for that reason
pub record Judged (f : Option Refusal) (R : Refusal → Type 0) : Type 0 where
  pub there : (r : Refusal) → f ≡ Some r → R r
  pub back : (r : Refusal) → R r → f ≡ Some r

pub none≢some : {X : Type 0} (x : X) → None ≡ Some x → ⊥
none≢some x e = let z : ◌≡◌ {A = ℕ} 0 1 = cc in omega arith

pub no_reason : {f : Option Refusal} {R : Refusal → Type 0} → Judged f R → f ≡ None → (r : Refusal) → R r → ⊥
no_reason j e r h = none≢some r (sym e ∙ j.back r h)

pub none_where : (f : Option Refusal) (R : Refusal → Type 0) → Judged f R → ((r : Refusal) → R r → ⊥) → f ≡ None
none_where None R j h = refl
none_where (Some r) R j h = absurd (h r (j.there r refl))

pub judged_else : (f g : Option Refusal) (A B : Refusal → Type 0) → Judged f A → (f ≡ None → Judged g B) → Judged (f else g) (A or-else B)
judged_else None g A B j k = record {
  there = λ r e. inr (λ q a. none≢some q (j.back q a), (k refl).there r e);
  back = λ r h. ⊎_elim (λ a. absurd (none≢some r (j.back r a))) (λ b. (k refl).back r b.1) h;
}
judged_else (Some f) g A B j k = record {
  there = λ r e. inl (j.there r e);
  back = λ r h. ⊎_elim (λ a. j.back r a) (λ b. absurd (b.0 f (j.there f refl))) h;
}

pub judged_if : (b : Bool) (P : Type 0) (told : Refusal) → (b ≡ true → P) → (P → b ≡ true) → Judged (if_so told b) (Because P told)
judged_if b P told f g = record {
  there = go b f;
  back = λ r h. ap (if_so told) (g h.is_so) ∙ ap Some (sym h.is);
}
  where
    go : (b : Bool) → (b ≡ true → P) → (r : Refusal) → if_so told b ≡ Some r → Because P told r
    go true f r e = record { is_so = f refl; is = cc }
    go false f r e = absurd (none≢some r e)

module _ (p : ℕ → Bool) (P : ℕ → Type 0) (n : ℕ) (told : ℕ → Refusal) (there : (k : ℕ) → k < n → p k ≡ true → P k) (back : (k : ℕ) → k < n → P k → p k ≡ true) where
  found : (o : Option ℕ) → lowest p n ≡ o → (r : Refusal) → at_lowest told o ≡ Some r → AtLowest P n told r
  found None e r h = absurd (none≢some r h)
  found (Some i) e r h =
      let low = lowest_found p n i e in
      record {
        place = i;
        below = low.inside;
        is_so = there i low.inside low.passes;
        none_lower = λ k l c. both_ways (p k) (low.below k l) (back k (omega (arith, low.inside)) c);
        is = cc;
      }

  pub judged_lowest : Judged (at_lowest told (lowest p n)) (AtLowest P n told)
  judged_lowest = record {
    there = found (lowest p n) refl;
    back = λ r h.
        let first : lowest p h.place ≡ None = clear_lowest p h.place (λ k l. ⊎_elim (λ t. absurd (h.none_lower k l (there k (omega (arith, h.below)) t))) (λ f. f) (cases_Bool (p k))) in
        ap (at_lowest told) (lowest_at p n h.place h.below first (back h.place h.below h.is_so)) ∙ ap Some (sym h.is);
  }
