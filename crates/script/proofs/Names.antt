-- What names stand for after some are used up and one is given.
use Rattle.std.proofs.Common.{◌≡◌, ℕ, Bool, true, false, cond, ◌||◌, ◌⊎◌, List, [], ◌∷◌, Some, None, Ok, Err, Result, sym, refl, ap, ◌∙◌, inr, rules, MatchResult}
use Rattle.std.proofs.lemmas.Bool.{false_from_ne_true}
use Rattle.std.proofs.lemmas.Slice.Eq.{bytes_eq-Decides}
use Rattle.std.specs.Str.{bytes_eq as same_text}
use Rattle.script.specs.declared.mistake.Mistake.{Mistake}
use Rattle.script.specs.declared.mistake.Mistake.TheVariants.{NoMemory}
use Rattle.script.specs.Answers.{TellsBinding}
use Rattle.script.specs.Bindings.{Binding, Bindings, binding_of, Binds, SameBindings, Unbinds, BindsDrawing, UnbindsAll}
use Rattle.script.specs.Sessions.{Makes}
use Rattle.script.specs.declared.answer.Answer.{Answer}
use Rattle.any_drawing.specs.Piles.{Pile}

none_of : {X : Type 0} (a : Bool) (x : X) → cond (a || false) x x ≡ x
none_of true x = refl
none_of false x = refl

one_of : {X : Type 0} (a : Bool) (x y : X) → cond a x y ≡ cond (a || false) x y
one_of true x y = refl
one_of false x y = refl

two_of : {X : Type 0} (a b : Bool) (x y : X) → cond b x (cond a x y) ≡ cond (a || (b || false)) x y
two_of true true x y = refl
two_of true false x y = refl
two_of false true x y = refl
two_of false false x y = refl

pub gone_one : (old new : Bindings) (name : List ℕ) → Unbinds old new name → UnbindsAll old new (name ∷ [])
gone_one old new name t w = t w ∙ one_of (same_text w name) None (binding_of old w)

pub gone_two : (old mid new : Bindings) (left right : List ℕ) → Unbinds old mid left → Unbinds mid new right → UnbindsAll old new (left ∷ right ∷ [])
gone_two old mid new left right t u w =
    u w ∙ ap (cond (same_text w right) None) (t w) ∙ two_of (same_text w left) (same_text w right) None (binding_of old w)

-- what is made under a name after others are used up
pub made_after : (old mid new : Bindings) (used : List (List ℕ)) (name : List ℕ) (P : Binding → Type 0) (R : Mistake → Type 0) (b : Binding) (r : Result Answer Mistake) →
    UnbindsAll old mid used → P b → MatchResult r (λ a. Binds mid new name b × TellsBinding name b a) (λ e. (e ≡ NoMemory) × SameBindings mid new) →
    MatchResult r (Makes old new used name P) (λ e. (R e × SameBindings old new) ⊎ ((e ≡ NoMemory) × (SameBindings old new ⊎ UnbindsAll old new used)))
made_after old mid new used name P R b (Ok a) g p kept = (b, p, (λ w. kept.0 w ∙ ap (cond (same_text w name) (Some b)) (g w)), kept.1)
made_after old mid new used name P R b (Err e) g p same = inr (same.0, inr (λ w. same.1 w ∙ g w))

other_text : (xs ys : List ℕ) → (xs ≡ ys → ⊥) → same_text xs ys ≡ false
other_text xs ys h = false_from_ne_true (same_text xs ys) (λ e. let same : xs ≡ ys = search (rules, bytes_eq-Decides) in h same)

pub stands_still : (old new : Bindings) (left right : List ℕ) (d : Pile) → Unbinds old new left → (left ≡ right → ⊥) → BindsDrawing old right d → BindsDrawing new right d
stands_still old new left right d t apart s = t right ∙ ap (λ b. cond b None (binding_of old right)) (other_text right left (λ e. apart (sym e))) ∙ s
