-- Sets that are filled by a test.
use Rattle.std.proofs.Common.{◌≡◌, ℕ, ◌<◌, Bool, false, ◌&&◌, ltb, List, length, get_or, sym, ap, ◌∙◌, ⊎_elim, arith}
use Rattle.std.proofs.lemmas.Bool.{cases_lt, lt-ltb, le-ltb}
use Rattle.std.proofs.lemmas.List.{get_or_past}
use Rattle.model.specs.Tests.{Answers}

-- what the marks tell, where the answers are what p says
pub gathered : (bound : ℕ) (answered : ℕ → Bool → Type 0) (p : ℕ → Bool) → Answers answered p bound → (marks : List Bool) → length marks ≡ bound
    → ((n : ℕ) → n < bound → answered n (get_or marks n false)) → (n : ℕ) → get_or marks n false ≡ (ltb n bound && p n)
gathered bound answered p h marks long each n =
    ⊎_elim (λ l. h n _ l (each n l) ∙ sym (ap (λ t. t && p n) (lt-ltb n bound l)))
    (λ m. get_or_past marks n false (omega (arith, long)) ∙ sym (ap (λ t. t && p n) (le-ltb n bound m)))
    (cases_lt n bound)
