-- Which atoms a table's sets hold.
use Rattle.std.proofs.Common.{◌≡◌, ℕ, ◌<◌, ◌≤◌, Bool, ◌&&◌, List, Some, None, ltb, get_or, length, slice_get, ap, subst, ◌∙◌, ⊎_elim, arith}
use Rattle.std.proofs.lemmas.Bool.{and_from, lt-ltb}
use Rattle.std.proofs.lemmas.Option.{slice_get_cases}
use Rattle.model.specs.Meanings.{OutlineFacts}
use Rattle.model.specs.Sets.{AtomSet, has}
use Rattle.units.specs.Sealing.{awaits_atom}
use Rattle.sealing.specs.AwaitSets.{IsAwaitSet}
use Rattle.sealing.specs.Awaits.{has_in}
use Rattle.sealing.proofs.Through.{and_given}

-- what a table with these sets tells
abbrev awaits : List AtomSet → ℕ → ℕ → Bool
awaits sets a b = ltb a 16 && ltb b 16 && has_in (slice_get sets a) b

-- an atom whose set is right awaits directly what it awaits in the outline
pub told_by_set : (o : OutlineFacts) (sets : List AtomSet) (a b : ℕ) → a < 16 → b < 16 → length sets ≡ 16 → ((s : AtomSet) → IsAwaitSet o a (get_or sets a s)) → awaits sets a b ≡ awaits_atom o a b
told_by_set o sets a b l m long right = ⊎_elim inside outside (slice_get_cases sets a).1
  where
    inside : (s : AtomSet) × (a < length sets) × (slice_get sets a ≡ Some s) × (get_or sets a s ≡ s) → awaits sets a b ≡ awaits_atom o a b
    inside (s, k, e, same) =
        and_given (ltb a 16 && ltb b 16) _ (and_from (ltb a 16) (ltb b 16) (lt-ltb a 16 l) (lt-ltb b 16 m)) ∙ ap (λ r. has_in r b) e ∙ subst (λ r. has r b ≡ (ltb b 16 && awaits_atom o a b)) same (right s b)
        ∙ and_given (ltb b 16) _ (lt-ltb b 16 m)

    outside : (length sets ≤ a) × (slice_get sets a ≡ None) → awaits sets a b ≡ awaits_atom o a b
    outside k = absurd (omega arith)
