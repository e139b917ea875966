-- Joins, renames and hides are the published operations on what they are made of.
use Rattle.std.proofs.Common.{◌≡◌, ℕ, List, None, sym, ap, ◌∙◌}
use Rattle.composition.proofs.Hiding.{yields_hidden}
use Rattle.composition.proofs.Joining.{yields_joined}
use Rattle.composition.proofs.Renaming.{yields_renamed, renamed_back}
use Rattle.composition.proofs.Reordering.{swaps, regroups}
use Rattle.composition.proofs.Views.{projected_nothing, exchanged_nothing}
use Rattle.composition.specs.laws.Faults.{renames}
use Rattle.composition.specs.Faults.{fault_of_joined}
use Rattle.composition.specs.Views.{projected, exchanged}
use Rattle.model.specs.Meanings.{Meaning}
use Rattle.model.specs.States.{yields, nothing}
use Rattle.model.specs.declared.Round.TheVariants.{Initial, Update}
use Rattle.reactive.proofs.Operations.{joins_are, hides_are}
use Rattle.reactive.proofs.Renamed.{renames_are}
use Rattle.reactive.specs.Piles.{Composition, JoinsParts, RenamesPart, HidesPart}

-- the old values that a part sees in an initialization round are none
part_initial : (m : Meaning) (t : List ℕ) → yields m Initial (projected m.outline nothing) t ≡ yields m Initial nothing t
part_initial m t = ap (λ s. yields m Initial s t) (projected_nothing m.outline)

pub joins_parts : (l r : Meaning) → JoinsParts l r
joins_parts l r = record { sound = composition; one_after = regroups l r; one_before = λ x. regroups x l r }
  where
    composition : fault_of_joined l.outline r.outline ≡ None → Composition l r
    composition e =
        record {
          same = joins_are l r e;
          initial = λ t. (
            λ h. let p = (yields_joined l r e Initial nothing t).0 h.yielded in
                (p.0, record { yielded = sym (part_initial l (projected l.outline t)) ∙ p.1 }, record { yielded = sym (part_initial r (projected r.outline t)) ∙ p.2 }),
            λ h. record { yielded = (yields_joined l r e Initial nothing t).1 (h.0, part_initial l (projected l.outline t) ∙ h.1.yielded, part_initial r (projected r.outline t) ∙ h.2.yielded) },
          );
          successors = λ s t. (
            λ h. let p = (yields_joined l r e Update s t).0 h.yielded in (p.0, record { yielded = p.1 }, record { yielded = p.2 }),
            λ h. record { yielded = (yields_joined l r e Update s t).1 (h.0, h.1.yielded, h.2.yielded) },
          );
          swaps = swaps l r e;
        }

pub renames_part : (m : Meaning) (a b : ℕ) → RenamesPart m a b
renames_part m a b e =
    let n = renames m.outline a b e in
    let first : (t : List ℕ) → yields m Initial (exchanged a b nothing) (exchanged a b t) ≡ yields m Initial nothing (exchanged a b t) =
    λ t. ap (λ s. yields m Initial s (exchanged a b t)) (exchanged_nothing a b (m.outline_laws.names a n.old_there) n.new_name) in
    record {
      same = renames_are m a b e;
      initial = λ t full.
          let p = yields_renamed m a b e Initial nothing t full ∙ first t in
          (λ h. record { yielded = sym p ∙ h.yielded }, λ h. record { yielded = p ∙ h.yielded });
      successors = λ s t full.
          let p = yields_renamed m a b e Update s t full in
          (λ h. record { yielded = sym p ∙ h.yielded }, λ h. record { yielded = p ∙ h.yielded });
      undone = renamed_back m a b e;
    }

pub hides_part : (m : Meaning) (n : ℕ) → HidesPart m n
hides_part m n e =
    record {
      same = hides_are m n e;
      initial = λ t.
          let p = yields_hidden m n e Initial nothing t in
          (λ h. record { yielded = sym p ∙ h.yielded }, λ h. record { yielded = p ∙ h.yielded });
      successors = λ s t.
          let p = yields_hidden m n e Update s t in
          (λ h. record { yielded = sym p ∙ h.yielded }, λ h. record { yielded = p ∙ h.yielded });
    }
