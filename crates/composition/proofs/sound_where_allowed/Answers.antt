use Rattle.composition.specs.laws.Faults.{renames, hides, joins}
use Rattle.composition.proofs.Faults.{rename_sound, hide_sound}
use Rattle.composition.proofs.Fitting.{fits, join_sound}
use Rattle.composition.proofs.sound_where_allowed.Goals as goal

pub returns : goal.returns
returns c =
    record {
      renames = λ o a b. (renames o a b, rename_sound o a b);
      hides = λ o n. (hides o n, hide_sound o n);
      joins = λ l r.
          (λ e. let h = joins l.outline r.outline e in (h.sound_left, h.sound_right, fits l r h), λ h. join_sound l.outline r.outline h.0 h.1 h.2);
    }
