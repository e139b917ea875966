-- Drawings of the bytes that a source stands for.
use Rattle.std.proofs.Common.{◌≡◌, ℕ, List, Ok, vec_items, Vec, subst}
use Rattle.std.specs.declared.alloc.Global.{Global}
use Rattle.script.specs.Sources.{Loads}
use Rattle.script.specs.declared.source.ByteSource.{ByteSource}
use Rattle.script.specs.declared.source.ByteSource.TheVariants.{Given, File}
use Rattle.model.specs.Meanings.{Meaning}
use Rattle.script.specs.Sessions.{DrawnFrom}
use Rattle.script.specs.Bindings.{meaning_of}
use Rattle.script.specs.declared.binding.Bound.TheVariants.{Drawing}
use Rattle.any_drawing.specs.Piles.{Pile}

pub by_source : (describes : List ℕ → Meaning → Type 0) (source : ByteSource) (bytes : Vec ℕ Global) (d : Pile) →
    Loads source (Ok bytes) → describes (vec_items bytes) (meaning_of d) → DrawnFrom describes source (Drawing d)
by_source describes (Given given) bytes d loads means = let same : bytes ≡ given = cc in subst (λ (b : Vec ℕ Global). describes (vec_items b) (meaning_of d)) same means
by_source describes (File path) bytes d loads means = (vec_items bytes, means)
