-- The numbers that stand for kinds of variables.
use Rattle.std.specs.Prelude.{◌≡◌, ℕ, ◌<◌, List, ◌++◌, codes, decimal, Result, MatchResult}
use Rattle.model.specs.declared.Kind.{Kind}
use Rattle.model.specs.declared.Kind.TheVariants.{Private, Interface, External}
use Rattle.model.specs.declared.kinds.UnknownKind.{UnknownKind}

abbrev pub kind_number : Kind → ℕ
kind_number Private = 0
kind_number Interface = 1
kind_number External = 2

-- the words for kinds
abbrev pub kind_word : Kind → List ℕ
kind_word Private = codes "private"
kind_word Interface = codes "interface"
kind_word External = codes "external"

abbrev pub unknown_kind_text : UnknownKind → List ℕ
unknown_kind_text unknown = codes "no kind of variable has the number " ++ decimal unknown.0

-- the result is the kind with this number, or an error with a number that no kind has
abbrev pub Decodes : ℕ → Result Kind UnknownKind → Type 0
Decodes number r = MatchResult r (λ kind. kind_number kind ≡ number) (λ e. (e.0 ≡ number) × (2 < number))
