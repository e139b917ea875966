-- What the exchange of two names does to a written expression.
use Rattle.std.specs.Prelude.{◌≡◌, ℕ, List}
use Rattle.language.specs.Expressions.{Number, Truth, number_bytes, truth_bytes, number_renamed, truth_renamed, Next as Coming, operator, value, name}
use Rattle.expression.specs.declared.renaming.Next.{Next}
use Rattle.expression.specs.declared.renaming.Next.TheVariants.{Operator, Constant, Name}

-- what the next byte is
abbrev pub next_of : Next → Coming
next_of Operator = operator
next_of Constant = value
next_of Name = name

-- the written form of an expression becomes that of the expression with the names exchanged
pub record NamesExchanged (a b : ℕ) (before after : List ℕ) : Type 0 where
  pub numbers : (e : Number) → before ≡ number_bytes e → after ≡ number_bytes (number_renamed a b e)
  pub truths : (p : Truth) → before ≡ truth_bytes p → after ≡ truth_bytes (truth_renamed a b p)
