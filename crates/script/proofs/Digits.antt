-- What `parse` reads, as the number that is to be read.
use Rattle.std.proofs.Common.{◌≡◌, ℕ, Bool, true, false, cond, List, Ok, Err, Result, refl, ap, rules, tests, IfErr}
use Rattle.std.specs.Result.{OkIff}
use Rattle.std.specs.Str.Parse.{digits_value}
use Rattle.script.specs.Numbers.{Numeral, is_numeral, number_in}
use Rattle.script.specs.declared.mistake.Mistake.{Mistake}

module _ (limit : ℕ) (m : Mistake) (w : List ℕ) where
  test_of : Numeral limit w → is_numeral limit w ≡ true
  test_of n = search (rules, tests)

  of_test : is_numeral limit w ≡ true → Numeral limit w
  of_test e = search (rules, tests)

  by_test : (b : Bool) (r : Result ℕ Mistake) → is_numeral limit w ≡ b → OkIff r (Numeral limit w) (digits_value 10 w) → IfErr r (λ e. e ≡ m) → r ≡ cond b (Ok (digits_value 10 w)) (Err m)
  by_test true (Ok x) is reads blames = ap Ok reads.1
  by_test true (Err e) is reads blames = absurd (reads (of_test is))
  by_test false (Ok x) is reads blames = let t = test_of reads.0 in absurd cc
  by_test false (Err e) is reads blames = ap Err blames

  -- what is read just where the word is a numeral, and else blamed, is the number in it
  pub number_read : (r : Result ℕ Mistake) → OkIff r (Numeral limit w) (digits_value 10 w) → IfErr r (λ e. e ≡ m) → r ≡ number_in limit m w
  number_read r reads blames = by_test (is_numeral limit w) r refl reads blames
