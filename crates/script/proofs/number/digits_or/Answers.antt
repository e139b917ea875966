use Rattle.std.proofs.Common.{◌≡◌, true, get_or, refl, rules}
use Rattle.std.proofs.lemmas.Str.Parse.{IsNumeralModel, numerals_by_value, tells_all_ascii_digits, not_in_digits, parse_plain}
use Rattle.std.specs.Str.Parse.{digits_value}
use Rattle.std.specs.Str.{all_ascii_digits}
use Rattle.script.proofs.number.digits_or.Goals as goal

own : IsNumeralModel (λ ds. all_ascii_digits ds ≡ true) (digits_value 10)
own = numerals_by_value _ tells_all_ascii_digits

pub returns-then-starts_with : goal.returns-then-starts_with
returns-then-starts_with c =
    let plus : get_or c.args.word.now 0 0 ≡ 43 = search rules in
    record {
      reads = λ h. not_in_digits own c.args.word.now 43 h.0 (search rules) 0 h.1 plus;
      blames = refl;
    }

pub returns-clause-reads : goal.returns-clause-reads
returns-clause-reads c =
    let plain : get_or c.args.word.now 0 0 ≡ 43 → ⊥ = search rules in
    let read = parse_plain own 32 c.args.word.now _ c.parse.ensures.value.0 plain in
    search rules
