use Rattle.script.specs.declared.mistake.Mistake.TheVariants.{BadUnitNumber}
use Rattle.script.proofs.Digits.{number_read}
use Rattle.script.proofs.number.unit_number.Goals as goal

pub returns : goal.returns
returns c = number_read 4294967296 BadUnitNumber c.args.word.now c.digits_or.result c.digits_or.ensures.reads c.digits_or.ensures.blames
