use Rattle.script.proofs.Digits.{number_read}
use Rattle.script.proofs.number.number_or.Goals as goal

pub returns : goal.returns
returns c = number_read 256 c.args.mistake c.args.word.now c.small_or.result c.small_or.ensures.reads c.small_or.ensures.blames
