use Rattle.theory.proofs.Runs.{certificate_sound}
use Rattle.theory.proofs.certificates_are_sound.Goals as goal

pub returns : goal.returns
returns c = λ initial good step xs t. certificate_sound
