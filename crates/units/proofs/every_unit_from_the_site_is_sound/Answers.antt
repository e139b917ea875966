use Rattle.units.proofs.Lives.{every_unit_sound}
use Rattle.units.proofs.every_unit_from_the_site_is_sound.Goals as goal

pub returns : goal.returns
returns c = every_unit_sound
