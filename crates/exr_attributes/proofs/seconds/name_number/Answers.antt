use Rattle.std.proofs.Common.{refl}
use Rattle.exr_attributes.specs.Number.{name_number}
use Rattle.exr_attributes.proofs.seconds.name_number.Goals as goal

pub loop-digit-init : goal.loop-digit-init
unfolding name_number
loop-digit-init c = refl
