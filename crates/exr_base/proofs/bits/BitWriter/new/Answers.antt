use Rattle.std.proofs.Common.{refl}
use Rattle.exr_base.specs.Bits.{bits_of, bits_of_bytes}
use Rattle.exr_base.proofs.bits.BitWriter.new.Goals as goal

pub returns : goal.returns
unfolding bits_of bits_of_bytes
returns c = rw c.new.ensures.items refl
