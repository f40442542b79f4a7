use Rattle.std.proofs.Common.{length, arith}
use Rattle.std.proofs.lemmas.Bool.{ltb-true}
use Rattle.exr_b44.proofs.Blocks.{is_short}
use Rattle.exr_b44.proofs.Channels.{least_le}
use Rattle.exr_b44.proofs.block.is_short.Goals as goal

pub returns : goal.returns
returns c =
    let shape = c.args.shape.now in
    let packed = c.args.packed.now in
    record { short = (λ shorter. is_short shape.channels.now shape.region packed (omega (arith, ltb-true (length packed) c.least_size.result shorter, c.least_size.ensures, least_le shape.region shape.channels.now packed))) }
