use Rattle.std.proofs.Common.{◌^◌, arith}
use Rattle.std.proofs.lemmas.Nat.{mul-le}
use Rattle.exr_b44.proofs.sizes.cell_count.Goals as goal

pub returns-clause-small : goal.returns-clause-small
returns-clause-small c = omega (arith, mul-le c.div_ceil-across.result c.div_ceil-down.result (2 ^ 18) (2 ^ 18) (omega arith) (omega arith))
