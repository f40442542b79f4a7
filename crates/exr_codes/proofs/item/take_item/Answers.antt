use Rattle.std.proofs.Common.{arith}
use Rattle.exr_base.proofs.BitLists.{number_of-take_below}
use Rattle.exr_codes.proofs.item.take_item.Goals as goal

pub overflow_cast-result-2 : goal.overflow_cast-result-2
overflow_cast-result-2 c = omega (arith, c.in_ok-count.ensures.value, number_of-take_below 8 c.take.new.self)

pub overflow_add-result : goal.overflow_add-result
overflow_add-result c = omega (arith, c.in_ok-count.ensures.value, number_of-take_below 8 c.take.new.self)
