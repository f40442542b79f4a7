use Rattle.std.proofs.Common.{arith}
use Rattle.std.specs.Vec.{vec_capacity}
use Rattle.exr_desk.proofs.Places.{kept_new}
use Rattle.exr_desk.proofs.waiting.Waiting.new.Goals as goal

pub invariant_of-result : goal.invariant_of-result
invariant_of-result c =
    kept_new c.in_ok-free_places.field-0.items c.in_ok-with_capacity.field-0.items c.in_ok-new.field-0 c.args.turns (vec_capacity c.in_ok-with_capacity.field-0) c.requires c.in_ok-free_places.ensures c.in_ok-with_capacity.ensures.items
    c.in_ok-new.ensures (omega (arith, c.in_ok-with_capacity.ensures.capacity))
