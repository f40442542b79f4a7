use Rattle.std.proofs.Common.{arith}
use Rattle.exr_layout.proofs.Matched.{matched_err, matched_ok, matched_all}
use Rattle.exr_layout.proofs.plan.slices_matched.Goals as goal

pub returns-in-Err : goal.returns-in-Err
returns-in-Err c = matched_err c.args.channels.now c.loop-placement.number c.loop-placement.placement-index c.args.placements.now c.placement-item.result c.loop-placement.places.items c.in-Err.fault c.loop-placement-test.true c.placement-item.is c.in-Err.ensures.exact c.loop-placement.invariant.rest

pub loop-placement-preserved : goal.loop-placement-preserved
loop-placement-preserved c = record {
  rest = rw c.in_ok-push-in-Ok.ensures.items (matched_ok c.args.channels.now c.loop-placement.number c.loop-placement.placement-index c.args.placements.now c.placement-item.result c.loop-placement.places.items c.in-Ok.place c.loop-placement-test.true c.placement-item.is c.in-Ok.ensures.exact c.loop-placement.invariant.rest);
  number = omega arith;
}

pub returns : goal.returns
returns c = matched_all c.args.channels.now c.loop-placement.number c.loop-placement.placement-index c.args.placements.now c.loop-placement.places.items c.loop-placement-test.false c.loop-placement.invariant.rest
