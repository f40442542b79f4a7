use Rattle.std.proofs.Common.{arith, rules, IsTrue}
use Rattle.exr_base.specs.Boxes.{is_inside}
use Rattle.exr_base.proofs.Sides.{inside_is}
use Rattle.exr_layout.specs.Place.{placements_of}
use Rattle.exr_layout.proofs.Matched.{few_spots, few_places, all_passed, slice_channel, one_slice, matched_here, as_many}
use Rattle.exr_layout.proofs.plan.match_part.Goals as goal

pub slices_matched-requires-clause-few : goal.slices_matched-requires-clause-few
slices_matched-requires-clause-few c = rw c.as_slice.ensures.value (few_spots c.args.layout.now.planes c.planes.result.now c.in_ok-placements.placements.items c.in_ok-placements.ensures c.planes.ensures.value c.planes.ensures.frame.few)

pub by_channel-requires-clause-few : goal.by_channel-requires-clause-few
by_channel-requires-clause-few c =
    let matched = matched_here c.args.header.now.channels c.channels.result.now c.args.layout.now.planes c.planes.result.now c.in_ok-placements.placements.items c.as_slice.result.now c.in_ok-channels.channels.items c.channels.ensures c.as_slice.ensures.value c.in_ok-placements.ensures c.planes.ensures.value c.in_ok-channels.ensures in
    let count = as_many c.args.layout.now.planes in
    let few = c.planes.ensures.frame.few in
    rw c.as_slice-2.ensures.value (few_places c.args.header.now.channels (placements_of c.args.layout.now.planes) c.in_ok-channels.channels.items matched (omega arith))

pub by_channel-requires-clause-within : goal.by_channel-requires-clause-within
by_channel-requires-clause-within c =
    let matched = matched_here c.args.header.now.channels c.channels.result.now c.args.layout.now.planes c.planes.result.now c.in_ok-placements.placements.items c.as_slice.result.now c.in_ok-channels.channels.items c.channels.ensures c.as_slice.ensures.value c.in_ok-placements.ensures c.planes.ensures.value c.in_ok-channels.ensures in
    rw (c.as_slice-2.ensures.value, c.channels-2.ensures) (λ s place h. (slice_channel c.args.header.now.channels (placements_of c.args.layout.now.planes) c.in_ok-channels.channels.items s place matched h).within)

pub by_channel-requires-clause-once : goal.by_channel-requires-clause-once
by_channel-requires-clause-once c =
    let matched = matched_here c.args.header.now.channels c.channels.result.now c.args.layout.now.planes c.planes.result.now c.in_ok-placements.placements.items c.as_slice.result.now c.in_ok-channels.channels.items c.channels.ensures c.as_slice.ensures.value c.in_ok-placements.ensures c.planes.ensures.value c.in_ok-channels.ensures in
    let names = all_passed c.args.layout.now c.planes.ensures.valid in
    rw c.as_slice-2.ensures.value (λ s t place h k. one_slice c.args.header.now.channels c.args.layout.now.planes c.in_ok-channels.channels.items names.tested s t place names.names matched h k)

pub returns-clause-inside : goal.returns-clause-inside
returns-clause-inside c =
    let frame = c.planes.ensures.frame in
    let within : IsTrue (is_inside c.args.layout.now.window c.args.header.now.window) = search rules in
    inside_is c.args.header.now.window c.args.layout.now.window frame.columns frame.rows within
