-- A part in lines: the groups are those of its channels, and the last chunk is measured by itself.
use Rattle.std.proofs.Common.{◌-◌, sym, arith}
use Rattle.exr_chunks.specs.RawBytes.{IsGrouped}
use Rattle.exr_chunks.proofs.InLines.{some_chunk, begins, line_small, group_sizes, chunk_few, last_bytes, last_shape, line_exact, cycle_some}
use Rattle.exr_chunks.proofs.raw.lines_of.Goals as goal

pub groups_of-requires-clause-small : goal.groups_of-requires-clause-small
groups_of-requires-clause-small c =
    rw (c.window.ensures, c.channels-channels.ensures) (line_small c.args.header.now c.args.rows c.args.count c.requires)

pub overflow_sub-whole : goal.overflow_sub-whole
overflow_sub-whole c =
    some_chunk c.args.header.now c.args.rows c.args.count c.requires

pub cycle_of-requires-clause-few : goal.cycle_of-requires-clause-few
cycle_of-requires-clause-few c =
    let h = c.args.header.now in
    let one = some_chunk h c.args.rows c.args.count c.requires in
    let within = begins h c.args.rows c.args.count (c.args.count - 1) c.requires (omega (arith, one)) in
    let few = c.requires.picture.shape.within.rows.few in
    omega (arith, within, few)

pub cycle_of-requires-clause-small : goal.cycle_of-requires-clause-small
cycle_of-requires-clause-small c = λ i before.
    let h = c.args.header.now in
    let grouped : IsGrouped h.window h.channels c.as_slice.result.now = rw (c.as_slice.ensures.value, sym c.window.ensures, sym c.channels-channels.ensures) c.in_ok-groups.ensures in
    let here = group_sizes h c.args.rows c.args.count i c.as_slice.result.now c.requires grouped before in
    let few = chunk_few h c.args.rows c.args.count i c.requires (omega (arith, before)) in
    omega (arith, here, few)

pub raw_size-requires : goal.raw_size-requires
raw_size-requires c =
    last_shape c.args.header.now c.args.rows c.args.count c.last_region.result c.channels-channels.result.now c.requires c.channels-channels.ensures c.last_region.ensures

pub overflow_cast-result : goal.overflow_cast-result
overflow_cast-result c =
    let h = c.args.header.now in
    let last = last_bytes h c.args.rows c.args.count c.raw_size.result c.last_region.result c.channels-channels.result.now c.requires c.channels-channels.ensures c.last_region.ensures c.raw_size.ensures in
    let one = some_chunk h c.args.rows c.args.count c.requires in
    let few = chunk_few h c.args.rows c.args.count (c.args.count - 1) c.requires (omega (arith, one)) in
    omega (arith, last, few)

pub returns : goal.returns
returns c =
    let h = c.args.header.now in
    let last = last_bytes h c.args.rows c.args.count c.raw_size.result c.last_region.result c.channels-channels.result.now c.requires c.channels-channels.ensures c.last_region.ensures c.raw_size.ensures in
    let grouped : IsGrouped h.window h.channels c.as_slice.result.now = rw (c.as_slice.ensures.value, sym c.window.ensures, sym c.channels-channels.ensures) c.in_ok-groups.ensures in
    record {
      some = λ more. cycle_some h c.args.rows c.args.count c.as_slice.result.now c.in_ok-cycle.cycle.items c.requires c.in_ok-cycle.ensures more;
      exact = λ i within. line_exact h c.args.rows c.args.count c.raw_size.result i c.as_slice.result.now c.in_ok-cycle.cycle.items c.requires grouped c.in_ok-cycle.ensures last within;
    }
