use Rattle.exr_layout.proofs.Listed.{few_in_plane, slice_found, slice_behind}
use Rattle.std.specs.Option.{option_copied}
use Rattle.exr_layout.proofs.names.slice_at.Goals as goal

pub slice_count-count-requires : goal.slice_count-count-requires
slice_count-count-requires c = few_in_plane c.args.planes.now c.loop-plane.plane-index c.plane-item.result c.as_slice-runs.result.now c.loop-plane-test.true c.plane-item.is c.as_slice-runs.ensures.value c.requires

pub returns-then-left-count : goal.returns-then-left-count
returns-then-left-count c = slice_found c.args.planes.now c.loop-plane.plane-index c.args.number c.loop-plane.left c.slice_count-count.result c.plane-item.result c.as_slice-runs.result.now (option_copied c.slice_in_runs.result) c.loop-plane-test.true c.plane-item.is c.as_slice-runs.ensures.value c.loop-plane.invariant c.slice_count-count.ensures c.if-left-count.true c.slice_in_runs.ensures

pub loop-plane-preserved : goal.loop-plane-preserved
loop-plane-preserved c = slice_behind c.args.planes.now c.loop-plane.plane-index c.args.number c.loop-plane.left c.slice_count-count.result c.plane-item.result c.as_slice-runs.result.now c.loop-plane-test.true c.plane-item.is c.as_slice-runs.ensures.value c.loop-plane.invariant c.slice_count-count.ensures c.if-left-count.false
