use Rattle.std.proofs.Common.{arith, ◌∙◌, drop, ◌+◌, ap, List, length}
use Rattle.std.specs.List.{position_or_len}
use Rattle.exr_layout.specs.declared.planes.Run.{Run}
use Rattle.exr_layout.specs.Validation.{has_name, slices_of_runs, slices_of_plane, slices_of}
use Rattle.exr_layout.proofs.Listed.{place_small, place_ends, place_goes_on, planes_rest, few_in_plane}
use Rattle.exr_layout.proofs.names.place_of.Goals as goal

pub place_in_runs-place-requires : goal.place_in_runs-place-requires
place_in_runs-place-requires c = few_in_plane c.args.planes.now c.loop-plane.plane-index c.plane-item.result c.as_slice-runs.result.now c.loop-plane-test.true c.plane-item.is c.as_slice-runs.ensures.value c.requires

pub overflow_add-before : goal.overflow_add-before
overflow_add-before c =
    let small = place_small (has_name c.args.name.now) (slices_of c.args.planes.now) (slices_of (drop c.loop-plane.plane-index c.args.planes.now)) (slices_of_plane c.plane-item.result) (slices_of (drop (c.loop-plane.plane-index + 1) c.args.planes.now)) c.loop-plane.before c.place_in_runs-place.result c.loop-plane.invariant (planes_rest c.args.planes.now c.loop-plane.plane-index c.plane-item.result c.loop-plane-test.true c.plane-item.is) (c.place_in_runs-place.ensures ∙ ap (λ (runs : List Run). position_or_len (has_name c.args.name.now) (slices_of_runs runs)) c.as_slice-runs.ensures.value) c.requires in
    search arith

pub slice_count-requires : goal.slice_count-requires
slice_count-requires c = few_in_plane c.args.planes.now c.loop-plane.plane-index c.plane-item.result c.as_slice-runs.result.now c.loop-plane-test.true c.plane-item.is c.as_slice-runs.ensures.value c.requires

pub returns-then-place-slice_count : goal.returns-then-place-slice_count
returns-then-place-slice_count c =
    let counted = c.slice_count.ensures ∙ ap (λ (runs : List Run). length (slices_of_runs runs)) c.as_slice-runs.ensures.value in
    place_ends (has_name c.args.name.now) (slices_of c.args.planes.now) (slices_of (drop c.loop-plane.plane-index c.args.planes.now)) (slices_of_plane c.plane-item.result) (slices_of (drop (c.loop-plane.plane-index + 1) c.args.planes.now)) c.loop-plane.before c.place_in_runs-place.result c.loop-plane.invariant (planes_rest c.args.planes.now c.loop-plane.plane-index c.plane-item.result c.loop-plane-test.true c.plane-item.is) (c.place_in_runs-place.ensures ∙ ap (λ (runs : List Run). position_or_len (has_name c.args.name.now) (slices_of_runs runs)) c.as_slice-runs.ensures.value) (omega arith)

pub loop-plane-preserved : goal.loop-plane-preserved
loop-plane-preserved c =
    let counted = c.slice_count.ensures ∙ ap (λ (runs : List Run). length (slices_of_runs runs)) c.as_slice-runs.ensures.value in
    place_goes_on (has_name c.args.name.now) (slices_of c.args.planes.now) (slices_of (drop c.loop-plane.plane-index c.args.planes.now)) (slices_of_plane c.plane-item.result) (slices_of (drop (c.loop-plane.plane-index + 1) c.args.planes.now)) c.loop-plane.before c.place_in_runs-place.result c.loop-plane.invariant (planes_rest c.args.planes.now c.loop-plane.plane-index c.plane-item.result c.loop-plane-test.true c.plane-item.is) (c.place_in_runs-place.ensures ∙ ap (λ (runs : List Run). position_or_len (has_name c.args.name.now) (slices_of_runs runs)) c.as_slice-runs.ensures.value) (omega arith)
