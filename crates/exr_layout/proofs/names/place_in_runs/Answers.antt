use Rattle.std.proofs.Common.{arith, ◌∙◌, drop, ◌+◌, ap}
use Rattle.std.specs.List.{position_or_len}
use Rattle.exr_layout.specs.Validation.{has_name, slices_of_runs}
use Rattle.exr_layout.proofs.Listed.{place_small, place_ends, place_goes_on, runs_rest}
use Rattle.exr_layout.proofs.names.place_in_runs.Goals as goal

pub overflow_add-before : goal.overflow_add-before
overflow_add-before c =
    let small = place_small (has_name c.args.name.now) (slices_of_runs c.args.runs.now) (slices_of_runs (drop c.loop-run.run-index c.args.runs.now)) c.run-item.result.slices.items (slices_of_runs (drop (c.loop-run.run-index + 1) c.args.runs.now)) c.loop-run.before c.place_in_slices-place.result c.loop-run.invariant (runs_rest c.args.runs.now c.loop-run.run-index c.run-item.result c.loop-run-test.true c.run-item.is) (c.place_in_slices-place.ensures ∙ ap (position_or_len (has_name c.args.name.now)) c.as_slice.ensures.value) c.requires in
    search arith

pub returns-then-place-len : goal.returns-then-place-len
returns-then-place-len c =
    place_ends (has_name c.args.name.now) (slices_of_runs c.args.runs.now) (slices_of_runs (drop c.loop-run.run-index c.args.runs.now)) c.run-item.result.slices.items (slices_of_runs (drop (c.loop-run.run-index + 1) c.args.runs.now)) c.loop-run.before c.place_in_slices-place.result c.loop-run.invariant (runs_rest c.args.runs.now c.loop-run.run-index c.run-item.result c.loop-run-test.true c.run-item.is) (c.place_in_slices-place.ensures ∙ ap (position_or_len (has_name c.args.name.now)) c.as_slice.ensures.value) (search arith)

pub loop-run-preserved : goal.loop-run-preserved
loop-run-preserved c =
    place_goes_on (has_name c.args.name.now) (slices_of_runs c.args.runs.now) (slices_of_runs (drop c.loop-run.run-index c.args.runs.now)) c.run-item.result.slices.items (slices_of_runs (drop (c.loop-run.run-index + 1) c.args.runs.now)) c.loop-run.before c.place_in_slices-place.result c.loop-run.invariant (runs_rest c.args.runs.now c.loop-run.run-index c.run-item.result c.loop-run-test.true c.run-item.is) (c.place_in_slices-place.ensures ∙ ap (position_or_len (has_name c.args.name.now)) c.as_slice.ensures.value) (search arith)
