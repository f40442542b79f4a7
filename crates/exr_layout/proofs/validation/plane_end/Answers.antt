use Rattle.std.proofs.Common.{arith, ◌∙◌, ap, List, length}
use Rattle.exr_layout.specs.declared.planes.Run.{Run}
use Rattle.exr_layout.specs.Validation.{slices_of_runs}
use Rattle.exr_layout.proofs.Counted.{plane_slices}
use Rattle.exr_layout.proofs.validation.plane_end.Goals as goal

pub overflow_sub-last : goal.overflow_sub-last
overflow_sub-last c =
    let counted = c.slice_count.ensures ∙ ap (λ (runs : List Run). length (slices_of_runs runs)) c.as_slice-runs.ensures.value in
    let some = plane_slices c.args.plane.now c.requires.filled in
    omega arith
