use Rattle.std.proofs.Common.{arith, ◌∙◌, ap, List, length}
use Rattle.std.proofs.lemmas.Result.{err_from_is_err_and}
use Rattle.exr_layout.specs.declared.planes.Run.{Run}
use Rattle.exr_layout.specs.Validation.{slices_of_runs}
use Rattle.exr_layout.proofs.Counted.{planes_more, planes_within, plane_slices_at}
use Rattle.exr_layout.proofs.Listed.{few_in_plane}
use Rattle.exr_layout.proofs.Rests.{planes_err, planes_ok, planes_all}
use Rattle.exr_layout.proofs.validation.planes_end.Goals as goal

pub plane_end-requires-clause-few : goal.plane_end-requires-clause-few
plane_end-requires-clause-few c =
    let within = planes_within c.args.planes.now c.loop-plane.plane-index c.plane-item.result c.loop-plane-test.true c.plane-item.is in
    omega arith

pub returns-in_err-ended : goal.returns-in_err-ended
returns-in_err-ended c =
    let p = err_from_is_err_and c.from_residual.result c.from_residual.ensures.1 in
    rw (p.1, p.2) (planes_err c.args.window c.args.buffer c.loop-plane.number c.loop-plane.ended c.loop-plane.plane-index c.args.planes.now c.plane-item.result c.in_err-ended.field-0.0 c.loop-plane-test.true c.plane-item.is c.in_err-ended.ensures c.loop-plane.invariant.rest)

pub slice_count-requires : goal.slice_count-requires
slice_count-requires c = few_in_plane c.args.planes.now c.loop-plane.plane-index c.plane-item.result c.as_slice.result.now c.loop-plane-test.true c.plane-item.is c.as_slice.ensures.value c.requires.few

pub overflow_cast-number : goal.overflow_cast-number
overflow_cast-number c =
    let counted = c.slice_count.ensures ∙ ap (λ (runs : List Run). length (slices_of_runs runs)) c.as_slice.ensures.value in
    let within = planes_within c.args.planes.now c.loop-plane.plane-index c.plane-item.result c.loop-plane-test.true c.plane-item.is in
    search arith

pub overflow_add-number : goal.overflow_add-number
overflow_add-number c =
    let counted = c.slice_count.ensures ∙ ap (λ (runs : List Run). length (slices_of_runs runs)) c.as_slice.ensures.value in
    let within = planes_within c.args.planes.now c.loop-plane.plane-index c.plane-item.result c.loop-plane-test.true c.plane-item.is in
    search arith

pub loop-plane-preserved : goal.loop-plane-preserved
loop-plane-preserved c =
    let counted = c.slice_count.ensures ∙ ap (λ (runs : List Run). length (slices_of_runs runs)) c.as_slice.ensures.value in
    let more = planes_more c.args.planes.now c.loop-plane.plane-index c.plane-item.result c.loop-plane-test.true c.plane-item.is in
    let some = plane_slices_at c.args.planes.now c.loop-plane.plane-index c.plane-item.result c.requires.filled c.loop-plane-test.true c.plane-item.is in
    record {
      rest = rw counted (planes_ok c.args.window c.args.buffer c.loop-plane.number c.loop-plane.ended c.loop-plane.plane-index c.in_ok-ended.ended c.args.planes.now c.plane-item.result c.loop-plane-test.true c.plane-item.is c.in_ok-ended.ensures c.loop-plane.invariant.rest);
      number = omega arith;
      begun = λ h. absurd (omega arith);
    }

pub returns : goal.returns
returns c = planes_all c.args.window c.args.buffer c.loop-plane.number c.loop-plane.ended c.loop-plane.plane-index c.args.planes.now c.loop-plane-test.false c.loop-plane.invariant.rest
