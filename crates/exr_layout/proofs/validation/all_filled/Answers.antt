use Rattle.std.proofs.Common.{arith, ◌∙◌, sym}
use Rattle.exr_layout.specs.Validation.{is_empty_plane}
use Rattle.exr_layout.proofs.Counted.{few_before, few_planes, none_at}
use Rattle.exr_layout.proofs.validation.all_filled.Goals as goal

pub overflow_cast-result : goal.overflow_cast-result
overflow_cast-result c =
    let few = few_before c.args.planes.now c.in-Some.plane (sym c.first_empty.ensures ∙ c.in-Some.is) in
    search arith

pub returns-in-None-clause-filled : goal.returns-in-None-clause-filled
returns-in-None-clause-filled c = none_at is_empty_plane c.args.planes.now (sym c.first_empty.ensures ∙ c.in-None.is)

pub returns-in-None-clause-few : goal.returns-in-None-clause-few
returns-in-None-clause-few c =
    let few = few_planes c.args.planes.now (sym c.first_empty.ensures ∙ c.in-None.is) in
    omega arith
