use Rattle.std.proofs.Common.{rules, ap, sym, w32, ◌≡◌, ◌∙◌, to_z, of_z, true, false}
use Rattle.exr_frame.specs.Rows.{has_line}
use Rattle.exr_frame.proofs.Channelled.{slice_held, slice_found, slice_missed, spot_in_plan}
use Rattle.exr_frame.proofs.rows.slice_on_line.Goals as goal

pub has_line-requires-clause-slice : goal.has_line-requires-clause-slice
has_line-requires-clause-slice c =
    let held = slice_held c.args.plan.now c.args.c c.in-Some.number c.slice.result c.slice.ensures c.in-Some.is in
    spot_in_plan c.args.layout.now c.args.shape.now.channels.now c.args.plan.now c.args.c c.in-Some.number c.requires.plan held

pub returns-then-has_line : goal.returns-then-has_line
returns-then-has_line c =
    let held = slice_held c.args.plan.now c.args.c c.in-Some.number c.slice.result c.slice.ensures c.in-Some.is in
    let same : to_z w32 (of_z w32 c.args.y) ≡ c.args.y = search rules in
    let here : has_line c.args.layout.now c.in-Some.number c.args.y ≡ true = ap (has_line c.args.layout.now c.in-Some.number) (sym same) ∙ sym c.has_line.ensures ∙ c.if-has_line.true in
    slice_found c.args.layout.now c.args.shape.now.channels.now c.args.plan.now c.args.shape.now.region c.args.c c.in-Some.number c.args.y c.requires.plan held here c.requires.above c.requires.below

pub returns-else-has_line : goal.returns-else-has_line
returns-else-has_line c =
    let held = slice_held c.args.plan.now c.args.c c.in-Some.number c.slice.result c.slice.ensures c.in-Some.is in
    let same : to_z w32 (of_z w32 c.args.y) ≡ c.args.y = search rules in
    let none : has_line c.args.layout.now c.in-Some.number c.args.y ≡ false = ap (has_line c.args.layout.now c.in-Some.number) (sym same) ∙ sym c.has_line.ensures ∙ c.if-has_line.false in
    slice_missed c.args.layout.now c.args.plan.now c.args.c c.in-Some.number c.args.y held none
