use Rattle.std.proofs.Common.{rules, ◌≡◌}
use Rattle.exr_layout.specs.Place.{placements_of, placement_at}
use Rattle.exr_frame.specs.Rows.{IsStrip, HasNone, filled_byte}
use Rattle.exr_frame.proofs.Rowed.{row_nothing, placed, spot_fill_put}
use Rattle.exr_frame.proofs.rows.fill_row.Goals as goal

pub returns-in_default : goal.returns-in_default
returns-in_default c =
    let none : HasNone c.args.layout.now c.args.region c.args.number c.args.y = search rules in
    row_nothing c.args.layout.now c.args.region c.args.number c.args.y (filled_byte (placements_of c.args.layout.now.planes)) c.args.into.now none

pub returns : goal.returns
returns c =
    let is : c.placement-placement.result.now ≡ placement_at (placements_of c.args.layout.now.planes) c.args.number = placed c.args.plan.now.placements c.args.layout.now.planes c.args.number c.placement-placement.result.now c.requires.plan c.placement-placement.ensures in
    let st : IsStrip c.args.layout.now c.args.region c.args.number c.args.y c.in-Some.strip = search rules in
    spot_fill_put c.args.layout.now c.args.region c.args.number c.args.y c.in-Some.strip c.placement-placement.result.now c.args.into.now c.fill_samples.new.into c.requires.line st is c.fill_samples.ensures
