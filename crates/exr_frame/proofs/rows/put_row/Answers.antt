use Rattle.std.proofs.Common.{rules, arith, ap, ◌≡◌, ◌∙◌, ◌*◌, ◌+◌, ◌-◌, length, take, drop}
use Rattle.exr_layout.specs.Place.{placements_of, placement_at}
use Rattle.exr_frame.specs.Rows.{IsStrip, HasNone, line_byte}
use Rattle.exr_frame.proofs.Rowed.{row_nothing, placed, spot_row_put, part_between, strip_end}
use Rattle.exr_frame.proofs.rows.put_row.Goals as goal

pub returns-in_default : goal.returns-in_default
returns-in_default c =
    let none : HasNone c.args.layout.now c.args.region c.args.number c.args.y = search rules in
    row_nothing c.args.layout.now c.args.region c.args.number c.args.y (line_byte (placements_of c.args.layout.now.planes) c.args.region c.args.row.now) c.args.into.now none

pub overflow_mul-from : goal.overflow_mul-from
overflow_mul-from c =
    let is : c.placement-placement.result.now ≡ placement_at (placements_of c.args.layout.now.planes) c.args.number = placed c.args.plan.now.placements c.args.layout.now.planes c.args.number c.placement-placement.result.now c.requires.plan c.placement-placement.ensures in
    let st : IsStrip c.args.layout.now c.args.region c.args.number c.args.y c.in-Some.strip = search rules in
    let ends = strip_end c.args.layout.now c.args.region c.args.number c.args.y c.in-Some.strip c.placement-placement.result.now c.bytes-size.result (length c.args.row.now) st is c.bytes-size.ensures c.requires.row in
    omega arith

pub overflow_mul-from-2 : goal.overflow_mul-from-2
overflow_mul-from-2 c =
    let is : c.placement-placement.result.now ≡ placement_at (placements_of c.args.layout.now.planes) c.args.number = placed c.args.plan.now.placements c.args.layout.now.planes c.args.number c.placement-placement.result.now c.requires.plan c.placement-placement.ensures in
    let st : IsStrip c.args.layout.now c.args.region c.args.number c.args.y c.in-Some.strip = search rules in
    let ends = strip_end c.args.layout.now c.args.region c.args.number c.args.y c.in-Some.strip c.placement-placement.result.now c.bytes-size.result (length c.args.row.now) st is c.bytes-size.ensures c.requires.row in
    omega arith

pub slice_bounds-from-end : goal.slice_bounds-from-end
slice_bounds-from-end c =
    let is : c.placement-placement.result.now ≡ placement_at (placements_of c.args.layout.now.planes) c.args.number = placed c.args.plan.now.placements c.args.layout.now.planes c.args.number c.placement-placement.result.now c.requires.plan c.placement-placement.ensures in
    let st : IsStrip c.args.layout.now c.args.region c.args.number c.args.y c.in-Some.strip = search rules in
    let ends = strip_end c.args.layout.now c.args.region c.args.number c.args.y c.in-Some.strip c.placement-placement.result.now c.bytes-size.result (length c.args.row.now) st is c.bytes-size.ensures c.requires.row in
    search rules

pub returns : goal.returns
returns c =
    let is : c.placement-placement.result.now ≡ placement_at (placements_of c.args.layout.now.planes) c.args.number = placed c.args.plan.now.placements c.args.layout.now.planes c.args.number c.placement-placement.result.now c.requires.plan c.placement-placement.ensures in
    let st : IsStrip c.args.layout.now c.args.region c.args.number c.args.y c.in-Some.strip = search rules in
    let from = take ((c.in-Some.strip.skip + c.in-Some.strip.samples) * c.bytes-size.result - c.in-Some.strip.skip * c.bytes-size.result) (drop (c.in-Some.strip.skip * c.bytes-size.result) c.args.row.now) in
    spot_row_put c.args.layout.now c.args.region c.args.number c.args.y c.in-Some.strip c.placement-placement.result.now c.args.row.now from c.args.into.now c.put_samples.new.into c.requires.line st is
    (part_between c.in-Some.strip.skip c.in-Some.strip.samples c.bytes-size.result c.args.row.now ∙ ap (λ n. take (c.in-Some.strip.samples * n) (drop (c.in-Some.strip.skip * n) c.args.row.now)) c.bytes-size.ensures)
    c.put_samples.ensures
