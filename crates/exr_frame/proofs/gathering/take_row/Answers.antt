use Rattle.std.proofs.Common.{rules, ◌≡◌, ◌*◌, length}
use Rattle.std.proofs.lemmas.Result.{IfOk-weaker}
use Rattle.exr_base.specs.Channel.{bytes_of}
use Rattle.exr_base.specs.Sampling.{sample_count_of}
use Rattle.exr_frame.specs.Gather.{IsGrown, strided_byte, held_byte, line_place}
use Rattle.exr_layout.specs.Place.{placements_of, placement_at}
use Rattle.exr_frame.specs.Rows.{IsInRow, IsStrip, HasNone, IsOfRow, row_place}
use Rattle.exr_frame.proofs.Gathered.{row_nothing_taken, row_taken, strip_few}
use Rattle.exr_frame.proofs.Rowed.{placed}
use Rattle.exr_frame.proofs.gathering.take_row.Goals as goal

pub returns-in_default : goal.returns-in_default
returns-in_default c =
    let none : HasNone c.args.layout.now c.args.region c.args.number c.args.y = search rules in
    row_nothing_taken c.args.layout.now c.args.region c.args.number c.args.y c.args.from.now c.args.raw.now.items c.requires.inside c.requires.region c.requires.line none

pub take_samples-requires-clause-few : goal.take_samples-requires-clause-few
take_samples-requires-clause-few c =
    let st : IsStrip c.args.layout.now c.args.region c.args.number c.args.y c.in-Some.strip = search rules in
    strip_few c.args.layout.now c.args.region c.args.number c.args.y c.in-Some.strip c.requires.region st

pub returns : goal.returns
returns c =
    let is : c.placement-placement.result.now ≡ placement_at (placements_of c.args.layout.now.planes) c.args.number = placed c.args.plan.now.placements c.args.layout.now.planes c.args.number c.placement-placement.result.now c.requires.plan c.placement-placement.ensures in
    let st : IsStrip c.args.layout.now c.args.region c.args.number c.args.y c.in-Some.strip = search rules in
    IfOk-weaker c.take_samples.result
    (λ _. IsGrown (IsOfRow c.in-Some.strip.samples (bytes_of c.placement-placement.result.now.kind)) (row_place (length c.args.raw.now.items) (bytes_of c.placement-placement.result.now.kind)) (strided_byte c.args.from.now c.in-Some.strip.at c.placement-placement.result.now.stride) (c.in-Some.strip.samples * bytes_of c.placement-placement.result.now.kind) c.args.raw.now.items c.take_samples.new.raw.items)
    (λ _. IsGrown (IsInRow c.args.layout.now.window (placements_of c.args.layout.now.planes) c.args.region c.args.number c.args.y) (line_place (placements_of c.args.layout.now.planes) c.args.region (length c.args.raw.now.items)) (held_byte c.args.layout.now.window (placements_of c.args.layout.now.planes) c.args.from.now) (sample_count_of (placement_at (placements_of c.args.layout.now.planes) c.args.number).sampling c.args.region.x0 c.args.region.x1 * bytes_of (placement_at (placements_of c.args.layout.now.planes) c.args.number).kind) c.args.raw.now.items c.take_samples.new.raw.items)
    (λ _ p. row_taken c.args.layout.now c.args.region c.args.number c.args.y c.in-Some.strip c.placement-placement.result.now c.args.from.now c.args.raw.now.items c.take_samples.new.raw.items c.requires.inside st is p)
    c.take_samples.ensures
