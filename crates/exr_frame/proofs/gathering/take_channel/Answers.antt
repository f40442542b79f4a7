use Rattle.std.proofs.Common.{rules, subst, w32, ◌≡◌, ◌*◌, ℤ, length, to_z, of_z}
use Rattle.std.proofs.lemmas.Result.{IfOk-weaker}
use Rattle.exr_base.specs.Channel.{bytes_of, channel_at}
use Rattle.exr_base.specs.Sampling.{sample_count_of}
use Rattle.exr_base.specs.Shape.{row_bytes_of}
use Rattle.exr_layout.specs.Place.{placements_of, placement_at}
use Rattle.exr_frame.specs.Gather.{IsGrown, held_byte, line_place, raw_place, buffer_byte, IsReadRow}
use Rattle.exr_frame.specs.Rows.{IsInRow, IsSliceOf, HasNoSlice}
use Rattle.exr_frame.proofs.Channelled.{channel_multiple}
use Rattle.exr_frame.proofs.Gathered.{channel_taken, channel_nothing_taken}
use Rattle.exr_frame.proofs.gathering.take_channel.Goals as goal

pub returns-in_default : goal.returns-in_default
returns-in_default c =
    let same : to_z w32 (of_z w32 c.args.y) ≡ c.args.y = search rules in
    let none : HasNoSlice c.args.layout.now c.args.plan.now c.args.c (to_z w32 (of_z w32 c.args.y)) = search rules in
    channel_nothing_taken c.args.layout.now c.args.shape.now.channels.now c.args.plan.now c.args.shape.now.region c.args.c c.args.y c.args.from.now c.args.raw.now.items c.requires.plan c.requires.full c.requires.channel c.requires.inside c.requires.above c.requires.below (subst (HasNoSlice c.args.layout.now c.args.plan.now c.args.c) same none)

pub take_row-requires-clause-line : goal.take_row-requires-clause-line
take_row-requires-clause-line c =
    let found : IsSliceOf c.args.layout.now c.args.shape.now.region c.args.plan.now c.args.c (to_z w32 (of_z w32 c.args.y)) c.in-Some.number = search rules in
    found.on_line

pub returns : goal.returns
returns c =
    let part = c.args.shape.now.channels.now in
    let found : IsSliceOf c.args.layout.now c.args.shape.now.region c.args.plan.now c.args.c (to_z w32 (of_z w32 c.args.y)) c.in-Some.number = search rules in
    let same : to_z w32 (of_z w32 c.args.y) ≡ c.args.y = search rules in
    let here = subst (λ (z : ℤ). IsSliceOf c.args.layout.now c.args.shape.now.region c.args.plan.now c.args.c z c.in-Some.number) same found in
    let multiple = channel_multiple c.args.layout.now part c.args.plan.now c.args.shape.now.region c.args.c c.in-Some.number c.args.y c.requires.plan here in
    let P = λ (z : ℤ). IsGrown (IsInRow c.args.layout.now.window (placements_of c.args.layout.now.planes) c.args.shape.now.region c.in-Some.number z) (line_place (placements_of c.args.layout.now.planes) c.args.shape.now.region (length c.args.raw.now.items)) (held_byte c.args.layout.now.window (placements_of c.args.layout.now.planes) c.args.from.now) (sample_count_of (placement_at (placements_of c.args.layout.now.planes) c.in-Some.number).sampling c.args.shape.now.region.x0 c.args.shape.now.region.x1 * bytes_of (placement_at (placements_of c.args.layout.now.planes) c.in-Some.number).kind) c.args.raw.now.items c.take_row.new.raw.items in
    IfOk-weaker c.take_row.result (λ _. P (to_z w32 (of_z w32 c.args.y)))
    (λ _. IsGrown (IsReadRow c.args.layout.now.window (placements_of c.args.layout.now.planes) c.args.shape.now.region c.args.plan.now.channels c.args.c c.args.y) (raw_place part c.args.shape.now.region) (buffer_byte c.args.layout.now.window (placements_of c.args.layout.now.planes) c.args.from.now) (row_bytes_of c.args.shape.now.region c.args.y (channel_at part c.args.c)) c.args.raw.now.items c.take_row.new.raw.items)
    (λ _ p. channel_taken c.args.layout.now part c.args.plan.now c.args.shape.now.region c.in-Some.number c.args.c c.args.y c.args.from.now c.args.raw.now.items c.take_row.new.raw.items c.requires.plan here.held multiple c.requires.at (subst P same p))
    c.take_row.ensures
