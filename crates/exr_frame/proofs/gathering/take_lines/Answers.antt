use Rattle.std.proofs.Common.{arith, refl, subst, w32, pos, ◌≡◌, ◌∙◌, ◌<◌, ◌+ℤ◌, ℕ, length, to_z, of_z}
use Rattle.std.proofs.lemmas.Int.{ints}
use Rattle.exr_base.specs.Shape.{lines_bytes_of, raw_size_of, height_of}
use Rattle.exr_frame.specs.Gather.{IsGrown, raw_place, buffer_byte, IsReadLines}
use Rattle.exr_layout.specs.Place.{placements_of}
use Rattle.exr_frame.proofs.Gathered.{lines_read_begun, lines_read_more, lines_behind}
use Rattle.exr_frame.proofs.Lined.{line_room}
use Rattle.exr_frame.proofs.gathering.take_lines.Goals as goal

pub loop-line-init : goal.loop-line-init
loop-line-init c = lines_read_begun c.args.layout.now c.args.shape.now.channels.now c.args.shape.now.region c.args.plan.now.channels c.args.from.now c.args.raw.now.items

pub take_line-requires-clause-at : goal.take_line-requires-clause-at
take_line-requires-clause-at c =
    let lt : c.loop-line.line < height_of c.args.shape.now.region = subst (λ (n : ℕ). c.loop-line.line < n) c.rows_of-line-end.ensures.exact c.loop-line-test.true in
    let rows = c.requires.shape.within.rows in
    let few = rows.few in
    let y : (to_z w32 (of_z w32 (to_z w32 (of_z w32 c.args.shape.now.region.y0) +ℤ to_z w32 c.loop-line.line))) ≡ c.args.shape.now.region.y0 +ℤ pos c.loop-line.line = omega (arith, ints, rows.low, rows.high, few, lt) in
    lines_behind c.args.shape.now.channels.now c.args.shape.now.region c.loop-line.line (length c.args.raw.now.items) (length c.loop-line.raw.items) (to_z w32 (of_z w32 (to_z w32 (of_z w32 c.args.shape.now.region.y0) +ℤ to_z w32 c.loop-line.line))) y c.requires.at c.loop-line.invariant.long

pub take_line-requires-clause-small : goal.take_line-requires-clause-small
take_line-requires-clause-small c =
    let lt : c.loop-line.line < height_of c.args.shape.now.region = subst (λ (n : ℕ). c.loop-line.line < n) c.rows_of-line-end.ensures.exact c.loop-line-test.true in
    let rows = c.requires.shape.within.rows in
    let few = rows.few in
    let y : (to_z w32 (of_z w32 (to_z w32 (of_z w32 c.args.shape.now.region.y0) +ℤ to_z w32 c.loop-line.line))) ≡ c.args.shape.now.region.y0 +ℤ pos c.loop-line.line = omega (arith, ints, rows.low, rows.high, few, lt) in
    let begins : length c.loop-line.raw.items ≡ lines_bytes_of c.args.shape.now.channels.now c.args.shape.now.region c.loop-line.line = omega (arith, c.requires.at, c.loop-line.invariant.long) in
    let room = line_room c.args.shape.now.channels.now c.args.shape.now.region c.loop-line.line (length c.loop-line.raw.items) (raw_size_of c.args.shape.now.channels.now c.args.shape.now.region) (to_z w32 (of_z w32 (to_z w32 (of_z w32 c.args.shape.now.region.y0) +ℤ to_z w32 c.loop-line.line))) y lt begins refl in
    let small = c.requires.small in
    omega (arith, room, small)

pub loop-line-preserved : goal.loop-line-preserved
loop-line-preserved c =
    let lt : c.loop-line.line < height_of c.args.shape.now.region = subst (λ (n : ℕ). c.loop-line.line < n) c.rows_of-line-end.ensures.exact c.loop-line-test.true in
    let rows = c.requires.shape.within.rows in
    let few = rows.few in
    let y : (to_z w32 (of_z w32 (to_z w32 (of_z w32 c.args.shape.now.region.y0) +ℤ to_z w32 c.loop-line.line))) ≡ c.args.shape.now.region.y0 +ℤ pos c.loop-line.line = omega (arith, ints, rows.low, rows.high, few, lt) in
    lines_read_more c.args.layout.now c.args.shape.now.channels.now c.args.plan.now c.args.shape.now.region c.loop-line.line (to_z w32 (of_z w32 (to_z w32 (of_z w32 c.args.shape.now.region.y0) +ℤ to_z w32 c.loop-line.line))) c.args.from.now c.args.raw.now.items c.loop-line.raw.items c.take_line.new.raw.items c.requires.plan y c.loop-line.invariant c.in_ok-take_line.ensures

pub returns : goal.returns
returns c =
    let all : c.loop-line.line ≡ c.rows_of-line-end.result = omega arith in
    subst (λ (n : ℕ). IsGrown (IsReadLines c.args.layout.now.window (placements_of c.args.layout.now.planes) c.args.shape.now.region c.args.plan.now.channels n) (raw_place c.args.shape.now.channels.now c.args.shape.now.region) (buffer_byte c.args.layout.now.window (placements_of c.args.layout.now.planes) c.args.from.now) (lines_bytes_of c.args.shape.now.channels.now c.args.shape.now.region n) c.args.raw.now.items c.loop-line.raw.items) (all ∙ c.rows_of-line-end.ensures.exact) c.loop-line.invariant
