use Rattle.std.proofs.Common.{arith, subst, w32, pos, ◌≡◌, ◌<◌, ◌+ℤ◌, ℕ, length, to_z, of_z}
use Rattle.std.proofs.lemmas.Int.{ints}
use Rattle.exr_base.specs.Shape.{height_of}
use Rattle.exr_layout.specs.Place.{placements_of}
use Rattle.exr_frame.specs.Buffer.{chunk_byte}
use Rattle.exr_frame.proofs.Lined.{line_room, lines_none, lines_begun, lines_more, lines_next}
use Rattle.exr_frame.proofs.scattering.put_lines.Goals as goal

pub loop-line-init : goal.loop-line-init
loop-line-init c = record {
  at = lines_none c.args.shape.now.channels.now c.args.shape.now.region;
  copied = lines_begun c.args.layout.now c.args.shape.now.region c.args.plan.now.channels (chunk_byte c.args.shape.now.channels.now c.args.shape.now.region c.args.raw.now (placements_of c.args.layout.now.planes) c.args.plan.now.channels) c.args.into.now;
}

pub put_line-at-requires-clause-raw : goal.put_line-at-requires-clause-raw
put_line-at-requires-clause-raw c =
    let lt : c.loop-line.line < height_of c.args.shape.now.region = subst (λ (n : ℕ). c.loop-line.line < n) c.rows_of-line-end.ensures.exact c.loop-line-test.true in
    let rows = c.requires.shape.within.rows in
    let few = rows.few in
    let y : (to_z w32 (of_z w32 (to_z w32 (of_z w32 c.args.shape.now.region.y0) +ℤ to_z w32 c.loop-line.line))) ≡ c.args.shape.now.region.y0 +ℤ pos c.loop-line.line = omega (arith, ints, rows.low, rows.high, few, lt) in
    line_room c.args.shape.now.channels.now c.args.shape.now.region c.loop-line.line c.loop-line.at (length c.args.raw.now) (to_z w32 (of_z w32 (to_z w32 (of_z w32 c.args.shape.now.region.y0) +ℤ to_z w32 c.loop-line.line))) y lt c.loop-line.invariant.at c.requires.raw

pub loop-line-preserved : goal.loop-line-preserved
loop-line-preserved c =
    let lt : c.loop-line.line < height_of c.args.shape.now.region = subst (λ (n : ℕ). c.loop-line.line < n) c.rows_of-line-end.ensures.exact c.loop-line-test.true in
    let rows = c.requires.shape.within.rows in
    let few = rows.few in
    let y : (to_z w32 (of_z w32 (to_z w32 (of_z w32 c.args.shape.now.region.y0) +ℤ to_z w32 c.loop-line.line))) ≡ c.args.shape.now.region.y0 +ℤ pos c.loop-line.line = omega (arith, ints, rows.low, rows.high, few, lt) in
    record {
      at = lines_next c.args.shape.now.channels.now c.args.shape.now.region c.loop-line.line c.loop-line.at c.put_line-at.result (to_z w32 (of_z w32 (to_z w32 (of_z w32 c.args.shape.now.region.y0) +ℤ to_z w32 c.loop-line.line))) y c.loop-line.invariant.at c.put_line-at.ensures.at;
      copied = lines_more c.args.layout.now c.args.shape.now.channels.now c.args.plan.now c.args.shape.now.region c.loop-line.line (to_z w32 (of_z w32 (to_z w32 (of_z w32 c.args.shape.now.region.y0) +ℤ to_z w32 c.loop-line.line))) (chunk_byte c.args.shape.now.channels.now c.args.shape.now.region c.args.raw.now (placements_of c.args.layout.now.planes) c.args.plan.now.channels) c.args.into.now c.loop-line.into c.put_line-at.new.into c.requires.valid c.requires.plan y c.loop-line.invariant.copied c.put_line-at.ensures.copied;
    }
