use Rattle.std.proofs.Common.{arith, subst, w32, pos, ◌≡◌, ◌∙◌, ◌<◌, ◌+ℤ◌, ℕ, to_z, of_z}
use Rattle.std.proofs.lemmas.Int.{ints}
use Rattle.exr_base.specs.Shape.{height_of}
use Rattle.exr_layout.specs.Place.{placements_of, place_of}
use Rattle.exr_frame.specs.Buffer.{IsCopied}
use Rattle.exr_frame.specs.Rows.{IsOfSlice, filled_byte}
use Rattle.exr_frame.proofs.Lined.{slice_more}
use Rattle.exr_frame.proofs.scattering.fill_slice.Goals as goal

pub loop-line-preserved : goal.loop-line-preserved
loop-line-preserved c =
    let lt : c.loop-line.line < height_of c.args.region = subst (λ (n : ℕ). c.loop-line.line < n) c.rows_of-line-end.ensures.exact c.loop-line-test.true in
    let rows = c.requires.region.rows in
    let few = rows.few in
    let y : (to_z w32 (of_z w32 (to_z w32 (of_z w32 c.args.region.y0) +ℤ to_z w32 c.loop-line.line))) ≡ c.args.region.y0 +ℤ pos c.loop-line.line = omega (arith, ints, rows.low, rows.high, few, lt) in
    slice_more c.args.layout.now c.args.region c.args.number c.loop-line.line (to_z w32 (of_z w32 (to_z w32 (of_z w32 c.args.region.y0) +ℤ to_z w32 c.loop-line.line))) (filled_byte (placements_of c.args.layout.now.planes)) c.args.into.now c.loop-line.into c.fill_line.new.into c.requires.valid y c.loop-line.invariant c.fill_line.ensures

pub returns : goal.returns
returns c =
    let all : c.loop-line.line ≡ c.rows_of-line-end.result = omega arith in
    subst (λ (n : ℕ). IsCopied (IsOfSlice c.args.layout.now.window (placements_of c.args.layout.now.planes) c.args.region c.args.number n) (place_of c.args.layout.now.window (placements_of c.args.layout.now.planes)) (filled_byte (placements_of c.args.layout.now.planes)) c.args.into.now c.loop-line.into) (all ∙ c.rows_of-line-end.ensures.exact) c.loop-line.invariant
