use Rattle.std.proofs.Common.{◌≡◌, ◌*◌, ◌<◌, ℕ, length, take, ap, ◌∙◌, arith}
use Rattle.exr_b44.specs.Cell.{cell_of}
use Rattle.exr_b44.specs.Plane.{cells_for, cell_in}
use Rattle.exr_b44.proofs.Taken.{cell_taken, cells_more}
use Rattle.exr_b44.proofs.packing.pack_band.Goals as goal

pub loop-column-preserved : goal.loop-column-preserved
loop-column-preserved c =
    let rows = c.args.rows.now in
    let nx = c.args.nx in
    let ny = c.args.ny in
    let line = c.args.line in
    let l = c.loop-column in
    let right : l.column < cells_for nx = omega arith in
    let long : length c.take_cell.new.cell ≡ 32 = omega (arith, c.take_cell.auto.cell, c.loop-column-test.array_long) in
    let taken = cell_taken rows c.take_cell.new.cell nx ny l.column line long right c.take_cell.ensures in
    record {
      few = omega (arith, l.invariant.few, c.pack_cell-at.ensures.few);
      cells = c.pack_cell-at.ensures.cell
          ∙ cells_more (λ (n : ℕ). cell_of (cell_in nx ny rows n) c.args.flat) (take c.args.to c.args.into.now) (take l.at l.into) (cell_of _ c.args.flat) (line * cells_for nx) l.column l.invariant.cells (ap (λ halves. cell_of halves c.args.flat) taken);
    }
