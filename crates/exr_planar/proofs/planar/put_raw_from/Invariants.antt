use Rattle.std.proofs.Common.{◌≡◌}
use Rattle.exr_base.specs.Shape.{lines_bytes_of}
use Rattle.exr_planar.specs.Planar.{row_of, planar_row_of}
use Rattle.exr_planar.specs.Moving.{AreLinesMoved}
use Rattle.exr_planar.proofs.planar.put_raw_from.Given as goal

-- the rows of the lines so far
abbrev pub invariant-loop-line : goal.invariant-loop-line
invariant-loop-line g l = record {
  at : l.at ≡ lines_bytes_of l.shape.channels.now l.shape.region l.line;
  moved : AreLinesMoved (planar_row_of l.shape.channels.now l.shape.region) (row_of l.shape.channels.now l.shape.region) l.shape.channels.now l.shape.region l.line (g.S.RowSource.planar l.source) l.initial.into l.into;
}
