use Rattle.std.proofs.Common.{◌≡◌}
use Rattle.exr_base.specs.Shape.{lines_bytes_of}
use Rattle.exr_planar.specs.Planar.{row_of, planar_row_of}
use Rattle.exr_planar.specs.Moving.{AreLinesMoved}
use Rattle.exr_planar.proofs.planar.put_planar_in.Given as goal

-- the rows of the lines so far
abbrev pub invariant-loop-line : goal.invariant-loop-line
invariant-loop-line g l = record {
  at : l.at ≡ lines_bytes_of l.shape.channels.now l.shape.region l.line;
  moved : AreLinesMoved (row_of l.shape.channels.now l.shape.region) (planar_row_of l.shape.channels.now l.shape.region) l.shape.channels.now l.shape.region l.line l.raw (g.S.RowSink.planar l.initial.sink) (g.S.RowSink.planar l.sink);
  memory : g.S.RowSink.memory l.sink ≡ g.S.RowSink.memory l.initial.sink;
}
