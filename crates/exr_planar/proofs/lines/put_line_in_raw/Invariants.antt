use Rattle.std.proofs.Common.{◌≡◌, ◌+◌, pos, ◌+ℤ◌, take}
use Rattle.std.specs.List.{sum_by}
use Rattle.exr_base.specs.Shape.{row_bytes_of, lines_bytes_of}
use Rattle.exr_planar.specs.Planar.{row_of, planar_row_of, plane_place_of}
use Rattle.exr_planar.specs.Moving.{AreMoved}
use Rattle.exr_planar.proofs.lines.put_line_in_raw.Given as goal

-- the rows of the channels so far
abbrev pub invariant-loop-channel : goal.invariant-loop-channel
invariant-loop-channel g l = record {
  at : l.at ≡ lines_bytes_of l.shape.channels.now l.shape.region l.line + sum_by (row_bytes_of l.shape.region (l.shape.region.y0 +ℤ pos l.line)) (take l.channel-index l.shape.channels.now);
  plane : l.plane ≡ plane_place_of l.shape.channels.now l.shape.region l.channel-index;
  moved : AreMoved (planar_row_of l.shape.channels.now l.shape.region) (row_of l.shape.channels.now l.shape.region) l.shape.channels.now l.shape.region l.line l.channel-index (g.S.RowSource.planar l.source) l.initial.into l.into;
}
