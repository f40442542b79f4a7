use Rattle.std.proofs.Common.{◌≡◌, ◌+◌, take, ◌-ℤ◌, nat_abs}
use Rattle.std.specs.List.{sum_by}
use Rattle.exr_base.specs.Shape.{row_bytes_of, lines_bytes_of}
use Rattle.exr_layout.specs.Place.{placements_of, place_of}
use Rattle.exr_frame.specs.Buffer.{IsCopied, chunk_byte}
use Rattle.exr_frame.specs.Rows.{IsOfLine}
use Rattle.exr_frame.proofs.scattering.put_line.Given as goal

abbrev pub invariant-loop-c : goal.invariant-loop-c
invariant-loop-c l = record {
  at : l.behind ≡ lines_bytes_of l.shape.channels.now l.shape.region (nat_abs (l.y -ℤ l.shape.region.y0)) + sum_by (row_bytes_of l.shape.region l.y) (take l.c l.shape.channels.now);
  copied : IsCopied (IsOfLine l.layout.window (placements_of l.layout.planes) l.shape.region l.plan.channels l.c l.y) (place_of l.layout.window (placements_of l.layout.planes))
      (chunk_byte l.shape.channels.now l.shape.region l.raw (placements_of l.layout.planes) l.plan.channels) l.initial.into l.into;
}
