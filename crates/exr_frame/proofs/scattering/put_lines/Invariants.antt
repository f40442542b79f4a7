use Rattle.std.proofs.Common.{◌≡◌}
use Rattle.exr_base.specs.Shape.{lines_bytes_of}
use Rattle.exr_layout.specs.Place.{placements_of, place_of}
use Rattle.exr_frame.specs.Buffer.{IsCopied, chunk_byte}
use Rattle.exr_frame.specs.Rows.{IsOfLines}
use Rattle.exr_frame.proofs.scattering.put_lines.Given as goal

abbrev pub invariant-loop-line : goal.invariant-loop-line
invariant-loop-line l = record {
  at : l.at ≡ lines_bytes_of l.shape.channels.now l.shape.region l.line;
  copied : IsCopied (IsOfLines l.layout.window (placements_of l.layout.planes) l.shape.region l.plan.channels l.line) (place_of l.layout.window (placements_of l.layout.planes))
      (chunk_byte l.shape.channels.now l.shape.region l.raw (placements_of l.layout.planes) l.plan.channels) l.initial.into l.into;
}
