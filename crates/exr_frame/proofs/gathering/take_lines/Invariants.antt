use Rattle.exr_base.specs.Shape.{lines_bytes_of}
use Rattle.exr_frame.specs.Gather.{IsGrown, raw_place, buffer_byte, IsReadLines}
use Rattle.exr_layout.specs.Place.{placements_of}
use Rattle.exr_frame.proofs.gathering.take_lines.Given as goal

abbrev pub invariant-loop-line : goal.invariant-loop-line
invariant-loop-line l = IsGrown (IsReadLines l.layout.window (placements_of l.layout.planes) l.shape.region l.plan.channels l.line) (raw_place l.shape.channels.now l.shape.region) (buffer_byte l.layout.window (placements_of l.layout.planes) l.from)
    (lines_bytes_of l.shape.channels.now l.shape.region l.line) l.initial.raw.items l.raw.items
