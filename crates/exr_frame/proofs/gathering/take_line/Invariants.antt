use Rattle.std.proofs.Common.{take}
use Rattle.std.specs.List.{sum_by}
use Rattle.exr_base.specs.Shape.{row_bytes_of}
use Rattle.exr_frame.specs.Gather.{IsGrown, raw_place, buffer_byte, IsReadLine}
use Rattle.exr_layout.specs.Place.{placements_of}
use Rattle.exr_frame.proofs.gathering.take_line.Given as goal

abbrev pub invariant-loop-c : goal.invariant-loop-c
invariant-loop-c l = IsGrown (IsReadLine l.layout.window (placements_of l.layout.planes) l.shape.region l.plan.channels l.c l.y) (raw_place l.shape.channels.now l.shape.region) (buffer_byte l.layout.window (placements_of l.layout.planes) l.from)
    (sum_by (row_bytes_of l.shape.region l.y) (take l.c l.shape.channels.now)) l.initial.raw.items l.raw.items
