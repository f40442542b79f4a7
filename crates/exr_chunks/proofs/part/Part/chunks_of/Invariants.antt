use Rattle.std.proofs.Common.{◌≡◌, ◌*◌}
use Rattle.exr_chunks.specs.Part.{header_of}
use Rattle.exr_chunks.specs.Window.{meeting_among}
use Rattle.exr_chunks.proofs.part.Part.chunks_of.Given as goal

-- what is known so far is all that the window meets above the next row
abbrev pub invariant-loop-row : goal.invariant-loop-row
invariant-loop-row l = l.chunks.items ≡ meeting_among (header_of l.fn.self) l.fn.window (l.row * l.fn.self.across)
