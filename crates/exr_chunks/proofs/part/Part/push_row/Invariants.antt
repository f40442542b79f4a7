use Rattle.std.proofs.Common.{◌≡◌, ◌≤◌, ◌+◌, ◌*◌}
use Rattle.exr_chunks.specs.Part.{header_of}
use Rattle.exr_chunks.specs.Window.{meeting_among}
use Rattle.exr_chunks.proofs.part.Part.push_row.Given as goal

-- what is known so far is all that the window meets before the next chunk
abbrev pub invariant-loop-column : goal.invariant-loop-column
invariant-loop-column l = record {
  known : l.chunks.items ≡ meeting_among (header_of l.fn.self) l.fn.window (l.fn.row * l.fn.self.across + l.column);
  within : l.column ≤ l.fn.columns.behind;
}
