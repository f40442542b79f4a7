use Rattle.std.proofs.Common.{◌-◌, length}
use Rattle.exr_chunks.proofs.Cycles.{AreAdded}
use Rattle.exr_chunks.proofs.raw.add_to_lines.Given as goal

-- the bytes of the lines so far are added
abbrev pub invariant-samples : goal.invariant-samples
invariant-samples l = AreAdded l.group.ys l.rows l.group.bytes l.line (length l.initial.sizes) l.initial.sizes l.sizes

abbrev pub decreases-samples : goal.decreases-samples
decreases-samples l = l.lines - l.line
