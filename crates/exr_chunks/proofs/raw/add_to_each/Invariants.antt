use Rattle.std.proofs.Common.{length}
use Rattle.exr_chunks.proofs.Dense.{AreAddedBefore}
use Rattle.exr_chunks.proofs.raw.add_to_each.Given as goal

-- the chunks before have the bytes of the group
abbrev pub invariant-loop-i : goal.invariant-loop-i
invariant-loop-i l = AreAddedBefore l.group.ys l.rows l.group.bytes l.before l.i (length l.initial.sizes) l.initial.sizes l.sizes
