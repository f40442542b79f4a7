use Rattle.std.proofs.Common.{arith}
use Rattle.exr_merging.proofs.Sorted.{among_more}
use Rattle.exr_merging.proofs.leaves.add_entries.Goals as goal

pub loop-entry-preserved : goal.loop-entry-preserved
loop-entry-preserved c = rw c.in_ok-add_entry.ensures (among_more c.loop-entry.entries.items c.args.weights.now c.loop-entry.entry (omega (arith, c.loop-entry-test.true, c.requires.within)) c.loop-entry.invariant)
