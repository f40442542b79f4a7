use Rattle.std.proofs.Common.{arith}
use Rattle.exr_merging.proofs.Sorted.{among_clear}
use Rattle.exr_merging.proofs.leaves.entries_of.Goals as goal
use Rattle.exr_merging.proofs.leaves.entries_of.Goals.{then-not-is_clear+in_ok-add_entries, else-not-is_clear}

pub eights-preserved : goal.eights-preserved
eights-preserved c =
    let weights = c.args.weights.now in
    let from = c.eights.from in
    elim c.if-not-is_clear.branch [
      | then-not-is_clear+in_ok-add_entries w ↦ record { within = omega (arith, c.eights-test.true); known = rw w.entries-is w.in_ok-add_entries.ensures }
      | else-not-is_clear w ↦ record { within = omega (arith, c.eights-test.true); known = rw w.entries-is (among_clear 8 c.eights.entries.items weights from (omega (arith, c.eights-test.true)) (c.is_clear.ensures w.if-not-is_clear.false) c.eights.invariant.known) }
    ]
