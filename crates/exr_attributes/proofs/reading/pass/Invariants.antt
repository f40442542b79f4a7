use Rattle.exr_attributes.proofs.Passes.{IsUnderWay}
use Rattle.exr_attributes.proofs.reading.pass.Given as goal

abbrev pub invariant-loop-i : goal.invariant-loop-i
invariant-loop-i l = IsUnderWay l.fn.from l.from l._i l.entries.items l.starts.items
