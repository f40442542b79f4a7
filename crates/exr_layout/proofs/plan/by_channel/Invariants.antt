use Rattle.exr_layout.specs.Inverse.{AreInverse}
use Rattle.exr_layout.proofs.plan.by_channel.Given as goal

abbrev pub invariant-loop-number : goal.invariant-loop-number
invariant-loop-number l = AreInverse l.channels l.count l.slices.items l.number
