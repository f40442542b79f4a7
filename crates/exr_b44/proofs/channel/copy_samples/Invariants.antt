use Rattle.std.proofs.Common.{drop}
use Rattle.exr_b44.specs.Lines.{RowsPut}
use Rattle.exr_b44.proofs.channel.copy_samples.Given as goal

abbrev pub invariant-loop-y : goal.invariant-loop-y
invariant-loop-y l = RowsPut (drop l.from l.packed) l.initial.lines l.lines l.stripe.line l.stripe.first l.wide l.y
