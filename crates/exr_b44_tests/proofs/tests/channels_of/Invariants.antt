use Rattle.std.proofs.Common.{◌≡◌, length}
use Rattle.std.specs.List.{All}
use Rattle.exr_base.specs.Shape.{IsSampled}
use Rattle.exr_b44.specs.Block.{IsPlain}
use Rattle.exr_b44_tests.proofs.tests.channels_of.Given as goal

abbrev pub invariant-loop-kind : goal.invariant-loop-kind
invariant-loop-kind l = record { count : length l.channels.items ≡ l.kind-index; sampled : All IsSampled l.channels.items; plain : All IsPlain l.channels.items }
