use Rattle.std.specs.List.{All}
use Rattle.exr_base.specs.Shape.{IsSampled}
use Rattle.exr_bench.proofs.piz.channels_of.Given as goal

abbrev pub invariant-channels : goal.invariant-channels
invariant-channels l = All IsSampled l.channels.items
