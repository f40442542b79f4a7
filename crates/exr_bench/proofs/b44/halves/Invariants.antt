use Rattle.std.proofs.Common.{◌≡◌, All, length}
use Rattle.exr_base.specs.Shape.{IsSampled}
use Rattle.exr_b44.specs.Block.{IsPlain}
use Rattle.exr_bench.proofs.b44.halves.Given as goal

abbrev pub invariant-loop-k : goal.invariant-loop-k
invariant-loop-k l = record {
  count : length l.channels.items ≡ l.k;
  sampled : All IsSampled l.channels.items;
  plain : All IsPlain l.channels.items;
}
