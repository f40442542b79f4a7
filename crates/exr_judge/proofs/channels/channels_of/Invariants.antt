use Rattle.std.proofs.Common.{◌≡◌, ◌-◌, length, All}
use Rattle.exr_base.specs.Shape.{IsSampled}
use Rattle.exr_judge.specs.Channels.{channels_from, channels_of}
use Rattle.exr_judge.proofs.channels.channels_of.Given as goal

abbrev pub invariant-loop-i : goal.invariant-loop-i
invariant-loop-i l = record {
  sampled : All IsSampled l.all.items;
  so_far : channels_from (length l.value - l._i) l.all.items l.rest ≡ channels_of l.value;
}
