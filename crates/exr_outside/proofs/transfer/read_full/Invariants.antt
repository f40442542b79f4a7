use Rattle.std.proofs.Common.{◌≡◌, ◌-◌, ◌≤◌, IsTrue, length, take, drop}
use Rattle.exr_outside.specs.Source.{IsSameSource}
use Rattle.exr_outside.proofs.transfer.read_full.Given as goal

abbrev pub invariant-loop-count : goal.invariant-loop-count
invariant-loop-count g l = record {
  within : l.count ≤ length l.into;
  inside : IsTrue g.S.Source.means.tells → l.count ≤ length (g.S.Source.means.content l.fn.source) - l.pos;
  bytes : IsTrue g.S.Source.means.tells
      → take l.count l.into ≡ take l.count (drop l.pos (g.S.Source.means.content l.fn.source));
  rest : IsTrue g.S.Source.means.tells → drop l.count l.into ≡ drop l.count l.fn.into;
  same : IsSameSource g.S.Source.means l.fn.source l.source;
  later : g.S.Source.means.faults l.fn.source ≤ g.S.Source.means.faults l.source;
}

abbrev pub decreases-loop-count : goal.decreases-loop-count
decreases-loop-count g l = length l.into - l.count
