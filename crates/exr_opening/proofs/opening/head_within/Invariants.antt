use Rattle.std.proofs.Common.{◌≡◌, ◌-◌, ◌<◌, ◌≤◌, IsTrue, length, take}
use Rattle.exr_outside.specs.Source.{IsSameSource}
use Rattle.exr_opening.proofs.opening.head_within.Given as goal

-- the bytes so far are the front of the content, and fewer than are wanted now
abbrev pub invariant-grow : goal.invariant-grow
invariant-grow g l = record {
  front : IsTrue g.S.Source.means.tells → l.bytes.items ≡ take (length l.bytes.items) (g.S.Source.means.content l.initial.source);
  fewer : length l.bytes.items ≤ l.wanted;
  wanted : l.wanted ≤ l.most;
  some : l.wanted < l.most → 1 ≤ l.wanted;
  same : IsSameSource g.S.Source.means l.initial.source l.source;
  later : g.S.Source.means.faults l.initial.source ≤ g.S.Source.means.faults l.source;
}

-- what is left to be read
abbrev pub decreases-grow : goal.decreases-grow
decreases-grow g l = l.most - l.wanted
