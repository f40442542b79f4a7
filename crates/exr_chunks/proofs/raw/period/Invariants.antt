use Rattle.std.proofs.Common.{◌≤◌, ◌<◌, take}
use Rattle.exr_chunks.specs.RawBytes.{IsPeriod}
use Rattle.exr_chunks.proofs.raw.period.Given as goal

-- the samples of the groups so far come again
abbrev pub invariant-loop-group : goal.invariant-loop-group
invariant-loop-group l = record {
  some : 1 ≤ l.period;
  within : l.period ≤ l.most;
  again : l.period < l.most → IsPeriod (take l.group-index l.groups) l.rows l.period;
}
