use Rattle.std.proofs.Common.{◌-◌, ◌<◌, ◌≤◌, length}
use Rattle.exr_chunks.specs.Table.{chunks_before}
use Rattle.exr_chunks.proofs.geometry.Geometry.part_at_turn.Given as goal

-- the part stands from `low` on and before `high`
abbrev pub invariant-halves : goal.invariant-halves
invariant-halves l = record {
  some : l.low < l.high;
  within : l.high ≤ length l.self;
  low : chunks_before l.self l.low ≤ l.turn;
  high : l.turn < chunks_before l.self l.high;
}

abbrev pub decreases-halves : goal.decreases-halves
decreases-halves l = l.high - l.low
