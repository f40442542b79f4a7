-- Sixteen bytes in one vector.
use Rattle.std.specs.Prelude.{◌≡◌, ℕ, ◌+◌, ◌-◌, ◌%◌, ◌<◌, List, length, slice_index, nat_lt, if◌then◌else◌}

-- each lane gained the one so many lanes before it, modulo 256
pub record AddsEarlier (lanes : ℕ) (old new : List ℕ) : Type 0 where
  pub long : length new ≡ 16
  pub each : (k : ℕ) → k < 16 → slice_index new k ≡ (slice_index old k + (if nat_lt k lanes then 0 else slice_index old (k - lanes))) % 256
