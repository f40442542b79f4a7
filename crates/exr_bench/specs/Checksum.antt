-- The checksum that is printed.
use Rattle.std.specs.Prelude.{ℕ, ◌+◌, ◌*◌, ◌%◌, ◌^◌, List, length, slice_index, Bool, if◌then◌else◌, fold}

-- a checksum with one value more, modulo 2^64, so that the order of values counts (own)
abbrev pub with_value : ℕ → ℕ → ℕ
with_value sum value = (sum * 31 + value) % 2 ^ 64

-- a checksum with what a turn adds: one value of its result, each turn the next one, and the last turn all of them in its place
abbrev pub with_turn : ℕ → List ℕ → ℕ → Bool → ℕ
with_turn sum values turn is_last = if is_last then fold with_value sum values else with_value sum (slice_index values (turn % length values))
