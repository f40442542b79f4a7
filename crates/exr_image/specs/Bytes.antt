-- An image as the bytes of a file: the counts, four bytes each, the low one first, then the samples of each channel (own).
use Rattle.std.specs.Prelude.{ℕ, List, ◌++◌}
use Rattle.std.specs.Int.{w32, to_le_bytes}
use Rattle.std.specs.List.{flat_map, concat}

abbrev pub bytes_in : List ℕ → List (List ℕ) → List ℕ
bytes_in counts planes = flat_map (to_le_bytes w32) counts ++ concat planes
