-- Values marked by one byte each: 1 where the value occurs.
use Rattle.std.specs.Prelude.{◌≡◌, ℕ, ◌<◌, ◌≤◌, Bool, ◌||◌, ◌==◌, List, length, slice_index}
use Rattle.exr_piz.specs.Values.{map_byte}

-- each byte is 0 or 1
abbrev pub AreMarks : List ℕ → Type 0
AreMarks marks = (v : ℕ) → slice_index marks v ≤ 1

-- 0 and the marked values
abbrev pub is_counted : List ℕ → ℕ → Bool
is_counted marks v = (v == 0) || (slice_index marks v == 1)

-- the bytes are the first ones of the map of words, and all others of the map are zero
pub record IsMapOf (words bytes : List ℕ) : Type 0 where
  pub bytes_are : (b : ℕ) → b < length bytes → slice_index bytes b ≡ map_byte words b
  pub zeros : (b : ℕ) → length bytes ≤ b → map_byte words b ≡ 0
