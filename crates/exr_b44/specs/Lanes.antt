-- Bytes as words of 16 bits, low byte first.
use Rattle.std.specs.Prelude.{ℕ, ◌+◌, ◌-◌, ◌*◌, ◌%◌, ◌<◌, List, [], ◌∷◌, map, slice_index}
use Rattle.exr_b44.specs.Cell.{pairs}

abbrev pub words_of : List ℕ → List ℕ
words_of (a ∷ b ∷ rest) = (a + 256 * b) ∷ words_of rest
words_of _ = []

-- the lanes of two vectors that hold a cell column by column, in the order of its places
unfoldable pub turned : List ℕ → List ℕ
turned lanes = map (slice_index lanes) (0 ∷ 4 ∷ 8 ∷ 12 ∷ 1 ∷ 5 ∷ 9 ∷ 13 ∷ 2 ∷ 6 ∷ 10 ∷ 14 ∷ 3 ∷ 7 ∷ 11 ∷ 15 ∷ [])

-- a difference as a word of 16 bits that wraps
abbrev pub wrapped : List ℕ → ℕ × ℕ → ℕ
wrapped depths pair = ((slice_index depths pair.0 + 32) % 65536 + (65536 - slice_index depths pair.1)) % 65536

-- the differences so, with that of the first place and itself before them
unfoldable pub wrapped_of : List ℕ → List ℕ
wrapped_of depths = map (wrapped depths) ((0, 0) ∷ pairs)

-- each number is below a bound
pub record AreSmall (bound : ℕ) (numbers : List ℕ) : Type 0 where
  pub each : (k : ℕ) → slice_index numbers k < bound
