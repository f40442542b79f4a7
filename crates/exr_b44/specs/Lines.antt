-- Lines of so many bytes in a slice.
use Rattle.std.specs.Prelude.{◌≡◌, ◌≢◌, ℕ, ◌+◌, ◌-◌, ◌*◌, ◌/◌, ◌%◌, ◌<◌, ◌≤◌, ◌⊎◌, min, List, slice_index}

-- a piece of so many bytes now stands in line y from a place of it on, and every other byte is as before
pub record PiecePut (piece old new : List ℕ) (wide from count y : ℕ) : Type 0 where
  pub placed : (b : ℕ) → b < count → slice_index new (y * wide + (from + b)) ≡ slice_index piece b
  pub others : (line b : ℕ) → b < wide → (line ≢ y) ⊎ ((b < from) ⊎ (from + count ≤ b)) → slice_index new (line * wide + b) ≡ slice_index old (line * wide + b)

-- the first bytes of line y of a cell now stand from a place of line y on, and every other byte is as before
pub record LinePut (cell old new : List ℕ) (wide from count y : ℕ) : Type 0 where
  pub placed : (b : ℕ) → b < count → slice_index new (y * wide + (from + b)) ≡ slice_index cell (8 * y + b)
  pub others : (line b : ℕ) → b < wide → (line ≢ y) ⊎ ((b < from) ⊎ (from + count ≤ b)) → slice_index new (line * wide + b) ≡ slice_index old (line * wide + b)

-- the same of the first lines
pub record LinesPut (cell old new : List ℕ) (wide from count lines : ℕ) : Type 0 where
  pub placed : (y b : ℕ) → y < lines → b < count → slice_index new (y * wide + (from + b)) ≡ slice_index cell (8 * y + b)
  pub others : (y b : ℕ) → b < wide → (lines ≤ y) ⊎ ((b < from) ⊎ (from + count ≤ b)) → slice_index new (y * wide + b) ≡ slice_index old (y * wide + b)

-- in lines of so many bytes, each byte is as before but for so many bytes of each line from the first on
pub record AreOthersKept (old new : List ℕ) (line first wide : ℕ) : Type 0 where
  pub kept : (y b : ℕ) → b < line → (b < first) ⊎ (first + wide ≤ b) → slice_index new (y * line + b) ≡ slice_index old (y * line + b)

-- the first rows of so many bytes of a plane now stand there, one in each line
pub record RowsPut (plane old new : List ℕ) (line first wide rows : ℕ) : Type 0 where
  pub placed : (y b : ℕ) → y < rows → b < wide → slice_index new (y * line + (first + b)) ≡ slice_index plane (y * wide + b)
  pub others : AreOthersKept old new line first wide

-- where the half at place k of a cell begins in a plane, in which the last column and the last line are repeated
abbrev pub place_in : ℕ → ℕ → ℕ → ℕ → ℕ → ℕ
place_in nx ny column line k = 2 * (min (4 * line + k / 4) (ny - 1) * nx + min (4 * column + k % 4) (nx - 1))

-- the first places of a cell are those of the plane
pub record IsCellIn (rows cell : List ℕ) (nx ny column line places : ℕ) : Type 0 where
  pub low : (k : ℕ) → k < places → slice_index cell (2 * k) ≡ slice_index rows (place_in nx ny column line k)
  pub high : (k : ℕ) → k < places → slice_index cell (2 * k + 1) ≡ slice_index rows (place_in nx ny column line k + 1)
