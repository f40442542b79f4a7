-- Which places of a buffer a sheet owns, and which a rectangle has.
use Rattle.std.specs.Prelude.{◌≡◌, ℕ, zero, suc, ◌+◌, ◌*◌, ◌<◌, ◌≤◌, leb, ltb, ◌&&◌, ◌||◌, if◌then◌else◌, Bool, true, false, List, [], ◌∷◌, slice_index_or, take, drop}

-- whether place k is marked
abbrev pub marked : List Bool → ℕ → Bool
marked ms k = slice_index_or ms k false

-- whether place k is in the rectangle of `rows` rows of `cols` places each, of which the first begins at `from`, and each
-- other `pitch` places after the one before it
abbrev pub in_rect : ℕ → ℕ → ℕ → ℕ → ℕ → Bool
in_rect from zero cols pitch k = false
in_rect from (suc rows) cols pitch k = (leb from k && ltb k (from + cols)) || in_rect (from + pitch) rows cols pitch k

-- each place of such a rectangle is marked
abbrev pub MarksRect : List Bool → ℕ → ℕ → ℕ → ℕ → Type 0
MarksRect ms from rows cols pitch = (row col : ℕ) → row < rows → col < cols → marked ms (from + (row * pitch + col)) ≡ true

-- each row of such a rectangle ends within n places
abbrev pub RectFits : ℕ → ℕ → ℕ → ℕ → ℕ → Type 0
RectFits n from rows cols pitch = (row : ℕ) → row < rows → from + (row * pitch + cols) ≤ n

-- the marks at the places that p names; the first mark is of place k
abbrev pub marks_in : (ℕ → Bool) → ℕ → List Bool → List Bool
marks_in p k [] = []
marks_in p k (m ∷ ms) = (p k && m) ∷ marks_in p (suc k) ms

-- the marks of two sheets together
abbrev pub both_marks : List Bool → List Bool → List Bool
both_marks [] ns = ns
both_marks (m ∷ ms) [] = m ∷ ms
both_marks (m ∷ ms) (n ∷ ns) = (m || n) ∷ both_marks ms ns

module _ {X : Type 0} where
  -- the elements of two sheets together: the first's where it is marked, and else the second's
  abbrev pub both_items : List Bool → List X → List X → List X
  both_items [] xs ys = ys
  both_items (m ∷ ms) [] ys = ys
  both_items (m ∷ ms) (x ∷ xs) [] = []
  both_items (m ∷ ms) (x ∷ xs) (y ∷ ys) = (if m then x else y) ∷ both_items ms xs ys

  -- xs with ws over the elements from place `at` on
  abbrev pub overwritten : List X → ℕ → List X → List X
  overwritten [] at ws = []
  overwritten (x ∷ xs) zero [] = x ∷ xs
  overwritten (x ∷ xs) zero (w ∷ ws) = w ∷ overwritten xs zero ws
  overwritten (x ∷ xs) (suc at) ws = x ∷ overwritten xs at ws

  -- the rows of such a rectangle
  abbrev pub rows_of : List X → ℕ → ℕ → ℕ → ℕ → List (List X)
  rows_of xs from zero cols pitch = []
  rows_of xs from (suc rows) cols pitch = take cols (drop from xs) ∷ rows_of xs (from + pitch) rows cols pitch
