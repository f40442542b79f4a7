-- The write order of the chunks of a file: part by part (own), in a part by its line order. File Layout,
-- "Predefined Attribute Types" (lineOrder); Technical Introduction, "Scan Line Order".
use Rattle.std.specs.Prelude.{ℕ, ◌+◌, ◌-◌, ◌*◌, ◌/◌, ◌%◌, Bool, true, false, List, [], ◌∷◌, ◌++◌, map, reverse, if◌then◌else◌}
use Rattle.std.specs.List.{flat_map, range_with_len}
use Rattle.exr_chunks.specs.Heads.{Header, LineOrder, Increasing, Decreasing, Random}
use Rattle.exr_chunks.specs.Region.{across_of, down_of}

-- whether the lines of a part are written in decreasing order. Chunks in random order are written by index.
abbrev pub is_falling : LineOrder → Bool
is_falling Increasing = false
is_falling Decreasing = true
is_falling Random = false

-- the numbers below n, increasing
abbrev pub numbers_below : ℕ → List ℕ
numbers_below n = range_with_len 0 n

-- the rows of chunks in the order of the lines
abbrev pub rows_in_order : Bool → ℕ → List ℕ
rows_in_order falling down = if falling then reverse (numbers_below down) else numbers_below down

-- the chunks of a row, from left to right
abbrev pub row_chunks : ℕ → ℕ → List ℕ
row_chunks across row = map (λ column. row * across + column) (numbers_below across)

-- the chunks of a part, row by row
abbrev pub part_order : Header → List ℕ
part_order h = flat_map (row_chunks (across_of h)) (rows_in_order (is_falling h.order) (down_of h))

-- the chunks of all parts, each with the number of its part, the first of which is given
unfoldable pub turns_from : ℕ → List Header → List (ℕ × ℕ)
turns_from part [] = []
turns_from part (h ∷ hs) = map (λ i. (part, i)) (part_order h) ++ turns_from (part + 1) hs

abbrev pub turns_of : List Header → List (ℕ × ℕ)
turns_of parts = turns_from 0 parts

-- the position of a chunk in the write order of its part, and the chunk at a position, by a closed formula: where lines
-- decrease, rows change places from the ends
abbrev pub mirrored : Bool → ℕ → ℕ → ℕ → ℕ
mirrored true across down k = (down - 1 - k / across) * across + k % across
mirrored false across down k = k
