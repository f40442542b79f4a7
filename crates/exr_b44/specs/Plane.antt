-- A plane of halves, two bytes each, line by line, and its cells from left to right and top to bottom.
-- Technical Introduction, "Data Compression"; the bytes of a cell are this project's (own).
use Rattle.std.specs.Prelude.{ℕ, zero, suc, ◌+◌, ◌-◌, ◌*◌, ◌/◌, ◌%◌, min, List, map, drop, slice_index, Bool}
use Rattle.std.specs.List.{range_with_len, flat_map}
use Rattle.exr_b44.specs.Cell.{cell_of, cell_len, uncell_of, bytes_of_halves}

-- how many cells so many places take
abbrev pub cells_for : ℕ → ℕ
cells_for places = (places + 3) / 4

-- the half in column x of line y
abbrev pub half_in : List ℕ → ℕ → ℕ → ℕ → ℕ
half_in rows nx x y = slice_index rows (2 * (y * nx + x)) + 256 * slice_index rows (2 * (y * nx + x) + 1)

-- the halves of cell n; past the last column and the last line those are repeated
abbrev pub cell_in : ℕ → ℕ → List ℕ → ℕ → List ℕ
cell_in nx ny rows n =
    let column = n % cells_for nx in
    let line = n / cells_for nx in
    map (λ k. half_in rows nx (min (4 * column + k % 4) (nx - 1)) (min (4 * line + k / 4) (ny - 1))) (range_with_len 0 16)

-- the cells of a plane of ny lines of nx halves
unfoldable pub cells_of : ℕ → ℕ → Bool → List ℕ → List ℕ
cells_of nx ny flat rows = flat_map (λ n. cell_of (cell_in nx ny rows n) flat) (range_with_len 0 (cells_for nx * cells_for ny))

-- how many bytes the first n cells have
unfoldable pub cells_len : ℕ → List ℕ → ℕ
cells_len zero packed = 0
cells_len (suc n) packed = cell_len packed + cells_len n (drop (cell_len packed) packed)

-- the halves of cell n
abbrev pub cell_at : List ℕ → ℕ → List ℕ
cell_at packed n = uncell_of (drop (cells_len n packed) packed)

-- the half in column x of line y of a plane with so many halves in a line
abbrev pub half_at : ℕ → List ℕ → ℕ → ℕ → ℕ
half_at nx packed x y = slice_index (cell_at packed (y / 4 * cells_for nx + x / 4)) (y % 4 * 4 + x % 4)

-- the plane of ny lines of nx halves whose cells these are
unfoldable pub plane_of : ℕ → ℕ → List ℕ → List ℕ
plane_of nx ny packed = bytes_of_halves (map (λ n. half_at nx packed (n % nx) (n / nx)) (range_with_len 0 (nx * ny)))
