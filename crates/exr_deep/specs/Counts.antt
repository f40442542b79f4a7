-- The sample count table: an int for each pixel of a region, row by row. Along a row the counts are added up, and each
-- row begins anew. File Layout, "Deep Data Blocks"; that each row of a tile begins anew is this project's (own).
use Rattle.std.specs.Prelude.{ℕ, ◌+◌, ◌-◌, ◌*◌, ◌/◌, ◌%◌, ◌==◌, ℤ, pos, ◌-ℤ◌, int_lt, nat_abs, Bool, List, length, take, drop, map, sum, slice_range, Option, Some, None, Result, Ok, Err, if◌then◌else◌}
use Rattle.std.specs.List.{range_with_len, flat_map, position}
use Rattle.std.specs.Int.{w32, to_le_bytes, from_le_bytes, cast_signed}
use Rattle.exr_deep.specs.declared.fault.DeepFault.{DeepFault}
use Rattle.exr_deep.specs.declared.fault.DeepFault.TheVariants as fault

-- ---- from a table to counts

-- entry number n of a table
unfoldable pub entry_at : List ℕ → ℕ → ℤ
entry_at table n = cast_signed w32 (from_le_bytes w32 (take 4 (drop (4 * n) table)))

-- the entry before pixel number n in its row, where rows have so many pixels; 0 at the row's start
unfoldable pub entry_before : ℕ → List ℕ → ℕ → ℤ
entry_before width table n = if n % width == 0 then pos 0 else entry_at table (n - 1)

-- whether the entry of pixel number n is less than the one before it
unfoldable pub falls_at : ℕ → List ℕ → ℕ → Bool
falls_at width table n = int_lt (entry_at table n) (entry_before width table n)

-- the samples of pixel number n
unfoldable pub count_at : ℕ → List ℕ → ℕ → ℕ
count_at width table n = nat_abs (entry_at table n -ℤ entry_before width table n)

-- the first pixel whose entry falls
unfoldable pub first_fall_of : ℕ → List ℕ → ℕ → Option ℕ
first_fall_of width table pixels = position (falls_at width table) (range_with_len 0 pixels)

-- the samples of each of the pixels
unfoldable pub counts_of : ℕ → List ℕ → ℕ → List ℕ
counts_of width table pixels = map (count_at width table) (range_with_len 0 pixels)

abbrev pub unless_fall : Option ℕ → List ℕ → Result (List ℕ) DeepFault
unless_fall (Some pixel) counts = Err (fault.CountsFall pixel)
unless_fall None counts = Ok counts

-- the counts in a table, or its first fall
unfoldable pub counts_in : ℕ → List ℕ → ℕ → Result (List ℕ) DeepFault
counts_in width table pixels = unless_fall (first_fall_of width table pixels) (counts_of width table pixels)

-- ---- from counts to a table

-- the samples of pixel number n and of those before it in its row
unfoldable pub running_at : ℕ → List ℕ → ℕ → ℕ
running_at width counts n = sum (slice_range counts (n / width * width) (n + 1))

-- the table of counts
unfoldable pub table_of : ℕ → List ℕ → List ℕ
table_of width counts = flat_map (to_le_bytes w32) (map (running_at width counts) (range_with_len 0 (length counts)))
