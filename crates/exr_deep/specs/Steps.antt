-- How far the counts of a table were read, and how far a table was written.
use Rattle.std.specs.Prelude.{◌≡◌, ◌<◌, ◌^◌, ◌-◌, ◌*◌, ◌==◌, ℕ, ℤ, pos, List, length, sum, map, true, false, slice_index, if◌then◌else◌}
use Rattle.std.specs.List.{range_with_len, flat_map}
use Rattle.std.specs.Int.{w32, to_le_bytes}
use Rattle.exr_deep.specs.Body.{DeepContent}
use Rattle.exr_deep.specs.Deep.{are_ints}
use Rattle.exr_deep.specs.Counts.{entry_at, falls_at, count_at, running_at}

-- the first n pixels have their counts, and none of their entries falls
pub record AreCounted (width : ℕ) (table : List ℕ) (n : ℕ) (counts : List ℕ) : Type 0 where
  pub rise : (k : ℕ) → k < n → falls_at width table k ≡ false
  pub counted : (k : ℕ) → k < n → slice_index counts k ≡ count_at width table k

-- the entry of this pixel falls, and none before it
pub record IsFirstFall (width : ℕ) (table : List ℕ) (pixel : ℕ) : Type 0 where
  pub rise : (k : ℕ) → k < pixel → falls_at width table k ≡ false
  pub falls : falls_at width table pixel ≡ true

-- the first n entries of the table of counts
unfoldable pub entries_of : ℕ → List ℕ → ℕ → List ℕ
entries_of width counts n = flat_map (to_le_bytes w32) (map (running_at width counts) (range_with_len 0 n))

-- the running sums of the first n pixels are ints
pub record AreInts (width : ℕ) (counts : List ℕ) (n : ℕ) : Type 0 where
  pub each : (k : ℕ) → k < n → running_at width counts k < 2 ^ 31

-- the entry before pixel number n, where the row begins at pixel number first
abbrev pub entry_before_in : ℕ → List ℕ → ℕ → ℤ
entry_before_in first table n = if n == first then pos 0 else entry_at table (n - 1)

-- the running sum before pixel number n, where the row begins at pixel number first
abbrev pub running_before_in : ℕ → ℕ → List ℕ → ℕ → ℕ
running_before_in width first counts n = if n == first then 0 else running_at width counts (n - 1)

-- content has a count for each pixel, with running sums that are ints, and samples of their size, which was said
pub record IsWhole (width pixels sample_bytes unpacked : ℕ) (content : DeepContent) : Type 0 where
  pub long : length content.counts ≡ pixels
  pub ints : are_ints width content.counts ≡ true
  pub sized : length content.samples ≡ sum content.counts * sample_bytes
  pub said : length content.samples ≡ unpacked
