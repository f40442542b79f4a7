-- The channels of slices, turned into the slices of channels.
use Rattle.std.specs.Prelude.{◌≡◌, ◌<◌, ℕ, List, length, slice_index_or, Option, Some, None}

-- the first n slices are those of their channels
pub record AreInverse (places : List (Option ℕ)) (most : ℕ) (numbers : List (Option ℕ)) (n : ℕ) : Type 0 where
  pub count : length numbers ≡ most
  pub slices : (s c : ℕ) → s < n → slice_index_or places s None ≡ Some c → slice_index_or numbers c None ≡ Some s
  pub channels : (s c : ℕ) → slice_index_or numbers c None ≡ Some s → slice_index_or places s None ≡ Some c
