-- What the tables of an encoder hold: where the codes of each length begin, and which of them each entry has.
use Rattle.std.specs.Prelude.{◌≡◌, ℕ, ◌-◌, ◌/◌, ◌^◌, ◌<◌, ◌≤◌, List, length, take, slice_index}
use Rattle.exr_codes.specs.Codes.{IsComplete, weight_above, count_of}

-- the tables of an encoder belong to a complete table (own)
pub record IsEncoder (lengths firsts ranks : List ℕ) : Type 0 where
  pub complete : IsComplete lengths
  pub firsts_size : length firsts ≡ 59
  pub ranks_size : length ranks ≡ length lengths
  pub first : (len : ℕ) → len ≤ 58 → slice_index firsts len ≡ weight_above len lengths / 2 ^ (58 - len)
  pub rank : (k : ℕ) → 0 < slice_index lengths k → slice_index ranks k ≡ count_of (slice_index lengths k) (take k lengths)
