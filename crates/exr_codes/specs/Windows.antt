-- A window is a number of 64 bits whose high bits are bits of a list.
use Rattle.std.specs.Prelude.{◌≡◌, ℕ, ◌-◌, ◌/◌, ◌^◌, ◌<◌, ◌≤◌, Bool, List, length, take, slice_index}
use Rattle.exr_base.specs.Bits.{number_of}
use Rattle.exr_codes.specs.Codes.{code_number}

-- the first bits, so many or as many as there are, are the high bits of the window (own)
abbrev pub IsWindow : ℕ → List Bool → ℕ → Type 0
IsWindow count bits window =
    (n : ℕ) → n ≤ count → n ≤ length bits → number_of (take n bits) ≡ window / 2 ^ (64 - n)

-- there is a code k, it has len bits, and it begins the window (own)
pub record IsCodeAt (lengths : List ℕ) (window k len : ℕ) : Type 0 where
  pub is_there : k < length lengths
  pub has_bits : 0 < len
  pub is_len : slice_index lengths k ≡ len
  pub begins : window / 2 ^ (64 - len) ≡ code_number lengths k
