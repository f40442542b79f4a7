-- Tables of code lengths and the codes that belong to them. Entry k of a table is the length of code k in bits, and
-- 0 where there is no code k.
use Rattle.std.specs.Prelude.{◌≡◌, ℕ, zero, suc, ◌+◌, ◌-◌, ◌/◌, ◌^◌, ◌<◌, ◌≤◌, Bool, ◌&&◌, ◌==◌, nat_lt, nat_le, if◌then◌else◌, List, ◌++◌, length, take, slice_index, Option, Some, None, count_by}
use Rattle.std.specs.List.{sum_by}
use Rattle.exr_base.specs.Bits.{number_of, bits_of}

-- what a code of so many bits takes of 2 ^ 58 (own)
abbrev pub weight_of : ℕ → ℕ
weight_of len = if len == 0 then 0 else 2 ^ (58 - len)

-- no code is longer than 58 bits, and the codes take all of 2 ^ 58 (own)
pub record IsComplete (lengths : List ℕ) : Type 0 where
  pub short : (k : ℕ) → slice_index lengths k ≤ 58
  pub full : sum_by weight_of lengths ≡ 2 ^ 58

-- what the codes longer than so many bits take of 2 ^ 58 (own)
unfoldable pub weight_above : ℕ → List ℕ → ℕ
weight_above len lengths = sum_by (λ l. if nat_lt len l then weight_of l else 0) lengths

-- how many codes have so many bits (own)
unfoldable pub count_of : ℕ → List ℕ → ℕ
count_of len lengths = count_by (λ l. l == len) lengths

-- code k as a number: codes of one length rise by one, after the longer ones (own)
unfoldable pub code_number : List ℕ → ℕ → ℕ
code_number lengths k =
    let len = slice_index lengths k in
    weight_above len lengths / 2 ^ (58 - len) + count_of len (take k lengths)

-- code k as a list of bits (own)
unfoldable pub code_of : List ℕ → ℕ → List Bool
code_of lengths k = bits_of (slice_index lengths k) (code_number lengths k)

-- whether there is a code k and it begins the bits (own)
unfoldable pub code_begins : List ℕ → List Bool → ℕ → Bool
code_begins lengths bits k =
    let len = slice_index lengths k in
    nat_lt 0 len && nat_le len (length bits) && (number_of (take len bits) == code_number lengths k)

-- the first option that has a value
abbrev pub first_of_two : Option ℕ → Option ℕ → Option ℕ
first_of_two (Some k) other = Some k
first_of_two None other = other

-- the least number below n that passes (own)
unfoldable pub first_below : (ℕ → Bool) → ℕ → Option ℕ
first_below passes zero = None
first_below passes (suc n) = first_of_two (first_below passes n) (if passes n then Some n else None)

-- the entry whose code begins the bits (own)
unfoldable pub entry_at : List ℕ → List Bool → Option ℕ
entry_at lengths bits = first_below (code_begins lengths bits) (length lengths)

-- no code of the table begins another one (own)
abbrev pub IsPrefixFree : List ℕ → Type 0
IsPrefixFree lengths =
    (i j : ℕ) (rest : List Bool) → 0 < slice_index lengths i → 0 < slice_index lengths j → code_of lengths j ≡ code_of lengths i ++ rest → i ≡ j
