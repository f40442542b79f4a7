-- How the writer spells a table of code lengths: runs of entries without a code as long as they can be.
use Rattle.std.specs.Prelude.{◌≡◌, ℕ, zero, suc, ◌+◌, ◌-◌, Bool, ◌==◌, nat_le, if◌then◌else◌, List, [], ◌∷◌, ◌++◌, length, drop, min, Some}
use Rattle.std.specs.List.{prefix_len}
use Rattle.exr_base.specs.Bits.{bits_of, bytes_of}
use Rattle.exr_codes.specs.Tables.{table_of}

-- so many entries without a code (own)
unfoldable pub zeros_bits : ℕ → List Bool
zeros_bits count =
    if count == 1 then bits_of 6 0 else (if nat_le count 5 then bits_of 6 (57 + count) else bits_of 6 63 ++ bits_of 8 (count - 6))

-- how many entries without a code stand in front, at most 261 (own)
unfoldable pub zeros_at : List ℕ → ℕ
zeros_at lengths = min 261 (prefix_len (λ len. len == 0) lengths)

-- the bits of a table, at most so many items (own)
unfoldable pub table_bits_within : ℕ → List ℕ → List Bool
table_bits_within zero lengths = []
table_bits_within (suc n) [] = []
table_bits_within (suc n) (zero ∷ lengths) = zeros_bits (zeros_at (zero ∷ lengths)) ++ table_bits_within n (drop (zeros_at (zero ∷ lengths)) (zero ∷ lengths))
table_bits_within (suc n) (suc len ∷ lengths) = bits_of 6 (suc len) ++ table_bits_within n lengths

-- the bits of a table (own)
unfoldable pub table_bits : List ℕ → List Bool
table_bits lengths = table_bits_within (length lengths) lengths

-- what is written is read again (own)
abbrev pub IsReadAgain : List ℕ → Type 0
IsReadAgain lengths = table_of (length lengths) (bytes_of (table_bits lengths)) ≡ Some lengths
