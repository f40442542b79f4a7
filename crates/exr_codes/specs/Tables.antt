-- How a table of code lengths is spelled in bits, six bits an item: 0 to 58 are a length, 59 to 62 are 2 to 5 entries
-- without a code, and 63 with eight bits n after it is n + 6 of them.
use Rattle.std.specs.Prelude.{ℕ, zero, suc, ◌+◌, ◌-◌, ◌^◌, Bool, ◌&&◌, ◌==◌, nat_lt, nat_le, if◌then◌else◌, List, [], ◌∷◌, ◌++◌, length, take, drop, replicate, Option, Some, None, option_and_then}
use Rattle.std.specs.List.{sum_by}
use Rattle.exr_base.specs.Bits.{number_of, bits_of_bytes}
use Rattle.exr_codes.specs.Codes.{weight_of}

infixl 10 ◌>>=◌
abbrev pub ◌>>=◌ : {A B : Type 0} → Option A → (A → Option B) → Option B
o >>= f = option_and_then f o

-- the lengths that an item stands for, and the bits after it; a long run has eight bits more (own)
abbrev pub run_at : List Bool → Option (List ℕ × List Bool)
run_at bits = if nat_lt (length bits) 8 then None else Some (replicate (number_of (take 8 bits) + 6) 0, drop 8 bits)

abbrev pub lengths_of_number : ℕ → List Bool → Option (List ℕ × List Bool)
lengths_of_number item bits =
    if nat_le item 58 then Some (item ∷ [], bits) else (if nat_le item 62 then Some (replicate (item - 57) 0, bits) else run_at bits)

-- the lengths of the first item, and the bits after it (own)
unfoldable pub item_at : List Bool → Option (List ℕ × List Bool)
item_at bits = if nat_lt (length bits) 6 then None else lengths_of_number (number_of (take 6 bits)) (drop 6 bits)

-- so many lengths, item by item and at most so many items, and the bits after them (own)
unfoldable pub lengths_within : ℕ → ℕ → List Bool → Option (List ℕ × List Bool)
lengths_within items zero bits = Some ([], bits)
lengths_within zero (suc count) bits = None
lengths_within (suc items) (suc count) bits = do
  first ← item_at bits
  others ← if nat_lt (suc count) (length first.0) then None else lengths_within items (suc count - length first.0) first.1
  Some (first.0 ++ others.0, others.1)

-- so many lengths, and the bits after their items (own)
unfoldable pub lengths_at : ℕ → List Bool → Option (List ℕ × List Bool)
lengths_at count bits = lengths_within count count bits

-- the bits only fill a byte (own)
unfoldable pub is_filling : List Bool → Bool
is_filling bits = nat_lt (length bits) 8 && (number_of bits == 0)

-- the codes take all of 2 ^ 58 (own)
unfoldable pub is_full : List ℕ → Bool
is_full lengths = sum_by weight_of lengths == 2 ^ 58

-- the complete table of so many lengths that all of the bytes spell (own)
unfoldable pub table_of : ℕ → List ℕ → Option (List ℕ)
table_of count bytes = do
  read ← lengths_at count (bits_of_bytes bytes)
  if is_filling read.1 && is_full read.0 then Some read.0 else None
