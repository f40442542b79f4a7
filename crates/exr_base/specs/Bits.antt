-- Lists of bits, the high bit first, and the numbers and bytes that they spell.
use Rattle.std.specs.Prelude.{ℕ, zero, suc, ◌+◌, ◌/◌, ◌%◌, ◌^◌, Bool, true, false, ◌==◌, List, [], ◌∷◌, ◌++◌, length, take, drop, replicate}
use Rattle.std.specs.List.{flat_map}

-- the number that a list of bits spells (own)
unfoldable pub number_of : List Bool → ℕ
number_of [] = 0
number_of (true ∷ bits) = 2 ^ length bits + number_of bits
number_of (false ∷ bits) = number_of bits

-- the n low bits of a number (own)
unfoldable pub bits_of : ℕ → ℕ → List Bool
bits_of zero number = []
bits_of (suc n) number = (number / 2 ^ n % 2 == 1) ∷ bits_of n number

-- the bits of a list of bytes (own)
unfoldable pub bits_of_bytes : List ℕ → List Bool
bits_of_bytes bytes = flat_map (bits_of 8) bytes

-- the first n bytes that a list of bits spells, followed by zero bits (own)
unfoldable pub first_bytes_of : ℕ → List Bool → List ℕ
first_bytes_of zero bits = []
first_bytes_of (suc n) bits = number_of (take 8 (bits ++ replicate 8 false)) ∷ first_bytes_of n (drop 8 bits)

-- the bytes that a list of bits spells, the last one filled with zero bits (own)
unfoldable pub bytes_of : List Bool → List ℕ
bytes_of bits = first_bytes_of ((length bits + 7) / 8) bits
