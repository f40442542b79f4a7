-- Numbers in the value of an attribute, low byte first; what is past its end is 0.
use Rattle.std.specs.Prelude.{◌+◌, ℕ, ℤ, List, [], ◌∷◌, slice_index}
use Rattle.std.specs.Int.{w32, from_le_bytes, cast_signed}

-- the four bytes from a place on, without a sign
abbrev pub word_of : List ℕ → ℕ → ℕ
word_of value at =
    from_le_bytes w32 (slice_index value at ∷ slice_index value (at + 1) ∷ slice_index value (at + 2) ∷ slice_index value (at + 3) ∷ [])

-- the four bytes from a place on, with one
abbrev pub int_of : List ℕ → ℕ → ℤ
int_of value at = cast_signed w32 (word_of value at)
