-- The bits from a place on, and with zero bits after the last one.
use Rattle.std.specs.Prelude.{ℕ, Bool, false, List, ◌++◌, drop, replicate}
use Rattle.exr_base.specs.Bits.{bits_of_bytes}

-- the bits of the bytes from a place on, and 64 zero bits (own)
abbrev pub rest_at : List ℕ → ℕ → List Bool
rest_at bytes at = drop at (bits_of_bytes bytes ++ replicate 64 false)

-- the bits of the bytes from a place on (own)
abbrev pub bits_from : List ℕ → ℕ → List Bool
bits_from bytes at = drop at (bits_of_bytes bytes)
