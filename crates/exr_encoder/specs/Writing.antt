-- Bits on their way into bytes: whole bytes are written, and fewer than eight bits wait for theirs.
use Rattle.std.specs.Prelude.{ℕ, zero, suc, Bool, List, [], ◌++◌, take}
use Rattle.exr_base.specs.Bits.{bits_of, bits_of_bytes}

-- the bits of the bytes that are written, and those that wait (own)
unfoldable pub written : ℕ → ℕ → ℕ → List ℕ → List Bool
written at have pending out = bits_of_bytes (take at out) ++ bits_of have pending

-- the same bits, so many times (own)
unfoldable pub times_bits : ℕ → List Bool → List Bool
times_bits zero bits = []
times_bits (suc n) bits = bits ++ times_bits n bits
