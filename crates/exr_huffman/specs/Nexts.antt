-- What one step of reading data bits finds.
use Rattle.std.specs.Prelude.{◌≡◌, ℕ, Bool, List, take, drop, Some, None}
use Rattle.exr_base.specs.Bits.{bits_of_bytes}
use Rattle.exr_huffman.specs.Tokens.{word, more, token_at}
use Rattle.exr_huffman.specs.declared.data.Next.{Next}
use Rattle.exr_huffman.specs.declared.data.Next.TheVariants.{Word, More, Cut}

-- the data bits from a place on, where there are so many of them (own)
abbrev pub data_rest : List ℕ → ℕ → ℕ → List Bool
data_rest bytes bits at = drop at (take bits (bits_of_bytes bytes))

-- the whole token that begins the bits, with the bits after it, or that none does (own)
abbrev pub IsNext : ℕ → List ℕ → List Bool → List Bool → Next → Type 0
IsNext least lengths from to (Word w) = token_at least lengths from ≡ Some (word w, to)
IsNext least lengths from to (More count) = token_at least lengths from ≡ Some (more count, to)
IsNext least lengths from to Cut = token_at least lengths from ≡ None
