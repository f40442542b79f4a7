-- The words whose codes begin a front of 12 bits.
use Rattle.std.specs.Prelude.{◌≡◌, ℕ, ◌<◌, ◌≤◌, Bool, List, length, take, drop, slice_index_or, Some}
use Rattle.exr_base.specs.Bits.{number_of}
use Rattle.exr_huffman.specs.Tokens.{word, token_at}
use Rattle.exr_huffman.specs.declared.fronts.Front.{Front}

-- the bits begin with the front (own)
abbrev pub BeginsFront : ℕ → List Bool → Type 0
BeginsFront front bits = (12 ≤ length bits) × (number_of (take 12 bits) ≡ front)

-- what begins bits with this front: no word, one, or two, of which the first has so many bits (own)
pub record IsFront (least : ℕ) (lengths : List ℕ) (front : ℕ) (words : Front) : Type 0 where
  pub small : words.bits ≤ 12
  pub few : words.count ≤ 2
  pub some : 0 < words.count → 0 < words.bits
  pub none : words.count ≡ 0 → words.bits ≡ 0
  pub len : ℕ
  pub one : (bits : List Bool) → BeginsFront front bits → words.count ≡ 1 → token_at least lengths bits ≡ Some (word words.first, drop words.bits bits)
  pub two : (bits : List Bool) → BeginsFront front bits → words.count ≡ 2 → (token_at least lengths bits ≡ Some (word words.first, drop len bits)) × (token_at least lengths (drop len bits) ≡ Some (word words.second, drop words.bits bits))

-- the words of each front (own)
abbrev pub AreFronts : ℕ → List ℕ → List Front → Type 0
AreFronts least lengths fronts = (front : ℕ) (other : Front) → front < length fronts → IsFront least lengths front (slice_index_or fronts front other)
