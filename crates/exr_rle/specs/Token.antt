-- Bytes as a list of runs and literals, and how such a list is spelled.
use Rattle.std.specs.Prelude.{◌≡◌, ℕ, ◌-◌, ◌≤◌, List, [], ◌∷◌, length, replicate}
use Rattle.std.specs.List.{flat_map, AllByRecursion}

-- one byte a number of times, or bytes as they stand
pub data Token : Type 0 where
  repeat : (byte count : ℕ) → Token
  literal : (bytes : List ℕ) → Token

-- a token stands for 1 to 128 bytes
abbrev pub IsToken : Token → Type 0
IsToken (repeat byte count) = (1 ≤ count) × (count ≤ 128)
IsToken (literal bytes) = (1 ≤ length bytes) × (length bytes ≤ 128)

-- a count byte that, read with sign, is one less than a run's length or minus a literal's; then the byte or the bytes
abbrev pub token_spelling : Token → List ℕ
token_spelling (repeat byte count) = (count - 1) ∷ byte ∷ []
token_spelling (literal bytes) = (256 - length bytes) ∷ bytes

-- the bytes that a token stands for
abbrev pub token_bytes : Token → List ℕ
token_bytes (repeat byte count) = replicate count byte
token_bytes (literal bytes) = bytes

-- the spellings of the tokens, joined
abbrev pub spelling_of : List Token → List ℕ
spelling_of tokens = flat_map token_spelling tokens

-- the bytes of the tokens, joined
abbrev pub expansion_of : List Token → List ℕ
expansion_of tokens = flat_map token_bytes tokens

-- packed is the spelling of a list of tokens whose bytes, joined, are these
pub record IsRleSpelling (packed bytes : List ℕ) : Type 0 where
  pub tokens : List Token
  pub each : AllByRecursion IsToken tokens
  pub spelled : packed ≡ spelling_of tokens
  pub expanded : bytes ≡ expansion_of tokens
