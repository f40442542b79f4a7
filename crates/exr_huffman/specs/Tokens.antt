-- The tokens of a block's data bits: the code of a word, or the code of the run symbol with eight bits after it. Word
-- w is entry w minus the least symbol of the table; the run symbol is the table's last entry.
use Rattle.std.specs.Prelude.{ℕ, zero, suc, ◌+◌, ◌-◌, Bool, ◌==◌, nat_lt, if◌then◌else◌, List, [], ◌∷◌, ◌++◌, length, take, drop, replicate, slice_index, Option, Some, None}
use Rattle.exr_base.specs.Bits.{number_of, bits_of}
use Rattle.exr_codes.specs.Codes.{entry_at, code_of}
use Rattle.exr_codes.specs.Tables.{◌>>=◌}

-- a word, or so many more of the word before (own)
pub data Token : Type 0 where
  word : ℕ → Token
  more : ℕ → Token

-- the entry of the run symbol (own)
abbrev pub run_entry : List ℕ → ℕ
run_entry lengths = length lengths - 1

-- the bits that spell a token (own)
abbrev pub token_bits : ℕ → List ℕ → Token → List Bool
token_bits least lengths (word w) = code_of lengths (w - least)
token_bits least lengths (more count) = code_of lengths (run_entry lengths) ++ bits_of 8 count

-- the token of an entry, with the bits after its code (own)
abbrev pub run_token : List Bool → Option (Token × List Bool)
run_token bits = if nat_lt (length bits) 8 then None else Some (more (number_of (take 8 bits)), drop 8 bits)

abbrev pub token_of : ℕ → List ℕ → ℕ → List Bool → Option (Token × List Bool)
token_of least lengths entry bits = if entry == run_entry lengths then run_token bits else Some (word (least + entry), bits)

-- the whole token that begins the bits, and the bits after it (own)
unfoldable pub token_at : ℕ → List ℕ → List Bool → Option (Token × List Bool)
token_at least lengths bits = do
  entry ← entry_at lengths bits
  token_of least lengths entry (drop (slice_index lengths entry) bits)

-- a token in front of others
abbrev pub token_and : Option (Token × List Bool) → (List Bool → List Token × List Bool) → List Bool → List Token × List Bool
token_and (Some first) others bits = (first.0 ∷ (others first.1).0, (others first.1).1)
token_and None others bits = ([], bits)

-- the whole tokens that begin the bits, at most so many, and the bits after them (own)
unfoldable pub tokens_within : ℕ → ℕ → List ℕ → List Bool → List Token × List Bool
tokens_within zero least lengths bits = ([], bits)
tokens_within (suc n) least lengths bits = token_and (token_at least lengths bits) (tokens_within n least lengths) bits

-- the longest list of whole tokens that begins the bits, and the bits after them (own)
unfoldable pub tokens_of : ℕ → List ℕ → List Bool → List Token × List Bool
tokens_of least lengths bits = tokens_within (length bits) least lengths bits

-- the words of a list of tokens, after a word (own)
unfoldable pub words_from : ℕ → List Token → List ℕ
words_from before [] = []
words_from before (word w ∷ tokens) = w ∷ words_from w tokens
words_from before (more count ∷ tokens) = replicate count before ++ words_from before tokens

-- the words of a list of tokens that does not begin with a run (own)
abbrev pub words_of : List Token → List ℕ
words_of tokens = words_from 0 tokens
