-- What data bits hold, by tokens whose bits are joined: no bit is read from left to right here.
use Rattle.std.specs.Prelude.{◌≡◌, ℕ, ◌-◌, ◌<◌, ◌≤◌, ◌⊎◌, Bool, List, [], ◌++◌, length, slice_index, Result, Ok, Err}
use Rattle.std.specs.List.{flat_map, AllByRecursion}
use Rattle.exr_codes.specs.Codes.{code_of}
use Rattle.exr_huffman.specs.Tokens.{Token, word, more, run_entry, token_bits, words_of}
use Rattle.exr_huffman.specs.Blocks.{Data, data_of}
use Rattle.exr_huffman.specs.declared.fault.HufFault.{HufFault}
use Rattle.exr_huffman.specs.declared.fault.HufFault.TheVariants.{Short, BadRange, BadTable, RunFirst, TooMany, TooFew}

-- the table has a code for the token, and the count of a run has eight bits (own)
abbrev pub IsToken : ℕ → List ℕ → Token → Type 0
IsToken least lengths (word w) = (least ≤ w) × (w - least < run_entry lengths) × (0 < slice_index lengths (w - least))
IsToken least lengths (more count) = (count < 256) × (0 < slice_index lengths (run_entry lengths))

abbrev pub AreTokens : ℕ → List ℕ → List Token → Type 0
AreTokens least lengths tokens = AllByRecursion (IsToken least lengths) tokens

-- the bits of the tokens, joined (own)
abbrev pub tokens_bits : ℕ → List ℕ → List Token → List Bool
tokens_bits least lengths tokens = flat_map (token_bits least lengths) tokens

-- the data bits begin with the joined bits of the tokens, and these are left over (own)
pub record BeginsWith (d : Data) (tokens : List Token) (left : List Bool) : Type 0 where
  pub each : AreTokens d.least d.lengths tokens
  pub joined : d.bits ≡ tokens_bits d.least d.lengths tokens ++ left

-- the data bits begin with the code of the run symbol (own)
pub record BeginsWithRun (d : Data) : Type 0 where
  pub coded : 0 < slice_index d.lengths (run_entry d.lengths)
  pub left : List Bool
  pub joined : d.bits ≡ code_of d.lengths (run_entry d.lengths) ++ left

-- the words are those of tokens whose joined bits are the data bits, as many as are wanted, and no shorter list that
-- begins the tokens gives so many (own)
pub record AreWords (d : Data) (wanted : ℕ) (words : List ℕ) : Type 0 where
  pub tokens : List Token
  pub spelled : BeginsWith d tokens []
  pub given : words ≡ words_of tokens
  pub counted : length words ≡ wanted
  pub no_shorter : (front behind : List Token) → tokens ≡ front ++ behind → 0 < length behind → length (words_of front) < wanted

-- tokens that the data bits begin with give more words than are wanted, or just as many and leave bits over (own)
pub record HasTooMany (d : Data) (wanted : ℕ) : Type 0 where
  pub tokens : List Token
  pub left : List Bool
  pub begun : BeginsWith d tokens left
  pub many : (wanted < length (words_of tokens)) ⊎ ((length (words_of tokens) ≡ wanted) × (0 < length left))

-- all tokens that the data bits begin with give fewer words than are wanted (own)
abbrev pub HasTooFew : Data → ℕ → Type 0
HasTooFew d wanted = (tokens : List Token) (left : List Bool) → BeginsWith d tokens left → length (words_of tokens) < wanted

-- what the data bits hold, or what is wrong with them; a run in front is wrong whatever comes after it (own)
abbrev pub Holds : Data → ℕ → Result (List ℕ) HufFault → Type 0
Holds d wanted (Ok words) = (¬ BeginsWithRun d) × AreWords d wanted words
Holds d wanted (Err RunFirst) = BeginsWithRun d
Holds d wanted (Err TooMany) = (¬ BeginsWithRun d) × HasTooMany d wanted
Holds d wanted (Err TooFew) = (¬ BeginsWithRun d) × HasTooFew d wanted
Holds d wanted (Err Short) = ⊥
Holds d wanted (Err BadRange) = ⊥
Holds d wanted (Err BadTable) = ⊥

-- the same where there is data, else the fault that there is none for (own)
abbrev pub HoldsIn : Result Data HufFault → ℕ → Result (List ℕ) HufFault → Type 0
HoldsIn (Ok d) wanted outcome = Holds d wanted outcome
HoldsIn (Err fault) wanted outcome = outcome ≡ Err fault

-- what a block holds where so many words are wanted: the words, or its first fault (own)
abbrev pub BlockHolds : List ℕ → ℕ → Result (List ℕ) HufFault → Type 0
BlockHolds packed wanted outcome = HoldsIn (data_of packed) wanted outcome
