-- How far the reading of data bits has come.
use Rattle.std.specs.Prelude.{◌≡◌, ℕ, ◌-◌, ◌<◌, Bool, List, [], ◌∷◌, ◌++◌, length, take}
use Rattle.exr_huffman.specs.Tokens.{Token, word, more, tokens_of, words_of}

-- the last word of tokens after a word (own)
abbrev pub last_from : ℕ → List Token → ℕ
last_from before [] = before
last_from before (word w ∷ tokens) = last_from w tokens
last_from before (more count ∷ tokens) = last_from before tokens

-- the tokens read so far, with their words and the last of these, and the bits behind them (own)
pub record Progress (least : ℕ) (lengths : List ℕ) (wanted : ℕ) (all rest : List Bool) (words : List ℕ) (before : ℕ) : Type 0 where
  pub done : List Token
  pub tokens : tokens_of least lengths all ≡ (done ++ (tokens_of least lengths rest).0, (tokens_of least lengths rest).1)
  pub spelled : words_of done ≡ words
  pub last : last_from 0 done ≡ before
  pub earlier : length (words_of (take (length done - 1) done)) < wanted

-- the same, whatever the last word is (own)
pub record HasRead (least : ℕ) (lengths : List ℕ) (wanted : ℕ) (all rest : List Bool) (words : List ℕ) : Type 0 where
  pub before : ℕ
  pub so_far : Progress least lengths wanted all rest words before
