-- Packed data from raw data: halves, differences, and the writer's choice of runs and literals.
use Rattle.std.specs.Prelude.{ℕ, zero, suc, ◌+◌, ◌-◌, ◌%◌, min, List, [], ◌∷◌, ◌++◌, length, take, drop, Bool, false, ◌==◌, ◌&&◌, if◌then◌else◌}
use Rattle.std.specs.List.{prefix_len}
use Rattle.exr_rle.specs.Token.{Token, repeat, literal, token_bytes, spelling_of}

-- the bytes at even places, and those at odd places
abbrev pub evens_of : List ℕ → List ℕ
evens_of [] = []
evens_of (a ∷ []) = a ∷ []
evens_of (a ∷ b ∷ rest) = a ∷ evens_of rest

abbrev pub odds_of : List ℕ → List ℕ
odds_of [] = []
odds_of (a ∷ []) = []
odds_of (a ∷ b ∷ rest) = b ∷ odds_of rest

-- each byte minus the one before it, plus 128, modulo 256
abbrev pub differences_after : ℕ → List ℕ → List ℕ
differences_after before [] = []
differences_after before (byte ∷ rest) = (byte + 384 - before) % 256 ∷ differences_after byte rest

-- the first byte as it is, and each other one as its difference
abbrev pub differences_of : List ℕ → List ℕ
differences_of [] = []
differences_of (byte ∷ rest) = byte ∷ differences_after byte rest

-- how many equal bytes a list begins with, up to 128
abbrev pub run_len : List ℕ → ℕ
run_len [] = 0
run_len (byte ∷ rest) = min 128 (1 + prefix_len (λ x. x == byte) rest)

-- whether three equal bytes begin a list
abbrev pub begins_three : List ℕ → Bool
begins_three (a ∷ b ∷ c ∷ rest) = (a == b) && (b == c)
begins_three _ = false

-- how many bytes come before the next three equal ones, or the end
abbrev pub plain_len : List ℕ → ℕ
plain_len [] = 0
plain_len (byte ∷ rest) = if begins_three (byte ∷ rest) then 0 else suc (plain_len rest)

-- the writer's choice: where three equal bytes stand a run as long as can be, else bytes up to the next three, at most 127
abbrev pub first_token_of : List ℕ → Token
first_token_of [] = literal []
first_token_of (byte ∷ rest) = if begins_three (byte ∷ rest)
    then repeat byte (run_len (byte ∷ rest))
    else literal (take (min 127 (plain_len (byte ∷ rest))) (byte ∷ rest))

-- the writer's tokens, at most so many
unfoldable pub tokens_within : ℕ → List ℕ → List Token
tokens_within zero bytes = []
tokens_within (suc more) [] = []
tokens_within (suc more) (byte ∷ rest) = let token = first_token_of (byte ∷ rest) in
    token ∷ tokens_within more (drop (length (token_bytes token)) (byte ∷ rest))

-- the writer's tokens; each takes a byte or more
abbrev pub tokens_of : List ℕ → List Token
tokens_of bytes = tokens_within (length bytes) bytes

-- the writer's packed data
unfoldable pub rle_pack_of : List ℕ → List ℕ
rle_pack_of raw = spelling_of (tokens_of (differences_of (evens_of raw ++ odds_of raw)))
