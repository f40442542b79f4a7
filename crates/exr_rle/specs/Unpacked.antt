-- Raw data from packed data: the tokens' bytes are differences, which are summed up, and two halves, which are laid
-- together.
use Rattle.std.specs.Prelude.{◌≡◌, ℕ, zero, suc, ◌+◌, ◌-◌, ◌*◌, ◌/◌, ◌%◌, List, [], ◌∷◌, ◌++◌, length, take, sum, map, replicate, nat_lt, Bool, false, ◌==◌, if◌then◌else◌, Option, Some, None, option_map, Result, Ok, Err}
use Rattle.std.specs.List.{range_with_len}
use Rattle.exr_rle.specs.Token.{IsRleSpelling}
use Rattle.exr_rle.specs.declared.broken.RleBroken.{RleBroken}

-- byte k before differences were taken: the sum of the first k + 1 bytes minus 128 k, which is plus 128 k modulo 256
abbrev pub restored_at : List ℕ → ℕ → ℕ
restored_at bytes k = (sum (take (k + 1) bytes) + 128 * k) % 256

-- what a restored byte becomes over the next so many bytes: each is added to it, minus 128, modulo 256
abbrev pub restored_after : ℕ → List ℕ → ℕ → ℕ
restored_after before bytes count = (before + sum (take count bytes) + 128 * count) % 256

-- byte k of the raw data: the first half, rounded up, has the even places, and the second the odd ones
abbrev pub raw_at : List ℕ → ℕ → ℕ
raw_at bytes k = if k % 2 == 0 then restored_at bytes (k / 2) else restored_at bytes ((length bytes + 1) / 2 + k / 2)

-- the raw data of the tokens' bytes
abbrev pub raw_of : List ℕ → List ℕ
raw_of bytes = map (raw_at bytes) (range_with_len 0 (length bytes))

-- raw is what packed data of so many raw bytes stands for
pub record Unpacks (packed : List ℕ) (count : ℕ) (raw : List ℕ) : Type 0 where
  pub bytes : List ℕ
  pub spelling : IsRleSpelling packed bytes
  pub counted : length bytes ≡ count
  pub restored : raw ≡ raw_of bytes

-- the bytes of the tokens that stand here, after so many bytes of a literal that has begun; none where no tokens do
unfoldable pub bytes_spelled : ℕ → List ℕ → Option (List ℕ)
bytes_spelled zero [] = Some []
bytes_spelled zero (count ∷ []) = None
bytes_spelled zero (count ∷ byte ∷ rest) = if nat_lt count 128
    then option_map (λ bytes. replicate (count + 1) byte ++ bytes) (bytes_spelled zero rest)
    else option_map (λ bytes. byte ∷ bytes) (bytes_spelled (255 - count) rest)
bytes_spelled (suc more) [] = None
bytes_spelled (suc more) (byte ∷ rest) = option_map (λ bytes. byte ∷ bytes) (bytes_spelled more rest)

-- whether there are tokens, and their bytes are so many
abbrev pub counts : Option (List ℕ) → ℕ → Bool
counts None count = false
counts (Some bytes) count = length bytes == count

-- the one fault
abbrev pub broken : RleBroken
broken = record {}

-- the raw data of the tokens' bytes, where there are tokens and their bytes are so many
abbrev pub raw_if_counted : ℕ → Option (List ℕ) → Result (List ℕ) RleBroken
raw_if_counted count None = Err broken
raw_if_counted count (Some bytes) = if length bytes == count then Ok (raw_of bytes) else Err broken

-- the raw data, so many bytes, that packed data stands for
unfoldable pub rle_of : List ℕ → ℕ → Result (List ℕ) RleBroken
rle_of packed count = raw_if_counted count (bytes_spelled 0 packed)
