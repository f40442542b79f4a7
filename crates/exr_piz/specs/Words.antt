-- Words of 16 bits and the two bytes that each is stored in, the low one first.
use Rattle.std.specs.Prelude.{ℕ, ◌*◌, ◌/◌, List, length, take, drop, map}
use Rattle.std.specs.List.{range_with_len, flat_map}
use Rattle.std.specs.Int.{w16, to_le_bytes, from_le_bytes}

-- the words of bytes
unfoldable pub words_from : List ℕ → List ℕ
words_from bytes = map (λ k. from_le_bytes w16 (take 2 (drop (2 * k) bytes))) (range_with_len 0 (length bytes / 2))

-- the bytes of words
unfoldable pub bytes_from : List ℕ → List ℕ
bytes_from words = flat_map (to_le_bytes w16) words
