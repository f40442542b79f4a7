-- The block that the writer makes of words: the symbols that stand in it with their weights, code lengths by merging,
-- runs where they take fewer bits, and the table and the data bits after a head of five numbers.
use Rattle.std.specs.Prelude.{ℕ, zero, suc, ◌+◌, ◌-◌, ◌*◌, ◌==◌, nat_lt, if◌then◌else◌, Bool, List, [], ◌∷◌, ◌++◌, length, drop, replicate, slice_index, min, max, fold, count_by}
use Rattle.std.specs.List.{prefix_len}
use Rattle.std.specs.Int.{w32, to_le_bytes}
use Rattle.exr_base.specs.Bits.{bytes_of}
use Rattle.exr_encoder.specs.Spelling.{table_bits}
use Rattle.exr_huffman.specs.Tokens.{Token, word, more, run_entry}
use Rattle.exr_merging.specs.Trees.{values_below, merged_lengths}
use Rattle.exr_huffman.specs.Joined.{tokens_bits}

-- the least and the greatest of the words, which have 16 bits (own)
unfoldable pub least_of : List ℕ → ℕ
least_of words = fold min 65535 words

unfoldable pub greatest_of : List ℕ → ℕ
greatest_of words = fold max 0 words

-- how often each word from the least to the greatest occurs, and once the run symbol, which stands above them (own)
unfoldable pub weights_of : List ℕ → List ℕ
weights_of words = values_below (λ k. count_by (λ w. w == least_of words + k) words) (greatest_of words - least_of words + 1) ++ 1 ∷ []

-- the lengths of the codes (own)
unfoldable pub lengths_of : List ℕ → List ℕ
lengths_of words = merged_lengths (weights_of words)

-- how many words in front are equal to one, at most 255 (own)
unfoldable pub equals_at : ℕ → List ℕ → ℕ
equals_at w words = min 255 (prefix_len (λ v. v == w) words)

-- a word and so many more of it: a run, where that takes fewer bits than the word's code so many times (own)
unfoldable pub run_tokens : ℕ → List ℕ → ℕ → ℕ → List Token
run_tokens least lengths w count =
    let len = slice_index lengths (w - least) in
    if nat_lt (len + slice_index lengths (run_entry lengths) + 8) (len * count) then word w ∷ more count ∷ [] else replicate (count + 1) (word w)

-- the tokens of words from the front, at most so many times a word with the equal ones after it (own)
unfoldable pub packed_within : ℕ → ℕ → List ℕ → List ℕ → List Token
packed_within zero least lengths words = []
packed_within (suc n) least lengths [] = []
packed_within (suc n) least lengths (w ∷ words) =
    run_tokens least lengths w (equals_at w words) ++ packed_within n least lengths (drop (equals_at w words) words)

-- the tokens of words (own)
unfoldable pub packed_tokens : ℕ → List ℕ → List ℕ → List Token
packed_tokens least lengths words = packed_within (length words) least lengths words

-- the head of a block: the least and the greatest symbol, the bytes of the table, the data bits, and 0 (own)
unfoldable pub head_of : ℕ → ℕ → ℕ → ℕ → List ℕ
head_of least greatest table bits =
    to_le_bytes w32 least ++ to_le_bytes w32 greatest ++ to_le_bytes w32 table ++ to_le_bytes w32 bits ++ to_le_bytes w32 0

-- a block of a table and data bits (own)
unfoldable pub block_with : ℕ → ℕ → List ℕ → List Bool → List ℕ
block_with least greatest table bits = head_of least greatest (length table) (length bits) ++ table ++ bytes_of bits

-- the block of words; its greatest symbol is the run symbol (own)
unfoldable pub pack_of : List ℕ → List ℕ
pack_of words =
    let least = least_of words in
    let lengths = lengths_of words in
    block_with least (greatest_of words + 1) (bytes_of (table_bits lengths)) (tokens_bits least lengths (packed_tokens least lengths words))
