-- What a Huffman block holds, and the first fault where it holds nothing.
use Rattle.std.specs.Prelude.{ℕ, ◌+◌, ◌-◌, ◌*◌, ◌/◌, Bool, false, ◌&&◌, ◌||◌, ◌==◌, nat_lt, if◌then◌else◌, List, length, take, drop, Option, Some, None, Result, Ok, Err}
use Rattle.std.specs.Int.{w32, from_le_bytes}
use Rattle.exr_base.specs.Refusal.{◌>>=◌}
use Rattle.exr_base.specs.Bits.{bits_of_bytes}
use Rattle.exr_codes.specs.Codes.{entry_at}
use Rattle.exr_codes.specs.Tables.{table_of}
use Rattle.exr_huffman.specs.declared.fault.HufFault.{HufFault}
use Rattle.exr_huffman.specs.declared.fault.HufFault.TheVariants.{Short, BadRange, BadTable, RunFirst, TooMany, TooFew}
use Rattle.exr_huffman.specs.Tokens.{Token, run_entry, tokens_of, words_of}

-- the parts of a block: its least and greatest symbol, the bytes of its table, the number of its data bits, and the
-- bytes after the table (own)
pub record Block : Type 0 where
  pub least : ℕ
  pub greatest : ℕ
  pub table : List ℕ
  pub bits : ℕ
  pub behind : List ℕ

-- number k of a block's head, of four bytes, the low one first (own)
abbrev pub number_at : List ℕ → ℕ → ℕ
number_at packed k = from_le_bytes w32 (take 4 (drop (4 * k) packed))

-- the parts, where the head is whole, the symbols are in range and the table is there (own)
unfoldable pub block_of : List ℕ → Result Block HufFault
block_of packed =
    if nat_lt (length packed) 20 then Err Short else (
    if nat_lt (number_at packed 1) (number_at packed 0) || nat_lt 65536 (number_at packed 1) then Err BadRange else (
    if nat_lt (length packed - 20) (number_at packed 2) then Err Short else
    Ok (record {
      least = number_at packed 0;
      greatest = number_at packed 1;
      table = take (number_at packed 2) (drop 20 packed);
      bits = number_at packed 3;
      behind = drop (20 + number_at packed 2) packed;
    })))

-- the lengths of the codes of all symbols (own)
abbrev pub or_bad_table : Option (List ℕ) → Result (List ℕ) HufFault
or_bad_table (Some lengths) = Ok lengths
or_bad_table None = Err BadTable

-- so many bits of the bytes (own)
abbrev pub data_bits : List ℕ → ℕ → List Bool
data_bits bytes bits = take bits (bits_of_bytes bytes)

-- the data bits, where their bytes are there (own)
abbrev pub bits_of_block : Block → Result (List Bool) HufFault
bits_of_block block = if nat_lt (length block.behind) ((block.bits + 7) / 8) then Err Short else Ok (data_bits block.behind block.bits)

-- the least symbol of a block, the lengths of its codes and its data bits (own)
pub record Data : Type 0 where
  pub least : ℕ
  pub lengths : List ℕ
  pub bits : List Bool

-- the data of a block, where its table is complete and all its bytes are there (own)
unfoldable pub data_of : List ℕ → Result Data HufFault
data_of packed = do
  block ← block_of packed
  lengths ← or_bad_table (table_of (block.greatest - block.least + 1) block.table)
  bits ← bits_of_block block
  Ok (record { least = block.least; lengths = lengths; bits = bits })

-- the bits begin with the code of the run symbol (own)
abbrev pub is_run : List ℕ → Option ℕ → Bool
is_run lengths (Some entry) = entry == run_entry lengths
is_run lengths None = false

-- the tokens give just the wanted words, no shorter list of them does, and no bits are left (own)
unfoldable pub judged : ℕ → List Token × List Bool → Result (List ℕ) HufFault
judged wanted read =
    let words = words_of read.0 in
    let earlier = words_of (take (length read.0 - 1) read.0) in
    if nat_lt (length words) wanted then Err TooFew else (
    if (length words == wanted) && (length read.1 == 0) && nat_lt (length earlier) wanted then Ok words else Err TooMany)

-- the words that data bits spell (own)
unfoldable pub data_words_of : ℕ → List ℕ → ℕ → List Bool → Result (List ℕ) HufFault
data_words_of least lengths wanted bits =
    if is_run lengths (entry_at lengths bits) then Err RunFirst else judged wanted (tokens_of least lengths bits)

-- so many words that a block spells, or its first fault (own)
unfoldable pub huffman_words_of : List ℕ → ℕ → Result (List ℕ) HufFault
huffman_words_of packed wanted = do
  d ← data_of packed
  data_words_of d.least d.lengths wanted d.bits
