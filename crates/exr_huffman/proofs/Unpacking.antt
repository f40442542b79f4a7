-- The parts of a block, and what it holds by them.
use Rattle.std.proofs.Common.{◌≡◌, ℕ, ◌+◌, ◌-◌, ◌/◌, ◌<◌, ◌≤◌, ltb, List, length, take, drop, Some, None, Ok, Err, refl}
use Rattle.std.proofs.lemmas.List.{drop-drop}
use Rattle.std.proofs.lemmas.Bool.{le-ltb, lt-ltb, or_from}
use Rattle.exr_base.specs.Refusal.{Refuses}
use Rattle.exr_base.specs.declared.refusal.Refusal.{Refusal}
use Rattle.exr_base.specs.declared.refusal.Refusal.TheVariants as refusal
use Rattle.exr_base.specs.Bits.{bits_of_bytes}
use Rattle.exr_codes.specs.Tables.{table_of}
use Rattle.exr_huffman.specs.Blocks.{Block, number_at, block_of, data_of, data_words_of, huffman_words_of}
use Rattle.exr_huffman.specs.declared.fault.HufFault.{HufFault}
use Rattle.exr_huffman.specs.declared.fault.HufFault.TheVariants.{Short, BadTable}

pub block_is : (packed table behind : List ℕ) (least greatest size bits : ℕ) → 20 ≤ length packed → least ≡ number_at packed 0 → greatest ≡ number_at packed 1 → size ≡ number_at packed 2 → bits ≡ number_at packed 3 → least ≤ greatest → greatest ≤ 65536 → size ≤ length packed - 20 → table ≡ take size (drop 20 packed) → behind ≡ drop size (drop 20 packed)
    → block_of packed ≡ Ok (record { least = least; greatest = greatest; table = table; bits = bits; behind = behind })
unfolding block_of
block_is packed table behind least greatest size bits long e0 e1 e2 e3 ordered range fits t b =
    rw (
      le-ltb (length packed) 20 long,
      or_from (ltb (number_at packed 1) (number_at packed 0)) (ltb 65536 (number_at packed 1)) (rw (← e0, ← e1) (le-ltb greatest least ordered)) (rw (← e1) (le-ltb 65536 greatest range)),
      ← e2,
      le-ltb (length packed - 20) size fits,
      t,
      b,
      drop-drop size 20 packed,
      e0,
      e1,
      e3,
    ) refl

pub refused : (packed : List ℕ) (wanted : ℕ) (e : Refusal HufFault) → Refuses e (block_of packed) → Refuses e (huffman_words_of packed wanted)
unfolding huffman_words_of data_of
refused packed wanted (refusal.Fault f) fault = rw fault refl
refused packed wanted refusal.NoMemory fault = tt

module _ (packed : List ℕ) (wanted : ℕ) (block : Block) (is : block_of packed ≡ Ok block) where
  pub without_table : table_of (block.greatest - block.least + 1) block.table ≡ None → huffman_words_of packed wanted ≡ Err BadTable
  unfolding huffman_words_of data_of
  without_table table = rw (is, table) refl

  pub without_data : (lengths : List ℕ) → table_of (block.greatest - block.least + 1) block.table ≡ Some lengths → length block.behind < (block.bits + 7) / 8 → huffman_words_of packed wanted ≡ Err Short
  unfolding huffman_words_of data_of
  without_data lengths table short = rw (is, table, lt-ltb (length block.behind) ((block.bits + 7) / 8) short) refl

  pub with_data : (lengths : List ℕ) → table_of (block.greatest - block.least + 1) block.table ≡ Some lengths → (block.bits + 7) / 8 ≤ length block.behind → huffman_words_of packed wanted ≡ data_words_of block.least lengths wanted (take block.bits (bits_of_bytes block.behind))
  unfolding huffman_words_of data_of
  with_data lengths table there = rw (is, table, le-ltb (length block.behind) ((block.bits + 7) / 8) there) refl
