-- How long the Huffman block of words is.
use Rattle.std.proofs.Common.{◌≡◌, ℕ, zero, suc, ◌+◌, ◌/◌, ◌^◌, ◌<◌, ◌≤◌, Bool, List, ◌++◌, length, drop, refl, ap, arith, length-append}
use Rattle.exr_base.specs.Bits.{first_bytes_of, bytes_of}
use Rattle.exr_encoder.specs.Spelling.{table_bits}
use Rattle.exr_encoder.proofs.Spelled.{table_size}
use Rattle.exr_huffman.specs.Joined.{tokens_bits}
use Rattle.exr_packing.specs.Packed.{least_of, greatest_of, lengths_of, packed_tokens, head_of, block_with, pack_of}
use Rattle.exr_packing.proofs.Restored.{length-head_of}
use Rattle.exr_packing.proofs.Runs.{tokens_size, cost_most}
use Rattle.exr_packing.proofs.Weighing.{lengths_complete, length-lengths_of}

length-first_bytes_of : (n : ℕ) (bits : List Bool) → length (first_bytes_of n bits) ≡ n
unfolding first_bytes_of
length-first_bytes_of zero bits = refl
length-first_bytes_of (suc n) bits = ap suc (length-first_bytes_of n (drop 8 bits))

length-bytes_of : (bits : List Bool) → length (bytes_of bits) ≡ (length bits + 7) / 8
unfolding bytes_of
length-bytes_of bits = length-first_bytes_of ((length bits + 7) / 8) bits

length-block_with : (least greatest : ℕ) (table : List ℕ) (bits : List Bool) → length (block_with least greatest table bits) ≡ 20 + length table + (length bits + 7) / 8
unfolding block_with
length-block_with least greatest table bits =
    let head = head_of least greatest (length table) (length bits) in
    omega (arith, length-append (head ++ table) (bytes_of bits), length-append head table, length-head_of least greatest (length table) (length bits), length-bytes_of bits)

pub block_small : (words : List ℕ) → 0 < length words → length words ≤ 2 ^ 25 → greatest_of words ≤ 65535 → length (pack_of words) < 2 ^ 31
unfolding pack_of
block_small words some most range =
    let least = least_of words in
    let lengths = lengths_of words in
    let bits = tokens_bits least lengths (packed_tokens least lengths words) in
    let table = bytes_of (table_bits lengths) in
    omega (
      arith,
      length-block_with least (greatest_of words + 1) table bits,
      table_size lengths,
      length-lengths_of words some most,
      tokens_size least lengths words,
      cost_most 51 least lengths words (lengths_complete words some most).1,
    )
