-- What a block holds, by its parts.
use Rattle.std.proofs.Common.{◌≡◌, ℕ, ◌+◌, ◌-◌, ◌<◌, Bool, List, Option, Some, None, Result, Ok, Err, refl, sym, subst}
use Rattle.exr_base.specs.Refusal.{◌>>=◌}
use Rattle.exr_codes.specs.Codes.{IsComplete}
use Rattle.exr_codes.specs.Tables.{table_of}
use Rattle.exr_codes.proofs.Wholes.{table_of_complete}
use Rattle.exr_huffman.specs.Blocks.{Block, Data, block_of, or_bad_table, bits_of_block, data_of, data_words_of, huffman_words_of}
use Rattle.exr_huffman.specs.Joined.{HoldsIn, BlockHolds}
use Rattle.exr_huffman.specs.declared.fault.HufFault.{HufFault}
use Rattle.exr_huffman.proofs.Joined.{holds, only}

complete_at : (block : Block) (d : Data) (lengths : List ℕ) (bits : Result (List Bool) HufFault) → IsComplete lengths → (bits >>= (λ bits. Ok (record { least = block.least; lengths = lengths; bits = bits }))) ≡ Ok d → IsComplete d.lengths
complete_at block d lengths (Err f) whole e = absurd cc
complete_at block d lengths (Ok bits) whole e =
    let read : Data = record { least = block.least; lengths = lengths; bits = bits } in
    let same : read ≡ d = cc in
    subst (λ (x : Data). IsComplete x.lengths) same whole

complete_with : (block : Block) (d : Data) (table : Option (List ℕ)) → table_of (block.greatest - block.least + 1) block.table ≡ table → (or_bad_table table >>= (λ lengths. bits_of_block block >>= (λ bits. Ok (record { least = block.least; lengths = lengths; bits = bits })))) ≡ Ok d → IsComplete d.lengths
complete_with block d None is e = absurd cc
complete_with block d (Some lengths) is e = complete_at block d lengths (bits_of_block block) (table_of_complete (block.greatest - block.least + 1) block.table lengths is) e

complete_in : (d : Data) (block : Result Block HufFault) → (block >>= (λ b. or_bad_table (table_of (b.greatest - b.least + 1) b.table) >>= (λ lengths. bits_of_block b >>= (λ bits. Ok (record { least = b.least; lengths = lengths; bits = bits }))))) ≡ Ok d → IsComplete d.lengths
complete_in d (Err f) e = absurd cc
complete_in d (Ok block) e = complete_with block d (table_of (block.greatest - block.least + 1) block.table) refl e

data_complete : (packed : List ℕ) (d : Data) → data_of packed ≡ Ok d → IsComplete d.lengths
unfolding data_of
data_complete packed d e = complete_in d (block_of packed) e

holds_in : (packed : List ℕ) (wanted : ℕ) → 0 < wanted → (found : Result Data HufFault) → data_of packed ≡ found → HoldsIn found wanted (found >>= (λ d. data_words_of d.least d.lengths wanted d.bits))
holds_in packed wanted some (Ok d) is = holds d (data_complete packed d is) wanted some
holds_in packed wanted some (Err f) is = refl

-- what is read of a block is what it holds
pub block_holds : (packed : List ℕ) (wanted : ℕ) → 0 < wanted → BlockHolds packed wanted (huffman_words_of packed wanted)
unfolding huffman_words_of
block_holds packed wanted some = holds_in packed wanted some (data_of packed) refl

only_in : (packed : List ℕ) (wanted : ℕ) → 0 < wanted → (outcome : Result (List ℕ) HufFault) → (found : Result Data HufFault) → data_of packed ≡ found → HoldsIn found wanted outcome → (found >>= (λ d. data_words_of d.least d.lengths wanted d.bits)) ≡ outcome
only_in packed wanted some outcome (Ok d) is held = only d (data_complete packed d is) wanted some outcome held
only_in packed wanted some outcome (Err f) is held = sym held

-- and it holds nothing else
pub block_only : (packed : List ℕ) (wanted : ℕ) → 0 < wanted → (outcome : Result (List ℕ) HufFault) → BlockHolds packed wanted outcome → huffman_words_of packed wanted ≡ outcome
unfolding huffman_words_of
block_only packed wanted some outcome held = only_in packed wanted some outcome (data_of packed) refl held
