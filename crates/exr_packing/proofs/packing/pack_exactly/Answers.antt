use Rattle.std.proofs.Common.{◌≡◌, ℕ, ◌+◌, List, [], ◌++◌, length, take, drop, refl, ap, ◌∙◌, arith, append-nil}
use Rattle.std.proofs.lemmas.List.{drop_all, take_all}
use Rattle.exr_base.specs.Bits.{bytes_of}
use Rattle.exr_encoder.specs.Spelling.{table_bits}
use Rattle.exr_huffman.specs.Joined.{tokens_bits}
use Rattle.exr_encoder.proofs.Spelled.{table_size}
use Rattle.exr_packing.specs.Packed.{least_of, greatest_of, lengths_of, packed_tokens, block_with, pack_of}
use Rattle.exr_packing.proofs.Weighing.{lengths_complete, words_coded, run_coded, cost_is, length-lengths_of}
use Rattle.exr_packing.proofs.Runs.{cost_most}
use Rattle.exr_packing.proofs.packing.pack_exactly.Goals as goal

pub write_block-size-requires-clause-short : goal.write_block-size-requires-clause-short
write_block-size-requires-clause-short c =
    let words = c.args.words.now in
    λ k. rw c.in_ok-table.ensures.encoder (omega (arith, (lengths_complete words c.requires.some c.requires.most).1 k))

pub write_block-size-requires-clause-coded : goal.write_block-size-requires-clause-coded
write_block-size-requires-clause-coded c = rw (c.in_ok-table.ensures.encoder, c.least_word-least.ensures) (words_coded c.args.words.now c.requires.some c.requires.most)

pub write_block-size-requires-clause-run : goal.write_block-size-requires-clause-run
write_block-size-requires-clause-run c = rw c.in_ok-table.ensures.encoder (run_coded c.args.words.now c.requires.some c.requires.most)

pub write_block-size-requires-clause-room : goal.write_block-size-requires-clause-room
write_block-size-requires-clause-room c =
    let words = c.args.words.now in
    let cost = cost_is words c.requires.some (lengths_of words) in
    rw (c.in_ok-table.ensures.encoder, c.least_word-least.ensures) (omega (arith, c.in_ok-table.ensures.cost, cost, c.in_ok-block.ensures.len, c.deref_mut.ensures.len, c.deref.ensures.len, c.len.ensures))

pub write_block-size-requires-clause-small : goal.write_block-size-requires-clause-small
write_block-size-requires-clause-small c =
    let words = c.args.words.now in
    rw (c.in_ok-table.ensures.encoder, c.least_word-least.ensures) (omega (arith, cost_most 51 (least_of words) (lengths_of words) words (lengths_complete words c.requires.some c.requires.most).1, c.requires.most))

pub write_block-size-requires-clause-table : goal.write_block-size-requires-clause-table
write_block-size-requires-clause-table c =
    let words = c.args.words.now in
    omega (arith, ap length (c.deref.ensures.value ∙ c.in_ok-table.ensures.table), table_size (lengths_of words), length-lengths_of words c.requires.some c.requires.most, c.greatest_word-greatest.ensures)

-- what is taken of a vector whose slice was written over
written_over : (new items : List ℕ) (len size : ℕ) → length new ≡ len → length items ≡ len → take size (take len (new ++ drop (length new) items)) ≡ take size new
written_over new items len size same long =
    let none : drop (length new) items ≡ [] = drop_all (length new) items (omega arith) in
    ap (take size) (ap (λ (back : List ℕ). take len (new ++ back)) none ∙ ap (take len) (append-nil new) ∙ take_all len new (omega arith))

-- the block of the words' own table and tokens
block_is : (words table encoder : List ℕ) (least greatest : ℕ) → least ≡ least_of words → greatest ≡ greatest_of words → table ≡ bytes_of (table_bits (lengths_of words)) → encoder ≡ lengths_of words
    → block_with least (greatest + 1) table (tokens_bits least encoder (packed_tokens least encoder words)) ≡ pack_of words
unfolding pack_of
block_is words table encoder least greatest e0 e1 e2 e3 = rw (e2, e3, e0, e1) refl

pub returns : goal.returns
returns c =
    let out = c.write_block-size.new.out in
    let block = c.in_ok-block.block in
    let long : length block.items ≡ block.len = omega (arith, block.ok.0) in
    let same : length out ≡ block.len = omega (arith, c.write_block-size.auto.out, c.deref_mut.ensures.len) in
    c.truncate.ensures.items ∙ written_over out block.items block.len c.write_block-size.result same long ∙ c.write_block-size.ensures
    ∙ block_is c.args.words.now c.deref.result.now c.in_ok-table.field-0.encoder c.least_word-least.result c.greatest_word-greatest.result c.least_word-least.ensures c.greatest_word-greatest.ensures (c.deref.ensures.value ∙ c.in_ok-table.ensures.table) c.in_ok-table.ensures.encoder
