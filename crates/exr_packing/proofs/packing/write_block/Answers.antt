use Rattle.std.proofs.Common.{◌≡◌, ℕ, ◌+◌, ◌/◌, ◌++◌, List, length, take, sym, ap, ap₂, ◌∙◌, arith, append_assoc}
use Rattle.std.proofs.Math.Seq.{take-append-add}
use Rattle.exr_packing.specs.Packed.{head_of, block_with, packed_tokens}
use Rattle.exr_huffman.specs.Joined.{tokens_bits}
use Rattle.exr_packing.proofs.Restored.{length-head_of}
use Rattle.exr_packing.proofs.packing.write_block.Goals as goal

front_of_three : (a b c : List ℕ) (n : ℕ) → take (length a + length b + n) (a ++ (b ++ c)) ≡ a ++ b ++ take n c
front_of_three a b c n =
    ap (λ k. take k (a ++ (b ++ c))) (let e : length a + length b + n ≡ length a + (length b + n) = omega arith in e)
    ∙ take-append-add a (b ++ c) (length b + n) ∙ ap (λ (back : List ℕ). a ++ back) (take-append-add b c n) ∙ sym (append_assoc a b (take n c))

pub returns : goal.returns
unfolding block_with
returns c =
    let table = c.args.table.now in
    let head = c.put_head.new.head in
    let part = c.copy_from_slice.new.self in
    let out = c.write_words-bits.new.out in
    let bits = tokens_bits c.args.least c.args.encoder.now (packed_tokens c.args.least c.args.encoder.now c.args.words.now) in
    let n = (c.write_words-bits.result + 7) / 8 in
    let size : length head ≡ 20 = ap length c.put_head.ensures ∙ length-head_of c.args.least (c.args.greatest + 1) (length table) c.write_words-bits.result in
    let place : 20 + length table + n ≡ length head + length part + n = omega (arith, size, ap length c.copy_from_slice.ensures.after) in
    ap (λ k. take k (head ++ (part ++ out))) place
    ∙ front_of_three head part out n
    ∙ ap₂ ◌++◌ (ap₂ ◌++◌ (c.put_head.ensures ∙ ap (head_of c.args.least (c.args.greatest + 1) (length table)) c.write_words-bits.ensures.bits) c.copy_from_slice.ensures.after) c.write_words-bits.ensures.bytes
