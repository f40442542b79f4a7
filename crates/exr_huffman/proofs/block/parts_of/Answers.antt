use Rattle.std.proofs.Common.{ap, ◌∙◌, arith, length, take, drop}
use Rattle.std.proofs.lemmas.List.{take_rest, length-drop}
use Rattle.exr_huffman.proofs.Unpacking.{block_is}
use Rattle.exr_huffman.proofs.block.parts_of.Goals as goal

pub returns-clause-value : goal.returns-clause-value
returns-clause-value c =
    let packed = c.args.packed.now in
    let size = c.number-table_bytes.result in
    let rest = take_rest packed 20 in
    block_is packed c.split_at.result.0.now c.split_at.result.1.now c.number-least.result c.number-greatest.result size c.number.result
    (omega arith) c.number-least.ensures c.number-greatest.ensures c.number-table_bytes.ensures c.number.ensures c.if-greatest-least.false c.if-greatest-gt65536.false (omega (arith, c.split_at.ensures.front_len, c.if-behind_head-table_bytes.false, ap length rest, length-drop 20 packed))
    (c.split_at.ensures.front ∙ ap (take size) rest) (c.split_at.ensures.back ∙ ap (drop size) rest)
