use Rattle.std.proofs.Common.{sym}
use Rattle.std.proofs.lemmas.Result.{err_from_is_err_and}
use Rattle.exr_huffman.specs.Parts.{block_of_parts}
use Rattle.exr_huffman.proofs.Unpacking.{refused, without_table, without_data, with_data}
use Rattle.exr_huffman.proofs.block.unpack_exactly.Goals as goal

pub returns-in_err-parts : goal.returns-in_err-parts
returns-in_err-parts c =
    let p = err_from_is_err_and c.from_residual.result c.from_residual.ensures.1 in
    rw (p.1, p.2) (refused c.args.packed.now c.args.words c.in_err-parts.field-0.0 c.in_err-parts.ensures.value)

pub returns-in_default : goal.returns-in_default
returns-in_default c =
    let block = block_of_parts c.in_ok-parts.parts in
    let table = rw c.in_default.is at c.in_ok-lengths.ensures.value in
    without_table c.args.packed.now c.args.words block c.in_ok-parts.ensures.value (sym table)

pub returns-then-parts : goal.returns-then-parts
returns-then-parts c =
    let block = block_of_parts c.in_ok-parts.parts in
    let table = rw c.in-Some.is at c.in_ok-lengths.ensures.value in
    without_data c.args.packed.now c.args.words block c.in_ok-parts.ensures.value c.in-Some.lengths.items (sym table) c.if-parts.true

pub returns : goal.returns
returns c =
    let block = block_of_parts c.in_ok-parts.parts in
    let table = rw c.in-Some.is at c.in_ok-lengths.ensures.value in
    let is = with_data c.args.packed.now c.args.words block c.in_ok-parts.ensures.value c.in-Some.lengths.items (sym table) c.if-parts.false in
    rw (is, ← c.in_ok-decoder.ensures) c.data_words.ensures
