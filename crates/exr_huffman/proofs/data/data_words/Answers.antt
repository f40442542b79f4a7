use Rattle.std.proofs.Common.{◌≡◌, false, length, sym, ◌∙◌, arith}
use Rattle.std.proofs.lemmas.List.{length-take-le}
use Rattle.exr_base.specs.Bits.{bits_of_bytes}
use Rattle.exr_base.proofs.BitLists.{length-bits_of_bytes}
use Rattle.exr_codes.specs.Codes.{entry_at}
use Rattle.exr_huffman.specs.Blocks.{data_bits, is_run}
use Rattle.exr_huffman.proofs.Bounds.{too_few}
use Rattle.exr_huffman.proofs.Progress.{run_first}
use Rattle.exr_huffman.proofs.data.data_words.Goals as goal

pub returns-then-begins_with_run : goal.returns-then-begins_with_run
returns-then-begins_with_run c =
    let first = rw (c.new-window.ensures.bytes, c.new-window.ensures.at) at c.begins_with_run.ensures.value in
    run_first c.args.least c.args.decoder.now c.args.wanted (data_bits c.args.bytes.now c.args.bits) (sym first ∙ c.if-begins_with_run.true)

pub returns-then-wanted-bits : goal.returns-then-wanted-bits
returns-then-wanted-bits c =
    let bits = data_bits c.args.bytes.now c.args.bits in
    let told = rw (c.new-window.ensures.bytes, c.new-window.ensures.at) at c.begins_with_run.ensures.value in
    let first : is_run c.args.decoder.now (entry_at c.args.decoder.now bits) ≡ false = sym told ∙ c.if-begins_with_run.false in
    let size : length bits ≡ c.args.bits = length-take-le c.args.bits (bits_of_bytes c.args.bytes.now) (omega (arith, length-bits_of_bytes c.args.bytes.now, c.requires.there)) in
    too_few c.args.least c.args.decoder.now c.args.wanted bits first (omega (arith, size, c.if-wanted-bits.true))
