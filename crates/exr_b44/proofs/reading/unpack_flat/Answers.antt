use Rattle.std.proofs.Common.{◌≡◌, ◌+◌, ◌*◌, ◌++◌, replicate, sym, ap, ◌∙◌, arith}
use Rattle.exr_b44.specs.Cell.{half_of, bytes_of_halves}
use Rattle.exr_b44.proofs.Cells.{flat_cell, first_of}
use Rattle.exr_b44.proofs.reading.unpack_flat.Goals as goal

pub returns : goal.returns
returns c =
    let packed = c.args.packed.now in
    let is : c.from.result * 256 + c.from-2.result ≡ first_of packed = omega (arith, c.from.ensures, c.from-2.ensures) in
    c.put_both.ensures ∙ (λ i. c.bytes-all.ensures i ++ c.bytes-all.ensures i) ∙ (λ i. bytes_of_halves (c.halves.ensures i) ++ bytes_of_halves (c.halves.ensures i))
    ∙ ap (λ n. bytes_of_halves (replicate 16 (half_of n))) is ∙ ap bytes_of_halves (sym (flat_cell packed c.requires.flat))
