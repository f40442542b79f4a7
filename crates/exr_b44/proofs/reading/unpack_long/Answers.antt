use Rattle.std.proofs.Common.{◌≡◌, ◌+◌, ◌*◌, ◌++◌, get_or, drop, map, sym, ap, ◌∙◌, arith}
use Rattle.std.specs.List.{slice_range}
use Rattle.exr_b44.specs.Cell.{sixes_of_bytes, half_of, bytes_of_halves}
use Rattle.exr_b44.proofs.Cells.{long_cell, first_of, halves_by, sixes_joined, first_six, laid}
use Rattle.exr_b44.proofs.reading.unpack_long.Goals as goal

pub returns : goal.returns
returns c =
    let packed = c.args.packed.now in
    let six = c.sixes.result.0 in
    let more = c.sixes.result.1 in
    let is : c.from.result * 256 + c.from-2.result ≡ first_of packed = omega (arith, c.from.ensures, c.from-2.ensures) in
    let near = c.halves-near.ensures ∙ ap (map half_of) c.columns.ensures.near in
    let far = c.halves-far.ensures ∙ ap (map half_of) c.columns.ensures.far in
    let sixes : six ++ more ≡ sixes_of_bytes (slice_range packed 2 14) = (λ i. c.sixes.ensures.first i ++ c.sixes.ensures.second i) ∙ sixes_joined packed c.requires.there in
    let shift : get_or six 0 0 ≡ get_or (sixes_of_bytes (slice_range packed 2 14)) 0 0 = ap (λ l. get_or l 0 0) c.sixes.ensures.first ∙ first_six packed c.requires.there in
    c.put_both.ensures ∙ (λ i. c.bytes-top.ensures i ++ c.bytes-bottom.ensures i) ∙ (λ i. laid (near i) (far i))
    ∙ (λ i. bytes_of_halves (halves_by (is i) (shift i) (drop 1 (sixes i))))
    ∙ ap bytes_of_halves (sym (long_cell packed c.requires.long))
