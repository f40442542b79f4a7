use Rattle.std.proofs.Common.{◌≡◌, ◌+◌, ◌-◌, ◌*◌, length, take, drop, ap, ◌∙◌, arith}
use Rattle.std.proofs.lemmas.List.{take_all, length-take-le, length-drop}
use lib.Lanes.{chunk}
use Rattle.exr_b44.proofs.Rows.{line_of_piece}
use Rattle.exr_b44.proofs.unpacking.put_whole_line.Goals as goal

pub returns : goal.returns
returns c =
    let cell = c.args.cell.now in
    let y = c.args.y in
    let read : (8 * y + 8) - 8 * y ≡ 8 = omega arith in
    let piece = take 8 (drop (8 * y) cell) in
    let long : length piece ≡ 8 = length-take-le 8 (drop (8 * y) cell) (omega (arith, length-drop (8 * y) cell, c.requires.there)) in
    let loaded : chunk 0 8 (take ((8 * y + 8) - 8 * y) (drop (8 * y) cell)) ≡ piece = ap (λ n. chunk 0 8 (take n (drop (8 * y) cell))) read ∙ take_all 8 piece (omega arith) in
    line_of_piece cell (chunk 0 8 (take ((8 * y + 8) - 8 * y) (drop (8 * y) cell))) c.args.lines.now c.put_eight.new.lines c.args.wide c.args.from 8 y loaded c.put_eight.ensures
