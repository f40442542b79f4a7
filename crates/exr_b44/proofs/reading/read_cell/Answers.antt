use Rattle.std.proofs.Common.{◌≡◌, ℕ, ◌+◌, ◌-◌, ◌<◌, ◌≤◌, ◌++◌, get_or, length, take, drop, replicate, ap, ◌∙◌, arith}
use Rattle.std.proofs.lemmas.List.{get_or-take, length-take-le, length-drop, length-append}
use Rattle.exr_b44.specs.Cell.{cell_len, bytes_of_halves}
use Rattle.exr_b44.proofs.Cells.{same_cell, cell_len_small, filled, len_same}
use Rattle.exr_b44.proofs.reading.read_cell.Goals as goal

pub returns-then-left-ge16-clause-unpacked : goal.returns-then-left-ge16-clause-unpacked
returns-then-left-ge16-clause-unpacked c =
    let at = c.args.at in
    let z = drop at c.args.packed.now in
    let there : 16 ≤ length z = omega (arith, length-drop at c.args.packed.now) in
    let count : (at + 16) - at ≡ 16 = omega arith in
    let same : take ((at + 16) - at) z ≡ take 16 z = ap (λ n. take n z) count in
    c.unpack_cell.ensures.unpacked
    ∙ ap bytes_of_halves (same_cell (take ((at + 16) - at) z) z (ap length same ∙ length-take-le 16 z there) (omega (arith, cell_len_small z)) (λ k lt. get_or-take ((at + 16) - at) z k 0 (omega arith)))

pub returns-clause-unpacked : goal.returns-clause-unpacked
returns-clause-unpacked c =
    let at = c.args.at in
    let packed = c.args.packed.now in
    let left = length packed - at in
    let z = drop at packed in
    let front = c.copy_from_slice.new.self in
    let y = front ++ drop left (replicate 16 0) in
    let long : length z ≡ left = length-drop at packed in
    let fill : (k : ℕ) → k < 16 → get_or y k 0 ≡ get_or z k 0 = λ k lt. filled z front left k long (omega arith) c.copy_from_slice.ensures.after lt in
    let whole : length y ≡ 16 = omega (arith, length-append front (drop left (replicate 16 0)), ap length c.copy_from_slice.ensures.after, length-take-le left z (omega arith), length-drop {A = ℕ} left (replicate 16 0)) in
    let len : cell_len y ≡ cell_len z = len_same y z (fill 2 (omega arith)) in
    c.unpack_cell-taken.ensures.unpacked ∙ ap bytes_of_halves (same_cell y z whole (omega (arith, len, c.unpack_cell-taken.ensures.taken)) fill)
