use Rattle.std.proofs.Common.{◌≡◌, ◌+◌, ◌-◌, ◌*◌, ◌≤◌, take, drop, refl, ap, ◌∙◌, arith}
use Rattle.std.proofs.Math.Nat.{mul-le-mul_right}
use Rattle.exr_b44.proofs.Taken.{line_taken}
use Rattle.exr_b44.proofs.packing.take_line.Goals as goal

pub slice_bounds-copy_from_slice-end-2 : goal.slice_bounds-copy_from_slice-end-2
slice_bounds-copy_from_slice-end-2 c =
    let rows : (4 * c.args.line + c.args.y + 1) * c.args.nx ≤ c.args.ny * c.args.nx = mul-le-mul_right c.args.nx (omega arith) in
    omega arith

pub returns : goal.returns
returns c =
    let rows = c.args.rows.now in
    let nx = c.args.nx in
    let y = c.args.y in
    let at = 2 * ((4 * c.args.line + y) * nx + 4 * c.args.column) in
    let lines : (4 * c.args.line + y + 1) * nx ≤ c.args.ny * nx = mul-le-mul_right nx (omega arith) in
    let count : 8 * y + 8 - 8 * y ≡ 8 = omega arith in
    let read : (at + 8) - at ≡ 8 = omega arith in
    rw count
    (line_taken rows c.args.cell.now c.copy_from_slice.new.self nx c.args.ny c.args.column c.args.line y at c.requires.room c.requires.right c.requires.below c.requires.inside
    (c.copy_from_slice.ensures.after ∙ ap (λ n. take n (drop at rows)) read) refl (omega arith) c.requires.before)
