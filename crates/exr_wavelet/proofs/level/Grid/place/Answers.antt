use Rattle.std.proofs.Common.{◌+◌, ◌*◌, ◌≤◌, arith}
use Rattle.std.proofs.Math.Nat.{mul-le-mul_left}
use Rattle.exr_wavelet.proofs.level.Grid.place.Goals as goal

pub overflow_add-at : goal.overflow_add-at
overflow_add-at c =
    let g = c.args.self in
    let n = c.args.y * g.nx + c.args.x in
    let inside = c.requires.within c.args.x c.args.y c.requires.column c.requires.line in
    let more : n * 1 ≤ n * g.step = mul-le-mul_left n c.requires.spread in
    record { fits = omega arith }
