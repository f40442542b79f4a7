use Rattle.std.proofs.Common.{ℕ, ◌<◌, get_or, arith}
use Rattle.exr_b44.proofs.Vectors.{whole16, eight}
use Rattle.exr_b44.proofs.reading.sixes.Goals as goal

pub returns-clause-first : goal.returns-clause-first
returns-clause-first c =
    let small : (k : ℕ) → get_or c.args.packed.now k 0 < 256 = λ k. (c.type_inv.packed k).fits in
    let a = small 2 in let b = small 3 in let d = small 4 in let e = small 5 in let f = small 6 in let g = small 7 in
    rw c.words-first.ensures (rw (whole16 c.args.packed.now c.requires) (eight (omega arith) (omega arith) (omega arith) (omega arith) (omega arith) (omega arith) (omega arith) (omega arith)))

pub returns-clause-second : goal.returns-clause-second
returns-clause-second c =
    let small : (k : ℕ) → get_or c.args.packed.now k 0 < 256 = λ k. (c.type_inv.packed k).fits in
    let a = small 8 in let b = small 9 in let d = small 10 in let e = small 11 in let f = small 12 in let g = small 13 in
    rw c.words-second.ensures (rw (whole16 c.args.packed.now c.requires) (eight (omega arith) (omega arith) (omega arith) (omega arith) (omega arith) (omega arith) (omega arith) (omega arith)))
