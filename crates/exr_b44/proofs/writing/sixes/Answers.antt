use Rattle.std.proofs.Common.{arith}
use Rattle.exr_b44.proofs.Vectors.{whole8, sixteen}
use Rattle.exr_b44.proofs.writing.sixes.Goals as goal

pub returns-clause-exact : goal.returns-clause-exact
returns-clause-exact c =
    let a = c.requires.near.each 0 in let b = c.requires.near.each 1 in let d = c.requires.near.each 2 in let e = c.requires.near.each 3 in
    let f = c.requires.near.each 4 in let g = c.requires.near.each 5 in let h = c.requires.near.each 6 in let k = c.requires.near.each 7 in
    let a' = c.requires.far.each 0 in let b' = c.requires.far.each 1 in let d' = c.requires.far.each 2 in let e' = c.requires.far.each 3 in
    let f' = c.requires.far.each 4 in let g' = c.requires.far.each 5 in let h' = c.requires.far.each 6 in let k' = c.requires.far.each 7 in
    rw (c.bytes-first.ensures, c.bytes-second.ensures) (rw (whole8 c.args.near c.fits-near.0, whole8 c.args.far c.fits-far.0) (sixteen (omega arith) (omega arith) (omega arith) (omega arith) (omega arith) (omega arith) (omega arith) (omega arith) (omega arith) (omega arith) (omega arith) (omega arith) (omega arith) (omega arith) (omega arith) (omega arith)))
