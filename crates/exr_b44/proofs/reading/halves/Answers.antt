use Rattle.std.proofs.Common.{ℕ, ◌<◌, get_or, arith}
use Rattle.std.proofs.lemmas.Simd.{Each1-get_or}
use Rattle.exr_b44.proofs.Vectors.{whole8, eight}
use Rattle.exr_b44.proofs.Numbers.{halved}
use Rattle.exr_b44.proofs.reading.halves.Goals as goal

pub returns : goal.returns
returns c =
    let xs = c.args.numbers in
    let long = c.fits-numbers.0 in
    let fit = c.fits-numbers.1 in
    let small : (k : ℕ) → k < 8 → get_or xs k 0 < 65536 = λ k lt. (Each1-get_or _ xs k 0 (omega arith) fit).fits in
    rw (whole8 xs long)
    (eight (halved _ (small 0 (omega arith))) (halved _ (small 1 (omega arith))) (halved _ (small 2 (omega arith))) (halved _ (small 3 (omega arith)))
    (halved _ (small 4 (omega arith))) (halved _ (small 5 (omega arith))) (halved _ (small 6 (omega arith))) (halved _ (small 7 (omega arith))))
