use Rattle.std.proofs.Common.{ℕ, ◌<◌, get_or, arith}
use Rattle.exr_b44.proofs.Vectors.{whole8, eight, words_fit}
use Rattle.exr_b44.specs.Cell.{depths_of}
use Rattle.exr_b44.proofs.Depths.{depth_lane}
use Rattle.exr_b44.proofs.writing.depths.Goals as goal

pub returns : goal.returns
unfolding depths_of
returns c =
    let xs = c.args.below in
    let small : (k : ℕ) → k < 8 → get_or xs k 0 < 65536 = λ k lt. words_fit xs k c.fits-below.0 c.fits-below.1 lt in
    let s = c.args.shift in
    let lt = c.requires in
    rw (whole8 xs c.fits-below.0)
    (eight (depth_lane _ s lt (small 0 (omega arith))) (depth_lane _ s lt (small 1 (omega arith))) (depth_lane _ s lt (small 2 (omega arith))) (depth_lane _ s lt (small 3 (omega arith)))
    (depth_lane _ s lt (small 4 (omega arith))) (depth_lane _ s lt (small 5 (omega arith))) (depth_lane _ s lt (small 6 (omega arith))) (depth_lane _ s lt (small 7 (omega arith))))
