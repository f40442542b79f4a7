use Rattle.std.proofs.Common.{◌≡◌, ◌++◌, length, take, drop, ap, ◌∙◌, arith}
use Rattle.std.proofs.lemmas.List.{take_at, drop_at, drop_all, append-nil, length-take-le, length-drop, length-append}
use Rattle.std.proofs.lemmas.Simd.{put_chunk_whole, put_chunk_is}
use lib.Lanes.{put_chunk}
use Rattle.exr_b44.proofs.reading.put_both.Goals as goal

pub returns : goal.returns
returns c =
    let top = c.args.top in
    let bottom = c.args.bottom in
    let into = c.args.into.now in
    let rest = drop 16 into in
    let long_top = c.fits-top.0 in
    let long_bottom = c.fits-bottom.0 in
    let first : put_chunk 0 (take 16 into) top ≡ top = put_chunk_whole (take 16 into) top (length-take-le 16 into (omega (arith, c.requires)) ∙ omega arith) in
    let left : length rest ≡ 16 = omega (arith, length-drop 16 into, c.requires) in
    let none : drop (length bottom) (drop 16 (top ++ rest)) ≡ drop 16 rest = (λ i. drop (long_bottom i) (drop_at top rest 16 long_top i)) in
    ap (λ l. put_chunk 16 (l ++ rest) bottom) first
    ∙ put_chunk_is 16 (top ++ rest) bottom (omega (arith, length-append top rest))
    ∙ ap (λ l. l ++ (bottom ++ drop (length bottom) (drop 16 (top ++ rest)))) (take_at top rest 16 long_top)
    ∙ ap (λ l. top ++ (bottom ++ l)) (none ∙ drop_all 16 rest (omega arith))
    ∙ ap (λ l. top ++ l) (append-nil bottom)
