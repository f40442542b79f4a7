-- What a list holds after some of it was written.
use Rattle.std.proofs.Common.{◌≡◌, ℕ, ◌+◌, ◌≤◌, List, ◌++◌, length, take, drop, ap, ◌∙◌}
use Rattle.std.proofs.Math.Seq.{take-add}
use Rattle.std.proofs.lemmas.List.{take-append-le, take_at, drop_at, length-take-le}
use borrow.Rule.Slice.PartMut.{put_mid}

-- the front of what was written over a part
pub take_front_put_mid : (xs ys : List ℕ) (to room count : ℕ) → to ≤ length xs → count ≤ length ys → take (to + count) (put_mid to room xs ys) ≡ take to xs ++ take count ys
take_front_put_mid xs ys to room count there enough =
    let whole = put_mid to room xs ys in
    let long = length-take-le to xs there in
    take-add to count whole
    ∙ ap (λ front. front ++ take count (drop to whole)) (take_at (take to xs) _ to long)
    ∙ ap (λ back. take to xs ++ take count back) (drop_at (take to xs) _ to long)
    ∙ ap (λ back. take to xs ++ back) (take-append-le count ys _ enough)
