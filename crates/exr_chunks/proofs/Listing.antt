-- How many chunks a window meets.
use Rattle.std.proofs.Common.{◌≡◌, ℕ, zero, suc, ◌+◌, ◌≤◌, ◌^◌, Bool, true, false, cond, List, [], ◌∷◌, length, ap, arith}
use Rattle.std.proofs.lemmas.List.{length-append}
use Rattle.exr_base.specs.declared.shape.Box2i.{Box2i}
use Rattle.exr_chunks.specs.Heads.{Header, chunk_count_of}
use Rattle.exr_chunks.specs.Region.{region_of}
use Rattle.exr_chunks.specs.Window.{boxes_meet, meeting_among, chunks_of_window}

one_at_most : (b : Bool) (n : ℕ) → length (cond b (n ∷ []) []) ≤ 1
one_at_most true n = omega arith
one_at_most false n = omega arith

listed_few : (h : Header) (w : Box2i) (n : ℕ) → length (meeting_among h w n) ≤ n
unfolding meeting_among
listed_few h w zero = omega arith
listed_few h w (suc n) =
    let low = listed_few h w n in
    let one = one_at_most (boxes_meet (region_of h n) w) n in
    let size = length-append (meeting_among h w n) (cond (boxes_meet (region_of h n) w) (n ∷ []) []) in
    omega arith

-- no more than the part has
pub window_few : (h : Header) (w : Box2i) (chunks : List ℕ) (count first : ℕ) → chunks ≡ chunks_of_window h w → count ≡ chunk_count_of h → first + count ≤ 2 ^ 20 → length chunks ≤ 2 ^ 20
window_few h w chunks count first is all small =
    let size = ap length is in
    let low = listed_few h w (chunk_count_of h) in
    omega arith
