-- Where samples stand in planes one behind the other.
use Rattle.std.proofs.Common.{◌≡◌, ◌+◌, ◌*◌, ◌<◌, ℕ, ℤ, zero, suc, List, [], ◌∷◌, length, take, get_or, ap, ◌∙◌, arith}
use Rattle.std.specs.List.{sum_by}
use Rattle.std.proofs.lemmas.List.Sums.{sum_by-cons}
use Rattle.exr_base.specs.declared.channel.Channel.{Channel}
use Rattle.exr_base.specs.declared.shape.Box2i.{Box2i}
use Rattle.exr_judge.specs.declared.header.Header.{Header}
use Rattle.exr_asked.specs.declared.choices.Arrangement.TheVariants.{Planar}
use Rattle.exr_layout.specs.declared.placement.Placement.{Placement}
use Rattle.exr_layout.specs.Validation.{Frame}
use Rattle.exr_base.specs.Sampling.{count_before}
use Rattle.exr_layout.specs.Place.{placement_in, placements_of, placement_at, place_in_buffer}
use Rattle.exr_request.specs.Arranged.{kind_bytes, row_bytes, plane_bytes, behind, slice_for, run_for, plane_for, planes_for}
use Rattle.exr_asked.specs.Demand.{Demand}
use Rattle.exr_request.specs.Request.{window_asked, channels_asked, IsArranged}
use Rattle.exr_request.proofs.Alike.{plain_spots, same_spots}

-- the slice of a channel whose plane has a base
abbrev pub planar_spot : Box2i → ℕ → ℕ → ℕ → Channel → Placement
planar_spot window pad fill base c = placement_in (plane_for window pad fill base c) (run_for fill 0 c) (slice_for fill 0 c)

-- the bytes of the planes before one
abbrev pub bytes_before : Box2i → ℕ → List Channel → ℕ → ℕ
bytes_before window pad cs k = sum_by (plane_bytes window pad) (take k cs)

planar_at : (window : Box2i) (pad fill at : ℕ) (cs : List Channel) (k : ℕ) (e : Channel) → k < length cs
    → placement_at (plain_spots (behind (plane_bytes window pad) (plane_for window pad fill) at cs)) k ≡ planar_spot window pad fill (at + bytes_before window pad cs k) (get_or cs k e)
planar_at window pad fill at [] k e h = absurd (omega arith)
planar_at window pad fill at (c ∷ cs) zero e h = ap (λ (n : ℕ). planar_spot window pad fill n c) (omega arith)
planar_at window pad fill at (c ∷ cs) (suc k) e h =
    let sum = sum_by-cons (plane_bytes window pad) c (take k cs) in
    planar_at window pad fill (at + plane_bytes window pad c) cs k e (omega arith)
    ∙ ap (λ (n : ℕ). planar_spot window pad fill n (get_or cs k e)) (omega arith)

-- the slice of channel k stands in the plane of channel k
pub planar_slice : (d : Demand) (h : Header) (f : Frame) (k : ℕ) (e : Channel) → IsArranged d h f → d.layout ≡ Planar → k < length (channels_asked d h)
    → placement_at (placements_of f.planes) k ≡ planar_spot (window_asked d h) d.pad d.fill (bytes_before (window_asked d h) d.pad (channels_asked d h) k) (get_or (channels_asked d h) k e)
planar_slice d h f k e arranged planar within =
    ap (λ (l : List Placement). placement_at l k) (same_spots f.planes ∙ ap plain_spots (arranged.planes ∙ ap (λ layout. planes_for layout (window_asked d h) d.pad d.fill (channels_asked d h)) planar))
    ∙ planar_at (window_asked d h) d.pad d.fill 0 (channels_asked d h) k e within
    ∙ ap (λ (n : ℕ). planar_spot (window_asked d h) d.pad d.fill n (get_or (channels_asked d h) k e)) (omega arith)

-- a sample of channel k stands behind the planes before, the lines before and the samples before
pub planar_place : (d : Demand) (h : Header) (f : Frame) (k : ℕ) (e : Channel) (x y : ℤ) → IsArranged d h f → d.layout ≡ Planar → k < length (channels_asked d h)
    → place_in_buffer (window_asked d h) (placement_at (placements_of f.planes) k) x y
    ≡ bytes_before (window_asked d h) d.pad (channels_asked d h) k
    + count_before (get_or (channels_asked d h) k e).ys (window_asked d h).y0 y * (row_bytes (window_asked d h) (get_or (channels_asked d h) k e) + d.pad)
    + count_before (get_or (channels_asked d h) k e).xs (window_asked d h).x0 x * kind_bytes (get_or (channels_asked d h) k e)
unfolding place_in_buffer
planar_place d h f k e x y arranged planar within =
    let window = window_asked d h in
    let c = get_or (channels_asked d h) k e in
    ap (λ (s : Placement). place_in_buffer window s x y) (planar_slice d h f k e arranged planar within)
    ∙ omega arith
