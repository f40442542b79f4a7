-- The planes that are made for channels make a frame: how many slices they have, and the window they lie over.
use Rattle.std.proofs.Common.{◌≡◌, ◌+◌, ◌≤◌, ◌^◌, ℕ, ℤ, ◌≤ℤ◌, suc, All, get_or, Option, Some, None, IfSome, true, false, not, IsTrue, List, [], ◌∷◌, ◌++◌, length, map, refl, sym, ap, ◌∙◌, arith}
use Rattle.std.specs.Prelude.{int_lt, int_le}
use Rattle.std.specs.List.{flat_map, position}
use Rattle.std.proofs.lemmas.List.{append-nil, length-map}
use Rattle.std.proofs.lemmas.List.Concat.{flat_map-append}
use Rattle.std.proofs.lemmas.List.Elements.{All-map}
use Rattle.std.proofs.lemmas.List.Quantifiers.{position-Some}
use Rattle.std.proofs.lemmas.Bool.{and_parts}
use Rattle.std.proofs.lemmas.Int.{ints}
use Rattle.exr_base.specs.declared.channel.Channel.{Channel}
use Rattle.exr_base.specs.declared.shape.Box2i.{Box2i}
use Rattle.exr_base.specs.Sampling.{span_of}
use Rattle.exr_base.specs.Shape.{IsSide, IsRegion, IsSampled}
use Rattle.exr_judge.specs.declared.header.Header.{Header}
use Rattle.exr_judge.specs.Picture.{is_empty, IsPicture}
use Rattle.exr_base.proofs.Logic.{not_either, lt_false, le_true}
use Rattle.exr_base.proofs.Sides.{span_is, side_within}
use Rattle.exr_asked.specs.declared.choices.Wanted.{Wanted}
use Rattle.exr_asked.specs.declared.choices.Arrangement.{Arrangement}
use Rattle.exr_asked.specs.declared.choices.Arrangement.TheVariants.{Planar, Lines, Pixels}
use Rattle.exr_layout.specs.declared.planes.Plane.{Plane}
use Rattle.exr_layout.specs.declared.planes.Run.{Run}
use Rattle.exr_layout.specs.declared.planes.Slice.{Slice}
use Rattle.exr_layout.specs.Validation.{slices_of_runs, slices_of, frame_from, IsFrame}
use Rattle.exr_base.specs.Channel.{no_channel, is_named}
use Rattle.exr_base.specs.Boxes.{is_side_inside, is_inside}
use Rattle.exr_request.specs.Arranged.{PlainRun, PlainPlane, plain_run, plain_plane, kind_bytes, row_bytes, plane_bytes, behind, slice_for, run_for, plane_for, planes_for}
use Rattle.exr_request.specs.Chosen.{found, channel_wanted, channels_chosen}
use Rattle.exr_request.specs.Request.{is_window_of}

-- ---- slices

-- the slices of plain runs and planes
abbrev pub plain_run_slices : List PlainRun → List Slice
plain_run_slices runs = flat_map (λ (r : PlainRun). r.slices) runs

abbrev pub plain_slices : List PlainPlane → List Slice
plain_slices planes = plain_run_slices (flat_map (λ (p : PlainPlane). p.runs) planes)

pub same_run_slices : (rs : List Run) → slices_of_runs rs ≡ plain_run_slices (map plain_run rs)
same_run_slices [] = refl
same_run_slices (r ∷ rs) = ap (λ (l : List Slice). r.slices.items ++ l) (same_run_slices rs)

pub same_slices : (ps : List Plane) → slices_of ps ≡ plain_slices (map plain_plane ps)
same_slices [] = refl
same_slices (p ∷ ps) =
    flat_map-append (λ (r : Run). r.slices.items) p.runs.items (flat_map (λ (q : Plane). q.runs.items) ps)
    ∙ ap (λ (l : List Slice). l ++ slices_of ps) (same_run_slices p.runs.items)
    ∙ ap (λ (l : List Slice). plain_run_slices (map plain_run p.runs.items) ++ l) (same_slices ps)
    ∙ sym (flat_map-append (λ (r : PlainRun). r.slices) (map plain_run p.runs.items) (flat_map (λ (q : PlainPlane). q.runs) (map plain_plane ps)))

-- as many slices as channels
behind_count : {Y : Type 0} (size : Channel → ℕ) (make : ℕ → Channel → Y) (at : ℕ) (cs : List Channel) → length (behind size make at cs) ≡ length cs
behind_count size make at [] = refl
behind_count size make at (c ∷ cs) = ap suc (behind_count size make (at + size c) cs)

runs_count : (size : Channel → ℕ) (fill at : ℕ) (cs : List Channel) → length (plain_run_slices (behind size (run_for fill) at cs)) ≡ length cs
runs_count size fill at [] = refl
runs_count size fill at (c ∷ cs) = ap suc (runs_count size fill (at + size c) cs)

planar_count : (window : Box2i) (pad fill : ℕ) (size : Channel → ℕ) (at : ℕ) (cs : List Channel) → length (plain_slices (behind size (plane_for window pad fill) at cs)) ≡ length cs
planar_count window pad fill size at [] = refl
planar_count window pad fill size at (c ∷ cs) = ap suc (planar_count window pad fill size (at + size c) cs)

slices_count : (layout : Arrangement) (window : Box2i) (pad fill : ℕ) (cs : List Channel) → length (plain_slices (planes_for layout window pad fill cs)) ≡ length cs
slices_count Planar window pad fill cs = planar_count window pad fill (plane_bytes window pad) 0 cs
slices_count Lines window pad fill cs =
    ap (λ (l : List PlainRun). length (plain_run_slices l)) (append-nil (behind (row_bytes window) (run_for fill) 0 cs))
    ∙ runs_count (row_bytes window) fill 0 cs
slices_count Pixels window pad fill cs =
    ap length (append-nil (behind kind_bytes (slice_for fill) 0 cs)) ∙ behind_count kind_bytes (slice_for fill) 0 cs

-- ---- the window

-- a side within another
side_inside : (from to low high : ℤ) → int_lt to from ≡ false → is_side_inside from to low high ≡ true → IsSide low high → (from ≤ℤ to) × IsSide from to
side_inside from to low high ordered inside side =
    let p = and_parts (int_le low from) (int_le to high) inside in
    let o = lt_false from to ordered in
    let l = le_true low from p.0 in
    let r = le_true to high p.1 in
    let whole = span_is low high (omega (arith, ints, o, l, r)) in
    let part = span_is from to (omega (arith, ints, o)) in
    let few : span_of from to ≤ 2 ^ 20 = omega (arith, ints, whole, part, l, r, side.few) in
    (o, side_within from to (span_of from to) o (omega (arith, ints, side.low, l)) (omega (arith, ints, side.end_high, r)) refl few)

pub record IsOver (window : Box2i) : Type 0 where
  pub region : IsRegion window
  pub columns : window.x0 ≤ℤ window.x1
  pub rows : window.y0 ≤ℤ window.y1

pub over : (h : Header) (window : Box2i) → IsPicture h → IsTrue (is_window_of h window) → IsOver window
over h window picture within =
    let a = and_parts (not (is_empty window)) (is_inside window h.window) within in
    let b = not_either (int_lt window.x1 window.x0) (int_lt window.y1 window.y0) a.0 in
    let c = and_parts (is_side_inside window.x0 window.x1 h.window.x0 h.window.x1) (is_side_inside window.y0 window.y1 h.window.y0 h.window.y1) a.1 in
    let x = side_inside window.x0 window.x1 h.window.x0 h.window.x1 b.0 c.0 picture.shape.within.columns in
    let y = side_inside window.y0 window.y1 h.window.y0 h.window.y1 b.1 c.1 picture.shape.within.rows in
    record { region = record { columns = x.1; rows = y.1 }; columns = x.0; rows = y.0 }

-- ---- samplings

found_sampled : (cs : List Channel) (name : List ℕ) (o : Option ℕ) → All IsSampled cs → position (is_named name) cs ≡ o → IsSampled (found cs name o)
found_sampled cs name None sampled h = record { columns = omega arith; rows = omega arith }
found_sampled cs name (Some place) sampled h = sampled place no_channel (position-Some (is_named name) cs place no_channel h).0

wanted_sampled : (cs : List Channel) (w : Wanted) → All IsSampled cs → IsSampled (channel_wanted cs w)
wanted_sampled cs w sampled =
    let here = found_sampled cs w.name (position (is_named w.name) cs) sampled refl in
    record { columns = here.columns; rows = here.rows }

-- the channels that are chosen have samples
pub chosen_sampled : (cs : List Channel) (wanted : Option (List Wanted)) → All IsSampled cs → All IsSampled (channels_chosen cs wanted)
chosen_sampled cs None sampled = sampled
chosen_sampled cs (Some ws) sampled =
    All-map IsSampled (channel_wanted cs) ws (λ k d lt. wanted_sampled cs (get_or ws k d) sampled)

-- as few as are asked for, or as the part has
pub chosen_few : (cs : List Channel) (wanted : Option (List Wanted)) → length cs ≤ 1024 → IfSome wanted (λ (ws : List Wanted). length ws ≤ 1024) → length (channels_chosen cs wanted) ≤ 1024
chosen_few cs None few some = few
chosen_few cs (Some ws) few some = rw length-map some

-- ---- the frame

pub framed : (layout : Arrangement) (window : Box2i) (pad fill : ℕ) (cs : List Channel) (planes : List Plane) (buffer : ℕ)
    → map plain_plane planes ≡ planes_for layout window pad fill cs → length cs ≤ 1024 → IsOver window → buffer ≤ 2 ^ 60
    → IsFrame (frame_from planes window buffer)
framed layout window pad fill cs planes buffer arranged few is_over small =
    let e : length (slices_of planes) ≡ length cs = ap length (same_slices planes) ∙ ap (λ (l : List PlainPlane). length (plain_slices l)) arranged ∙ slices_count layout window pad fill cs in
    record { region = is_over.region; columns = is_over.columns; rows = is_over.rows; few = omega arith; counted = omega arith }
