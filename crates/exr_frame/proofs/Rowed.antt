-- A row put along a strip is the row of a slice.
use Rattle.std.proofs.Common.{◌≡◌, ◌+◌, ◌-◌, ◌*◌, ◌/◌, ◌%◌, ◌^◌, ◌<◌, ◌≤◌, ℕ, ℤ, List, length, take, drop, sym, ap, ap₂, ◌∙◌, subst, arith, slice_index, ◌≤ℤ◌, Bool, true, false, ◌&&◌}
use Rattle.std.specs.Prelude.{int_le}
use Rattle.std.proofs.lemmas.Int.{ints}
use Rattle.std.proofs.lemmas.List.{get_or-take, get_or-drop}
use Rattle.std.proofs.lemmas.Nat.{mul-le}
use Rattle.exr_base.specs.declared.shape.Box2i.{Box2i}
use Rattle.exr_base.specs.Channel.{bytes_of}
use Rattle.exr_base.specs.Sampling.{is_multiple, sample_count_of}
use Rattle.exr_layout.specs.declared.planes.Plane.{Plane}
use Rattle.exr_layout.specs.declared.placement.Placement.{Placement}
use Rattle.exr_frame.specs.declared.strip.Strip.{Strip}
use Rattle.exr_layout.specs.Validation.{Frame}
use Rattle.exr_base.specs.Sampling.{count_before}
use Rattle.exr_layout.specs.Place.{placements_of, placement_at, place_of, Byte}
use Rattle.exr_base.specs.Boxes.{is_side_inside}
use Rattle.exr_frame.specs.Buffer.{IsCopied}
use Rattle.exr_frame.specs.Rows.{IsOfRow, row_place, sample_byte, fill_byte, IsInRow, IsLineOf, IsStrip, HasNone, line_byte, filled_byte, low_of, has_line}
use Rattle.exr_layout.proofs.Matched.{and_left, and_right}
use Rattle.exr_frame.proofs.Putting.{put_again, put_none}
use Rattle.exr_frame.proofs.Strips.{along, found}

-- a slice's bytes along a strip, whatever they are
pub along_strip : (f : Frame) (region : Box2i) (s : ℕ) (y : ℤ) (strip : Strip) (value : ℕ × ℕ → ℕ) (value' : Byte → ℕ) (old new : List ℕ)
    → IsLineOf f region s y → IsStrip f region s y strip
    → ((k : Byte) → IsInRow f.window (placements_of f.planes) region s y k → value (count_before (placement_at (placements_of f.planes) s).sampling (low_of f.window region) k.x, k.byte) ≡ value' k)
    → IsCopied (IsOfRow strip.samples (bytes_of (placement_at (placements_of f.planes) s).kind)) (row_place strip.at (placement_at (placements_of f.planes) s).stride) value old new
    → IsCopied (IsInRow f.window (placements_of f.planes) region s y) (place_of f.window (placements_of f.planes)) value' old new
along_strip f region s y strip value value' old new line st same p =
    let x = placement_at (placements_of f.planes) s in
    let low = low_of f.window region in
    put_again (IsOfRow strip.samples (bytes_of x.kind)) (row_place strip.at x.stride) value (IsInRow f.window (placements_of f.planes) region s y) (place_of f.window (placements_of f.planes)) value' old new
    (λ k w.
    let a = along f region s y k w in
    let c = count_before x.sampling low k.x in (
      (c, k.byte),
      record { sample = omega (arith, a.number, st.samples); byte = a.byte },
      ap (λ n. n + c * x.stride + k.byte) st.at ∙ sym a.place,
      same k w,
    ))
    (λ j w.
    let q = found f region s y j.0 j.1 line st.ordered (omega (arith, w.sample, st.samples)) w.byte in
    let a = along f region s y q.at q.in_row in (
      q.at,
      q.in_row,
      a.place ∙ ap₂ (λ (n m : ℕ). n + m * x.stride + q.at.byte) (sym st.at) q.count ∙ ap (λ (b : ℕ). strip.at + j.0 * x.stride + b) q.byte,
    ))
    p

pub part_at : (row : List ℕ) (from count i : ℕ) → i < count → slice_index (take count (drop from row)) i ≡ slice_index row (from + i)
part_at row from count i h = get_or-take count (drop from row) i 0 h ∙ get_or-drop from row i 0

pub sample_small : (c n b size : ℕ) → c < n → b < size → c * size + b < n * size
sample_small c n b size h k = let p = mul-le (c + 1) size n size (omega arith) (omega arith) in omega arith

joined_at : (skip c size b : ℕ) → skip * size + (c * size + b) ≡ (skip + c) * size + b
joined_at skip c size b = omega arith

pub row_put : (f : Frame) (region : Box2i) (s : ℕ) (y : ℤ) (strip : Strip) (row from old new : List ℕ) → IsLineOf f region s y → IsStrip f region s y strip
    → from ≡ take (strip.samples * bytes_of (placement_at (placements_of f.planes) s).kind) (drop (strip.skip * bytes_of (placement_at (placements_of f.planes) s).kind) row)
    → IsCopied (IsOfRow strip.samples (bytes_of (placement_at (placements_of f.planes) s).kind)) (row_place strip.at (placement_at (placements_of f.planes) s).stride) (sample_byte from (bytes_of (placement_at (placements_of f.planes) s).kind)) old new
    → IsCopied (IsInRow f.window (placements_of f.planes) region s y) (place_of f.window (placements_of f.planes)) (line_byte (placements_of f.planes) region row) old new
row_put f region s y strip row from old new line st e p =
    let x = placement_at (placements_of f.planes) s in
    let low = low_of f.window region in
    let size = bytes_of x.kind in
    along_strip f region s y strip (sample_byte from size) (line_byte (placements_of f.planes) region row) old new line st
    (λ k w.
    let a = along f region s y k w in
    let c = count_before x.sampling low k.x in
    let behind : count_before x.sampling region.x0 k.x ≡ strip.skip + c = a.behind ∙ ap (λ n. n + c) (sym st.skip) in
    ap (λ l. slice_index l (c * size + k.byte)) e
    ∙ part_at row (strip.skip * size) (strip.samples * size) (c * size + k.byte) (sample_small c strip.samples k.byte size (omega (arith, a.number, st.samples)) a.byte)
    ∙ ap (slice_index row) (joined_at strip.skip c size k.byte)
    ∙ ap (λ n. slice_index row (n * size + k.byte)) (sym behind)
    ∙ ap (λ (t : ℕ). slice_index row (count_before (placement_at (placements_of f.planes) t).sampling region.x0 k.x * bytes_of (placement_at (placements_of f.planes) t).kind + k.byte)) (sym w.slice))
    p

-- the placement that a plan has of a slice
pub placed : (placements : List Placement) (planes : List Plane) (s : ℕ) (x : Placement) → placements ≡ placements_of planes → x ≡ placement_at placements s → x ≡ placement_at (placements_of planes) s
placed placements planes s x e is = is ∙ ap (λ (l : List Placement). placement_at l s) e

pub is_placed : (placements : List Placement) (planes : List Plane) (s : ℕ) → placements ≡ placements_of planes → s < length (placements_of planes) → s < length placements
is_placed placements planes s e lt = subst (λ (l : List Placement). s < length l) (sym e) lt

-- the same, of a slice by its placement
pub spot_row_put : (f : Frame) (region : Box2i) (s : ℕ) (y : ℤ) (strip : Strip) (x : Placement) (row from old new : List ℕ) → IsLineOf f region s y → IsStrip f region s y strip → x ≡ placement_at (placements_of f.planes) s
    → from ≡ take (strip.samples * bytes_of x.kind) (drop (strip.skip * bytes_of x.kind) row)
    → IsCopied (IsOfRow strip.samples (bytes_of x.kind)) (row_place strip.at x.stride) (sample_byte from (bytes_of x.kind)) old new
    → IsCopied (IsInRow f.window (placements_of f.planes) region s y) (place_of f.window (placements_of f.planes)) (line_byte (placements_of f.planes) region row) old new
spot_row_put f region s y strip x row from old new line st is =
    let P : Placement → Type 0 = λ (x : Placement). from ≡ take (strip.samples * bytes_of x.kind) (drop (strip.skip * bytes_of x.kind) row)
    → IsCopied (IsOfRow strip.samples (bytes_of x.kind)) (row_place strip.at x.stride) (sample_byte from (bytes_of x.kind)) old new
    → IsCopied (IsInRow f.window (placements_of f.planes) region s y) (place_of f.window (placements_of f.planes)) (line_byte (placements_of f.planes) region row) old new in
    subst P (sym is) (λ e p. row_put f region s y strip row from old new line st e p)

-- a part of a row by where it begins and ends
pub part_between : (skip samples size : ℕ) (row : List ℕ) → take ((skip + samples) * size - skip * size) (drop (skip * size) row) ≡ take (samples * size) (drop (skip * size) row)
part_between skip samples size row = let e : (skip + samples) * size - skip * size ≡ samples * size = omega arith in ap (λ n. take n (drop (skip * size) row)) e

-- the strip's part lies in the row
pub strip_inside : (skip samples count size long : ℕ) → skip + samples ≤ count → long ≡ count * size → (skip + samples) * size ≤ long
strip_inside skip samples count size long h e = let p = mul-le (skip + samples) size count size h (omega arith) in omega arith

pub strip_end : (f : Frame) (region : Box2i) (s : ℕ) (y : ℤ) (strip : Strip) (x : Placement) (size long : ℕ) → IsStrip f region s y strip → x ≡ placement_at (placements_of f.planes) s → size ≡ bytes_of x.kind
    → long ≡ sample_count_of (placement_at (placements_of f.planes) s).sampling region.x0 region.x1 * bytes_of (placement_at (placements_of f.planes) s).kind
    → (strip.skip + strip.samples) * size ≤ long
strip_end f region s y strip x size long st is e row =
    let n = sample_count_of (placement_at (placements_of f.planes) s).sampling region.x0 region.x1 in
    let same : size ≡ bytes_of (placement_at (placements_of f.planes) s).kind = e ∙ ap (λ (t : Placement). bytes_of t.kind) is in
    strip_inside strip.skip strip.samples n size long st.inside (row ∙ ap (λ m. n * m) (sym same))

pub fill_put : (f : Frame) (region : Box2i) (s : ℕ) (y : ℤ) (strip : Strip) (old new : List ℕ) → IsLineOf f region s y → IsStrip f region s y strip
    → IsCopied (IsOfRow strip.samples (bytes_of (placement_at (placements_of f.planes) s).kind)) (row_place strip.at (placement_at (placements_of f.planes) s).stride) (fill_byte (placement_at (placements_of f.planes) s).fill) old new
    → IsCopied (IsInRow f.window (placements_of f.planes) region s y) (place_of f.window (placements_of f.planes)) (filled_byte (placements_of f.planes)) old new
fill_put f region s y strip old new line st p =
    along_strip f region s y strip (fill_byte (placement_at (placements_of f.planes) s).fill) (filled_byte (placements_of f.planes)) old new line st
    (λ k w. ap (λ (t : ℕ). (placement_at (placements_of f.planes) t).fill / 256 ^ k.byte % 256) (sym w.slice))
    p

pub row_nothing : (f : Frame) (region : Box2i) (s : ℕ) (y : ℤ) (value : Byte → ℕ) (old : List ℕ) → HasNone f region s y → IsCopied (IsInRow f.window (placements_of f.planes) region s y) (place_of f.window (placements_of f.planes)) value old old
row_nothing f region s y value old none = put_none (IsInRow f.window (placements_of f.planes) region s y) (place_of f.window (placements_of f.planes)) value old none

pub spot_fill_put : (f : Frame) (region : Box2i) (s : ℕ) (y : ℤ) (strip : Strip) (x : Placement) (old new : List ℕ) → IsLineOf f region s y → IsStrip f region s y strip → x ≡ placement_at (placements_of f.planes) s
    → IsCopied (IsOfRow strip.samples (bytes_of x.kind)) (row_place strip.at x.stride) (fill_byte x.fill) old new
    → IsCopied (IsInRow f.window (placements_of f.planes) region s y) (place_of f.window (placements_of f.planes)) (filled_byte (placements_of f.planes)) old new
spot_fill_put f region s y strip x old new line st is =
    let P : Placement → Type 0 = λ (x : Placement). IsCopied (IsOfRow strip.samples (bytes_of x.kind)) (row_place strip.at x.stride) (fill_byte x.fill) old new
    → IsCopied (IsInRow f.window (placements_of f.planes) region s y) (place_of f.window (placements_of f.planes)) (filled_byte (placements_of f.planes)) old new in
    subst P (sym is) (λ p. fill_put f region s y strip old new line st p)

-- ---- lines of a slice

lies : (y low high : ℤ) → is_side_inside y y low high ≡ true → (low ≤ℤ y) × (y ≤ℤ high)
lies y low high h =
    let l = and_left (int_le low y) (int_le y high) h in
    let r = and_right (int_le low y) (int_le y high) h in
    (grind (arith, ints), grind (arith, ints))

from_both : (a b : Bool) → a ≡ true → b ≡ true → (a && b) ≡ true
from_both a b e h = ap₂ (λ (x y : Bool). x && y) e h

pub within_side : (y low high : ℤ) → low ≤ℤ y → y ≤ℤ high → is_side_inside y y low high ≡ true
within_side y low high h k = from_both (int_le low y) (int_le y high) (grind (arith, ints)) (grind (arith, ints))

-- on a line that a slice does not have, it has no samples
pub none_on_line : (f : Frame) (region : Box2i) (s : ℕ) (y : ℤ) → has_line f s y ≡ false → HasNone f region s y
none_on_line f region s y none k w =
    let top : f.window.y0 ≤ℤ y = subst (λ (z : ℤ). f.window.y0 ≤ℤ z) w.line w.named.within.top in
    let bottom : y ≤ℤ f.window.y1 = subst (λ (z : ℤ). z ≤ℤ f.window.y1) w.line w.named.within.bottom in
    let multiple : is_multiple (placement_at (placements_of f.planes) s).row_sampling y ≡ true =
    ap₂ (λ (t : ℕ) (z : ℤ). is_multiple (placement_at (placements_of f.planes) t).row_sampling z) (sym w.slice) (sym w.line) ∙ w.named.line in
    let here = from_both (is_side_inside y y f.window.y0 f.window.y1) (is_multiple (placement_at (placements_of f.planes) s).row_sampling y) (within_side y f.window.y0 f.window.y1 top bottom) multiple in
    cc

pub line_held : (f : Frame) (region : Box2i) (s : ℕ) (y : ℤ) → s < length (placements_of f.planes) → has_line f s y ≡ true → region.y0 ≤ℤ y → y ≤ℤ region.y1 → IsLineOf f region s y
line_held f region s y lt here above below =
    let inside = is_side_inside y y f.window.y0 f.window.y1 in
    let multiple = is_multiple (placement_at (placements_of f.planes) s).row_sampling y in
    let l = lies y f.window.y0 f.window.y1 (and_left inside multiple here) in
    record { slice = lt; line = and_right inside multiple here; top = l.0; bottom = l.1; above = above; below = below }
