-- The row of a slice is the row of its channel.
use Rattle.std.proofs.Common.{◌≡◌, ◌+◌, ◌-◌, ◌*◌, ◌<◌, ◌≤◌, ℕ, ℤ, ◌≤ℤ◌, true, false, cond, List, length, take, drop, get_or, Option, Some, None, refl, sym, ap, ap₂, ◌∙◌, subst, arith, slice_index}
use Rattle.std.proofs.lemmas.List.{get_or_default, length-take-le, length-drop}
use Rattle.exr_base.specs.declared.shape.Box2i.{Box2i}
use Rattle.exr_base.specs.declared.channel.Kind.{Kind}
use Rattle.exr_base.specs.declared.channel.Kind.TheVariants.{Uint, Half, Float}
use Rattle.exr_base.specs.declared.channel.Channel.{Channel}
use Rattle.exr_base.specs.Channel.{bytes_of}
use Rattle.exr_base.specs.Sampling.{is_multiple, sample_count_of}
use Rattle.exr_base.specs.Shape.{row_bytes_of, row_place_of, raw_place_of}
use Rattle.exr_layout.specs.Plan.{Matching}
use Rattle.exr_layout.specs.declared.placement.Placement.{Placement}
use Rattle.exr_layout.specs.Validation.{Frame}
use Rattle.exr_base.specs.Sampling.{count_before}
use Rattle.exr_layout.specs.Place.{placements_of, placement_at, place_of, Byte}
use Rattle.exr_base.specs.Channel.{channel_at, no_channel}
use Rattle.exr_layout.specs.Plan.{same_kind, IsPlanOf}
use Rattle.exr_frame.specs.Buffer.{IsCopied, byte_of, chunk_byte}
use Rattle.exr_frame.specs.Rows.{IsInRow, IsOfChannel, IsSliceOf, HasNoSlice, has_line, line_byte}
use Rattle.exr_layout.proofs.Columns.{before_count}
use Rattle.exr_layout.proofs.Matched.{IsChannelOf, each_matched, slice_channel, slice_within}
use Rattle.exr_frame.proofs.Putting.{put_again, put_none}
use Rattle.exr_frame.proofs.Rowed.{part_at, sample_small, none_on_line, line_held}

pub channel_of_slice : (f : Frame) (part : List Channel) (plan : Matching) (s c : ℕ) → IsPlanOf f part plan → get_or plan.channels s None ≡ Some c → IsChannelOf part (placement_at (placements_of f.planes) s) c
channel_of_slice f part plan s c is at = slice_channel part (placements_of f.planes) plan.channels s c is.matched at

pub slice_listed : (f : Frame) (part : List Channel) (plan : Matching) (s c : ℕ) → IsPlanOf f part plan → get_or plan.channels s None ≡ Some c → s < length (placements_of f.planes)
slice_listed f part plan s c is at =
    let e = (each_matched part 0 (placements_of f.planes) plan.channels is.matched).count in
    let w = slice_within plan.channels s c at in
    omega arith

pub spot_listed : (f : Frame) (part : List Channel) (plan : Matching) (c s : ℕ) → IsPlanOf f part plan → get_or plan.slices c None ≡ Some s → s < length (placements_of f.planes)
spot_listed f part plan c s is held = slice_listed f part plan s c is (is.channels s c held)

-- a channel without a slice, and the slice that a plan has for a channel
pub none_held : (f : Frame) (plan : Matching) (c : ℕ) (y : ℤ) (o : Option ℕ) → o ≡ get_or plan.slices c None → o ≡ None → HasNoSlice f plan c y
none_held f plan c y o there none s held = absurd (cc)

pub slice_held : (plan : Matching) (c s : ℕ) (o : Option ℕ) → o ≡ get_or plan.slices c None → o ≡ Some s → get_or plan.slices c None ≡ Some s
slice_held plan c s o there some = sym there ∙ some

-- the slice of a channel has the line, or it has not
pub slice_found : (f : Frame) (part : List Channel) (plan : Matching) (region : Box2i) (c s : ℕ) (y : ℤ) → IsPlanOf f part plan → get_or plan.slices c None ≡ Some s → has_line f s y ≡ true → region.y0 ≤ℤ y → y ≤ℤ region.y1 → IsSliceOf f region plan c y s
slice_found f part plan region c s y is held here above below = record { held = held; on_line = line_held f region s y (spot_listed f part plan c s is held) here above below }

pub slice_missed : (f : Frame) (plan : Matching) (c s : ℕ) (y : ℤ) → get_or plan.slices c None ≡ Some s → has_line f s y ≡ false → HasNoSlice f plan c y
slice_missed f plan c s y held none t other = let same : t ≡ s = cc in ap (λ n. has_line f n y) same ∙ none

pub spot_in_plan : (f : Frame) (part : List Channel) (plan : Matching) (c s : ℕ) → IsPlanOf f part plan → get_or plan.slices c None ≡ Some s → s < length plan.placements
spot_in_plan f part plan c s is held = subst (λ (l : List Placement). s < length l) (sym is.placements) (spot_listed f part plan c s is held)

pub channel_multiple : (f : Frame) (part : List Channel) (plan : Matching) (region : Box2i) (c s : ℕ) (y : ℤ) → IsPlanOf f part plan → IsSliceOf f region plan c y s → is_multiple (channel_at part c).ys y ≡ true
channel_multiple f part plan region c s y is found =
    let ch = channel_of_slice f part plan s c is (is.channels s c found.held) in
    ap (λ n. is_multiple n y) ch.rows ∙ found.on_line.line

-- a byte of a channel is one of its slice
pub in_row_of : (f : Frame) (part : List Channel) (plan : Matching) (region : Box2i) (s c : ℕ) (y : ℤ) → IsPlanOf f part plan → get_or plan.slices c None ≡ Some s
    → (k : Byte) → IsOfChannel f.window (placements_of f.planes) region plan.channels c y k → IsInRow f.window (placements_of f.planes) region s y k
in_row_of f part plan region s c y is held k w =
    let there = is.slices k.slice c w.channel in
    let same : k.slice ≡ s = cc in
    record { named = w.named; within = w.within; slice = same; line = w.line }

-- on a line that no slice has, the channel has nothing to copy
pub channel_nothing : (f : Frame) (part : List Channel) (plan : Matching) (region : Box2i) (c : ℕ) (y : ℤ) (value : Byte → ℕ) (old : List ℕ) → IsPlanOf f part plan → HasNoSlice f plan c y
    → IsCopied (IsOfChannel f.window (placements_of f.planes) region plan.channels c y) (place_of f.window (placements_of f.planes)) value old old
channel_nothing f part plan region c y value old is none =
    put_none (IsOfChannel f.window (placements_of f.planes) region plan.channels c y) (place_of f.window (placements_of f.planes)) value old
    (λ k w.
    let held = is.slices k.slice c w.channel in
    none_on_line f region k.slice y (none k.slice held) k (in_row_of f part plan region k.slice c y is held k w))

pub kind_bytes : (a b : Kind) → same_kind a b ≡ true → bytes_of a ≡ bytes_of b
kind_bytes Uint Uint h = refl
kind_bytes Uint Half h = absurd (cc)
kind_bytes Uint Float h = refl
kind_bytes Half Uint h = absurd (cc)
kind_bytes Half Half h = refl
kind_bytes Half Float h = absurd (cc)
kind_bytes Float Uint h = refl
kind_bytes Float Half h = absurd (cc)
kind_bytes Float Float h = refl

pub row_size : (f : Frame) (part : List Channel) (plan : Matching) (region : Box2i) (s c : ℕ) (y : ℤ) → IsPlanOf f part plan → get_or plan.slices c None ≡ Some s → is_multiple (channel_at part c).ys y ≡ true
    → row_bytes_of region y (channel_at part c) ≡ sample_count_of (placement_at (placements_of f.planes) s).sampling region.x0 region.x1 * bytes_of (placement_at (placements_of f.planes) s).kind
row_size f part plan region s c y is at multiple =
    let ch = channel_of_slice f part plan s c is (is.channels s c at) in
    let d = channel_at part c in
    ap (λ b. cond b (sample_count_of d.xs region.x0 region.x1 * bytes_of d.kind) 0) multiple
    ∙ ap₂ (λ (n m : ℕ). sample_count_of n region.x0 region.x1 * m) ch.columns (kind_bytes d.kind (placement_at (placements_of f.planes) s).kind ch.kind)

grouped : (a b c : ℕ) → a + (b + c) ≡ a + b + c
grouped a b c = omega arith

pub channel_put : (f : Frame) (part : List Channel) (plan : Matching) (region : Box2i) (s c : ℕ) (y : ℤ) (at : ℕ) (raw row old new : List ℕ)
    → IsPlanOf f part plan → get_or plan.slices c None ≡ Some s → is_multiple (channel_at part c).ys y ≡ true → at ≡ row_place_of part region c y
    → row ≡ take (row_bytes_of region y (channel_at part c)) (drop at raw)
    → IsCopied (IsInRow f.window (placements_of f.planes) region s y) (place_of f.window (placements_of f.planes)) (line_byte (placements_of f.planes) region row) old new
    → IsCopied (IsOfChannel f.window (placements_of f.planes) region plan.channels c y) (place_of f.window (placements_of f.planes)) (chunk_byte part region raw (placements_of f.planes) plan.channels) old new
unfolding chunk_byte raw_place_of
channel_put f part plan region s c y at raw row old new is held multiple begins e p =
    let back = is.channels s c held in
    let ch = channel_of_slice f part plan s c is back in
    let x = placement_at (placements_of f.planes) s in
    let d = channel_at part c in
    let size = row_size f part plan region s c y is held multiple in
    let bytes = kind_bytes d.kind x.kind ch.kind in
    put_again (IsInRow f.window (placements_of f.planes) region s y) (place_of f.window (placements_of f.planes)) (line_byte (placements_of f.planes) region row)
    (IsOfChannel f.window (placements_of f.planes) region plan.channels c y) (place_of f.window (placements_of f.planes)) (chunk_byte part region raw (placements_of f.planes) plan.channels) old new
    (λ k w.
    let r = in_row_of f part plan region s c y is held k w in
    let column : is_multiple x.sampling k.x ≡ true = ap (λ (t : ℕ). is_multiple (placement_at (placements_of f.planes) t).sampling k.x) (sym r.slice) ∙ w.named.column in
    let number = before_count x.sampling region.x0 k.x region.x1 w.within.left w.within.right column in
    let small : k.byte < bytes_of x.kind = subst (λ (t : ℕ). k.byte < bytes_of (placement_at (placements_of f.planes) t).kind) r.slice w.named.byte in
    let n = count_before x.sampling region.x0 k.x in
    let within : n * bytes_of x.kind + k.byte < row_bytes_of region y d = subst (λ m. n * bytes_of x.kind + k.byte < m) (sym size) (sample_small n (sample_count_of x.sampling region.x0 region.x1) k.byte (bytes_of x.kind) number small) in (
      k,
      r,
      refl,
      ap (λ (t : ℕ). slice_index row (count_before (placement_at (placements_of f.planes) t).sampling region.x0 k.x * bytes_of (placement_at (placements_of f.planes) t).kind + k.byte)) r.slice
          ∙ ap (λ l. slice_index l (n * bytes_of x.kind + k.byte)) e
          ∙ part_at raw at (row_bytes_of region y d) (n * bytes_of x.kind + k.byte) within
          ∙ ap (λ m. slice_index raw (m + (n * bytes_of x.kind + k.byte))) begins
          ∙ ap (slice_index raw) (grouped (row_place_of part region c y) (n * bytes_of x.kind) k.byte)
          ∙ ap₂ (λ (u v : ℕ). slice_index raw (row_place_of part region c y + count_before u region.x0 k.x * v + k.byte)) (sym ch.columns) (sym bytes)
          ∙ ap (λ (z : ℤ). slice_index raw (row_place_of part region c z + count_before d.xs region.x0 k.x * bytes_of d.kind + k.byte)) (sym w.line)
          ∙ ap (λ (o : Option ℕ). byte_of part region raw (placement_at (placements_of f.planes) k.slice) o k) (sym w.channel),
    ))
    (λ k r. (k, record { named = r.named; within = r.within; channel = ap (λ t. get_or plan.channels t None) r.slice ∙ back; line = r.line }, refl))
    p

-- ---- the part of the raw bytes that a row is

pub part_long : (at n : ℕ) (raw : List ℕ) → at + n ≤ length raw → length (take (at + n - at) (drop at raw)) ≡ n
part_long at n raw h =
    let e = length-drop at raw in
    let m : at + n - at ≡ n = omega arith in
    ap (λ k. length (take k (drop at raw))) m ∙ length-take-le n (drop at raw) (omega arith)

pub part_of : (at n : ℕ) (raw : List ℕ) → take (at + n - at) (drop at raw) ≡ take n (drop at raw)
part_of at n raw = let m : at + n - at ≡ n = omega arith in ap (λ k. take k (drop at raw)) m

pub row_bytes_are : (region : Box2i) (part : List Channel) (y z : ℤ) (c n : ℕ) (d : Channel) → c < length part → z ≡ y → n ≡ row_bytes_of region z (get_or part c d) → n ≡ row_bytes_of region y (channel_at part c)
row_bytes_are region part y z c n d lt same e = e ∙ ap₂ (row_bytes_of region) same (get_or_default part c d no_channel lt)
