-- The raw bytes of a region out of a buffer: a row, a channel, a line, all lines.
use Rattle.std.proofs.Common.{◌≡◌, ◌+◌, ◌*◌, ◌^◌, ◌<◌, ◌≤◌, ℕ, zero, suc, ℤ, pos, ◌+ℤ◌, ◌-ℤ◌, ◌≤ℤ◌, nat_abs, true, false, cond, ◌&&◌, List, length, take, get_or, Option, Some, None, refl, sym, ap, ap₂, ◌∙◌, subst, inl, inr, arith, slice_index}
use Rattle.std.specs.Prelude.{int_le, IsSome}
use Rattle.std.specs.Int.{int_min, int_max}
use Rattle.std.specs.List.{sum_by}
use Rattle.std.proofs.lemmas.Bool.{cases_lt}
use Rattle.std.proofs.lemmas.Int.{ints, clamps}
use Rattle.exr_base.specs.declared.shape.Box2i.{Box2i}
use Rattle.exr_base.specs.declared.channel.Channel.{Channel}
use Rattle.exr_base.specs.Channel.{bytes_of}
use Rattle.exr_base.specs.Sampling.{is_multiple, multiples_among, span_of, sample_count_of}
use Rattle.exr_base.specs.Shape.{IsRegion, row_bytes_of, line_bytes_of, lines_bytes_of, raw_size_of, height_of}
use Rattle.exr_layout.specs.Plan.{Matching}
use Rattle.exr_layout.specs.declared.placement.Placement.{Placement}
use Rattle.exr_frame.specs.declared.strip.Strip.{Strip}
use Rattle.exr_frame.specs.Gather.{IsGrown, IsGathered, strided_byte, held_byte, line_place, raw_place, buffer_byte, IsReadRow, IsReadLine, IsReadLines}
use Rattle.exr_layout.specs.Validation.{Frame}
use Rattle.exr_base.specs.Sampling.{count_before}
use Rattle.exr_layout.specs.Place.{placements_of, placement_at}
use Rattle.exr_base.specs.Channel.{channel_at, no_channel}
use Rattle.exr_base.specs.Boxes.{is_side_inside, is_inside}
use Rattle.exr_layout.specs.Plan.{IsFull, IsPlanOf}
use Rattle.exr_base.specs.Shape.{raw_place_of}
use Rattle.exr_frame.specs.Rows.{IsOfRow, row_place, IsInRow, IsOfChannel, IsLineOf, IsStrip, HasNone, HasNoSlice, has_line, low_of, high_of}
use Rattle.exr_frame.proofs.Channelled.{channel_of_slice, kind_bytes, in_row_of, row_size}
use Rattle.exr_layout.proofs.Columns.{multiple_numbered}
use Rattle.exr_frame.proofs.Growing.{grown_none, grown_again, grown_more}
use Rattle.exr_frame.proofs.Lined.{line_cases, none_above, sums_more, lines_cover, lines_next, lines_none}
use Rattle.exr_layout.proofs.Matched.{and_left, and_right}
use Rattle.exr_frame.proofs.Rowed.{within_side, none_on_line}
use Rattle.exr_frame.proofs.Strips.{along, found, bytes_some}

-- ---- a region inside a window

pub record Inside (region window : Box2i) : Type 0 where
  pub left : window.x0 ≤ℤ region.x0
  pub right : region.x1 ≤ℤ window.x1
  pub top : window.y0 ≤ℤ region.y0
  pub bottom : region.y1 ≤ℤ window.y1

le_of : (a b : ℤ) → int_le a b ≡ true → a ≤ℤ b
le_of a b h = grind (arith, ints)

pub inside_of : (region window : Box2i) → is_inside region window ≡ true → Inside region window
inside_of region window h =
    let columns = is_side_inside region.x0 region.x1 window.x0 window.x1 in
    let rows = is_side_inside region.y0 region.y1 window.y0 window.y1 in
    let c = and_left columns rows h in
    let r = and_right columns rows h in
    record {
      left = le_of window.x0 region.x0 (and_left (int_le window.x0 region.x0) (int_le region.x1 window.x1) c);
      right = le_of region.x1 window.x1 (and_right (int_le window.x0 region.x0) (int_le region.x1 window.x1) c);
      top = le_of window.y0 region.y0 (and_left (int_le window.y0 region.y0) (int_le region.y1 window.y1) r);
      bottom = le_of region.y1 window.y1 (and_right (int_le window.y0 region.y0) (int_le region.y1 window.y1) r);
    }

max_is : (a b : ℤ) → a ≤ℤ b → int_max a b ≡ b
max_is a b h = omega (arith, ints, clamps)

min_is : (a b : ℤ) → b ≤ℤ a → int_min a b ≡ b
min_is a b h = omega (arith, ints, clamps)

-- ---- a row

among_few : (s : ℕ) (from : ℤ) (n : ℕ) → multiples_among s from n ≤ n
unfolding multiples_among
among_few s from zero = omega arith
among_few s from (suc n) =
    let r = among_few s from n in
    elim (is_multiple s (from +ℤ pos n)) as (λ b. multiples_among s from n + cond b 1 0 ≤ suc n) [ true ↦ omega arith | false ↦ omega arith ]

pub strip_few : (f : Frame) (region : Box2i) (s : ℕ) (y : ℤ) (strip : Strip) → IsRegion region → IsStrip f region s y strip → strip.samples ≤ 2 ^ 20
strip_few f region s y strip is st =
    let few = among_few (placement_at (placements_of f.planes) s).sampling region.x0 (span_of region.x0 region.x1) in
    let wide = is.columns.few in
    omega (arith, st.inside, few, wide)

not_crossed : (from to : ℤ) (m : ℕ) → (from -ℤ pos 1) ≤ℤ to → m < span_of from to → from ≤ℤ to
not_crossed from to m ends h = omega (arith, ints)

-- where a slice has no samples on a line, a region of the window has no columns for it
pub row_none : (f : Frame) (region : Box2i) (s : ℕ) (y : ℤ) → is_inside region f.window ≡ true → IsRegion region → IsLineOf f region s y → HasNone f region s y
    → sample_count_of (placement_at (placements_of f.planes) s).sampling region.x0 region.x1 ≡ 0
row_none f region s y within is line none =
    let x = placement_at (placements_of f.planes) s in
    let inside = inside_of region f.window within in
    let low = max_is f.window.x0 region.x0 inside.left in
    let high = min_is f.window.x1 region.x1 inside.right in
    elim (cases_lt 0 (sample_count_of x.sampling region.x0 region.x1)) [
      | inl some ↦ absurd (
          let m = multiple_numbered x.sampling region.x0 (span_of region.x0 region.x1) 0 some in
          let ordered : region.x0 ≤ℤ region.x1 = not_crossed region.x0 region.x1 m.at is.columns.ends m.within in
          let le : low_of f.window region ≤ℤ high_of f.window region = subst (λ (z : ℤ). z ≤ℤ high_of f.window region) (sym low) (subst (λ (z : ℤ). region.x0 ≤ℤ z) (sym high) ordered) in
          let many : 0 < sample_count_of x.sampling (low_of f.window region) (high_of f.window region) = subst (λ n. 0 < n) (ap₂ (sample_count_of x.sampling) (sym low) (sym high)) some in
          let k = found f region s y 0 0 line le many (bytes_some x) in
          none k.at k.in_row)
      | inr past ↦ omega arith
    ]

zero_of : (n : ℕ) → 0 * n ≡ 0
zero_of n = omega arith

pub row_nothing_taken : (f : Frame) (region : Box2i) (s : ℕ) (y : ℤ) (from old : List ℕ) → is_inside region f.window ≡ true → IsRegion region → IsLineOf f region s y → HasNone f region s y
    → IsGrown (IsInRow f.window (placements_of f.planes) region s y) (line_place (placements_of f.planes) region (length old)) (held_byte f.window (placements_of f.planes) from)
    (sample_count_of (placement_at (placements_of f.planes) s).sampling region.x0 region.x1 * bytes_of (placement_at (placements_of f.planes) s).kind) old old
row_nothing_taken f region s y from old within is line none =
    let e = row_none f region s y within is line none in
    grown_none (IsInRow f.window (placements_of f.planes) region s y) (line_place (placements_of f.planes) region (length old)) (held_byte f.window (placements_of f.planes) from)
    (sample_count_of (placement_at (placements_of f.planes) s).sampling region.x0 region.x1 * bytes_of (placement_at (placements_of f.planes) s).kind) old
    (ap (λ n. n * bytes_of (placement_at (placements_of f.planes) s).kind) e ∙ zero_of (bytes_of (placement_at (placements_of f.planes) s).kind)) none

row_taken_here : (f : Frame) (region : Box2i) (s : ℕ) (y : ℤ) (strip : Strip) (from old new : List ℕ) → is_inside region f.window ≡ true → IsStrip f region s y strip
    → IsGrown (IsOfRow strip.samples (bytes_of (placement_at (placements_of f.planes) s).kind)) (row_place (length old) (bytes_of (placement_at (placements_of f.planes) s).kind)) (strided_byte from strip.at (placement_at (placements_of f.planes) s).stride)
    (strip.samples * bytes_of (placement_at (placements_of f.planes) s).kind) old new
    → IsGrown (IsInRow f.window (placements_of f.planes) region s y) (line_place (placements_of f.planes) region (length old)) (held_byte f.window (placements_of f.planes) from)
    (sample_count_of (placement_at (placements_of f.planes) s).sampling region.x0 region.x1 * bytes_of (placement_at (placements_of f.planes) s).kind) old new
row_taken_here f region s y strip from old new within st p =
    let x = placement_at (placements_of f.planes) s in
    let size = bytes_of x.kind in
    let inside = inside_of region f.window within in
    let low = max_is f.window.x0 region.x0 inside.left in
    let high = min_is f.window.x1 region.x1 inside.right in
    let low_here = low_of f.window region in
    let many : strip.samples ≡ sample_count_of x.sampling region.x0 region.x1 = st.samples ∙ ap₂ (sample_count_of x.sampling) low high in
    grown_again (IsOfRow strip.samples size) (row_place (length old) size) (strided_byte from strip.at x.stride) (IsInRow f.window (placements_of f.planes) region s y) (line_place (placements_of f.planes) region (length old)) (held_byte f.window (placements_of f.planes) from)
    (strip.samples * size) (sample_count_of x.sampling region.x0 region.x1 * size) old new (ap (λ n. n * size) many)
    (λ k w.
    let a = along f region s y k w in
    let c = count_before x.sampling low_here k.x in (
      (c, k.byte),
      record { sample = omega (arith, a.number, st.samples); byte = a.byte },
      ap (λ (z : ℤ). length old + count_before x.sampling z k.x * size + k.byte) low
          ∙ ap (λ (t : ℕ). length old + count_before (placement_at (placements_of f.planes) t).sampling region.x0 k.x * bytes_of (placement_at (placements_of f.planes) t).kind + k.byte) (sym w.slice),
      ap (slice_index from) (ap (λ n. n + c * x.stride + k.byte) st.at ∙ sym a.place),
    ))
    p

pub row_taken : (f : Frame) (region : Box2i) (s : ℕ) (y : ℤ) (strip : Strip) (x : Placement) (from old new : List ℕ) → is_inside region f.window ≡ true → IsStrip f region s y strip → x ≡ placement_at (placements_of f.planes) s
    → IsGrown (IsOfRow strip.samples (bytes_of x.kind)) (row_place (length old) (bytes_of x.kind)) (strided_byte from strip.at x.stride) (strip.samples * bytes_of x.kind) old new
    → IsGrown (IsInRow f.window (placements_of f.planes) region s y) (line_place (placements_of f.planes) region (length old)) (held_byte f.window (placements_of f.planes) from)
    (sample_count_of (placement_at (placements_of f.planes) s).sampling region.x0 region.x1 * bytes_of (placement_at (placements_of f.planes) s).kind) old new
row_taken f region s y strip x from old new within st is =
    let P : Placement → Type 0 = λ (x : Placement).
    IsGrown (IsOfRow strip.samples (bytes_of x.kind)) (row_place (length old) (bytes_of x.kind)) (strided_byte from strip.at x.stride) (strip.samples * bytes_of x.kind) old new
    → IsGrown (IsInRow f.window (placements_of f.planes) region s y) (line_place (placements_of f.planes) region (length old)) (held_byte f.window (placements_of f.planes) from)
    (sample_count_of (placement_at (placements_of f.planes) s).sampling region.x0 region.x1 * bytes_of (placement_at (placements_of f.planes) s).kind) old new in
    subst P (sym is) (λ p. row_taken_here f region s y strip from old new within st p)

-- ---- a channel's row

pub channel_taken : (f : Frame) (part : List Channel) (plan : Matching) (region : Box2i) (s c : ℕ) (y : ℤ) (from old new : List ℕ)
    → IsPlanOf f part plan → get_or plan.slices c None ≡ Some s → is_multiple (channel_at part c).ys y ≡ true
    → length old ≡ lines_bytes_of part region (nat_abs (y -ℤ region.y0)) + sum_by (row_bytes_of region y) (take c part)
    → IsGrown (IsInRow f.window (placements_of f.planes) region s y) (line_place (placements_of f.planes) region (length old)) (held_byte f.window (placements_of f.planes) from)
    (sample_count_of (placement_at (placements_of f.planes) s).sampling region.x0 region.x1 * bytes_of (placement_at (placements_of f.planes) s).kind) old new
    → IsGrown (IsReadRow f.window (placements_of f.planes) region plan.channels c y) (raw_place part region) (buffer_byte f.window (placements_of f.planes) from) (row_bytes_of region y (channel_at part c)) old new
unfolding raw_place_of
channel_taken f part plan region s c y from old new is held multiple begins p =
    let x = placement_at (placements_of f.planes) s in
    let d = channel_at part c in
    let ch = channel_of_slice f part plan s c is (is.channels s c held) in
    let bytes = kind_bytes d.kind x.kind ch.kind in
    let place_in = λ (c : ℕ) (z y : ℤ). lines_bytes_of part region (nat_abs (y -ℤ region.y0)) + sum_by (row_bytes_of region y) (take c part) + count_before (channel_at part c).xs region.x0 z * bytes_of (channel_at part c).kind in
    grown_again (IsInRow f.window (placements_of f.planes) region s y) (line_place (placements_of f.planes) region (length old)) (held_byte f.window (placements_of f.planes) from)
    (IsReadRow f.window (placements_of f.planes) region plan.channels c y) (raw_place part region) (buffer_byte f.window (placements_of f.planes) from)
    (sample_count_of x.sampling region.x0 region.x1 * bytes_of x.kind) (row_bytes_of region y d) old new (sym (row_size f part plan region s c y is held multiple))
    (λ k w.
    let of_channel : IsOfChannel f.window (placements_of f.planes) region plan.channels c y k.1 = subst (λ (n : ℕ). IsOfChannel f.window (placements_of f.planes) region plan.channels n y k.1) w.channel w.of_channel in
    let r = in_row_of f part plan region s c y is held k.1 of_channel in (
      k.1,
      r,
      ap (λ (t : ℕ). length old + count_before (placement_at (placements_of f.planes) t).sampling region.x0 k.1.x * bytes_of (placement_at (placements_of f.planes) t).kind + k.1.byte) r.slice
          ∙ ap (λ (n : ℕ). n + count_before x.sampling region.x0 k.1.x * bytes_of x.kind + k.1.byte) begins
          ∙ ap₂ (λ (u v : ℕ). lines_bytes_of part region (nat_abs (y -ℤ region.y0)) + sum_by (row_bytes_of region y) (take c part) + count_before u region.x0 k.1.x * v + k.1.byte) (sym ch.columns) (sym bytes)
          ∙ ap₂ (λ (n : ℕ) (z : ℤ). place_in n k.1.x z + k.1.byte) (sym w.channel) (sym w.of_channel.line),
      refl,
    ))
    p

-- a channel has no bytes on a line that its slice does not have
nothing_taken : (f : Frame) (part : List Channel) (plan : Matching) (region : Box2i) (s c : ℕ) (y : ℤ) (from old : List ℕ)
    → IsPlanOf f part plan → get_or plan.slices c None ≡ Some s → is_inside region f.window ≡ true → region.y0 ≤ℤ y → y ≤ℤ region.y1 → has_line f s y ≡ false
    → IsGrown (IsReadRow f.window (placements_of f.planes) region plan.channels c y) (raw_place part region) (buffer_byte f.window (placements_of f.planes) from) (row_bytes_of region y (channel_at part c)) old old
nothing_taken f part plan region s c y from old is held within above below none =
    let d = channel_at part c in
    let x = placement_at (placements_of f.planes) s in
    let ch = channel_of_slice f part plan s c is (is.channels s c held) in
    let inside = inside_of region f.window within in
    let here : is_side_inside y y f.window.y0 f.window.y1 ≡ true = within_side y f.window.y0 f.window.y1 (omega (arith, ints, inside.top, above)) (omega (arith, ints, inside.bottom, below)) in
    let not : is_multiple x.row_sampling y ≡ false = ap (λ b. b && is_multiple x.row_sampling y) (sym here) ∙ none in
    let multiple : is_multiple d.ys y ≡ false = ap (λ n. is_multiple n y) ch.rows ∙ not in
    grown_none (IsReadRow f.window (placements_of f.planes) region plan.channels c y) (raw_place part region) (buffer_byte f.window (placements_of f.planes) from) (row_bytes_of region y d) old
    (ap (λ b. cond b (sample_count_of d.xs region.x0 region.x1 * bytes_of d.kind) 0) multiple)
    (λ k w.
    let of_channel : IsOfChannel f.window (placements_of f.planes) region plan.channels c y k.1 = subst (λ (n : ℕ). IsOfChannel f.window (placements_of f.planes) region plan.channels n y k.1) w.channel w.of_channel in
    none_on_line f region s y none k.1 (in_row_of f part plan region s c y is held k.1 of_channel))

some_of : (o : Option ℕ) → IsSome o → (s : ℕ) × (o ≡ Some s)
some_of None there = absurd (cc)
some_of (Some s) there = (s, refl)

pub channel_nothing_taken : (f : Frame) (part : List Channel) (plan : Matching) (region : Box2i) (c : ℕ) (y : ℤ) (from old : List ℕ)
    → IsPlanOf f part plan → IsFull plan → c < length part → is_inside region f.window ≡ true → region.y0 ≤ℤ y → y ≤ℤ region.y1 → HasNoSlice f plan c y
    → IsGrown (IsReadRow f.window (placements_of f.planes) region plan.channels c y) (raw_place part region) (buffer_byte f.window (placements_of f.planes) from) (row_bytes_of region y (channel_at part c)) old old
channel_nothing_taken f part plan region c y from old is full lt within above below none =
    let held = some_of (get_or plan.slices c None) (full.each c (omega (arith, lt, is.count))) in
    nothing_taken f part plan region held.0 c y from old is held.1 within above below (none held.0 held.1)

-- ---- a line

pub line_read_begun : (f : Frame) (part : List Channel) (region : Box2i) (places : List (Option ℕ)) (y : ℤ) (from old : List ℕ)
    → IsGrown (IsReadLine f.window (placements_of f.planes) region places 0 y) (raw_place part region) (buffer_byte f.window (placements_of f.planes) from) (sum_by (row_bytes_of region y) (take 0 part)) old old
line_read_begun f part region places y from old =
    grown_none (IsReadLine f.window (placements_of f.planes) region places 0 y) (raw_place part region) (buffer_byte f.window (placements_of f.planes) from) (sum_by (row_bytes_of region y) (take 0 part)) old refl (λ k w. omega (arith, w.early))

pub line_read_more : (f : Frame) (part : List Channel) (region : Box2i) (places : List (Option ℕ)) (c : ℕ) (y : ℤ) (from old mid new : List ℕ) → c < length part
    → IsGrown (IsReadLine f.window (placements_of f.planes) region places c y) (raw_place part region) (buffer_byte f.window (placements_of f.planes) from) (sum_by (row_bytes_of region y) (take c part)) old mid
    → IsGrown (IsReadRow f.window (placements_of f.planes) region places c y) (raw_place part region) (buffer_byte f.window (placements_of f.planes) from) (row_bytes_of region y (channel_at part c)) mid new
    → IsGrown (IsReadLine f.window (placements_of f.planes) region places (c + 1) y) (raw_place part region) (buffer_byte f.window (placements_of f.planes) from) (sum_by (row_bytes_of region y) (take (c + 1) part)) old new
line_read_more f part region places c y from old mid new lt p q =
    grown_more (IsReadLine f.window (placements_of f.planes) region places c y) (IsReadRow f.window (placements_of f.planes) region places c y) (IsReadLine f.window (placements_of f.planes) region places (c + 1) y)
    (raw_place part region) (buffer_byte f.window (placements_of f.planes) from) (sum_by (row_bytes_of region y) (take c part)) (row_bytes_of region y (channel_at part c)) (sum_by (row_bytes_of region y) (take (c + 1) part)) old mid new
    (sums_more (row_bytes_of region y) part c no_channel lt)
    (λ k w. elim (cases_lt k.0 c) [
      | inl h ↦ inl (record { early = h; of_channel = w.of_channel })
      | inr h ↦ inr (record { channel = omega (arith, w.early); of_channel = w.of_channel })
    ])
    p q

-- ---- lines

pub lines_read_begun : (f : Frame) (part : List Channel) (region : Box2i) (places : List (Option ℕ)) (from old : List ℕ)
    → IsGrown (IsReadLines f.window (placements_of f.planes) region places 0) (raw_place part region) (buffer_byte f.window (placements_of f.planes) from) (lines_bytes_of part region 0) old old
lines_read_begun f part region places from old =
    grown_none (IsReadLines f.window (placements_of f.planes) region places 0) (raw_place part region) (buffer_byte f.window (placements_of f.planes) from) (lines_bytes_of part region 0) old (sym (lines_none part region))
    (λ k w. none_above k.1.y region.y0 w.of_channel.within.top w.early)

pub lines_read_more : (f : Frame) (part : List Channel) (plan : Matching) (region : Box2i) (n : ℕ) (y : ℤ) (from old mid new : List ℕ) → IsPlanOf f part plan → y ≡ region.y0 +ℤ pos n
    → IsGrown (IsReadLines f.window (placements_of f.planes) region plan.channels n) (raw_place part region) (buffer_byte f.window (placements_of f.planes) from) (lines_bytes_of part region n) old mid
    → IsGrown (IsReadLine f.window (placements_of f.planes) region plan.channels (length part) y) (raw_place part region) (buffer_byte f.window (placements_of f.planes) from) (line_bytes_of part region y) mid new
    → IsGrown (IsReadLines f.window (placements_of f.planes) region plan.channels (n + 1)) (raw_place part region) (buffer_byte f.window (placements_of f.planes) from) (lines_bytes_of part region (n + 1)) old new
lines_read_more f part plan region n y from old mid new is at p q =
    let places = plan.channels in
    grown_more (IsReadLines f.window (placements_of f.planes) region places n) (IsReadLine f.window (placements_of f.planes) region places (length part) y) (IsReadLines f.window (placements_of f.planes) region places (n + 1))
    (raw_place part region) (buffer_byte f.window (placements_of f.planes) from) (lines_bytes_of part region n) (line_bytes_of part region y) (lines_bytes_of part region (n + 1)) old mid new
    (sym (lines_next part region n (lines_bytes_of part region n) (lines_bytes_of part region n + line_bytes_of part region y) y at refl refl))
    (λ k w. elim (line_cases k.1.y region.y0 n w.early) [
      | inl h ↦ inl (record { early = h; of_channel = w.of_channel })
      | inr h ↦ inr (record {
        early = (channel_of_slice f part plan k.1.slice k.0 is w.of_channel.channel).within;
        of_channel = subst (λ (z : ℤ). IsOfChannel f.window (placements_of f.planes) region places k.0 z k.1) (h ∙ sym at) w.of_channel;
      })
    ])
    p q

none_before : (n : ℕ) → 0 + n ≡ n
none_before n = omega arith

lines_off : (y from : ℤ) (n : ℕ) → y ≡ from +ℤ pos n → nat_abs (y -ℤ from) ≡ n
lines_off y from n h = omega (arith, ints)

-- what lines that were read leave for the next one
pub lines_behind : (part : List Channel) (region : Box2i) (n begin long : ℕ) (y : ℤ) → y ≡ region.y0 +ℤ pos n → begin ≡ 0 → long ≡ begin + lines_bytes_of part region n → long ≡ lines_bytes_of part region (nat_abs (y -ℤ region.y0))
lines_behind part region n begin long y at none e = e ∙ ap (λ m. m + lines_bytes_of part region n) none ∙ none_before (lines_bytes_of part region n) ∙ ap (lines_bytes_of part region) (sym (lines_off y region.y0 n at))

pub all_read : (f : Frame) (part : List Channel) (region : Box2i) (places : List (Option ℕ)) (from old raw : List ℕ) → length old ≡ 0
    → IsGrown (IsReadLines f.window (placements_of f.planes) region places (height_of region)) (raw_place part region) (buffer_byte f.window (placements_of f.planes) from) (raw_size_of part region) old raw
    → IsGathered f.window (placements_of f.planes) part region places from raw
all_read f part region places from old raw none p = record {
  size = p.long ∙ ap (λ n. n + raw_size_of part region) none ∙ none_before (raw_size_of part region);
  bytes = λ k c w at. p.read (c, k) (record { early = lines_cover f region k w; of_channel = record { named = w.named; within = w.within; channel = at; line = refl } });
}
