-- The chunks of a flat part in lines: their regions and their raw bytes.
use Rattle.std.proofs.Common.{◌≡◌, ◌≢◌, ℕ, ◌+◌, ◌-◌, ◌*◌, ◌/◌, ◌%◌, ◌^◌, ◌<◌, ◌≤◌, ◌&&◌, ◌||◌, Bool, true, false, cond, eqb, refl, sym, ap, ap₂, subst, ◌∙◌, inl, inr, arith, min, ℤ, pos, ◌+ℤ◌, ◌-ℤ◌, ◌≤ℤ◌, nat_abs, List, [], ◌∷◌, length, slice_index, None, sum_by}
use Rattle.std.specs.Prelude.{IsTrue, All, slice_index_or}
use Rattle.std.proofs.lemmas.Nat.{mul-le, div-add-mod', mod_below}
use Rattle.std.proofs.lemmas.Int.{ints, clamps}
use Rattle.std.proofs.lemmas.Bool.{and_parts, cases_lt}
use Rattle.std.proofs.lemmas.Bool.Decides.{nat_tests}
use Rattle.std.proofs.lemmas.List.Elements.{All-head, All-tail, All-same}
use Rattle.std.proofs.lemmas.List.Sums.{sum_by-cons}
use Rattle.exr_base.specs.declared.shape.Box2i.{Box2i}
use Rattle.exr_base.specs.declared.channel.Channel.{Channel}
use Rattle.exr_base.specs.Channel.{bytes_of}
use Rattle.exr_base.specs.Sampling.{is_multiple, multiples_among, span_of}
use Rattle.exr_base.specs.Shape.{width_of, height_of, raw_size_of, channel_bytes_of, IsSide, IsRegion, IsSampled, IsShape}
use Rattle.exr_base.proofs.RawSize.{by_channels}
use Rattle.exr_judge.specs.Kind.{is_tiled}
use Rattle.exr_judge.specs.Picture.{is_everywhere, is_aligned, first_region}
use Rattle.exr_chunks.specs.declared.groups.Group.{Group}
use Rattle.exr_chunks.specs.Heads.{Header, is_deep, pieces, columns_of, chunk_width, chunk_height, chunk_count_of, raw_chunk_of}
use Rattle.exr_chunks.specs.RawBytes.{IsInLines, row_bytes, weighed_channels, IsGrouped, samples_in, groups_bytes, IsCycle}
use Rattle.exr_chunks.specs.Region.{across_of, column_of, row_of, start_of, end_of, region_of, chunk_bytes_of}
use Rattle.exr_chunks.specs.Sizes.{AreSampledWell}
use Rattle.exr_chunks.proofs.Largest.{IsNoLarger, raw_no_larger, first_long, no_larger}
use Rattle.exr_chunks.proofs.Parts.{IsSize, side_some, width_size, height_size}
use Rattle.exr_base.proofs.Sides.{span_is, same_box}
use Rattle.exr_chunks.proofs.Pieces.{piece_within, piece_side}
use Rattle.exr_chunks.proofs.Repeats.{as_many}

pub some_rows : (h : Header) (rows count : ℕ) → IsInLines h rows count → IsSize rows
some_rows h rows count is = subst IsSize (sym is.rows_are) (height_size h is.picture)

-- ---- one chunk a row

whole_width : (h : Header) → h.tiles ≡ None → chunk_width h ≡ width_of h.window
whole_width h none = ap (columns_of (width_of h.window)) none

one_piece : (n : ℕ) → 1 ≤ n → pieces n n ≡ 1
one_piece n some =
    let at : n + n - 1 ≡ 1 * n + (n - 1) = omega (arith, some) in
    ap (λ k. k / n) at ∙ Rattle.std.proofs.lemmas.Nat.div-mul-add 1 n (n - 1) (omega (arith, some))

pub one_across : (h : Header) (rows count : ℕ) → IsInLines h rows count → across_of h ≡ 1
one_across h rows count is =
    let w = h.window in
    let some = side_some w.x0 w.x1 is.picture.columns is.picture.shape.within.columns in
    ap (λ n. pieces n (width_of w)) (whole_width h (is.measured.lines is.in_lines)) ∙ one_piece (width_of w) some

pub count_pieces : (h : Header) (rows count : ℕ) → IsInLines h rows count → count ≡ pieces rows (height_of h.window)
unfolding chunk_count_of
count_pieces h rows count is =
    let across = one_across h rows count is in
    let product : across_of h * pieces (chunk_height h) (height_of h.window) ≡ 1 * pieces (chunk_height h) (height_of h.window) = ap (λ n. n * pieces (chunk_height h) (height_of h.window)) across in
    let times : 1 * pieces (chunk_height h) (height_of h.window) ≡ pieces (chunk_height h) (height_of h.window) = omega arith in
    is.count_is ∙ product ∙ times ∙ ap (λ n. pieces n (height_of h.window)) (sym is.rows_are)

-- a chunk begins within the window
pub begins : (h : Header) (rows count i : ℕ) → IsInLines h rows count → i < count → i * rows < height_of h.window
begins h rows count i is within =
    piece_within rows (height_of h.window) i (some_rows h rows count is).some (subst (λ n. i < n) (count_pieces h rows count is) within)

pub some_chunk : (h : Header) (rows count : ℕ) → IsInLines h rows count → 1 ≤ count
some_chunk h rows count is =
    let some = (some_rows h rows count is).some in
    let high = side_some h.window.y0 h.window.y1 is.picture.rows is.picture.shape.within.rows in
    let whole = div-add-mod' (height_of h.window + rows - 1) rows in
    let pieces_are = count_pieces h rows count is in
    elim (cases_lt 0 count) [
      | inl lt ↦ lt
      | inr le ↦
          let none : pieces rows (height_of h.window) ≡ 0 = omega (arith, le, pieces_are) in
          let times : pieces rows (height_of h.window) * rows ≡ 0 * rows = ap (λ n. n * rows) none in
          absurd (omega (arith, times, whole, some, high, mod_below (height_of h.window + rows - 1) rows some))
    ]

-- the last one reaches its end
pub last_reaches : (h : Header) (rows count : ℕ) → IsInLines h rows count → height_of h.window ≤ (count - 1) * rows + rows
last_reaches h rows count is =
    let some = (some_rows h rows count is).some in
    let one = some_chunk h rows count is in
    let whole = div-add-mod' (height_of h.window + rows - 1) rows in
    let left = mod_below (height_of h.window + rows - 1) rows some in
    let k : ℕ = count - 1 in
    let parts : count ≡ k + 1 = omega (arith, one) in
    let times : count * rows ≡ (k + 1) * rows = ap (λ n. n * rows) parts in
    let pieces_are : count * rows ≡ pieces rows (height_of h.window) * rows = ap (λ n. n * rows) (count_pieces h rows count is) in
    omega (arith, whole, left, times, pieces_are)

-- ---- regions

no_columns : (i : ℕ) → i % 1 ≡ 0
no_columns i = omega arith

each_row : (i : ℕ) → i / 1 ≡ i
each_row i = omega arith

left_is : (from : ℤ) (size : ℕ) → start_of from size 0 ≡ from
left_is from size = omega (arith, ints)

right_is : (from to : ℤ) → from ≤ℤ to → end_of from to (span_of from to) 0 ≡ to
right_is from to ordered =
    let whole = span_is from to (omega (arith, ints, ordered)) in
    omega (arith, ints, clamps, whole, ordered)

abbrev pub lines_region : Header → ℕ → ℤ → ℕ → Box2i
lines_region h rows bottom i = record { x0 = h.window.x0; y0 = start_of h.window.y0 rows i; x1 = h.window.x1; y1 = bottom }

region_is : (h : Header) (rows count i : ℕ) → IsInLines h rows count → region_of h i ≡ lines_region h rows (end_of h.window.y0 h.window.y1 rows i) i
unfolding region_of
region_is h rows count i is =
    let w = h.window in
    let one = one_across h rows count is in
    let column : column_of h i ≡ 0 = ap (λ n. i % n) one ∙ no_columns i in
    let row : row_of h i ≡ i = ap (λ n. i / n) one ∙ each_row i in
    let wide = whole_width h (is.measured.lines is.in_lines) in
    let high = sym is.rows_are in
    same_box _ _ _ _ _ _ _ _
    (ap (start_of w.x0 (chunk_width h)) column ∙ left_is w.x0 (chunk_width h))
    (ap₂ (λ (m n : ℕ). start_of w.y0 m n) high row)
    (ap₂ (λ (m n : ℕ). end_of w.x0 w.x1 m n) wide column ∙ right_is w.x0 w.x1 is.picture.columns)
    (ap₂ (λ (m n : ℕ). end_of w.y0 w.y1 m n) high row)

-- a chunk before the last has all its lines
whole_bottom : (from to : ℤ) (rows i : ℕ) → IsSide from to → i * rows + rows ≤ span_of from to → 1 ≤ rows → span_of (start_of from rows i) (end_of from to rows i) ≡ rows
whole_bottom from to rows i side within some =
    let whole = span_is from to side.ends in
    let piece = piece_side from to rows i side some (omega (arith, within, some)) in
    let part = span_is (start_of from rows i) (end_of from to rows i) piece.ends in
    omega (arith, ints, clamps, whole, part, within, some)

last_bottom : (from to : ℤ) (rows i : ℕ) → IsSide from to → span_of from to ≤ i * rows + rows → end_of from to rows i ≡ to
last_bottom from to rows i side over =
    let whole = span_is from to side.ends in
    omega (arith, ints, clamps, whole, over)

-- ---- raw bytes

-- the first line has samples of a channel
aligned_rows : (w : Box2i) (c : Channel) → is_aligned w c ≡ true → is_multiple c.ys w.y0 ≡ true
aligned_rows w c e =
    let both = and_parts (is_multiple c.xs w.x0 && eqb (width_of w % c.xs) 0) (is_multiple c.ys w.y0 && eqb (height_of w % c.ys) 0) e in
    (and_parts (is_multiple c.ys w.y0) (eqb (height_of w % c.ys) 0) both.1).0

aligned : (h : Header) → is_tiled h.kind ≡ false → is_deep h.kind ≡ false → AreSampledWell h → All (λ c. IsTrue (is_aligned h.window c)) h.channels
aligned h in_lines flat well = λ k d within.
    let c : Channel = slice_index_or h.channels k d in
    let first = subst (λ b. cond (b || is_deep h.kind) (is_everywhere c) (is_aligned h.window c) ≡ true) in_lines (well k d within) in
    subst (λ b. cond (false || b) (is_everywhere c) (is_aligned h.window c) ≡ true) flat first

-- the bytes of a channel on the lines of a region that begins so many lines below the window's top
channel_is : (w r : Box2i) (c : Channel) (a n : ℕ) → IsSampled c → is_aligned w c ≡ true → r.x0 ≡ w.x0 → r.x1 ≡ w.x1 → r.y0 ≡ w.y0 +ℤ pos a → height_of r ≡ n → channel_bytes_of r c ≡ multiples_among c.ys (pos a) n * row_bytes w c
channel_is w r c a n sampled well left right top high =
    let columns : multiples_among c.xs r.x0 (width_of r) ≡ multiples_among c.xs w.x0 (width_of w) = ap₂ (λ (x y : ℤ). multiples_among c.xs x (span_of x y)) left right in
    let rows : multiples_among c.ys r.y0 (height_of r) ≡ multiples_among c.ys (pos a) n = ap₂ (λ (y : ℤ) (m : ℕ). multiples_among c.ys y m) top high ∙ as_many c.ys w.y0 a n sampled.rows (aligned_rows w c well) in
    turned (multiples_among c.xs r.x0 (width_of r)) (multiples_among c.ys r.y0 (height_of r)) (multiples_among c.xs w.x0 (width_of w)) (multiples_among c.ys (pos a) n) (bytes_of c.kind) columns rows
  where
    turned : (x y m k b : ℕ) → x ≡ m → y ≡ k → x * y * b ≡ k * (m * b)
    turned x y m k b e f = rw (e, f) (omega arith)

channels_are : (w r : Box2i) (cs : List Channel) (a n : ℕ) → All IsSampled cs → All (λ c. IsTrue (is_aligned w c)) cs → r.x0 ≡ w.x0 → r.x1 ≡ w.x1 → r.y0 ≡ w.y0 +ℤ pos a → height_of r ≡ n → sum_by (channel_bytes_of r) cs ≡ weighed_channels (λ s. multiples_among s (pos a) n) w cs
channels_are w r [] a n sampled well left right top high = refl
channels_are w r (c ∷ cs) a n sampled well left right top high =
    let one = channel_is w r c a n (All-head IsSampled c cs sampled) (All-head (λ (x : Channel). IsTrue (is_aligned w x)) c cs well) left right top high in
    let others = channels_are w r cs a n (All-tail IsSampled c cs sampled) (All-tail (λ (x : Channel). IsTrue (is_aligned w x)) c cs well) left right top high in
    sum_by-cons (channel_bytes_of r) c cs ∙ ap₂ (λ (k l : ℕ). k + l) one others ∙ sym (sum_by-cons (λ (x : Channel). multiples_among x.ys (pos a) n * row_bytes w x) c cs)

raw_is : (h : Header) (rows count a n : ℕ) (r : Box2i) → IsInLines h rows count → r.x0 ≡ h.window.x0 → r.x1 ≡ h.window.x1 → r.y0 ≡ h.window.y0 +ℤ pos a → height_of r ≡ n → raw_size_of h.channels r ≡ weighed_channels (λ s. multiples_among s (pos a) n) h.window h.channels
raw_is h rows count a n r is left right top high =
    by_channels r h.channels ∙ channels_are h.window r h.channels a n is.picture.shape.sampled (aligned h is.in_lines is.flat is.measured.sampled) left right top high

flat_bytes : (h : Header) (i : ℕ) → is_deep h.kind ≡ false → chunk_bytes_of h i ≡ raw_size_of h.channels (region_of h i)
unfolding chunk_bytes_of
flat_bytes h i flat = rw flat refl

-- the raw bytes of a chunk before the last, by channels, and so by groups
whole_bytes : (h : Header) (rows count i : ℕ) → IsInLines h rows count → i < count - 1 → chunk_bytes_of h i ≡ weighed_channels (samples_in rows i) h.window h.channels
whole_bytes h rows count i is before =
    let w = h.window in
    let some = (some_rows h rows count is).some in
    let r = lines_region h rows (end_of w.y0 w.y1 rows i) i in
    let next = begins h rows count (i + 1) is (omega (arith, before)) in
    let high = whole_bottom w.y0 w.y1 rows i is.picture.shape.within.rows (omega (arith, next)) some in
    flat_bytes h i is.flat ∙ ap (raw_size_of h.channels) (region_is h rows count i is) ∙ raw_is h rows count (i * rows) rows r is refl refl refl high

pub group_sizes : (h : Header) (rows count i : ℕ) (groups : List Group) → IsInLines h rows count → IsGrouped h.window h.channels groups → i < count - 1 → groups_bytes groups rows i ≡ chunk_bytes_of h i
group_sizes h rows count i groups is grouped before = grouped.same (samples_in rows i) ∙ sym (whole_bytes h rows count i is before)

pub chunk_few : (h : Header) (rows count i : ℕ) → IsInLines h rows count → i < count → chunk_bytes_of h i ≤ 2 ^ 26
chunk_few h rows count i is within =
    let less = no_larger h is.picture is.measured.sampled i (subst (λ n. i < n) is.count_is within) in
    let small = is.measured.small in
    omega (arith, less, small)

-- the region of the last chunk, from its first line to the window's last
pub last_region : (h : Header) (rows count : ℕ) (y : ℤ) (w : Box2i) → IsInLines h rows count → w ≡ h.window → y ≡ start_of w.y0 rows (count - 1) → region_of h (count - 1) ≡ record { x0 = w.x0; y0 = y; x1 = w.x1; y1 = w.y1 }
last_region h rows count y w is window top =
    let v = h.window in
    let bottom = last_bottom v.y0 v.y1 rows (count - 1) is.picture.shape.within.rows (last_reaches h rows count is) in
    let begin : start_of v.y0 rows (count - 1) ≡ y = ap (λ (b : Box2i). start_of b.y0 rows (count - 1)) (sym window) ∙ sym top in
    region_is h rows count (count - 1) is ∙ same_box _ _ _ _ _ _ _ _ (ap (λ (b : Box2i). b.x0) (sym window)) begin (ap (λ (b : Box2i). b.x1) (sym window)) (bottom ∙ ap (λ (b : Box2i). b.y1) (sym window))

last_within : (h : Header) (rows count : ℕ) → IsInLines h rows count → IsRegion (region_of h (count - 1))
last_within h rows count is =
    let v = h.window in
    let y = start_of v.y0 rows (count - 1) in
    let bottom = last_bottom v.y0 v.y1 rows (count - 1) is.picture.shape.within.rows (last_reaches h rows count is) in
    let one = some_chunk h rows count is in
    let side = piece_side v.y0 v.y1 rows (count - 1) is.picture.shape.within.rows (some_rows h rows count is).some (begins h rows count (count - 1) is (omega (arith, one))) in
    subst IsRegion (sym (last_region h rows count y v is refl refl)) (record {
      columns = is.picture.shape.within.columns;
      rows = subst (IsSide y) bottom side;
    })

-- its channels and its raw bytes
pub last_shape : (h : Header) (rows count : ℕ) (r : Box2i) (cs : List Channel) → IsInLines h rows count → cs ≡ h.channels → r ≡ region_of h (count - 1) → IsShape cs r
last_shape h rows count r cs is channels region = record {
  few = rw channels is.picture.shape.few;
  sampled = All-same IsSampled cs h.channels channels is.picture.shape.sampled;
  within = subst IsRegion (sym region) (last_within h rows count is);
}

pub last_bytes : (h : Header) (rows count n : ℕ) (r : Box2i) (cs : List Channel) → IsInLines h rows count → cs ≡ h.channels → r ≡ region_of h (count - 1) → n ≡ raw_size_of cs r → n ≡ chunk_bytes_of h (count - 1)
last_bytes h rows count n r cs is channels region size =
    size ∙ ap₂ (λ (xs : List Channel) (b : Box2i). raw_size_of xs b) channels region ∙ sym (flat_bytes h (count - 1) is.flat)

-- ---- one line

-- a line with samples of all channels has no more bytes than the first chunk
one_line : (s : ℕ) → 0 < s → multiples_among s (pos 0) 1 ≡ 1
unfolding multiples_among
one_line s some =
    let none : 0 % s ≡ 0 = omega arith in
    rw none refl

weights_same : (f g : ℕ → ℕ) (w : Box2i) (cs : List Channel) → All (λ c. f c.ys ≡ g c.ys) cs → weighed_channels f w cs ≡ weighed_channels g w cs
weights_same f g w [] same = refl
weights_same f g w (c ∷ cs) same =
    let one : f c.ys * row_bytes w c ≡ g c.ys * row_bytes w c = ap (λ n. n * row_bytes w c) (All-head (λ (x : Channel). f x.ys ≡ g x.ys) c cs same) in
    let others = weights_same f g w cs (All-tail (λ (x : Channel). f x.ys ≡ g x.ys) c cs same) in
    sum_by-cons (λ (x : Channel). f x.ys * row_bytes w x) c cs ∙ ap₂ (λ (m n : ℕ). m + n) one others ∙ sym (sum_by-cons (λ (x : Channel). g x.ys * row_bytes w x) c cs)

top_line : (y : ℤ) → span_of y y ≡ 1
top_line y =
    let at : (y -ℤ y) +ℤ pos 1 ≡ pos 1 = omega (arith, ints) in
    ap nat_abs at

pub line_small : (h : Header) (rows count : ℕ) → IsInLines h rows count → weighed_channels (λ _. 1) h.window h.channels ≤ 2 ^ 26
unfolding raw_chunk_of
line_small h rows count is =
    let w = h.window in
    let r : Box2i = record { x0 = w.x0; y0 = w.y0; x1 = w.x1; y1 = w.y0 } in
    let top : w.y0 ≡ w.y0 +ℤ pos 0 = omega (arith, ints) in
    let raw = raw_is h rows count 0 1 r is refl refl top (top_line w.y0) in
    let ones = weights_same (λ s. multiples_among s (pos 0) 1) (λ _. 1) w h.channels (λ k d within. one_line (slice_index_or h.channels k d).ys (is.picture.shape.sampled k d within).rows) in
    let a = first_long w.x0 w.x1 (chunk_width h) is.picture.shape.within.columns is.picture.columns (width_size h is.picture).some in
    let b = first_long w.y0 w.y1 (chunk_height h) is.picture.shape.within.rows is.picture.rows (height_size h is.picture).some in
    let wide : width_of w ≤ chunk_width h = omega (arith, whole_width h (is.measured.lines is.in_lines)) in
    let high : 1 ≤ min (height_of w) (chunk_height h) = omega (arith, (height_size h is.picture).some, side_some w.y0 w.y1 is.picture.rows is.picture.shape.within.rows) in
    let less : IsNoLarger w r (first_region h) = record { left = refl; top = refl; wide = omega (arith, a, wide); high = omega (arith, b, high, top_line w.y0) } in
    let bound = raw_no_larger w r (first_region h) (is_tiled h.kind || is_deep h.kind) h.channels less is.picture.shape.sampled is.measured.sampled in
    let judged : raw_size_of h.channels (first_region h) ≡ raw_chunk_of h = rw (is.flat) refl in
    let small = is.measured.small in
    omega (arith, raw, ones, bound, judged, small)

-- ---- what is kept

-- what is read for a chunk is its size
pub line_exact : (h : Header) (rows count last i : ℕ) (groups : List Group) (cycle : List ℕ) → IsInLines h rows count → IsGrouped h.window h.channels groups → IsCycle groups rows (count - 1) cycle → last ≡ chunk_bytes_of h (count - 1) → i < chunk_count_of h
    → cond (eqb (i + 1) (chunk_count_of h)) last (slice_index cycle (i % length cycle)) ≡ chunk_bytes_of h i
line_exact h rows count last i groups cycle is grouped cycles size within =
    let all = is.count_is in
    let P : Bool → Type 0 = λ b. eqb (i + 1) (chunk_count_of h) ≡ b → cond b last (slice_index cycle (i % length cycle)) ≡ chunk_bytes_of h i in
    (elim (eqb (i + 1) (chunk_count_of h)) as P [
      | true ↦ λ here.
          let whole : i + 1 ≡ chunk_count_of h = grind (arith, nat_tests) in
          let at : count - 1 ≡ i = omega (arith, whole, all) in
          size ∙ ap (chunk_bytes_of h) at
      | false ↦ λ here.
          let other : i + 1 ≢ chunk_count_of h = grind (arith, nat_tests) in
          let before : i < count - 1 = omega (arith, other, all, within) in
          cycles.exact i before ∙ group_sizes h rows count i groups is grouped before
    ]) refl

pub cycle_some : (h : Header) (rows count : ℕ) (groups : List Group) (cycle : List ℕ) → IsInLines h rows count → IsCycle groups rows (count - 1) cycle → 1 < chunk_count_of h → 0 < length cycle
cycle_some h rows count groups cycle is cycles more =
    let all = is.count_is in
    cycles.some (omega (arith, all, more))
