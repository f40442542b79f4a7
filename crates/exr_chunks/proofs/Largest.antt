-- No chunk has more raw bytes than the first.
use Rattle.std.proofs.Common.{◌≡◌, ℕ, ◌+◌, ◌-◌, ◌*◌, ◌/◌, ◌%◌, ◌^◌, ◌<◌, ◌≤◌, min, Bool, true, false, cond, ◌&&◌, ◌||◌, eqb, refl, sym, ap, subst, ◌∙◌, inl, inr, arith, ℤ, ◌≤ℤ◌, nat_abs, List, [], ◌∷◌, sum_by}
use Rattle.std.specs.Prelude.{IsTrue, All}
use Rattle.std.proofs.lemmas.Nat.{row-Below, mod_below, mul-le}
use Rattle.std.proofs.lemmas.Int.{ints, clamps}
use Rattle.std.proofs.lemmas.Bool.{and_parts, cases_lt}
use Rattle.std.proofs.lemmas.Bool.Decides.{nat_tests}
use Rattle.std.proofs.lemmas.List.Elements.{All-head, All-tail}
use Rattle.std.proofs.lemmas.List.Sums.{sum_by-cons}
use Rattle.exr_base.specs.declared.shape.Box2i.{Box2i}
use Rattle.exr_base.specs.declared.channel.Channel.{Channel}
use Rattle.exr_base.specs.Channel.{bytes_of}
use Rattle.exr_base.specs.Sampling.{is_multiple, multiples_among, span_of}
use Rattle.exr_base.specs.Shape.{width_of, height_of, raw_size_of, channel_bytes_of, IsSide, IsSampled}
use Rattle.exr_base.proofs.RawSize.{by_channels}
use Rattle.exr_judge.specs.Kind.{is_tiled}
use Rattle.exr_judge.specs.Picture.{is_everywhere, is_aligned, first_end, first_region}
use Rattle.exr_chunks.specs.declared.part.Part.{Part}
use Rattle.exr_chunks.specs.Heads.{Header, IsPicture, is_deep, pieces, chunk_width, chunk_height, chunk_count_of, raw_chunk_of}
use Rattle.exr_chunks.specs.Region.{across_of, down_of, column_of, row_of, start_of, end_of, region_of, chunk_bytes_of}
use Rattle.exr_chunks.specs.Part.{header_of, IsPart}
use Rattle.exr_chunks.specs.Sizes.{JudgesTheFirst, HasNoLarger, IsJudgedForAll}
use Rattle.exr_base.proofs.Sides.{span_is, same_box}
use Rattle.exr_chunks.proofs.Pieces.{piece_within, piece_side}
use Rattle.exr_chunks.proofs.Parts.{side_some, width_size, height_size, first_factor}
use Rattle.exr_chunks.proofs.Samples.{most_samples}

-- ---- sides

-- a piece is no longer than the first
piece_short : (from to : ℤ) (size n : ℕ) → IsSide from to → 1 ≤ size → n * size < span_of from to → span_of (start_of from size n) (end_of from to size n) ≤ min (span_of from to) size
piece_short from to size n side some within =
    let whole = span_is from to side.ends in
    let piece = piece_side from to size n side some within in
    let part = span_is (start_of from size n) (end_of from to size n) piece.ends in
    omega (arith, ints, clamps, whole, part, some, within)

-- the first piece is as long as it can be
pub first_long : (from to : ℤ) (most : ℕ) → IsSide from to → from ≤ℤ to → 1 ≤ most → span_of from (first_end from to most) ≡ min (span_of from to) most
first_long from to most side ordered some =
    let whole = span_is from to side.ends in
    omega (arith, ints, clamps, whole, some, ordered)

-- where the first piece ends
first_ends : (from to : ℤ) (size : ℕ) → IsSide from to → from ≤ℤ to → 1 ≤ size → end_of from to size 0 ≡ first_end from to size
first_ends from to size side ordered some =
    let whole = span_is from to side.ends in
    omega (arith, ints, clamps, whole, some, ordered)

first_begins : (from : ℤ) (size : ℕ) → start_of from size 0 ≡ from
first_begins from size = omega (arith, ints)

-- ---- a chunk of a header

-- a chunk begins within the window, and is no wider and no higher than the first
record IsPiece (h : Header) (i : ℕ) : Type 0 where
  wide : width_of (region_of h i) ≤ min (width_of h.window) (chunk_width h)
  high : height_of (region_of h i) ≤ min (height_of h.window) (chunk_height h)

piece : (h : Header) (i : ℕ) → IsPicture h → i < chunk_count_of h → IsPiece h i
unfolding chunk_count_of region_of
piece h i picture within =
    let all : i < across_of h * down_of h = within in
    let some : 0 < across_of h = first_factor i (across_of h) (down_of h) all in
    let left = mod_below i (across_of h) some in
    let above = (row-Below i (across_of h) (across_of h) (down_of h) all (omega arith)).1 in
    let w = h.window in
    let cw = width_size h picture in
    let ch = height_size h picture in
    record {
      wide = piece_short w.x0 w.x1 (chunk_width h) (column_of h i) picture.shape.within.columns cw.some (piece_within (chunk_width h) (width_of w) (column_of h i) cw.some left);
      high = piece_short w.y0 w.y1 (chunk_height h) (row_of h i) picture.shape.within.rows ch.some (piece_within (chunk_height h) (height_of w) (row_of h i) ch.some above);
    }

-- ---- samples

-- a window begins at samples of a channel
record StartsAtSamples (w : Box2i) (c : Channel) : Type 0 where
  columns : is_multiple c.xs w.x0 ≡ true
  rows : is_multiple c.ys w.y0 ≡ true

of_one : (s : ℕ) (z : ℤ) → eqb s 1 ≡ true → is_multiple s z ≡ true
of_one s z e =
    let one : s ≡ 1 = grind (arith, nat_tests) in
    let none : nat_abs z % 1 ≡ 0 = omega arith in
    rw (one, none) refl

starts : (everywhere : Bool) (w : Box2i) (c : Channel) → cond everywhere (is_everywhere c) (is_aligned w c) ≡ true → StartsAtSamples w c
starts true w c e =
    let both = and_parts (eqb c.xs 1) (eqb c.ys 1) e in
    record { columns = of_one c.xs w.x0 both.0; rows = of_one c.ys w.y0 both.1 }
starts false w c e =
    let both = and_parts (is_multiple c.xs w.x0 && eqb (width_of w % c.xs) 0) (is_multiple c.ys w.y0 && eqb (height_of w % c.ys) 0) e in
    record {
      columns = (and_parts (is_multiple c.xs w.x0) (eqb (width_of w % c.xs) 0) both.0).0;
      rows = (and_parts (is_multiple c.ys w.y0) (eqb (height_of w % c.ys) 0) both.1).0;
    }

-- a region is no larger than another one, which begins where a window does
pub record IsNoLarger (w r f : Box2i) : Type 0 where
  pub left : f.x0 ≡ w.x0
  pub top : f.y0 ≡ w.y0
  pub wide : width_of r ≤ width_of f
  pub high : height_of r ≤ height_of f

channel_no_larger : (w r f : Box2i) (c : Channel) → IsNoLarger w r f → IsSampled c → StartsAtSamples w c → channel_bytes_of r c ≤ channel_bytes_of f c
channel_no_larger w r f c less sampled at =
    let columns : is_multiple c.xs f.x0 ≡ true = subst (λ z. is_multiple c.xs z ≡ true) (sym less.left) at.columns in
    let rows : is_multiple c.ys f.y0 ≡ true = subst (λ z. is_multiple c.ys z ≡ true) (sym less.top) at.rows in
    let a = most_samples c.xs f.x0 r.x0 (width_of r) (width_of f) sampled.columns columns less.wide in
    let b = most_samples c.ys f.y0 r.y0 (height_of r) (height_of f) sampled.rows rows less.high in
    let m = multiples_among c.xs r.x0 (width_of r) in
    let n = multiples_among c.ys r.y0 (height_of r) in
    let k = multiples_among c.xs f.x0 (width_of f) in
    let l = multiples_among c.ys f.y0 (height_of f) in
    mul-le (m * n) (bytes_of c.kind) (k * l) (bytes_of c.kind) (mul-le m n k l a b) (omega arith)

channels_no_larger : (w r f : Box2i) (test : Bool) (cs : List Channel) → IsNoLarger w r f → All IsSampled cs → All (λ c. IsTrue (cond test (is_everywhere c) (is_aligned w c))) cs → sum_by (channel_bytes_of r) cs ≤ sum_by (channel_bytes_of f) cs
channels_no_larger w r f test [] less sampled well = omega arith
channels_no_larger w r f test (c ∷ cs) less sampled well =
    let one = channel_no_larger w r f c less (All-head IsSampled c cs sampled) (starts test w c (All-head (λ c. IsTrue (cond test (is_everywhere c) (is_aligned w c))) c cs well)) in
    let others = channels_no_larger w r f test cs less (All-tail IsSampled c cs sampled) (All-tail (λ c. IsTrue (cond test (is_everywhere c) (is_aligned w c))) c cs well) in
    let a = sum_by-cons (channel_bytes_of r) c cs in
    let b = sum_by-cons (channel_bytes_of f) c cs in
    omega (arith, one, others, a, b)

pub raw_no_larger : (w r f : Box2i) (test : Bool) (cs : List Channel) → IsNoLarger w r f → All IsSampled cs → All (λ c. IsTrue (cond test (is_everywhere c) (is_aligned w c))) cs → raw_size_of cs r ≤ raw_size_of cs f
raw_no_larger w r f test cs less sampled well =
    let a = by_channels r cs in
    let b = by_channels f cs in
    let c = channels_no_larger w r f test cs less sampled well in
    subst (λ n. n ≤ raw_size_of cs f) (sym a) (subst (λ n. sum_by (channel_bytes_of r) cs ≤ n) (sym b) c)

-- ---- the law

first_is_first : (h : Header) (i : ℕ) → IsPicture h → IsPiece h i → IsNoLarger h.window (region_of h i) (first_region h)
first_is_first h i picture p =
    let w = h.window in
    let a = first_long w.x0 w.x1 (chunk_width h) picture.shape.within.columns picture.columns (width_size h picture).some in
    let b = first_long w.y0 w.y1 (chunk_height h) picture.shape.within.rows picture.rows (height_size h picture).some in
    let wide = p.wide in
    let high = p.high in
    record { left = refl; top = refl; wide = omega (arith, wide, a); high = omega (arith, high, b) }

each_no_larger : (deep : Bool) (a b c d : ℕ) → a ≤ c → b ≤ d → cond deep a b ≤ cond deep c d
each_no_larger true a b c d e f = e
each_no_larger false a b c d e f = f

pub no_larger : (h : Header) → HasNoLarger h
unfolding chunk_bytes_of raw_chunk_of
no_larger h picture well i within =
    let p = piece h i picture within in
    let r = region_of h i in
    let flat = raw_no_larger h.window r (first_region h) (is_tiled h.kind || is_deep h.kind) h.channels (first_is_first h i picture p) picture.shape.sampled well in
    let area = mul-le (width_of r) (height_of r) (min (width_of h.window) (chunk_width h)) (min (height_of h.window) (chunk_height h)) p.wide p.high in
    let deep : 4 * (width_of r * height_of r) ≤ 4 * (min (width_of h.window) (chunk_width h) * min (height_of h.window) (chunk_height h)) = omega (arith, area) in
    each_no_larger (is_deep h.kind) (4 * (width_of r * height_of r)) (raw_size_of h.channels r) (4 * (min (width_of h.window) (chunk_width h) * min (height_of h.window) (chunk_height h))) (raw_size_of h.channels (first_region h)) deep flat

first_column : (n : ℕ) → 0 % n ≡ 0
first_column n = omega arith

first_row : (n : ℕ) → 0 / n ≡ 0
first_row n = omega arith

-- the region of chunk 0
first_here : (h : Header) → IsPicture h → region_of h 0 ≡ first_region h
unfolding region_of
first_here h picture =
    let w = h.window in
    let cw = width_size h picture in
    let ch = height_size h picture in
    let column = first_column (across_of h) in
    let row = first_row (across_of h) in
    same_box (start_of w.x0 (chunk_width h) (column_of h 0)) (start_of w.y0 (chunk_height h) (row_of h 0)) (end_of w.x0 w.x1 (chunk_width h) (column_of h 0)) (end_of w.y0 w.y1 (chunk_height h) (row_of h 0))
    w.x0 w.y0 (first_end w.x0 w.x1 (chunk_width h)) (first_end w.y0 w.y1 (chunk_height h))
    (ap (start_of w.x0 (chunk_width h)) column ∙ first_begins w.x0 (chunk_width h))
    (ap (start_of w.y0 (chunk_height h)) row ∙ first_begins w.y0 (chunk_height h))
    (ap (end_of w.x0 w.x1 (chunk_width h)) column ∙ first_ends w.x0 w.x1 (chunk_width h) picture.shape.within.columns picture.columns cw.some)
    (ap (end_of w.y0 w.y1 (chunk_height h)) row ∙ first_ends w.y0 w.y1 (chunk_height h) picture.shape.within.rows picture.rows ch.some)

pub judges_first : (h : Header) → JudgesTheFirst h
unfolding chunk_bytes_of raw_chunk_of
judges_first h picture =
    let here = first_here h picture in
    let w = h.window in
    let a = first_long w.x0 w.x1 (chunk_width h) picture.shape.within.columns picture.columns (width_size h picture).some in
    let b = first_long w.y0 w.y1 (chunk_height h) picture.shape.within.rows picture.rows (height_size h picture).some in
    ap (λ r. cond (is_deep h.kind) (4 * (width_of r * height_of r)) (raw_size_of h.channels r)) here
    ∙ ap (λ m. cond (is_deep h.kind) (4 * (m * height_of (first_region h))) (raw_size_of h.channels (first_region h))) a
    ∙ ap (λ n. cond (is_deep h.kind) (4 * (min (width_of w) (chunk_width h) * n)) (raw_size_of h.channels (first_region h))) b

some_pieces : (size length : ℕ) → 1 ≤ size → 1 ≤ length → 0 < pieces size length
some_pieces size length some long =
    elim (cases_lt 0 (pieces size length)) [
      | inl lt ↦ lt
      | inr le ↦ absurd (omega (arith, le, some, long, Rattle.std.proofs.lemmas.Nat.le-div 1 (length + size - 1) size some (omega (arith, some, long))))
    ]

some_chunks : (h : Header) → IsPicture h → 0 < chunk_count_of h
unfolding chunk_count_of
some_chunks h picture =
    let w = h.window in
    let a : 1 ≤ across_of h = some_pieces (chunk_width h) (width_of w) (width_size h picture).some (side_some w.x0 w.x1 picture.columns picture.shape.within.columns) in
    let b : 1 ≤ down_of h = some_pieces (chunk_height h) (height_of w) (height_size h picture).some (side_some w.y0 w.y1 picture.rows picture.shape.within.rows) in
    mul-le 1 1 (across_of h) (down_of h) a b

-- the raw bytes of a chunk of a part
pub chunk_small : (p : Part) (i : ℕ) → IsPart p → i < p.count → chunk_bytes_of (header_of p) i ≤ 2 ^ 26
chunk_small p i part within =
    let less = no_larger (header_of p) part.picture part.measured.sampled i (subst (λ n. i < n) part.count within) in
    let small = part.measured.small in
    omega (arith, less, small)

pub judged_for_all : (h : Header) → IsJudgedForAll h
judged_for_all h picture well = (
  λ large. (0, some_chunks h picture, subst (λ n. 2 ^ 26 < n) (sym (judges_first h picture)) large),
  λ one.
      let less = no_larger h picture well one.0 one.1 in
      let large = one.2 in
      omega (arith, less, large),
)
