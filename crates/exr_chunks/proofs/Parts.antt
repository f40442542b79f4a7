-- What is known of a part and of one of its chunks.
use Rattle.std.proofs.Common.{◌≡◌, ℕ, zero, suc, ◌+◌, ◌*◌, ◌/◌, ◌%◌, ◌^◌, ◌<◌, ◌≤◌, true, false, refl, sym, ap, subst, ◌∙◌, arith, ℤ, pos, ◌+ℤ◌, nat_abs, ◌≤ℤ◌, Bool, eqb, cond, ◌||◌, List, [], ◌∷◌, Option, Some, None, sum_by, All, length, get_or, take, ap₂}
use Rattle.std.specs.Prelude.{IsTrue}
use Rattle.std.proofs.lemmas.Nat.{row-Below, mod_below}
use Rattle.std.proofs.Math.Nat.{mod-one, mul_comm}
use Rattle.std.proofs.lemmas.Int.{ints}
use Rattle.std.proofs.lemmas.Bool.{and_parts, and_from}
use Rattle.std.proofs.lemmas.Bool.Decides.{nat_tests}
use Rattle.std.proofs.lemmas.List.Folds.{list_all_at, list_all_more}
use Rattle.std.proofs.lemmas.List.Sums.{sum_by-cons, sum_by_more, list_all-from_AllPass}
use Rattle.exr_base.specs.declared.shape.Box2i.{Box2i}
use Rattle.exr_base.specs.declared.channel.Channel.{Channel}
use Rattle.exr_base.specs.declared.channel.Kind.{Kind}
use Rattle.exr_base.specs.declared.channel.Kind.TheVariants.{Uint, Half, Float}
use Rattle.exr_base.specs.declared.method.Method.{Method}
use Rattle.exr_base.specs.declared.method.Method.TheVariants.{No, Rle, Zips, Zip, Piz, Pxr24, B44, B44a, Dwaa, Dwab}
use Rattle.exr_base.specs.Method.{lines_of}
use Rattle.exr_base.specs.Channel.{bytes_of}
use Rattle.exr_base.specs.Sampling.{multiples_among, span_of}
use Rattle.exr_base.specs.Shape.{width_of, height_of, channel_bytes_of, raw_size_of, IsSide, IsRegion}
use Rattle.exr_chunks.specs.declared.part.Part.{Part}
use Rattle.exr_chunks.specs.declared.place.Place.TheVariants.{Line, Tile}
use Rattle.exr_chunks.specs.Heads.{Header, Tiles, AreTiles, IsPicture, is_tiled, is_deep, is_everywhere, pieces, columns_of, rows_of, chunk_width, chunk_height, chunk_count_of}
use Rattle.exr_judge.specs.Picture.{is_aligned}
use Rattle.exr_base.proofs.RawSize.{by_channels}
use Rattle.exr_chunks.specs.declared.raw.RawSizes.{RawSizes}
use Rattle.exr_chunks.specs.Part.{without_attributes, header_of, IsPart}
use Rattle.exr_chunks.specs.RawBytes.{are_whole, IsPixel, HasRawSizes}
use Rattle.exr_chunks.specs.Region.{across_of, down_of, start_of, end_of, region_of, chunk_bytes_of, place_among, place_of}
use Rattle.exr_chunks.specs.Sizes.{AreSampledWell, IsMeasured}
use Rattle.exr_chunks.proofs.Measured.{bare_measured}
use Rattle.exr_base.proofs.Sides.{span_is, same_box}
use Rattle.exr_chunks.proofs.Pieces.{piece_within, piece_side}

-- a size is 1 to 2^30
pub record IsSize (n : ℕ) : Type 0 where
  pub some : 1 ≤ n
  pub small : n ≤ 2 ^ 30

columns_size : (whole : ℕ) (t : Option Tiles) → 1 ≤ whole → whole ≤ 2 ^ 20 → AreTiles t → IsSize (columns_of whole t)
columns_size whole None some small tiles = record { some = some; small = omega (arith, small) }
columns_size whole (Some t) some small tiles = record { some = tiles.0; small = tiles.1 }

lines_size : (m : Method) → IsSize (lines_of m)
lines_size No = record { some = omega arith; small = omega arith }
lines_size Rle = record { some = omega arith; small = omega arith }
lines_size Zips = record { some = omega arith; small = omega arith }
lines_size Zip = record { some = omega arith; small = omega arith }
lines_size Piz = record { some = omega arith; small = omega arith }
lines_size Pxr24 = record { some = omega arith; small = omega arith }
lines_size B44 = record { some = omega arith; small = omega arith }
lines_size B44a = record { some = omega arith; small = omega arith }
lines_size Dwaa = record { some = omega arith; small = omega arith }
lines_size Dwab = record { some = omega arith; small = omega arith }

rows_size : (lines : ℕ) (t : Option Tiles) → IsSize lines → AreTiles t → IsSize (rows_of lines t)
rows_size lines None size tiles = size
rows_size lines (Some t) size tiles = record { some = tiles.2; small = tiles.3 }

-- a side of a window has at least one place
pub side_some : (from to : ℤ) → from ≤ℤ to → IsSide from to → 1 ≤ span_of from to
side_some from to ordered side =
    let span = span_is from to side.ends in
    omega (arith, ints, span, ordered)

pub width_size : (h : Header) → IsPicture h → IsSize (chunk_width h)
width_size h picture =
    columns_size (width_of h.window) h.tiles (side_some h.window.x0 h.window.x1 picture.columns picture.shape.within.columns) picture.shape.within.columns.few picture.tiles

pub height_size : (h : Header) → IsPicture h → IsSize (chunk_height h)
height_size h picture = rows_size (lines_of h.method) h.tiles (lines_size h.method) picture.tiles

-- a part and one of its chunks
pub record IsCut (p : Part) (i : ℕ) : Type 0 where
  pub across : 0 < p.across
  pub left : i % p.across < p.across
  pub above : i / p.across < p.down
  pub columns : IsSide p.window.x0 p.window.x1
  pub rows : IsSide p.window.y0 p.window.y1
  pub column_size : IsSize p.columns
  pub row_size : IsSize p.rows
  pub column : i % p.across * p.columns < span_of p.window.x0 p.window.x1
  pub row : i / p.across * p.rows < span_of p.window.y0 p.window.y1

pub first_factor : (i a b : ℕ) → i < a * b → 0 < a
first_factor i zero b h = absurd (omega arith)
first_factor i (suc a) b h = omega arith

pub product : (p : Part) → IsPart p → p.count ≡ p.across * p.down
unfolding chunk_count_of header_of
product p part = part.count ∙ sym (rw (part.across, part.down) refl)

pub cut : (p : Part) (i : ℕ) → IsPart p → i < p.count → IsCut p i
unfolding header_of
cut p i part within =
    let all : i < p.across * p.down = omega (arith, product p part, within) in
    let across : 0 < p.across = first_factor i p.across p.down all in
    let left : i % p.across < p.across = mod_below i p.across across in
    let above : i / p.across < p.down = (row-Below i p.across p.across p.down all (omega arith)).1 in
    let column_size : IsSize p.columns = subst IsSize (sym part.columns) (width_size (header_of p) part.picture) in
    let row_size : IsSize p.rows = subst IsSize (sym part.rows) (height_size (header_of p) part.picture) in
    let columns_cover : p.across ≡ pieces p.columns (span_of p.window.x0 p.window.x1) = part.across ∙ ap (λ n. pieces n (span_of p.window.x0 p.window.x1)) (sym part.columns) in
    let rows_cover : p.down ≡ pieces p.rows (span_of p.window.y0 p.window.y1) = part.down ∙ ap (λ n. pieces n (span_of p.window.y0 p.window.y1)) (sym part.rows) in
    record {
      across = across;
      left = left;
      above = above;
      columns = part.picture.shape.within.columns;
      rows = part.picture.shape.within.rows;
      column_size = column_size;
      row_size = row_size;
      column = piece_within p.columns (span_of p.window.x0 p.window.x1) (i % p.across) column_size.some (subst (λ n. i % p.across < n) columns_cover left);
      row = piece_within p.rows (span_of p.window.y0 p.window.y1) (i / p.across) row_size.some (subst (λ n. i / p.across < n) rows_cover above);
    }

pub rows_side : (p : Part) → IsPart p → IsSide p.window.y0 p.window.y1
unfolding header_of
rows_side p part = part.picture.shape.within.rows

pub row_size : (p : Part) → IsPart p → IsSize p.rows
row_size p part = subst IsSize (sym part.rows) (height_size (header_of p) part.picture)

pub down_here : (p : Part) → IsPart p → p.down ≡ pieces p.rows (span_of p.window.y0 p.window.y1)
unfolding header_of
down_here p part = part.down ∙ ap (λ n. pieces n (span_of p.window.y0 p.window.y1)) (sym part.rows)

-- ---- the region of a chunk

-- four places are those of a chunk
pub record AreEnds (p : Part) (i : ℕ) (x0 y0 x1 y1 : ℤ) : Type 0 where
  pub left : x0 ≡ start_of p.window.x0 p.columns (i % p.across)
  pub top : y0 ≡ start_of p.window.y0 p.rows (i / p.across)
  pub right : x1 ≡ end_of p.window.x0 p.window.x1 p.columns (i % p.across)
  pub bottom : y1 ≡ end_of p.window.y0 p.window.y1 p.rows (i / p.across)

by_both : (f : ℕ → ℕ → ℤ) (s t m n : ℕ) → s ≡ t → m ≡ n → f s m ≡ f t n
by_both f s t m n a b = ap (λ k. f k m) a ∙ ap (λ k. f t k) b

pub region_is : (p : Part) (i : ℕ) (x0 y0 x1 y1 : ℤ) → IsPart p → AreEnds p i x0 y0 x1 y1 → ◌≡◌ {A = Box2i} (record { x0 = x0; y0 = y0; x1 = x1; y1 = y1 }) (region_of (header_of p) i)
unfolding region_of header_of
region_is p i x0 y0 x1 y1 part ends =
    let h = header_of p in
    let w = p.window in
    same_box x0 y0 x1 y1 _ _ _ _
    (ends.left ∙ by_both (λ s n. start_of w.x0 s (i % n)) p.columns (chunk_width h) p.across (across_of h) part.columns part.across)
    (ends.top ∙ by_both (λ s n. start_of w.y0 s (i / n)) p.rows (chunk_height h) p.across (across_of h) part.rows part.across)
    (ends.right ∙ by_both (λ s n. end_of w.x0 w.x1 s (i % n)) p.columns (chunk_width h) p.across (across_of h) part.columns part.across)
    (ends.bottom ∙ by_both (λ s n. end_of w.y0 w.y1 s (i / n)) p.rows (chunk_height h) p.across (across_of h) part.rows part.across)

sides_by : (a b c d : ℤ) → a ≡ c → b ≡ d → IsSide c d → IsSide a b
sides_by a b c d e f side = rw (e, f) side

pub region_sides : (p : Part) (i : ℕ) (x0 y0 x1 y1 : ℤ) → IsCut p i → AreEnds p i x0 y0 x1 y1 → IsRegion (record { x0 = x0; y0 = y0; x1 = x1; y1 = y1 })
region_sides p i x0 y0 x1 y1 cut ends = record {
  columns = sides_by x0 x1 _ _ ends.left ends.right (piece_side p.window.x0 p.window.x1 p.columns (i % p.across) cut.columns cut.column_size.some cut.column);
  rows = sides_by y0 y1 _ _ ends.top ends.bottom (piece_side p.window.y0 p.window.y1 p.rows (i / p.across) cut.rows cut.row_size.some cut.row);
}

-- ---- raw sizes

-- a product of a sum
add_mul : (a b n : ℕ) → (a + b) * n ≡ a * n + b * n
add_mul a b n = omega arith

-- each channel has a sample at each of some places
one_each : (from : ℤ) (n : ℕ) → multiples_among 1 from n ≡ n
unfolding multiples_among
one_each from zero = refl
one_each from (suc n) = rw (one_each from n, mod-one (nat_abs (from +ℤ pos n))) (omega arith)

channel_whole : (r : Box2i) (c : Channel) → c.xs ≡ 1 → c.ys ≡ 1 → channel_bytes_of r c ≡ bytes_of c.kind * (width_of r * height_of r)
channel_whole r c x y =
    rw (x, y, one_each r.x0 (width_of r), one_each r.y0 (height_of r)) (mul_comm (width_of r * height_of r) (bytes_of c.kind))

is_one : (n : ℕ) → eqb n 1 ≡ true → n ≡ 1
is_one n e = grind (arith, nat_tests)

channels_whole : (r : Box2i) (cs : List Channel) → are_whole cs ≡ true → sum_by (channel_bytes_of r) cs ≡ sum_by (λ c. bytes_of c.kind) cs * (width_of r * height_of r)
channels_whole r [] h = omega arith
channels_whole r (c ∷ cs) h =
    let both = and_parts (is_everywhere c) (are_whole cs) h in
    let here = and_parts (eqb c.xs 1) (eqb c.ys 1) both.0 in
    let one = channel_whole r c (is_one c.xs here.0) (is_one c.ys here.1) in
    let rest = channels_whole r cs both.1 in
    let raw = sum_by-cons (channel_bytes_of r) c cs in
    let bytes = sum_by-cons (λ (c : Channel). bytes_of c.kind) c cs in
    let area : ℕ = width_of r * height_of r in
    let scaled : sum_by (λ (c : Channel). bytes_of c.kind) (c ∷ cs) * area ≡ (bytes_of c.kind + sum_by (λ (c : Channel). bytes_of c.kind) cs) * area = ap (λ n. n * area) bytes in
    raw ∙ ap₂ (λ (k l : ℕ). k + l) one rest ∙ sym (scaled ∙ add_mul (bytes_of c.kind) (sum_by (λ (c : Channel). bytes_of c.kind) cs) area)

pub kind_small : (k : Kind) → bytes_of k ≤ 4
kind_small Uint = omega arith
kind_small Half = omega arith
kind_small Float = omega arith

-- one channel more
everywhere : (c : Channel) → c.xs ≡ 1 → c.ys ≡ 1 → is_everywhere c ≡ true
everywhere c x y = rw (x, y) refl

pub pixel_more : (cs : List Channel) (i n b : ℕ) (c : Channel) → i < length cs → c ≡ get_or cs i c → IsPixel (take i cs) n → c.xs ≡ 1 → c.ys ≡ 1 → b ≡ bytes_of c.kind → IsPixel (take (i + 1) cs) (n + b)
pixel_more cs i n b c within read so_far x y bytes =
    let here : is_everywhere (get_or cs i c) ≡ true = subst (λ d. is_everywhere d ≡ true) read (everywhere c x y) in
    let last : b ≡ bytes_of (get_or cs i c).kind = bytes ∙ ap (λ (d : Channel). bytes_of d.kind) read in
    record {
      whole = list_all_more is_everywhere cs i c within ∙ and_from (are_whole (take i cs)) (is_everywhere (get_or cs i c)) so_far.whole here;
      sum = ap₂ (λ (k l : ℕ). k + l) so_far.sum last ∙ sym (sum_by_more (λ (d : Channel). bytes_of d.kind) cs i c within);
    }

-- a channel that lacks samples
pub not_whole : (cs : List Channel) (i : ℕ) (c : Channel) → i < length cs → c ≡ get_or cs i c → is_everywhere c ≡ false → are_whole cs ≡ false
not_whole cs i c within read here =
    list_all_at is_everywhere cs i c within (subst (λ d. is_everywhere d ≡ false) read here)

pub pixels_are : (h : Header) (i n : ℕ) → is_deep h.kind ≡ false → IsPixel h.channels n → n * (width_of (region_of h i) * height_of (region_of h i)) ≡ chunk_bytes_of h i
unfolding chunk_bytes_of
pixels_are h i n flat pixel =
    let r = region_of h i in
    let sum = by_channels r h.channels ∙ channels_whole r h.channels pixel.whole in
    let whole : n * (width_of r * height_of r) ≡ raw_size_of h.channels r = rw (pixel.sum) (sym sum) in
    rw flat whole

pub table_is : (h : Header) (i : ℕ) → is_deep h.kind ≡ true → 4 * (width_of (region_of h i) * height_of (region_of h i)) ≡ chunk_bytes_of h i
unfolding chunk_bytes_of
table_is h i deep = rw deep refl

-- a part in tiles has no channel that lacks samples
all_whole : (cs : List Channel) → All (λ c. IsTrue (is_everywhere c)) cs → are_whole cs ≡ true
all_whole cs all = list_all-from_AllPass is_everywhere cs all

pub not_tiled : (h : Header) → AreSampledWell h → are_whole h.channels ≡ false → is_tiled h.kind ≡ false
not_tiled h well lacking =
    let P : Bool → Type 0 = λ b. All (λ c. IsTrue (cond (b || is_deep h.kind) (is_everywhere c) (is_aligned h.window c))) h.channels → b ≡ false in
    elim (is_tiled h.kind) as P [
      | true ↦ λ all.
          let whole = all_whole h.channels all in
          let both : true ≡ false = sym whole ∙ lacking in
          absurd cc
      | false ↦ λ all. refl
    ] well

-- ---- places

pub line_is : (p : Part) (i : ℕ) (y : ℤ) (r : Box2i) → r ≡ region_of (header_of p) i → p.tiles ≡ None → y ≡ r.y0 → Line y ≡ place_of (header_of p) i
unfolding place_of header_of
line_is p i y r is none e =
    ap (λ z. Line z) (e ∙ ap (λ (b : Box2i). b.y0) is) ∙ sym (ap (λ t. place_among (header_of p) t i) none)

pub tile_is : (p : Part) (i : ℕ) (t : Tiles) → IsPart p → p.tiles ≡ Some t → Tile (i % p.across) (i / p.across) 0 0 ≡ place_of (header_of p) i
unfolding place_of header_of
tile_is p i t part some =
    ap (λ n. Tile (i % n) (i / n) 0 0) part.across ∙ sym (ap (λ t. place_among (header_of p) t i) some)

-- ---- a part of a header

pub bare_picture : (h : Header) → IsPicture h → IsPicture (without_attributes h)
bare_picture h picture = record { shape = picture.shape; columns = picture.columns; rows = picture.rows; tiles = picture.tiles }

pub bare_count : (h : Header) → chunk_count_of (without_attributes h) ≡ chunk_count_of h
unfolding chunk_count_of
bare_count h = refl

pub bare_sizes : (sizes : RawSizes) (h : Header) → HasRawSizes sizes h → HasRawSizes sizes (without_attributes h)
unfolding chunk_count_of region_of chunk_bytes_of
bare_sizes sizes h has = record { some = has.some; exact = has.exact }

across_is : (h : Header) (w : Box2i) (size whole a : ℕ) → w ≡ h.window → size ≡ chunk_width h → whole ≡ width_of w → a ≡ pieces size whole → a ≡ across_of h
across_is h w size whole a ew es el ea = ea ∙ rw (es, el, ew) refl

down_is : (h : Header) (w : Box2i) (size whole a : ℕ) → w ≡ h.window → size ≡ chunk_height h → whole ≡ height_of w → a ≡ pieces size whole → a ≡ down_of h
down_is h w size whole a ew es el ea = ea ∙ rw (es, el, ew) refl

pub count_is : (h : Header) (a d : ℕ) → a ≡ across_of h → d ≡ down_of h → a * d ≡ chunk_count_of h
unfolding chunk_count_of
count_is h a d ea ed = ap (λ n. n * d) ea ∙ ap (λ n. across_of h * n) ed

-- as many chunks side by side, as many rows of them, and as many in all as the part has
pub record AreCounts (h : Header) (across down : ℕ) : Type 0 where
  pub beside : across ≡ across_of h
  pub below : down ≡ down_of h
  pub all : across * down ≡ chunk_count_of h

pub counts_are : (h : Header) (w : Box2i) (columns rows wide high a d : ℕ) → w ≡ h.window → columns ≡ chunk_width h → rows ≡ chunk_height h → wide ≡ width_of w → high ≡ height_of w → a ≡ pieces columns wide → d ≡ pieces rows high → AreCounts h a d
counts_are h w columns rows wide high a d ew ec er el eh ea ed =
    let beside = across_is h w columns wide a ew ec el ea in
    let below = down_is h w rows high d ew er eh ed in
    record { beside = beside; below = below; all = count_is h a d beside below }

pub header_is : (h : Header) (p : Part) → p.kind ≡ h.kind → p.channels.items ≡ h.channels → p.method ≡ h.method → p.window ≡ h.window → p.order ≡ h.order → p.tiles ≡ h.tiles → header_of p ≡ without_attributes h
unfolding header_of
header_is h p a b c d e f = rw (a, b, c, d, e, f) refl

pub part_is : (h : Header) (p : Part) → IsPicture h → IsMeasured h → header_of p ≡ without_attributes h → p.columns ≡ chunk_width h → p.rows ≡ chunk_height h → p.across ≡ across_of h → p.down ≡ down_of h → p.count ≡ chunk_count_of h
    → HasRawSizes p.sizes h → p.first + chunk_count_of h ≤ 2 ^ 20 → IsPart p
part_is h p picture measured e columns rows across down count sizes few = record {
  picture = subst IsPicture (sym e) (bare_picture h picture);
  measured = subst IsMeasured (sym e) (bare_measured h measured);
  columns = columns ∙ sym (ap chunk_width e);
  rows = rows ∙ sym (ap chunk_height e);
  sizes = subst (HasRawSizes p.sizes) (sym e) (bare_sizes p.sizes h sizes);
  across = across ∙ sym (ap across_of e);
  down = down ∙ sym (ap down_of e);
  count = count ∙ sym (bare_count h) ∙ sym (ap chunk_count_of e);
  few = omega (arith, count, few);
}
