-- Which chunk has a place.
use Rattle.std.proofs.Common.{◌≡◌, ℕ, ◌+◌, ◌-◌, ◌*◌, ◌/◌, ◌%◌, ◌<◌, ◌≤◌, refl, sym, ap, subst, ◌∙◌, arith, ℤ, pos, ◌+ℤ◌, Option, Some, None}
use Rattle.std.proofs.lemmas.Nat.{div-mul-add, mod-mul-add, mul-add-lt, le-div, div-add-mod'}
use Rattle.exr_base.specs.Sampling.{span_of}
use Rattle.exr_base.specs.Shape.{width_of}
use Rattle.exr_chunks.specs.declared.part.Part.{Part}
use Rattle.exr_chunks.specs.declared.place.Place.TheVariants.{Line, Tile}
use Rattle.exr_chunks.specs.Heads.{Header, Tiles, pieces, columns_of}
use Rattle.exr_chunks.specs.Part.{header_of, IsPart}
use Rattle.exr_chunks.specs.Region.{across_of, column_of, row_of, start_of, region_of, place_among, place_of, IsIndexOf}
use Rattle.exr_chunks.proofs.Parts.{cut, product, down_here, tile_is, side_some}

-- a piece that begins within a length is one of those that cover it
pub piece_of : (size length n : ℕ) → 1 ≤ size → n * size < length → n < pieces size length
piece_of size length n some within = omega (arith, le-div (n + 1) (length + size - 1) size some (omega (arith, some, within)))

one_piece : (n : ℕ) → 1 ≤ n → pieces n n ≡ 1
one_piece n some =
    let e : n + n - 1 ≡ 1 * n + (n - 1) = omega (arith, some) in
    rw e (div-mul-add 1 n (n - 1) (omega (arith, some)))

over_one : (n : ℕ) → n / 1 ≡ n
over_one n = omega arith

-- ---- blocks of lines

pub alone : (p : Part) → IsPart p → p.tiles ≡ None → p.across ≡ 1
unfolding header_of
alone p part none =
    let w = p.window in
    part.across ∙ ap (λ t. pieces (columns_of (width_of w) t) (width_of w)) none
    ∙ one_piece (width_of w) (side_some w.x0 w.x1 part.picture.columns part.picture.shape.within.columns)

pub line_at : (p : Part) (i : ℕ) → IsPart p → p.tiles ≡ None → place_of (header_of p) i ≡ Line (start_of p.window.y0 p.rows (i / p.across))
unfolding place_of region_of header_of
line_at p i part none =
    ap (λ t. place_among (header_of p) t i) none
    ∙ ap (λ s. Line (start_of p.window.y0 s (i / across_of (header_of p)))) (sym part.rows)
    ∙ ap (λ n. Line (start_of p.window.y0 p.rows (i / n))) (sym part.across)

pub line_found : (p : Part) (y : ℤ) (lines i : ℕ) → IsPart p → p.tiles ≡ None → 1 ≤ p.rows → y ≡ p.window.y0 +ℤ pos lines → lines < span_of p.window.y0 p.window.y1 → lines % p.rows ≡ 0 → i ≡ lines / p.rows → IsIndexOf (header_of p) (Line y) i
line_found p y lines i part none some is within whole e =
    let one = alone p part none in
    let back : i * p.rows ≡ lines = omega (arith, ap (λ k. k * p.rows) e, div-add-mod' lines p.rows, whole) in
    let low : i < pieces p.rows (span_of p.window.y0 p.window.y1) = piece_of p.rows (span_of p.window.y0 p.window.y1) i some (omega (arith, back, within)) in
    let down : p.down ≡ pieces p.rows (span_of p.window.y0 p.window.y1) = down_here p part in
    let count : p.count ≡ 1 * p.down = product p part ∙ ap (λ n. n * p.down) one in
    record {
      within = subst (λ n. i < n) part.count (omega (arith, low, down, count));
      has_place =
          line_at p i part none ∙ ap (λ n. Line (start_of p.window.y0 p.rows (i / n))) one
          ∙ ap (λ n. Line (start_of p.window.y0 p.rows n)) (over_one i) ∙ ap (λ n. Line (p.window.y0 +ℤ pos n)) back ∙ ap (λ z. Line z) (sym is);
    }

line_or_not : (h : Header) (t : Option Tiles) (i : ℕ) (y : ℤ) → place_among h t i ≡ Line y → t ≡ None
line_or_not h None i y e = refl
line_or_not h (Some t) i y e = absurd cc

-- what stands where a block begins
pub record IsStart (p : Part) (y : ℤ) : Type 0 where
  pub none : p.tiles ≡ None
  pub lines : ℕ
  pub is : y ≡ p.window.y0 +ℤ pos lines
  pub within : lines < span_of p.window.y0 p.window.y1
  pub whole : lines % p.rows ≡ 0

same_line : (y z : ℤ) → Line y ≡ Line z → y ≡ z
same_line y z e = cc

pub starts : (p : Part) (y : ℤ) (i : ℕ) → IsPart p → i < p.count → place_of (header_of p) i ≡ Line y → IsStart p y
unfolding place_of header_of
starts p y i part within e =
    let none = line_or_not (header_of p) p.tiles i y e in
    let k = cut p i part within in
    let q = i / p.across in
    let none_left : 0 < p.rows = k.row_size.some in
    let zero : q * p.rows + 0 ≡ q * p.rows = omega arith in
    record {
      none = none;
      lines = q * p.rows;
      is = same_line y (start_of p.window.y0 p.rows q) (sym e ∙ line_at p i part none);
      within = k.row;
      whole = subst (λ n. n % p.rows ≡ 0) zero (mod-mul-add q p.rows 0 none_left);
    }

-- ---- tiles

pub tile_found : (p : Part) (t : Tiles) (tx ty i : ℕ) → IsPart p → p.tiles ≡ Some t → tx < p.across → ty < p.down → i ≡ ty * p.across + tx → IsIndexOf (header_of p) (Tile tx ty 0 0) i
tile_found p t tx ty i part some left above e =
    let column : i % p.across ≡ tx = ap (λ n. n % p.across) e ∙ mod-mul-add ty p.across tx left in
    let row : i / p.across ≡ ty = ap (λ n. n / p.across) e ∙ div-mul-add ty p.across tx left in
    let low = mul-add-lt ty p.across tx p.down above left in
    let count = product p part in
    record {
      within = subst (λ n. i < n) part.count (omega (arith, low, e, count));
      has_place = sym (tile_is p i t part some) ∙ ap (λ n. Tile n (i / p.across) 0 0) column ∙ ap (λ n. Tile tx n 0 0) row;
    }

-- the numbers of a tile that stands among a part's
pub record IsTileOf (p : Part) (tx ty lx ly : ℕ) : Type 0 where
  pub tiles : Tiles
  pub some : p.tiles ≡ Some tiles
  pub left : tx < p.across
  pub above : ty < p.down
  pub no_column : lx ≡ 0
  pub no_row : ly ≡ 0

record AreNumbers (h : Header) (t : Option Tiles) (i tx ty lx ly : ℕ) : Type 0 where
  tiles : Tiles
  some : t ≡ Some tiles
  column : column_of h i ≡ tx
  row : row_of h i ≡ ty
  no_column : lx ≡ 0
  no_row : ly ≡ 0

tile_or_not : (h : Header) (t : Option Tiles) (i tx ty lx ly : ℕ) → place_among h t i ≡ Tile tx ty lx ly → AreNumbers h t i tx ty lx ly
tile_or_not h None i tx ty lx ly e = absurd cc
tile_or_not h (Some t) i tx ty lx ly e = record { tiles = t; some = refl; column = cc; row = cc; no_column = cc; no_row = cc }

pub tile_at : (p : Part) (i tx ty lx ly : ℕ) → IsPart p → i < p.count → place_of (header_of p) i ≡ Tile tx ty lx ly → IsTileOf p tx ty lx ly
unfolding place_of header_of
tile_at p i tx ty lx ly part within e =
    let numbers = tile_or_not (header_of p) p.tiles i tx ty lx ly e in
    let k = cut p i part within in
    let column : i % p.across ≡ tx = ap (λ n. i % n) part.across ∙ numbers.column in
    let row : i / p.across ≡ ty = ap (λ n. i / n) part.across ∙ numbers.row in
    let left = k.left in
    let above = k.above in
    record {
      tiles = numbers.tiles;
      some = numbers.some;
      left = omega (arith, column, left);
      above = omega (arith, row, above);
      no_column = numbers.no_column;
      no_row = numbers.no_row;
    }
