-- Each pixel of a data window lies in the region of one chunk.
use Rattle.std.proofs.Common.{◌≡◌, ℕ, ◌+◌, ◌-◌, ◌*◌, ◌/◌, ◌%◌, ◌<◌, ◌≤◌, refl, sym, ap, subst, ◌∙◌, arith, ℤ, pos, negsuc, ◌+ℤ◌, ◌-ℤ◌, ◌≤ℤ◌, nat_abs}
use Rattle.std.proofs.lemmas.Nat.{div-mul-add, mod-mul-add, mul-add-lt, div-add-mod', mod_below, row-Below}
use Rattle.std.proofs.lemmas.Int.{ints, clamps}
use Rattle.exr_base.specs.Sampling.{span_of}
use Rattle.exr_base.specs.Shape.{width_of, height_of}
use Rattle.exr_chunks.specs.Heads.{Header, IsPicture, pieces, chunk_width, chunk_height, chunk_count_of}
use Rattle.exr_chunks.specs.Region.{across_of, down_of, column_of, row_of, start_of, end_of, region_of}
use Rattle.exr_base.specs.Boxes.{IsInside}
use Rattle.exr_chunks.specs.Pixels.{HasOneChunkEach}
use Rattle.exr_base.proofs.Sides.{span_is}
use Rattle.exr_chunks.proofs.Pieces.{piece_within}
use Rattle.exr_chunks.proofs.Indexes.{piece_of}
use Rattle.exr_chunks.proofs.Parts.{side_some, width_size, height_size}

-- ---- on a side

-- a place on a side, by how many lie before it
pub record IsPlaced (from to x : ℤ) (n : ℕ) : Type 0 where
  pub at : x ≡ from +ℤ pos n
  pub within : n < span_of from to

placed_at : (z : ℤ) → (pos 0 ≤ℤ z) → z ≡ pos (nat_abs z)
placed_at (pos n) h = refl
placed_at (negsuc n) h = absurd (omega (arith, ints, h))

pub placed : (from to x : ℤ) → from ≤ℤ x → x ≤ℤ to → IsPlaced from to x (nat_abs (x -ℤ from))
placed from to x low high =
    let offset : (x -ℤ from) ≡ pos (nat_abs (x -ℤ from)) = placed_at (x -ℤ from) (omega (arith, ints, low)) in
    let span = span_is from to (omega (arith, ints, low, high)) in
    record {
      at = omega (arith, ints, offset);
      within = omega (arith, ints, offset, span, high);
    }

-- it lies in the piece that so many go before
pub record IsInPiece (from to x : ℤ) (size k : ℕ) : Type 0 where
  pub low : start_of from size k ≤ℤ x
  pub high : x ≤ℤ end_of from to size k

pub in_its_piece : (from to x : ℤ) (size n : ℕ) → 1 ≤ size → x ≤ℤ to → x ≡ from +ℤ pos n → IsInPiece from to x size (n / size)
in_its_piece from to x size n some high at =
    let whole = div-add-mod' n size in
    let left = mod_below n size some in
    record {
      low = omega (arith, ints, at, whole);
      high = omega (arith, ints, clamps, at, whole, left, high);
    }

pub only_piece : (from to x : ℤ) (size n k : ℕ) → 1 ≤ size → x ≡ from +ℤ pos n → IsInPiece from to x size k → k ≡ n / size
only_piece from to x size n k some at is =
    let low : k * size ≤ n = omega (arith, ints, at, is.low) in
    let high : n < k * size + size = omega (arith, ints, clamps, at, is.high) in
    let parts : n ≡ k * size + (n - k * size) = omega (arith, low) in
    sym (ap (λ m. m / size) parts ∙ div-mul-add k size (n - k * size) (omega (arith, low, high)))

pub its_piece_within : (from to x : ℤ) (size n : ℕ) → 1 ≤ size → n < span_of from to → n / size < pieces size (span_of from to)
its_piece_within from to x size n some within = piece_of size (span_of from to) (n / size) some (omega (arith, div-add-mod' n size, within))

-- ---- regions

piece_inside : (from to : ℤ) (size k : ℕ) → from ≤ℤ to → 1 ≤ size → k * size < span_of from to → (from ≤ℤ start_of from size k) × ((start_of from size k ≤ℤ end_of from to size k) × (end_of from to size k ≤ℤ to))
piece_inside from to size k ordered some within =
    let span = span_is from to (omega (arith, ints, ordered)) in
    (omega (arith, ints), (omega (arith, ints, clamps, span, within, some), omega (arith, ints, clamps)))

pub region_inside : (h : Header) (i : ℕ) → IsPicture h → i < chunk_count_of h → IsInside h.window (region_of h i)
unfolding region_of chunk_count_of
region_inside h i picture within =
    let w = h.window in
    let wide = width_size h picture in
    let high = height_size h picture in
    let columns = side_some w.x0 w.x1 picture.columns picture.shape.within.columns in
    let across : 0 < across_of h = omega (arith, its_piece_within w.x0 w.x1 w.x0 (chunk_width h) 0 wide.some columns) in
    let column : column_of h i < across_of h = mod_below i (across_of h) across in
    let row : row_of h i < down_of h = (row-Below i (across_of h) (across_of h) (down_of h) (omega (arith, within)) (omega arith)).1 in
    let x = piece_inside w.x0 w.x1 (chunk_width h) (column_of h i) picture.columns wide.some (piece_within (chunk_width h) (width_of w) (column_of h i) wide.some column) in
    let y = piece_inside w.y0 w.y1 (chunk_height h) (row_of h i) picture.rows high.some (piece_within (chunk_height h) (height_of w) (row_of h i) high.some row) in
    record { left = x.0; columns = (x.1).0; right = (x.1).1; top = y.0; rows = (y.1).0; bottom = (y.1).1 }

-- ---- on both

pub one_chunk : (h : Header) → HasOneChunkEach h
unfolding region_of chunk_count_of
one_chunk h picture x y pixel =
    let w = h.window in
    let wide = width_size h picture in
    let high = height_size h picture in
    let column = placed w.x0 w.x1 x pixel.left pixel.right in
    let row = placed w.y0 w.y1 y pixel.top pixel.bottom in
    let a = across_of h in
    let k = nat_abs (x -ℤ w.x0) / chunk_width h in
    let l = nat_abs (y -ℤ w.y0) / chunk_height h in
    let k_in : k < a = its_piece_within w.x0 w.x1 x (chunk_width h) (nat_abs (x -ℤ w.x0)) wide.some column.within in
    let l_in : l < down_of h = its_piece_within w.y0 w.y1 y (chunk_height h) (nat_abs (y -ℤ w.y0)) high.some row.within in
    let is_column : column_of h (l * a + k) ≡ k = mod-mul-add l a k k_in in
    let is_row : row_of h (l * a + k) ≡ l = div-mul-add l a k k_in in
    let across = subst (IsInPiece w.x0 w.x1 x (chunk_width h)) (sym is_column) (in_its_piece w.x0 w.x1 x (chunk_width h) (nat_abs (x -ℤ w.x0)) wide.some pixel.right column.at) in
    let down = subst (IsInPiece w.y0 w.y1 y (chunk_height h)) (sym is_row) (in_its_piece w.y0 w.y1 y (chunk_height h) (nat_abs (y -ℤ w.y0)) high.some pixel.bottom row.at) in
    record {
      within = omega (arith, mul-add-lt l a k (down_of h) l_in k_in);
      has = record { left = across.low; right = across.high; top = down.low; bottom = down.high };
      alone = λ i i_in has.
          let c : column_of h i ≡ k = only_piece w.x0 w.x1 x (chunk_width h) (nat_abs (x -ℤ w.x0)) (column_of h i) wide.some column.at (record { low = has.left; high = has.right }) in
          let r : row_of h i ≡ l = only_piece w.y0 w.y1 y (chunk_height h) (nat_abs (y -ℤ w.y0)) (row_of h i) high.some row.at (record { low = has.top; high = has.bottom }) in
          sym (div-add-mod' i a) ∙ ap (λ n. n * a + i % a) r ∙ ap (λ n. l * a + n) c;
    }
