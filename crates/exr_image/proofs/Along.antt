-- Rows of pixels, one piece after another.
use Rattle.std.proofs.Common.{◌≡◌, ℕ, zero, suc, ◌+◌, ◌*◌, ◌<◌, ◌≤◌, List, [], ◌∷◌, ◌++◌, length, get_or, take, drop, refl, sym, ap, ap₂, ◌∙◌, arith, append_assoc, ℤ, pos, ◌+ℤ◌}
use Rattle.std.specs.List.{flat_map, sum}
use Rattle.std.proofs.Math.Seq.{take-add}
use Rattle.std.proofs.lemmas.Int.{ints}
use Rattle.std.proofs.lemmas.List.{append-nil, take_more, get_or-drop, length-drop, drop-drop, flat_map_more}
use Rattle.std.proofs.lemmas.List.Elements.{All-nil, All-push}
use Rattle.std.proofs.lemmas.List.Sums.{sum_by_more, sum_by_push}
use Rattle.exr_base.specs.declared.shape.Box2i.{Box2i}
use Rattle.exr_base.specs.Sampling.{span_of}
use Rattle.exr_base.specs.Shape.{width_of}
use Rattle.exr_image.specs.declared.chunk.DeepChunk.{DeepChunk}
use Rattle.exr_image.specs.declared.piece.Piece.{Piece}
use Rattle.exr_image.specs.Image.{along_row, along_rows, AreBelow}
use Rattle.exr_image.specs.Pieces.{IsPiece, IsPieceAt, GivesPieces, ArePieces}

pub along_more : (f : ℤ → ℤ → List ℕ) (x y : ℤ) (m n : ℕ) → along_row f x y (m + n) ≡ along_row f x y m ++ along_row f (x +ℤ pos m) y n
unfolding along_row
along_more f x y m zero = (let e : m + 0 ≡ m = omega arith in ap (along_row f x y) e) ∙ sym (append-nil (along_row f x y m))
along_more f x y m (suc n) =
    let e : m + suc n ≡ suc (m + n) = omega arith in
    let z : x +ℤ pos (m + n) ≡ (x +ℤ pos m) +ℤ pos n = omega (arith, ints) in
    ap (along_row f x y) e
    ∙ ap₂ (λ (a b : List ℕ). a ++ b) (along_more f x y m n) (ap (λ (w : ℤ). f w y) z)
    ∙ append_assoc (along_row f x y m) (along_row f (x +ℤ pos m) y n) (f ((x +ℤ pos m) +ℤ pos n) y)

-- ---- what the pixels of a list give

pub counts_along : (count : ℤ → ℤ → ℕ) (x y : ℤ) (counts : List ℕ) (first n : ℕ) → ((i : ℕ) → i < n → count (x +ℤ pos i) y ≡ get_or counts (first + i) 0) → first + n ≤ length counts
    → take n (drop first counts) ≡ along_row (λ x y. count x y ∷ []) x y n
unfolding along_row
counts_along count x y counts first zero each room = refl
counts_along count x y counts first (suc n) each room =
    let e : suc n ≡ n + 1 = omega arith in
    let long = length-drop first counts in
    ap (λ k. take k (drop first counts)) e
    ∙ take_more (drop first counts) n 0 (omega (arith, long, room))
    ∙ ap₂ (λ (l : List ℕ) (v : ℕ). l ++ v ∷ []) (counts_along count x y counts first n (λ i h. each i (omega (arith, h))) (omega (arith, room))) (get_or-drop first counts n 0 ∙ sym (each n (omega arith)))

pub samples_along : (f : ℤ → ℤ → List ℕ) (x y : ℤ) (counts samples : List ℕ) (first place size n : ℕ)
    → ((i : ℕ) → i < n → f (x +ℤ pos i) y ≡ take (get_or counts (first + i) 0 * size) (drop (place + sum (take i (drop first counts)) * size) samples)) → first + n ≤ length counts
    → take (sum (take n (drop first counts)) * size) (drop place samples) ≡ along_row f x y n
unfolding along_row
samples_along f x y counts samples first place size zero each room = let e : 0 * size ≡ 0 = omega arith in ap (λ k. take k (drop place samples)) e
samples_along f x y counts samples first place size (suc n) each room =
    let long = length-drop first counts in
    let so_far = sum (take n (drop first counts)) in
    let here = get_or counts (first + n) 0 in
    let next : suc n ≡ n + 1 = omega arith in
    let more : sum (take (n + 1) (drop first counts)) ≡ so_far + here = sum_by_more (λ x. x) (drop first counts) n 0 (omega (arith, long, room)) ∙ ap (λ k. so_far + k) (get_or-drop first counts n 0) in
    let parts : (so_far + here) * size ≡ so_far * size + here * size = omega arith in
    ap (λ k. take (sum (take k (drop first counts)) * size) (drop place samples)) next
    ∙ ap (λ k. take k (drop place samples)) (ap (λ k. k * size) more ∙ parts)
    ∙ take-add (so_far * size) (here * size) (drop place samples)
    ∙ ap₂ (λ (a b : List ℕ). a ++ b) (samples_along f x y counts samples first place size n (λ i h. each i (omega (arith, h))) (omega (arith, room)))
    (ap (take (here * size)) (drop-drop (so_far * size) place samples) ∙ sym (each n (omega arith)))

-- ---- pieces of rows

pub pieces_none : (window : Box2i) (chunks : List DeepChunk) → ArePieces window chunks 0 0 []
unfolding along_row along_rows
pieces_none window chunks = record {
  each = All-nil (IsPiece window chunks);
  many = omega arith;
  whole = λ of_piece of_pixel gives. refl;
}

pub pieces_more : (window : Box2i) (chunks : List DeepChunk) (rows columns : ℕ) (pieces : List Piece) (piece : Piece) (x y : ℤ) → x ≡ window.x0 +ℤ pos columns → y ≡ window.y0 +ℤ pos rows → IsPieceAt window chunks x y piece
    → ArePieces window chunks rows columns pieces → ArePieces window chunks rows (columns + piece.pixels) (pieces ++ piece ∷ [])
pieces_more window chunks rows columns pieces piece x y right down is so_far = record {
  each = All-push (IsPiece window chunks) pieces piece so_far.each (record { x = x; y = y; is = is });
  many = (let e = sum_by_push (λ (piece : Piece). piece.pixels) pieces piece in let m = so_far.many in omega arith);
  whole = λ of_piece of_pixel gives.
      let above = along_rows of_pixel window rows in
      let z = window.y0 +ℤ pos rows in
      sym (flat_map_more of_piece [] pieces piece)
      ∙ ap₂ (λ (a b : List ℕ). a ++ b) (so_far.whole of_piece of_pixel gives) (gives.each x y piece is ∙ ap₂ (λ (u v : ℤ). along_row of_pixel u v piece.pixels) right down)
      ∙ append_assoc above (along_row of_pixel window.x0 z columns) (along_row of_pixel (window.x0 +ℤ pos columns) z piece.pixels)
      ∙ ap (λ (l : List ℕ). above ++ l) (sym (along_more of_pixel window.x0 z columns piece.pixels));
}

pub next_row : (window : Box2i) (chunks : List DeepChunk) (rows : ℕ) (pieces : List Piece) → ArePieces window chunks rows (width_of window) pieces → ArePieces window chunks (rows + 1) 0 pieces
unfolding along_row along_rows
next_row window chunks rows pieces so_far = record {
  each = so_far.each;
  many = (let m = so_far.many in omega arith);
  whole = λ of_piece of_pixel gives.
      let e : suc rows ≡ rows + 1 = omega arith in
      so_far.whole of_piece of_pixel gives
      ∙ ap (along_rows of_pixel window) e
      ∙ sym (append-nil (along_rows of_pixel window (rows + 1)));
}

pub whole_rows : (window : Box2i) (chunks : List DeepChunk) (rows : ℕ) (pieces : List Piece) (of_piece : Piece → List ℕ) (of_pixel : ℤ → ℤ → List ℕ) → ArePieces window chunks rows 0 pieces → GivesPieces window chunks of_piece of_pixel
    → flat_map of_piece pieces ≡ along_rows of_pixel window rows
unfolding along_row
whole_rows window chunks rows pieces of_piece of_pixel are gives = are.whole of_piece of_pixel gives ∙ append-nil (along_rows of_pixel window rows)

abbrev pub no_piece : Piece
no_piece = record { chunk = 0; first = 0; pixels = 0; above = 0; row = 0; left = 0; samples = 0 }

-- what was made of the pieces so far, behind what there was, and of the next one
pub next_piece : (of_piece : Piece → List ℕ) (pieces : List Piece) (n : ℕ) (d : Piece) (old so_far : List ℕ) → n < length pieces → so_far ≡ old ++ flat_map of_piece (take n pieces)
    → so_far ++ of_piece (get_or pieces n d) ≡ old ++ flat_map of_piece (take (n + 1) pieces)
next_piece of_piece pieces n d old so_far there is =
    ap (λ (l : List ℕ). l ++ of_piece (get_or pieces n d)) is
    ∙ append_assoc old (flat_map of_piece (take n pieces)) (of_piece (get_or pieces n d))
    ∙ ap (λ (l : List ℕ). old ++ l) (flat_map_more of_piece [] (take n pieces) (get_or pieces n d) ∙ ap (flat_map of_piece) (sym (take_more pieces n d there)))

-- ---- rows below rows

pub rows_below : (f : ℤ → ℤ → List ℕ) (window rows : Box2i) (n m : ℕ) → AreBelow window n rows → along_rows f window (n + m) ≡ along_rows f window n ++ along_rows f rows m
unfolding along_rows
rows_below f window rows n zero below = (let e : n + 0 ≡ n = omega arith in ap (along_rows f window) e) ∙ sym (append-nil (along_rows f window n))
rows_below f window rows n (suc m) below =
    let e : n + suc m ≡ suc (n + m) = omega arith in
    let down : window.y0 +ℤ pos (n + m) ≡ rows.y0 +ℤ pos m = (let top = below.top in omega (arith, ints, top)) in
    let wide : width_of window ≡ width_of rows = sym (ap₂ (λ (a b : ℤ). span_of a b) below.left below.right) in
    ap (along_rows f window) e
    ∙ ap₂ (λ (a b : List ℕ). a ++ b) (rows_below f window rows n m below)
    (ap₂ (λ (x y : ℤ). along_row f x y (width_of window)) (sym below.left) down ∙ ap (along_row f rows.x0 (rows.y0 +ℤ pos m)) wide)
    ∙ append_assoc (along_rows f window n) (along_rows f rows m) (along_row f rows.x0 (rows.y0 +ℤ pos m) (width_of rows))
