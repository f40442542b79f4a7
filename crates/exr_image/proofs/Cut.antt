-- The piece of a chunk, and what its pixels give.
use Rattle.std.proofs.Common.{◌≡◌, ℕ, ◌+◌, ◌*◌, ◌<◌, ◌≤◌, List, [], ◌∷◌, length, get_or, take, drop, sym, ap, ap₂, ◌∙◌, arith, ℤ, pos, ◌+ℤ◌, ◌-ℤ◌, ◌≤ℤ◌, nat_abs}
use Rattle.std.specs.List.{sum}
use Rattle.exr_base.specs.declared.shape.Box2i.{Box2i}
use Rattle.exr_base.specs.Boxes.{IsWithin}
use Rattle.exr_base.specs.Shape.{width_of}
use Rattle.exr_image.specs.declared.chunk.DeepChunk.{DeepChunk}
use Rattle.exr_image.specs.declared.piece.Piece.{Piece}
use Rattle.exr_image.specs.declared.sizes.Sizes.{Sizes}
use Rattle.exr_image.specs.Pixel.{row_start, pixel_number, count_in, samples_between, samples_place, pixel_samples_by}
use Rattle.exr_image.specs.Pieces.{ChunkView, chunk_at, IsCounted, AreCounted, IsPieceIn, GivesPieces, counts_of, place_of, samples_of}
use Rattle.exr_image.proofs.Places.{within_more, number_more, row_within}
use Rattle.exr_image.proofs.Sums.{between_more, between_first}
use Rattle.exr_image.proofs.Along.{counts_along, samples_along}

pub made : (chunk : ChunkView) (window : Box2i) (x y : ℤ) (piece : Piece) (begin right : ℕ) → IsWithin chunk.region x y → begin ≡ row_start chunk.region y
    → piece.first ≡ begin + nat_abs (x -ℤ chunk.region.x0) → 1 ≤ piece.pixels → nat_abs (x -ℤ chunk.region.x0) + piece.pixels ≤ width_of chunk.region → (x +ℤ pos piece.pixels) ≤ℤ (window.x1 +ℤ pos 1)
    → piece.above ≡ sum (take begin chunk.content.counts) → piece.left ≡ samples_between chunk.content.counts begin piece.first
    → piece.samples ≡ samples_between chunk.content.counts piece.first (piece.first + piece.pixels)
    → right ≡ samples_between chunk.content.counts (piece.first + piece.pixels) (begin + width_of chunk.region) → piece.row ≡ piece.left + piece.samples + right
    → IsPieceIn chunk window x y piece
made chunk window x y piece begin right has start first some in_row in_window above left samples rest row =
    let counts = chunk.content.counts in
    let width = width_of chunk.region in
    let a = between_more counts begin piece.first (begin + width) (omega (arith, first)) (omega (arith, first, in_row)) in
    let b = between_more counts piece.first (piece.first + piece.pixels) (begin + width) (omega arith) (omega (arith, first, in_row)) in
    let whole : piece.row ≡ samples_between counts begin (begin + width) =
    row ∙ (let e : piece.left + piece.samples + right ≡ samples_between counts begin (begin + width) = omega (arith, left, samples, rest, a, b) in e) in
    record {
      has = has;
      first = first ∙ ap (λ n. n + nat_abs (x -ℤ chunk.region.x0)) start;
      some = some;
      in_row = in_row;
      in_window = in_window;
      above = above ∙ ap (λ n. sum (take n counts)) start;
      row = whole ∙ ap (λ n. samples_between counts n (n + width)) start;
      left = left ∙ ap (λ n. samples_between counts n piece.first) start;
      samples = samples;
    }

-- where a piece ends, and where its row ends
pub in_counts : (chunk : ChunkView) (x y : ℤ) (row width column pixels : ℕ) → IsCounted chunk → IsWithin chunk.region x y → row ≡ nat_abs (y -ℤ chunk.region.y0) → width ≡ width_of chunk.region → column ≡ nat_abs (x -ℤ chunk.region.x0)
    → nat_abs (x -ℤ chunk.region.x0) + pixels ≤ width_of chunk.region → (row * width + column + pixels ≤ length chunk.content.counts) × (row * width + width ≤ length chunk.content.counts)
in_counts chunk x y row width column pixels counted within r w c fits =
    let room = row_within chunk x y counted within in
    let start : row * width ≡ row_start chunk.region y = ap₂ (λ (a b : ℕ). a * b) r w in
    (omega (arith, room, start, c, fits), omega (arith, room, start, w))

-- the pixels of a piece are some of its chunk's
pub piece_room : (chunk : ChunkView) (window : Box2i) (x y : ℤ) (piece : Piece) → IsCounted chunk → IsPieceIn chunk window x y piece → piece.first + piece.pixels ≤ length chunk.content.counts
piece_room chunk window x y piece counted is =
    let room = row_within chunk x y counted is.has in
    let start = row_start chunk.region y in
    let e : piece.first ≡ start + nat_abs (x -ℤ chunk.region.x0) = is.first in
    omega (arith, room, e, is.in_row)

-- pixel number i of a piece, in its chunk
pub pixel_in : (chunk : ChunkView) (window : Box2i) (x y : ℤ) (piece : Piece) (i : ℕ) → IsCounted chunk → IsPieceIn chunk window x y piece → i < piece.pixels → IsWithin chunk.region (x +ℤ pos i) y
pixel_in chunk window x y piece i counted is lt = within_more chunk.region x y i counted.region is.has (let r = is.in_row in omega (arith, r, lt))

pub number_in : (chunk : ChunkView) (window : Box2i) (x y : ℤ) (piece : Piece) (i : ℕ) → IsPieceIn chunk window x y piece → pixel_number chunk.region (x +ℤ pos i) y ≡ piece.first + i
number_in chunk window x y piece i is = number_more chunk.region x y i is.has.left ∙ ap (λ n. n + i) (sym is.first)

-- where its samples begin
place_in : (counts : List ℕ) (sizes : Sizes) (piece : Piece) (begin width i : ℕ) → begin ≤ piece.first → piece.above ≡ sum (take begin counts) → piece.row ≡ samples_between counts begin (begin + width) → piece.left ≡ samples_between counts begin piece.first
    → sum (take begin counts) * sizes.all + samples_between counts begin (begin + width) * sizes.earlier + samples_between counts begin (piece.first + i) * sizes.own ≡ place_of sizes piece + sum (take i (drop piece.first counts)) * sizes.own
place_in counts sizes piece begin width i le above row left =
    let more = sum (take i (drop piece.first counts)) in
    let a = ap (λ n. n * sizes.all) above in
    let b = ap (λ n. n * sizes.earlier) row in
    let d : samples_between counts begin (piece.first + i) * sizes.own ≡ (piece.left + more) * sizes.own =
    ap (λ n. n * sizes.own) (between_more counts begin piece.first (piece.first + i) le (omega arith) ∙ (let e = between_first counts piece.first i in let f : samples_between counts begin piece.first + samples_between counts piece.first (piece.first + i) ≡ piece.left + more = omega (arith, e, left) in f)) in
    omega (arith, a, b, d)

pub gives_counts : (window : Box2i) (chunks : List DeepChunk) (count : ℤ → ℤ → ℕ) → AreCounted chunks
    → ((number : ℕ) (x y : ℤ) → number < length chunks → IsWithin (chunk_at chunks number).region x y → count x y ≡ count_in (chunk_at chunks number).region (chunk_at chunks number).content x y)
    → GivesPieces window chunks (counts_of chunks) (λ x y. count x y ∷ [])
gives_counts window chunks count counted from = record {
  each = λ x y piece is.
      let chunk = chunk_at chunks piece.chunk in
      let here = counted piece.chunk is.there in
      counts_along count x y chunk.content.counts piece.first piece.pixels
      (λ i h. from piece.chunk (x +ℤ pos i) y is.there (pixel_in chunk window x y piece i here is.is h) ∙ ap (λ n. get_or chunk.content.counts n 0) (number_in chunk window x y piece i is.is))
      (piece_room chunk window x y piece here is.is);
}

-- all samples of pixel number i of a piece
pixel_samples : (sizes : Sizes) (chunk : ChunkView) (window : Box2i) (x y : ℤ) (piece : Piece) (i : ℕ) → IsPieceIn chunk window x y piece
    → pixel_samples_by sizes chunk.region chunk.content (x +ℤ pos i) y
    ≡ take (get_or chunk.content.counts (piece.first + i) 0 * sizes.own) (drop (place_of sizes piece + sum (take i (drop piece.first chunk.content.counts)) * sizes.own) chunk.content.samples)
unfolding pixel_samples_by
pixel_samples sizes chunk window x y piece i is =
    let counts = chunk.content.counts in
    let number = number_in chunk window x y piece i is in
    let start = row_start chunk.region y in
    let le : start ≤ piece.first = (let e : piece.first ≡ start + nat_abs (x -ℤ chunk.region.x0) = is.first in omega (arith, e)) in
    let place : samples_place sizes chunk.region counts (x +ℤ pos i) y ≡ place_of sizes piece + sum (take i (drop piece.first counts)) * sizes.own =
    ap (λ n. sum (take start counts) * sizes.all + samples_between counts start (start + width_of chunk.region) * sizes.earlier + samples_between counts start n * sizes.own) number
    ∙ place_in counts sizes piece start (width_of chunk.region) i le is.above is.row is.left in
    ap (λ n. take (get_or counts n 0 * sizes.own) (drop (samples_place sizes chunk.region counts (x +ℤ pos i) y) chunk.content.samples)) number
    ∙ ap (λ n. take (get_or counts (piece.first + i) 0 * sizes.own) (drop n chunk.content.samples)) place

pub gives_samples : (window : Box2i) (chunks : List DeepChunk) (sizes : Sizes) (samples : ℤ → ℤ → List ℕ) → AreCounted chunks
    → ((number : ℕ) (x y : ℤ) → number < length chunks → IsWithin (chunk_at chunks number).region x y → samples x y ≡ pixel_samples_by sizes (chunk_at chunks number).region (chunk_at chunks number).content x y)
    → GivesPieces window chunks (samples_of chunks sizes) samples
gives_samples window chunks sizes samples counted from = record {
  each = λ x y piece is.
      let chunk = chunk_at chunks piece.chunk in
      let here = counted piece.chunk is.there in
      let many : piece.samples ≡ sum (take piece.pixels (drop piece.first chunk.content.counts)) = is.is.samples ∙ between_first chunk.content.counts piece.first piece.pixels in
      ap (λ n. take (n * sizes.own) (drop (place_of sizes piece) chunk.content.samples)) many
      ∙ samples_along samples x y chunk.content.counts chunk.content.samples piece.first (place_of sizes piece) sizes.own piece.pixels
      (λ i h. from piece.chunk (x +ℤ pos i) y is.there (pixel_in chunk window x y piece i here is.is h) ∙ pixel_samples sizes chunk window x y piece i is.is)
      (piece_room chunk window x y piece here is.is);
}
