-- What chunks whose content fits have: a count for each pixel, and the samples that are copied.
use Rattle.std.proofs.Common.{◌≡◌, ℕ, ◌+◌, ◌*◌, ◌^◌, ◌<◌, ◌≤◌, true, eqb, leb, ◌&&◌, List, length, arith, ℤ, ◌-ℤ◌, nat_abs}
use Rattle.std.specs.List.{All, sum}
use Rattle.std.proofs.lemmas.Bool.{and_parts, leb-true}
use Rattle.std.proofs.lemmas.List.Elements.{All-weaker}
use Rattle.std.proofs.lemmas.List.Sums.{sum_by_more_le}
use Rattle.exr_base.specs.declared.shape.Box2i.{Box2i}
use Rattle.exr_base.specs.declared.channel.Channel.{Channel}
use Rattle.exr_base.specs.Channel.{bytes_of, no_channel}
use Rattle.exr_base.specs.Shape.{width_of, IsRegion}
use Rattle.exr_deep.specs.Body.{content_of}
use Rattle.exr_deep.specs.Deep.{fits, are_ints, pixels_of, samples_size_of}
use Rattle.exr_deep.proofs.Chain.{Fits, fits_whole}
use Rattle.exr_image.specs.declared.chunk.DeepChunk.{DeepChunk}
use Rattle.exr_image.specs.declared.piece.Piece.{Piece}
use Rattle.exr_image.specs.Pixel.{row_start, sizes_of}
use Rattle.exr_image.specs.Pieces.{ChunkView, chunk_at, IsCounted, AreCounted, IsPieceIn, IsPiece, HasCounts, HasSamples}
use Rattle.exr_image.proofs.Places.{at_chunk}
use Rattle.exr_image.proofs.Sums.{between_more, first_le, bytes_fit}
use Rattle.exr_image.proofs.Cut.{piece_room}

fit_chunk : (channels : List Channel) (chunks : List DeepChunk) → All (λ chunk. fits channels chunk.region (content_of chunk.content) ≡ true) chunks → (number : ℕ) → number < length chunks
    → Fits channels (chunk_at chunks number).region (chunk_at chunks number).content
fit_chunk channels chunks fit number there =
    fits_whole channels (chunk_at chunks number).region (chunk_at chunks number).content (at_chunk (λ (chunk : ChunkView). fits channels chunk.region chunk.content ≡ true) chunks fit number there)

pub all_counted : (channels : List Channel) (chunks : List DeepChunk) → All (λ chunk. IsRegion chunk.region) chunks → All (λ chunk. fits channels chunk.region (content_of chunk.content) ≡ true) chunks → AreCounted chunks
all_counted channels chunks regions fit = λ number there.
    let is = fit_chunk channels chunks fit number there in
    record {
      region = at_chunk (λ (chunk : ChunkView). IsRegion chunk.region) chunks regions number there;
      long = is.whole.long;
      small = (let a = is.small in let b = is.whole.long in omega arith);
    }

pub all_counts : (window : Box2i) (chunks : List DeepChunk) (pieces : List Piece) → AreCounted chunks → All (IsPiece window chunks) pieces → All (HasCounts chunks) pieces
all_counts window chunks pieces counted are =
    All-weaker (IsPiece window chunks) (HasCounts chunks)
    (λ piece is. record {
      there = is.is.there;
      room = piece_room (chunk_at chunks piece.chunk) window is.x is.y piece (counted piece.chunk is.is.there) is.is.is;
      small = (counted piece.chunk is.is.there).small;
    }) pieces are

-- ---- samples

pub samples_small : (channels : List Channel) (chunk : ChunkView) → fits channels chunk.region chunk.content ≡ true → length chunk.content.samples ≤ 2 ^ 26
unfolding fits
samples_small channels chunk is =
    let counted = eqb (length chunk.content.counts) (pixels_of chunk.region) in
    let ints = are_ints (width_of chunk.region) chunk.content.counts in
    let sized = eqb (length chunk.content.samples) (samples_size_of channels chunk.content.counts) in
    let small = leb (4 * pixels_of chunk.region) (2 ^ 26) in
    let few = leb (length chunk.content.samples) (2 ^ 26) in
    leb-true (length chunk.content.samples) (2 ^ 26) (and_parts (((counted && ints) && sized) && small) few is).1

pub earlier_and_own : (channels : List Channel) (c : ℕ) → c < length channels → (sizes_of channels c).earlier + (sizes_of channels c).own ≤ (sizes_of channels c).all
earlier_and_own channels c lt = sum_by_more_le (λ (c : Channel). bytes_of c.kind) channels c no_channel lt

samples_room : (channels : List Channel) (chunk : ChunkView) (window : Box2i) (piece : Piece) (c : ℕ) → (is : IsCounted chunk) → Fits channels chunk.region chunk.content → (x y : ℤ) → IsPieceIn chunk window x y piece → c < length channels
    → piece.above * (sizes_of channels c).all + piece.row * (sizes_of channels c).earlier + piece.left * (sizes_of channels c).own + piece.samples * (sizes_of channels c).own ≤ length chunk.content.samples
samples_room channels chunk window piece c counted fit x y is lt =
    let counts = chunk.content.counts in
    let start = row_start chunk.region y in
    let width = width_of chunk.region in
    let in_all = first_le counts start (start + width) (omega arith) in
    let from : start ≤ piece.first = (let e : piece.first ≡ start + nat_abs (x -ℤ chunk.region.x0) = is.first in omega (arith, e)) in
    let to : piece.first + piece.pixels ≤ start + width = (let e : piece.first ≡ start + nat_abs (x -ℤ chunk.region.x0) = is.first in let f = is.in_row in omega (arith, e, f)) in
    let a = between_more counts start piece.first (start + width) from (omega (arith, to)) in
    let b = between_more counts piece.first (piece.first + piece.pixels) (start + width) (omega arith) to in
    let in_row : piece.left + piece.samples ≤ piece.row = omega (arith, is.left, is.samples, is.row, a, b) in
    let within : piece.above + piece.row ≤ sum counts = omega (arith, is.above, is.row, in_all) in
    bytes_fit piece.above piece.row piece.left piece.samples (sizes_of channels c).all (sizes_of channels c).earlier (sizes_of channels c).own (sum counts) (length chunk.content.samples) within in_row (earlier_and_own channels c lt) fit.whole.sized

pub all_samples : (channels : List Channel) (window : Box2i) (chunks : List DeepChunk) (pieces : List Piece) (c : ℕ) → AreCounted chunks → All (λ chunk. fits channels chunk.region (content_of chunk.content) ≡ true) chunks → c < length channels
    → All (IsPiece window chunks) pieces → All (HasSamples chunks (sizes_of channels c)) pieces
all_samples channels window chunks pieces c counted fit lt are =
    All-weaker (IsPiece window chunks) (HasSamples chunks (sizes_of channels c))
    (λ piece is.
    let chunk = chunk_at chunks piece.chunk in
    let there = is.is.there in
    record {
      there = there;
      room = samples_room channels chunk window piece c (counted piece.chunk there) (fit_chunk channels chunks fit piece.chunk there) is.x is.y is.is.is lt;
      small = samples_small channels chunk (at_chunk (λ (chunk : ChunkView). fits channels chunk.region chunk.content ≡ true) chunks fit piece.chunk there);
    }) pieces are
