-- Where a piece lies in its row, and the row among the counts.
use Rattle.std.proofs.Common.{◌≡◌, ◌+◌, ◌*◌, ℕ, List, length, take, refl, ap, ap₂, ◌∙◌, arith}
use Rattle.std.specs.List.{sum}
use Rattle.exr_image.specs.declared.piece.Piece.{Piece}
use Rattle.exr_image.specs.Pixel.{samples_between}
use Rattle.exr_image.specs.Pieces.{view_of}
use Rattle.exr_image.proofs.Places.{column_less}
use Rattle.exr_image.proofs.Cut.{made, in_counts}
use Rattle.exr_image.proofs.piece.piece_of.Goals as goal

pub overflow_add-first : goal.overflow_add-first
overflow_add-first c =
    let chunk = view_of c.args.chunk.now in
    let column = column_less chunk.region c.args.pixel.x c.args.pixel.y c.requires.within in
    let room = in_counts chunk c.args.pixel.x c.args.pixel.y c.row_in.result c.width_of-width.result c.column_in.result 0 c.requires.counted c.requires.within c.row_in.ensures c.width_of-width.ensures.exact c.column_in.ensures (omega (arith, column)) in
    record { fits = omega (arith, room.0, c.requires.counted.small) }

pub reach-above-requires-clause-within : goal.reach-above-requires-clause-within
reach-above-requires-clause-within c =
    let chunk = view_of c.args.chunk.now in
    let room = in_counts chunk c.args.pixel.x c.args.pixel.y c.row_in.result c.width_of-width.result c.column_in.result c.pixels_in-pixels.result c.requires.counted c.requires.within c.row_in.ensures c.width_of-width.ensures.exact c.column_in.ensures c.pixels_in-pixels.ensures.in_row in
    let long : length c.as_slice-counts.result.now ≡ length chunk.content.counts = ap length c.as_slice-counts.ensures.value in
    omega (arith, room.1, long)

pub pass-left-requires-clause-within : goal.pass-left-requires-clause-within
pass-left-requires-clause-within c =
    let chunk = view_of c.args.chunk.now in
    let room = in_counts chunk c.args.pixel.x c.args.pixel.y c.row_in.result c.width_of-width.result c.column_in.result c.pixels_in-pixels.result c.requires.counted c.requires.within c.row_in.ensures c.width_of-width.ensures.exact c.column_in.ensures c.pixels_in-pixels.ensures.in_row in
    let long : length c.as_slice-counts.result.now ≡ length chunk.content.counts = ap length c.as_slice-counts.ensures.value in
    omega (arith, room.0, long)

pub pass-samples-requires-clause-within : goal.pass-samples-requires-clause-within
pass-samples-requires-clause-within c =
    let chunk = view_of c.args.chunk.now in
    let room = in_counts chunk c.args.pixel.x c.args.pixel.y c.row_in.result c.width_of-width.result c.column_in.result c.pixels_in-pixels.result c.requires.counted c.requires.within c.row_in.ensures c.width_of-width.ensures.exact c.column_in.ensures c.pixels_in-pixels.ensures.in_row in
    let long : length c.as_slice-counts.result.now ≡ length chunk.content.counts = ap length c.as_slice-counts.ensures.value in
    omega (arith, room.0, long)

pub pass-right-requires-clause-within : goal.pass-right-requires-clause-within
pass-right-requires-clause-within c =
    let chunk = view_of c.args.chunk.now in
    let room = in_counts chunk c.args.pixel.x c.args.pixel.y c.row_in.result c.width_of-width.result c.column_in.result c.pixels_in-pixels.result c.requires.counted c.requires.within c.row_in.ensures c.width_of-width.ensures.exact c.column_in.ensures c.pixels_in-pixels.ensures.in_row in
    let long : length c.as_slice-counts.result.now ≡ length chunk.content.counts = ap length c.as_slice-counts.ensures.value in
    omega (arith, room.1, long)

pub returns-clause-piece : goal.returns-clause-piece
returns-clause-piece c =
    let chunk = view_of c.args.chunk.now in
    let width = c.width_of-width.ensures.exact in
    let begin = c.row_in.result * c.width_of-width.result in
    let first = begin + c.column_in.result in
    let end = first + c.pixels_in-pixels.result in
    let slice = c.as_slice-counts.result.now in
    let same = c.as_slice-counts.ensures.value in
    let piece : Piece = record {
      chunk = c.args.number;
      first = first;
      pixels = c.pixels_in-pixels.result;
      above = c.reach-above.result;
      row = c.pass-left.result + c.pass-samples.result + c.pass-right.result;
      left = c.pass-left.result;
      samples = c.pass-samples.result;
    } in
    made chunk c.args.window c.args.pixel.x c.args.pixel.y piece begin c.pass-right.result c.requires.within
    (ap₂ (λ (a b : ℕ). a * b) c.row_in.ensures width)
    (ap (λ n. begin + n) c.column_in.ensures)
    c.pixels_in-pixels.ensures.some c.pixels_in-pixels.ensures.in_row c.pixels_in-pixels.ensures.in_window
    (c.reach-above.ensures.exact ∙ ap (λ (l : List ℕ). sum (take begin l)) same)
    (c.pass-left.ensures.exact ∙ ap (λ n. samples_between slice n first) c.reach-above.ensures.at ∙ ap (λ (l : List ℕ). samples_between l begin first) same)
    (c.pass-samples.ensures.exact ∙ ap (λ n. samples_between slice n end) c.pass-left.ensures.at ∙ ap (λ (l : List ℕ). samples_between l first end) same)
    (c.pass-right.ensures.exact ∙ ap (λ n. samples_between slice n (begin + c.width_of-width.result)) c.pass-samples.ensures.at ∙ ap (λ (l : List ℕ). samples_between l end (begin + c.width_of-width.result)) same ∙ ap (λ n. samples_between chunk.content.counts end (begin + n)) width)
    refl
