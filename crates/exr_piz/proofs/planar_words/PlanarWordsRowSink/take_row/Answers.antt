-- A row of bytes is a row of words.
use Rattle.std.proofs.Common.{◌≡◌, ◌+◌, ◌-◌, ◌/◌, ◌≤◌, ℕ, length, ap, ◌∙◌, arith}
use borrow.Rule.Slice.PartMut.{put_mid}
use Rattle.exr_piz.specs.Words.{bytes_from}
use Rattle.exr_piz.proofs.Spelling.{length-bytes_from, row_taken}
use Rattle.exr_piz.proofs.planar_words.PlanarWordsRowSink.take_row.Goals as goal

pub slice_bounds-put_words-end : goal.slice_bounds-put_words-end
slice_bounds-put_words-end c =
    let words = c.args.self.now.words.now in
    let within : c.args.to / 2 + length c.args.row.now / 2 ≤ length words = omega (arith, c.requires.within, length-bytes_from words) in
    omega arith

pub returns-clause-row : goal.returns-clause-row
returns-clause-row c =
    let words = c.args.self.now.words.now in
    let first = c.args.to / 2 in
    let count = length c.args.row.now / 2 in
    let within : first + count ≤ length words = omega (arith, c.requires.within, length-bytes_from words) in
    let part : first + count - first ≡ count = omega arith in
    ap (λ (n : ℕ). bytes_from (put_mid first n words c.put_words.new.words)) part
    ∙ row_taken words c.put_words.new.words c.args.row.now c.args.to first count (length c.args.row.now)
    (omega (arith, c.requires.even_place)) (omega (arith, c.requires.even_size)) within c.put_words.ensures.restores
