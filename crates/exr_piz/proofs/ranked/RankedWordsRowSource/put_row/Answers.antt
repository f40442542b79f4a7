-- The words of a row have its bytes.
use Rattle.std.proofs.Common.{◌≡◌, ◌+◌, ◌-◌, ◌/◌, ◌≤◌, ℕ, length, take, drop, get_or, map, ap, ◌∙◌, arith}
use Rattle.std.proofs.lemmas.List.{length-map}
use Rattle.exr_piz.specs.Words.{bytes_from}
use Rattle.exr_piz.proofs.Spelling.{length-bytes_from, row_bytes}
use Rattle.exr_piz.proofs.ranked.RankedWordsRowSource.put_row.Goals as goal

pub slice_bounds-put_bytes-end : goal.slice_bounds-put_bytes-end
slice_bounds-put_bytes-end c =
    let values = c.args.self.now.values.now in
    let words = c.args.self.now.words.now in
    let size = length-bytes_from (map (λ r. get_or values r 0) words) in
    let same = length-map words (λ r. get_or values r 0) in
    let within : c.args.from / 2 + length c.args.into.now / 2 ≤ length words = omega (arith, c.requires.within) in
    omega arith

pub returns : goal.returns
returns c =
    let values = c.args.self.now.values.now in
    let words = c.args.self.now.words.now in
    let first = c.args.from / 2 in
    let count = length c.args.into.now / 2 in
    let f = λ (r : ℕ). get_or values r 0 in
    let size = length-bytes_from (map f words) in
    let same = length-map words f in
    let within : first + count ≤ length words = omega (arith, c.requires.within) in
    let part : first + count - first ≡ count = omega arith in
    c.put_bytes.ensures
    ∙ ap (λ (n : ℕ). bytes_from (map f (take n (drop first words)))) part
    ∙ row_bytes f words first count c.args.from (length c.args.into.now) (omega (arith, c.requires.even_place)) (omega (arith, c.requires.even_size)) within
