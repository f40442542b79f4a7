use Rattle.std.proofs.Common.{replicate, Fits, w16, refl, subst}
use Rattle.std.proofs.lemmas.Simd.{Each1-replicate}
use Rattle.exr_b44.specs.Cell.{bytes_of_halves}
use Rattle.exr_b44.specs.Lines.{PiecePut}
use Rattle.exr_b44.proofs.Vectors.{bytes-digits}
use Rattle.exr_b44.proofs.Rows.{line_of_piece, lines_none, lines_more}
use Rattle.exr_b44.proofs.flats.put_flat.Goals as goal

pub returns : goal.returns
returns c =
    let cell = bytes_of_halves (replicate 16 c.args.half) in
    let eight = bytes_of_halves (replicate 4 c.args.half) in
    let lines = c.args.lines.now in
    let wide = c.args.wide in
    let from = c.args.from in
    let is = bytes-digits 4 (replicate 4 c.args.half) refl (Each1-replicate (Fits w16) 4 c.args.half c.ranges.half) in
    let one = line_of_piece cell eight lines c.put_eight.new.lines wide from 8 0 refl (subst (λ piece. PiecePut piece lines c.put_eight.new.lines wide from 8 0) is c.put_eight.ensures) in
    let two = line_of_piece cell eight c.put_eight.new.lines c.put_eight-2.new.lines wide from 8 1 refl (subst (λ piece. PiecePut piece c.put_eight.new.lines c.put_eight-2.new.lines wide from 8 1) is c.put_eight-2.ensures) in
    let three = line_of_piece cell eight c.put_eight-2.new.lines c.put_eight-3.new.lines wide from 8 2 refl (subst (λ piece. PiecePut piece c.put_eight-2.new.lines c.put_eight-3.new.lines wide from 8 2) is c.put_eight-3.ensures) in
    let four = line_of_piece cell eight c.put_eight-3.new.lines c.put_eight-4.new.lines wide from 8 3 refl (subst (λ piece. PiecePut piece c.put_eight-3.new.lines c.put_eight-4.new.lines wide from 8 3) is c.put_eight-4.ensures) in
    let more = lines_more cell lines in
    more c.put_eight-3.new.lines c.put_eight-4.new.lines wide from 8 3 c.requires.inside
    (more c.put_eight-2.new.lines c.put_eight-3.new.lines wide from 8 2 c.requires.inside
    (more c.put_eight.new.lines c.put_eight-2.new.lines wide from 8 1 c.requires.inside
    (more lines c.put_eight.new.lines wide from 8 0 c.requires.inside (lines_none cell lines wide from 8) one) two) three) four
