use Rattle.exr_b44.proofs.Rows.{lines_none, lines_more}
use Rattle.exr_b44.proofs.unpacking.put_whole_cell.Goals as goal

pub returns : goal.returns
returns c =
    let cell = c.args.cell.now in
    let lines = c.args.lines.now in
    let wide = c.args.wide in
    let from = c.args.from in
    let more = lines_more cell lines in
    more c.put_whole_line-3.new.lines c.put_whole_line-4.new.lines wide from 8 3 c.requires.inside
    (more c.put_whole_line-2.new.lines c.put_whole_line-3.new.lines wide from 8 2 c.requires.inside
    (more c.put_whole_line.new.lines c.put_whole_line-2.new.lines wide from 8 1 c.requires.inside
    (more lines c.put_whole_line.new.lines wide from 8 0 c.requires.inside (lines_none cell lines wide from 8) c.put_whole_line.ensures) c.put_whole_line-2.ensures) c.put_whole_line-3.ensures) c.put_whole_line-4.ensures
