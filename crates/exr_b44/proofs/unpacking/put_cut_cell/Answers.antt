use Rattle.std.proofs.Common.{◌≡◌, subst, arith}
use Rattle.exr_b44.specs.Lines.{LinesPut}
use Rattle.exr_b44.proofs.Rows.{lines_none, lines_more}
use Rattle.exr_b44.proofs.unpacking.put_cut_cell.Goals as goal

pub loop-y-init : goal.loop-y-init
loop-y-init c = lines_none c.args.cell.now c.args.lines.now c.args.wide c.args.from c.args.size

pub loop-y-preserved : goal.loop-y-preserved
loop-y-preserved c = lines_more c.args.cell.now c.args.lines.now c.loop-y.lines c.put_line.new.lines c.args.wide c.args.from c.args.size c.loop-y.y c.requires.inside c.loop-y.invariant c.put_line.ensures

pub returns : goal.returns
returns c =
    let last : c.loop-y.y ≡ c.args.count = omega arith in
    subst (λ y. LinesPut c.args.cell.now c.args.lines.now c.loop-y.lines c.args.wide c.args.from c.args.size y) last c.loop-y.invariant
