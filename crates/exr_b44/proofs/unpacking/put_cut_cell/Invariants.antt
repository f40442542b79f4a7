use Rattle.exr_b44.specs.Lines.{LinesPut}
use Rattle.exr_b44.proofs.unpacking.put_cut_cell.Given as goal

abbrev pub invariant-loop-y : goal.invariant-loop-y
invariant-loop-y l = LinesPut l.cell l.initial.lines l.lines l.wide l.from l.size l.y
