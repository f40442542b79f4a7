use Rattle.exr_b44.specs.Lines.{IsCellIn}
use Rattle.exr_b44.proofs.packing.take_cut_cell.Given as goal

abbrev pub invariant-loop-k : goal.invariant-loop-k
invariant-loop-k l = IsCellIn l.rows l.cell l.nx l.ny l.column l.line l.k
