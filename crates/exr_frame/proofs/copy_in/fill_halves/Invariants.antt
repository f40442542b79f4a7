use Rattle.exr_frame.specs.Buffer.{IsCopied}
use Rattle.exr_frame.specs.Rows.{IsOfRow, row_place, fill_byte}
use Rattle.exr_frame.proofs.copy_in.fill_halves.Given as goal

abbrev pub invariant-loop-i : goal.invariant-loop-i
invariant-loop-i l = IsCopied (IsOfRow l.i 2) (row_place l.at l.stride) (fill_byte l.fill) l.initial.into l.into
