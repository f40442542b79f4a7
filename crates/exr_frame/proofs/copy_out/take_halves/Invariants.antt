use Rattle.exr_frame.specs.Gather.{strided_byte}
use Rattle.exr_frame.specs.Buffer.{IsCopied}
use Rattle.exr_frame.specs.Rows.{IsOfRow, row_place}
use Rattle.exr_frame.proofs.copy_out.take_halves.Given as goal

abbrev pub invariant-loop-i : goal.invariant-loop-i
invariant-loop-i l = IsCopied (IsOfRow l.i 2) (row_place l.begin 2) (strided_byte l.from l.at l.stride) l.initial.raw l.raw
