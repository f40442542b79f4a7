use Rattle.std.proofs.Common.{◌≡◌, ◌++◌, drop}
use Rattle.exr_header.specs.Show.{head_text, parts_text}
use Rattle.exr_header.proofs.show.show_head.Given as goal

abbrev pub invariant-loop-i : goal.invariant-loop-i
invariant-loop-i l = l.to.items ++ parts_text l.i (drop l.i l.parts) ≡ head_text l.head
