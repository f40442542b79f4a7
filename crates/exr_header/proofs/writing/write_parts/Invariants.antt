use Rattle.std.proofs.Common.{◌≡◌, ◌++◌, take}
use Rattle.exr_header.specs.Head.{parts_spelling}
use Rattle.exr_header.proofs.writing.write_parts.Given as goal

abbrev pub invariant-loop-part : goal.invariant-loop-part
invariant-loop-part l = l.to.items ≡ l.initial.to.items ++ parts_spelling (take l.part-index l.parts)
