use Rattle.std.proofs.Common.{◌≡◌, take}
use Rattle.exr_attributes.specs.Spelling.{entries_spelling}
use Rattle.exr_attributes.proofs.writing.write_attributes.Given as goal

abbrev pub invariant-loop-entry : goal.invariant-loop-entry
invariant-loop-entry l = l.text.items ≡ entries_spelling (take l.entry-index l.entry-items)
