use Rattle.std.proofs.Common.{◌≡◌, ◌++◌, take}
use Rattle.std.specs.List.{flat_map}
use Rattle.exr_header.specs.Show.{entry_line}
use Rattle.exr_header.proofs.show.put_entries.Given as goal

abbrev pub invariant-loop-entry : goal.invariant-loop-entry
invariant-loop-entry l = l.to.items ≡ l.initial.to.items ++ flat_map entry_line (take l.entry-index l.entries)
