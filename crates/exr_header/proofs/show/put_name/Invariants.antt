use Rattle.std.proofs.Common.{◌≡◌, ◌++◌, take}
use Rattle.exr_header.specs.Show.{escaped}
use Rattle.exr_header.proofs.show.put_name.Given as goal

abbrev pub invariant-loop-byte : goal.invariant-loop-byte
invariant-loop-byte l = l.to.items ≡ l.initial.to.items ++ escaped (take l.byte-index l.name)
