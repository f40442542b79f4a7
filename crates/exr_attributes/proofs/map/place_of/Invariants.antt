use Rattle.std.proofs.Common.{◌≡◌, false, take}
use Rattle.exr_attributes.specs.Entry.{has_name}
use Rattle.exr_attributes.proofs.map.place_of.Given as goal

abbrev pub invariant-loop-i : goal.invariant-loop-i
invariant-loop-i l = has_name l.name (take l.i l.entries) ≡ false
