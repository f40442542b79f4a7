use Rattle.std.proofs.Common.{◌≡◌, take}
use Rattle.exr_attributes.proofs.Passes.{numbers_of}
use Rattle.exr_attributes.proofs.seconds.are_distinct.Given as goal

-- the numbers of the entries so far
abbrev pub invariant-loop-entry : goal.invariant-loop-entry
invariant-loop-entry l = l.numbers.items ≡ numbers_of (take l.entry-index l.entries)
