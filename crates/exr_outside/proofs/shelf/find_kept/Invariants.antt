use Rattle.std.proofs.Common.{◌≡◌}
use Rattle.exr_outside.specs.Fakes.{file_of}
use Rattle.exr_outside.specs.Shelf.{shelved_in}
use Rattle.exr_outside.proofs.shelf.find_kept.Given as goal

abbrev pub invariant-loop-at : goal.invariant-loop-at
invariant-loop-at l = file_of (shelved_in l.at) l.name ≡ file_of (shelved_in l.newest) l.name
