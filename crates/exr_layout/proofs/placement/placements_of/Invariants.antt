use Rattle.std.proofs.Common.{◌≡◌, take}
use Rattle.exr_layout.specs.Place.{placements_of}
use Rattle.exr_layout.proofs.placement.placements_of.Given as goal

abbrev pub invariant-loop-plane : goal.invariant-loop-plane
invariant-loop-plane l = l.placements.items ≡ placements_of (take l.plane-index l.planes)
