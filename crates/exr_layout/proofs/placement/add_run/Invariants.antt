use Rattle.std.proofs.Common.{◌≡◌, ◌++◌, take, map}
use Rattle.exr_layout.specs.Place.{placement_of}
use Rattle.exr_layout.proofs.placement.add_run.Given as goal

abbrev pub invariant-loop-slice : goal.invariant-loop-slice
invariant-loop-slice l = l.placements.items ≡ l.fn.placements.items ++ map (placement_of l.plane l.run) (take l.slice-index l.run.slices.items)
