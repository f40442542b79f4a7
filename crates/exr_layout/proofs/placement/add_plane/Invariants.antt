use Rattle.std.proofs.Common.{◌≡◌, ◌++◌, take}
use Rattle.std.specs.List.{flat_map}
use Rattle.exr_layout.specs.Place.{placements_of_run}
use Rattle.exr_layout.proofs.placement.add_plane.Given as goal

abbrev pub invariant-loop-run : goal.invariant-loop-run
invariant-loop-run l = l.placements.items ≡ l.fn.placements.items ++ flat_map (placements_of_run l.plane) (take l.run-index l.plane.runs.items)
