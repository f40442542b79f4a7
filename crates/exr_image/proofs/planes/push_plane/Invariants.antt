use Rattle.std.proofs.Common.{◌≡◌, ◌++◌, take}
use Rattle.std.specs.List.{flat_map}
use Rattle.exr_image.specs.Pieces.{samples_of}
use Rattle.exr_image.proofs.planes.push_plane.Given as goal

abbrev pub invariant-loop-piece : goal.invariant-loop-piece
invariant-loop-piece l = l.plane.items ≡ l.initial.plane.items ++ flat_map (samples_of l.chunks l.sizes) (take l.piece-index l.pieces)
