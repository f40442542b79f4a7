use Rattle.std.proofs.Common.{◌≡◌, ◌++◌, take}
use Rattle.std.specs.List.{flat_map}
use Rattle.exr_image.specs.Pieces.{counts_of}
use Rattle.exr_image.proofs.planes.push_counts.Given as goal

abbrev pub invariant-loop-piece : goal.invariant-loop-piece
invariant-loop-piece l = l.counts.items ≡ l.initial.counts.items ++ flat_map (counts_of l.chunks) (take l.piece-index l.pieces)
