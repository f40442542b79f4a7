use Rattle.std.proofs.Common.{ℕ, ◌<◌, get_or}
use Rattle.exr_huffman.specs.declared.fronts.Front.{Front}
use Rattle.exr_huffman.specs.Fronts.{IsFront}
use Rattle.exr_huffman.proofs.fronts.lay_fronts.Given as goal

abbrev pub invariant-loop-front : goal.invariant-loop-front
invariant-loop-front l = (front : ℕ) (other : Front) → front < l.front → IsFront l.least l.decoder front (get_or l.fronts front other)
