use Rattle.std.proofs.Common.{◌≡◌, min, length, take}
use Rattle.exr_layout.specs.Validation.{slices_of}
use Rattle.exr_layout.proofs.names.has_few_slices.Given as goal

abbrev pub invariant-loop-plane : goal.invariant-loop-plane
invariant-loop-plane l = l.count ≡ min 1025 (length (slices_of (take l.plane-index l.planes)))
