use Rattle.std.proofs.Common.{◌≡◌, ◌+◌, drop}
use Rattle.std.specs.List.{position_or_len}
use Rattle.exr_layout.specs.Validation.{slices_of, has_name}
use Rattle.exr_layout.proofs.names.place_of.Given as goal

abbrev pub invariant-loop-plane : goal.invariant-loop-plane
invariant-loop-plane l = position_or_len (has_name l.name) (slices_of l.planes) ≡ l.before + position_or_len (has_name l.name) (slices_of (drop l.plane-index l.planes))
