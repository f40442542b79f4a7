use Rattle.std.proofs.Common.{◌≡◌, [], map, replicate}
use Rattle.exr_image.proofs.image.no_planes.Given as goal

abbrev pub invariant-loop : goal.invariant-loop
invariant-loop l = map (λ plane. plane.items) l.planes.items ≡ replicate l.counter []
