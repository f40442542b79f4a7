use Rattle.std.proofs.Common.{◌≡◌, replicate}
use Rattle.exr_desk.specs.declared.waiting.Place.TheVariants as place
use Rattle.exr_desk.proofs.waiting.free_places.Given as goal

abbrev pub invariant-loop-turn : goal.invariant-loop-turn
invariant-loop-turn l = l.places.items ≡ replicate l._turn place.Free
