use Rattle.std.proofs.Common.{◌≡◌, ◌++◌, drop, Ok}
use Rattle.exr_base.specs.Refusal.{◌>>=◌}
use Rattle.exr_layout.specs.Plan.{slices_matched}
use Rattle.exr_layout.proofs.plan.slices_matched.Given as goal

abbrev pub invariant-loop-placement : goal.invariant-loop-placement
invariant-loop-placement l = record {
  rest : slices_matched l.channels 0 l.placements ≡ (slices_matched l.channels l.number (drop l.placement-index l.placements) >>= λ others. Ok (l.places.items ++ others));
  number : l.number ≡ l.placement-index;
}
