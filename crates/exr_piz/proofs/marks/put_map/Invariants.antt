use Rattle.std.proofs.Common.{◌≡◌, ℕ, ◌+◌, ◌*◌, ◌<◌, eqb, get_or}
use Rattle.exr_piz.specs.Values.{number_with}
use Rattle.exr_piz.proofs.marks.put_map.Given as goal

abbrev pub invariant-loop-b : goal.invariant-loop-b
invariant-loop-b l = (b : ℕ) → b < l.b → get_or l.map b 0 ≡ number_with (λ i. eqb (get_or l.marks (8 * b + i) 0) 1) 8
