use Rattle.std.proofs.Common.{◌≡◌, ℕ, ◌≤◌, length, get_or}
use Rattle.exr_piz.proofs.marks.without_zeros_behind.Given as goal

abbrev pub invariant-zeros : goal.invariant-zeros
invariant-zeros l = record { within : l.count ≤ length l.map; zeros : (b : ℕ) → l.count ≤ b → get_or l.map b 0 ≡ 0 }

abbrev pub decreases-zeros : goal.decreases-zeros
decreases-zeros l = l.count
