use Rattle.std.proofs.Common.{◌-◌, ◌≤◌}
use Rattle.exr_wavelet.proofs.Waves.{Encoded}
use Rattle.exr_wavelet.proofs.wave.encode_levels.Given as goal

abbrev pub invariant-levels : goal.invariant-levels
invariant-levels l = record { some : 1 ≤ l.p; done : Encoded l.initial.words l.words l.grid l.max l.p }

abbrev pub decreases-levels : goal.decreases-levels
decreases-levels l = l.side - l.p
