use Rattle.std.proofs.Common.{◌-◌, ◌≤◌, min}
use Rattle.exr_wavelet.proofs.Waves.{Reached, Decoding}
use Rattle.exr_wavelet.proofs.wave.decode_levels.Given as goal

abbrev pub invariant-steps : goal.invariant-steps
invariant-steps l = record { some : 1 ≤ l.p; reached : Reached (min l.grid.nx l.grid.ny) l.p }

abbrev pub decreases-steps : goal.decreases-steps
decreases-steps l = l.side - l.p

abbrev pub invariant-levels : goal.invariant-levels
invariant-levels l = record { some : 1 ≤ l.p; done : Decoding l.fn.words l.words l.grid l.max l.p }

abbrev pub decreases-levels : goal.decreases-levels
decreases-levels l = l.p
