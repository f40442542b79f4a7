use Rattle.std.proofs.Common.{◌≡◌, ℕ, ◌/◌, ◌%◌, ◌<◌, ◌≤◌, length, get_or}
use Rattle.exr_wavelet.specs.Places.{words_of}
use Rattle.exr_piz.specs.Turns.{turn_by}
use Rattle.exr_piz.proofs.planes.turn_planes.Given as goal

abbrev pub invariant-loop-plane : goal.invariant-loop-plane
invariant-loop-plane l = record {
  turned : (k : ℕ) → k < length l.words → k % l.step < l.plane → get_or l.words k 0 ≡ turn_by l.way l.max l.nx l.ny (words_of l.initial.words (k % l.step) l.nx l.step) (k / l.step % l.nx) (k / l.step / l.nx);
  others : (k : ℕ) → l.plane ≤ k % l.step → get_or l.words k 0 ≡ get_or l.initial.words k 0;
}
