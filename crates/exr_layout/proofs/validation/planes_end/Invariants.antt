use Rattle.std.proofs.Common.{◌≡◌, length, take, drop}
use Rattle.exr_layout.specs.Validation.{planes_validated, slices_of}
use Rattle.exr_layout.proofs.validation.planes_end.Given as goal

abbrev pub invariant-loop-plane : goal.invariant-loop-plane
invariant-loop-plane l = record {
  rest : planes_validated l.window l.buffer 0 0 l.planes ≡ planes_validated l.window l.buffer l.number l.ended (drop l.plane-index l.planes);
  number : l.number ≡ length (slices_of (take l.plane-index l.planes));
  begun : l.number ≡ 0 → l.ended ≡ 0;
}
