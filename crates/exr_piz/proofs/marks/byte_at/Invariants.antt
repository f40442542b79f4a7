use Rattle.std.proofs.Common.{◌≡◌, ◌+◌, ◌*◌, ◌^◌, ◌<◌, eqb, get_or}
use Rattle.exr_piz.specs.Values.{number_with}
use Rattle.exr_piz.proofs.marks.byte_at.Given as goal

abbrev pub invariant-loop-i : goal.invariant-loop-i
invariant-loop-i l = record {
  few : l.byte < 2 ^ l.i;
  so_far : l.byte ≡ number_with (λ i. eqb (get_or l.marks (8 * l.at + i) 0) 1) l.i;
}
