use Rattle.std.proofs.Common.{◌≡◌, ◌+◌, ◌≤◌, ◌^◌, drop}
use Rattle.exr_layout.specs.Validation.{slices_validated}
use Rattle.exr_layout.proofs.validation.slices_end.Given as goal

-- the slices that are left are validated behind those so far
abbrev pub invariant-loop-slice : goal.invariant-loop-slice
invariant-loop-slice l = record {
  rest : slices_validated l.first 0 l.slices ≡ slices_validated l.number l.ended (drop l.slice-index l.slices);
  number : l.number ≡ l.first + l.slice-index;
  begun : l.slice-index ≡ 0 → l.ended ≡ 0;
  small : l.ended ≤ 2 ^ 41;
}
