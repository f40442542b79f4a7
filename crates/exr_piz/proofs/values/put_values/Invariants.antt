use Rattle.std.proofs.Common.{◌≡◌, ◌+◌, ◌-◌, ◌*◌, ◌≤◌, take}
use Rattle.exr_piz.specs.Values.{passing_below, is_present}
use Rattle.exr_piz.proofs.values.put_values.Given as goal

abbrev pub invariant-loop-v : goal.invariant-loop-v
invariant-loop-v l = record {
  some : 1 ≤ l.v;
  from : 8 * l.first ≤ l.v;
  high : l.v ≤ 65536;
  few : l.count ≤ l.v - 8 * l.first + 1;
  so_far : take l.count l.values ≡ passing_below (is_present l.first l.map) l.v;
}
