use Rattle.std.proofs.Common.{◌-◌, ◌<◌, ◌≤◌}
use Rattle.exr_codes.specs.Codes.{weight_above}
use Rattle.exr_codes.proofs.decoder.Decoder.find_from.Given as goal

abbrev pub invariant-longer : goal.invariant-longer
invariant-longer l = record {
  some : 0 < l.len;
  small : l.len ≤ 58;
  above : l.value < weight_above (l.len - 1) l.self-inside.lengths.items;
}

abbrev pub decreases-longer : goal.decreases-longer
decreases-longer l = 58 - l.len
