use Rattle.std.proofs.Common.{◌≡◌}
use Rattle.std.specs.List.{flat_map, range_with_len}
use Rattle.exr_tools.specs.Texts.{line_of_part}
use Rattle.exr_tools.proofs.check.report_of.Given as goal

-- the lines of the parts so far
abbrev pub invariant-loop-part : goal.invariant-loop-part
invariant-loop-part l = record {
  lines : l.report.items ≡ flat_map (line_of_part l.geometry l.unread) (range_with_len 0 l.part-counter);
}
