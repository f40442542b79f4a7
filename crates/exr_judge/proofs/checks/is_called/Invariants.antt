use Rattle.std.proofs.Common.{◌≡◌, false, take}
use Rattle.std.specs.List.{list_any}
use Rattle.exr_judge.specs.Judging.{is_called}
use Rattle.exr_judge.proofs.checks.is_called.Given as goal

abbrev pub invariant-loop-header : goal.invariant-loop-header
invariant-loop-header l = list_any (is_called l.name) (take l.header-index l.headers) ≡ false
