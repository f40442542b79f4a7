use Rattle.std.proofs.Common.{◌≡◌, drop, not}
use Rattle.std.specs.List.{position_from}
use Rattle.exr_judge.specs.Picture.{is_sampled_well}
use Rattle.exr_judge.proofs.checks.badly_sampled.Given as goal

abbrev pub invariant-loop-i : goal.invariant-loop-i
invariant-loop-i l =
    position_from (λ c. not (is_sampled_well l.header c)) l.i (drop l.i l.channels) ≡ position_from (λ c. not (is_sampled_well l.header c)) 0 l.channels
