use Rattle.std.proofs.Common.{◌≡◌, length}
use Rattle.exr_desk_tests.proofs.desk.put_all.Given as goal

abbrev pub invariant-loop-turn : goal.invariant-loop-turn
invariant-loop-turn g l = length l.desk.entries ≡ 3
