use Rattle.std.proofs.Common.{◌≡◌, drop}
use Rattle.exr_desk.specs.File.{filled}
use Rattle.exr_desk.proofs.fill.fill.Given as goal

abbrev pub invariant-loop-i : goal.invariant-loop-i
invariant-loop-i l = filled l.entries (drop l.i l.turns) (drop l.i l.numbers) l.bytes ≡ filled l.entries l.turns l.numbers l.fn.bytes
