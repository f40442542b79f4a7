use Rattle.std.proofs.Common.{◌+◌, arith, rules}
use Rattle.std.proofs.lemmas.List.{take_rest}
use Rattle.exr_outside.proofs.Pieces.{append-take}
use Rattle.exr_outside.proofs.transfer.append_all.Goals as goal

pub loop-taken-preserved : goal.loop-taken-preserved
loop-taken-preserved g c = record {
  within = search rules;
  held = λ tells. append-take _ _ _ _ _ _ (c.loop-taken.invariant.held tells) (rw take_rest at (c.in-Ok.ensures.added tells));
  name = search rules;
  later = search rules;
}

pub returns-in-Err-clause-cut : goal.returns-in-Err-clause-cut
returns-in-Err-clause-cut g c = λ tells.
    let failed = c.in-Err.ensures.failed tells in (
      c.loop-taken.taken + failed.0,
      omega arith,
      append-take _ _ _ _ _ _ (c.loop-taken.invariant.held tells) (rw take_rest at failed.1),
    )
