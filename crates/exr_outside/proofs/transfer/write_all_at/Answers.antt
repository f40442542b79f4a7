use Rattle.std.proofs.Common.{◌+◌, arith, rules}
use Rattle.std.proofs.lemmas.List.{take_rest}
use Rattle.exr_outside.proofs.Pieces.{replaced-take}
use Rattle.exr_outside.proofs.transfer.write_all_at.Goals as goal

pub loop-taken-preserved : goal.loop-taken-preserved
loop-taken-preserved g c = record {
  within = search rules;
  held = λ tells.
      let within = c.requires.within tells in
      replaced-take _ _ _ _ _ _ _ c.loop-taken.invariant.within (omega arith) (c.loop-taken.invariant.held tells) (rw take_rest at (c.in-Ok.ensures.replaced tells));
  name = search rules;
  later = search rules;
}

pub returns-in-Err-clause-cut : goal.returns-in-Err-clause-cut
returns-in-Err-clause-cut g c = λ tells.
    let failed = c.in-Err.ensures.failed tells in
    let within = c.requires.within tells in (
      c.loop-taken.taken + failed.0,
      omega arith,
      replaced-take _ _ _ _ _ _ _ c.loop-taken.invariant.within (omega arith) (c.loop-taken.invariant.held tells) (rw take_rest at failed.1),
    )
