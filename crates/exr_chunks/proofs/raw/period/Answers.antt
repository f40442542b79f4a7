-- A multiple of a period is a period.
use Rattle.std.proofs.Common.{subst, arith}
use Rattle.std.proofs.lemmas.List.{take_all}
use Rattle.exr_chunks.specs.RawBytes.{IsPeriod}
use Rattle.exr_chunks.proofs.Cycles.{period_more, step_below}
use Rattle.exr_chunks.proofs.raw.period.Goals as goal

pub loop-group-preserved : goal.loop-group-preserved
loop-group-preserved c = record {
  some = c.multiple-period.ensures.some;
  within = c.multiple-period.ensures.within;
  again = λ below.
      let whole = c.multiple-period.ensures.whole below in
      let before = step_below c.loop-group.period c.multiple-period.result c.args.most c.loop-group.invariant.some c.multiple-period.ensures.some whole below in
      period_more c.args.groups.now c.loop-group.group-index c.args.rows c.loop-group.period c.multiple-period.result _ c.loop-group-test.true c.requires.sampled (c.loop-group.invariant.again before) whole (c.multiple-period.ensures.again below);
}

pub returns-clause-again : goal.returns-clause-again
returns-clause-again c = λ below.
    subst (λ gs. IsPeriod gs c.args.rows c.loop-group.period) (take_all c.loop-group.group-index c.args.groups.now (omega (arith, c.loop-group-test.false))) (c.loop-group.invariant.again below)
