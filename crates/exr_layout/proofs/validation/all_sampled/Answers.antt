use Rattle.std.proofs.Common.{arith, rules, length, ◌≡◌}
use Rattle.exr_layout.proofs.Counted.{runs_more, runs_within, zero_true, zero_false, sampled_more}
use Rattle.exr_layout.proofs.Rests.{samplings_err, samplings_ok, samplings_all}
use Rattle.exr_layout.proofs.validation.all_sampled.Goals as goal

pub returns-then-run-eq0-clause-exact : goal.returns-then-run-eq0-clause-exact
returns-then-run-eq0-clause-exact c =
    samplings_err c.args.first c.loop-run.number c.loop-run.run-index c.args.runs.now c.run-item.result c.loop-run-test.true c.run-item.is (zero_true c.run-item.result.sampling c.if-run-eq0.true) c.loop-run.invariant.rest

pub overflow_cast-number : goal.overflow_cast-number
overflow_cast-number c =
    let within = runs_within c.args.runs.now c.loop-run.run-index c.run-item.result c.loop-run-test.true c.run-item.is in
    search arith

pub overflow_add-number : goal.overflow_add-number
overflow_add-number c =
    let within = runs_within c.args.runs.now c.loop-run.run-index c.run-item.result c.loop-run-test.true c.run-item.is in
    search arith

pub loop-run-preserved : goal.loop-run-preserved
loop-run-preserved c =
    let count : c.len.result ≡ length c.run-item.result.slices.items = search rules in
    let more = runs_more c.args.runs.now c.loop-run.run-index c.run-item.result c.loop-run-test.true c.run-item.is in
    record {
      rest = rw count (samplings_ok c.args.first c.loop-run.number c.loop-run.run-index c.args.runs.now c.run-item.result c.loop-run-test.true c.run-item.is (zero_false c.run-item.result.sampling c.if-run-eq0.false) c.loop-run.invariant.rest);
      number = search arith;
      sampled = sampled_more c.args.runs.now c.loop-run.run-index c.run-item.result c.loop-run-test.true c.run-item.is c.if-run-eq0.false c.loop-run.invariant.sampled;
    }

pub returns-clause-exact : goal.returns-clause-exact
returns-clause-exact c =
    samplings_all c.args.first c.loop-run.number c.loop-run.run-index c.args.runs.now c.loop-run-test.false c.loop-run.invariant.rest
