use Rattle.std.proofs.Common.{arith, rules, length, ◌≡◌}
use Rattle.std.proofs.lemmas.Result.{err_from_is_err_and}
use Rattle.exr_layout.proofs.Counted.{runs_more, runs_within, run_filled}
use Rattle.exr_layout.proofs.Rests.{runs_err, runs_ok, runs_all}
use Rattle.exr_layout.proofs.validation.runs_end.Goals as goal

pub run_end-requires-clause-few : goal.run_end-requires-clause-few
run_end-requires-clause-few c =
    let within = runs_within c.args.runs.now c.loop-run.run-index c.run-item.result c.loop-run-test.true c.run-item.is in
    omega arith

pub returns-in_err-ended-clause-exact : goal.returns-in_err-ended-clause-exact
returns-in_err-ended-clause-exact c =
    let p = err_from_is_err_and c.from_residual.result c.from_residual.ensures.1 in
    rw (p.1, p.2) (runs_err c.args.window c.args.first c.loop-run.number c.loop-run.ended c.loop-run.run-index c.args.runs.now c.run-item.result c.in_err-ended.field-0.0 c.loop-run-test.true c.run-item.is c.in_err-ended.ensures.exact c.loop-run.invariant.rest)

pub overflow_cast-number : goal.overflow_cast-number
overflow_cast-number c =
    let within = runs_within c.args.runs.now c.loop-run.run-index c.run-item.result c.loop-run-test.true c.run-item.is in
    search arith

pub overflow_add-number : goal.overflow_add-number
overflow_add-number c =
    let within = runs_within c.args.runs.now c.loop-run.run-index c.run-item.result c.loop-run-test.true c.run-item.is in
    search arith

pub loop-run-preserved : goal.loop-run-preserved
loop-run-preserved c =
    let count : c.len.result ≡ length c.run-item.result.slices.items = search rules in
    let more = runs_more c.args.runs.now c.loop-run.run-index c.run-item.result c.loop-run-test.true c.run-item.is in
    let some = run_filled c.args.runs.now c.loop-run.run-index c.run-item.result c.requires.filled c.loop-run-test.true c.run-item.is in
    record {
      rest = rw count (runs_ok c.args.window c.args.first c.loop-run.number c.loop-run.ended c.loop-run.run-index c.in_ok-ended.ended c.args.runs.now c.run-item.result c.loop-run-test.true c.run-item.is c.in_ok-ended.ensures.exact c.loop-run.invariant.rest);
      number = search arith;
      begun = λ h. absurd (search arith);
      small = c.in_ok-ended.ensures.small;
    }

pub returns-clause-exact : goal.returns-clause-exact
returns-clause-exact c =
    runs_all c.args.window c.args.first c.loop-run.number c.loop-run.ended c.loop-run.run-index c.args.runs.now c.loop-run-test.false c.loop-run.invariant.rest
