use Rattle.std.proofs.Common.{arith, rules, length, ◌≡◌}
use Rattle.exr_layout.proofs.Listed.{run_found, run_behind}
use Rattle.exr_layout.proofs.names.slice_in_runs.Goals as goal

pub returns-then-left-len : goal.returns-then-left-len
returns-then-left-len c = run_found c.args.runs.now c.loop-run.run-index c.args.number c.loop-run.left c.run-item.result c.index.result.now c.loop-run-test.true c.run-item.is c.loop-run.invariant (search arith) c.index.ensures

pub loop-run-preserved : goal.loop-run-preserved
loop-run-preserved c =
    let count : c.len.result ≡ length c.run-item.result.slices.items = search rules in
    let again : c.len-left.result ≡ length c.run-item.result.slices.items = search rules in
    rw again (run_behind c.args.runs.now c.loop-run.run-index c.args.number c.loop-run.left c.run-item.result c.loop-run-test.true c.run-item.is c.loop-run.invariant (omega arith))
