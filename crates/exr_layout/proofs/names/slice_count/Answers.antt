use Rattle.std.proofs.Common.{arith}
use Rattle.exr_layout.proofs.Counted.{runs_within, runs_more}
use Rattle.exr_layout.proofs.names.slice_count.Goals as goal

pub overflow_add-count : goal.overflow_add-count
overflow_add-count c =
    let within = runs_within c.args.runs.now c.loop-run.run-index c.run-item.result c.loop-run-test.true c.run-item.is in
    search arith

pub loop-run-preserved : goal.loop-run-preserved
loop-run-preserved c =
    let more = runs_more c.args.runs.now c.loop-run.run-index c.run-item.result c.loop-run-test.true c.run-item.is in
    search arith
