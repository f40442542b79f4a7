use Rattle.exr_asked.specs.Demand.{demand_of}
use Rattle.exr_request.proofs.Once.{one_refusal, not_both, not_both_deep}
use Rattle.exr_request.proofs.law.each_request_has_one_answer.Goals as goal

pub returns-clause-once : goal.returns-clause-once
returns-clause-once c = one_refusal c.args.head.now (demand_of c.args.asked.now)

pub returns-clause-either : goal.returns-clause-either
returns-clause-either c = not_both c.args.head.now (demand_of c.args.asked.now)

pub returns-clause-either_deep : goal.returns-clause-either_deep
returns-clause-either_deep c = not_both_deep c.args.head.now (demand_of c.args.asked.now)
