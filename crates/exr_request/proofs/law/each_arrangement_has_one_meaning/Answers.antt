use Rattle.exr_asked.specs.Demand.{demand_of}
use Rattle.exr_request.proofs.Alike.{judged_alike, spots_alike, matched_alike}
use Rattle.exr_request.proofs.Once.{arranged_alike}
use Rattle.exr_request.proofs.law.each_arrangement_has_one_meaning.Goals as goal

pub returns-clause-validated : goal.returns-clause-validated
returns-clause-validated c = λ f g a b. judged_alike f g (arranged_alike (demand_of c.args.asked.now) c.args.part.now f g a b)

pub returns-clause-slices : goal.returns-clause-slices
returns-clause-slices c = λ f g a b. spots_alike f g (arranged_alike (demand_of c.args.asked.now) c.args.part.now f g a b)

pub returns-clause-matched : goal.returns-clause-matched
returns-clause-matched c = λ f g a b. matched_alike c.args.part.now f g (arranged_alike (demand_of c.args.asked.now) c.args.part.now f g a b)
