use Rattle.std.proofs.Common.{◌∙◌, sym}
use Rattle.exr_layout.proofs.Counted.{near_planes}
use Rattle.exr_layout.proofs.validation.all_near.Goals as goal

pub returns-in-None-clause-near : goal.returns-in-None-clause-near
returns-in-None-clause-near c = near_planes c.args.planes.now (sym c.first_huge.ensures ∙ c.in-None.is)
