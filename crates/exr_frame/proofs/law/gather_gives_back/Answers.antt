use Rattle.std.proofs.Common.{◌≡◌}
use Rattle.std.proofs.lemmas.Result.{IfOk-weaker}
use Rattle.exr_frame.specs.Gather.{IsGathered}
use Rattle.exr_layout.specs.Place.{placements_of}
use Rattle.exr_frame.proofs.Found.{given_back}
use Rattle.exr_frame.proofs.law.gather_gives_back.Goals as goal

pub returns : goal.returns
returns c =
    IfOk-weaker c.gather.result
    (λ again. IsGathered c.args.layout.now.window (placements_of c.args.layout.now.planes) c.args.shape.now.channels.now c.args.shape.now.region c.args.plan.now.channels c.scatter.new.into again.items)
    (λ again. again.items ≡ c.args.raw.now)
    (λ again g. given_back c.args.layout.now c.args.shape.now.channels.now c.args.plan.now c.args.shape.now.region c.args.raw.now c.args.into.now c.scatter.new.into again.items c.requires.plan c.requires.full c.requires.inside c.requires.shape.within c.requires.raw c.scatter.ensures g)
    c.gather.ensures
