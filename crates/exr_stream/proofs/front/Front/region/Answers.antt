-- The geometry knows the parts of the head.
use Rattle.std.proofs.Common.{subst, ◌∙◌}
use Rattle.exr_base.specs.Boxes.{IsInside}
use Rattle.exr_stream.proofs.Bare.{within, region_by, window_by}
use Rattle.exr_stream.proofs.front.Front.region.Goals as goal

pub region-requires-clause-index : goal.region-requires-clause-index
region-requires-clause-index c =
    within c.args.self.now.geometry c.args.self.now.head.parts c.args.part c.args.index c.requires.front.geometry c.requires.index

pub returns-clause-exact : goal.returns-clause-exact
returns-clause-exact c =
    c.region.ensures.exact ∙ region_by c.args.self.now.geometry c.args.self.now.head.parts c.args.part c.args.index c.requires.front.geometry

pub returns-clause-inside : goal.returns-clause-inside
returns-clause-inside c =
    subst (λ w. IsInside w c.region.result) (window_by c.args.self.now.geometry c.args.self.now.head.parts c.args.part c.requires.front.geometry) c.region.ensures.inside
