-- The planes of planar data.
use Rattle.std.proofs.Common.{rules, ap, ◌∙◌, List, ℕ, take, drop}
use Rattle.exr_base.specs.Channel.{channel_at}
use Rattle.exr_base.specs.Shape.{channel_bytes_of}
use Rattle.exr_planar.specs.Planar.{plane_place_of}
use Rattle.exr_planar.proofs.Moves.{plane_in_planar, plane_long}
use Rattle.exr_planar.proofs.planar.put_planar.Goals as goal

pub returns-clause-exact : goal.returns-clause-exact
returns-clause-exact c = search rules

pub returns-clause-planes : goal.returns-clause-planes
returns-clause-planes c = λ d lt. ap (λ (l : List ℕ). take (channel_bytes_of c.args.shape.now.region (channel_at c.args.shape.now.channels.now d)) (drop (plane_place_of c.args.shape.now.channels.now c.args.shape.now.region d) l)) (returns-clause-exact c) ∙ plane_in_planar c.args.shape.now.channels.now c.args.shape.now.region c.args.raw.now d c.requires.raw lt

pub returns-clause-sizes : goal.returns-clause-sizes
returns-clause-sizes c = λ d lt. plane_long c.args.shape.now.channels.now c.args.shape.now.region c.args.raw.now d c.requires.raw lt
