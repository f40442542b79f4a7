use Rattle.std.proofs.Common.{subst, sym, All, List}
use Rattle.exr_base.specs.declared.channel.Channel.{Channel}
use Rattle.exr_base.specs.Shape.{IsSampled}
use Rattle.exr_asked.specs.Demand.{demand_of}
use Rattle.exr_request.proofs.Fits.{over, chosen_sampled, chosen_few, framed}
use Rattle.exr_request.proofs.answer.framed.Goals as goal

pub arrange-requires-clause-region : goal.arrange-requires-clause-region
arrange-requires-clause-region c = (over c.args.part.now c.args.window c.requires.picture c.requires.within).region

pub arrange-requires-clause-sampled : goal.arrange-requires-clause-sampled
arrange-requires-clause-sampled c =
    subst (λ (cs : List Channel). All IsSampled cs) (sym c.requires.channels) (chosen_sampled c.args.part.now.channels (demand_of c.args.asked.now).channels c.requires.picture.shape.sampled)

pub fit_planes-requires-clause-frame : goal.fit_planes-requires-clause-frame
fit_planes-requires-clause-frame c =
    let few = chosen_few c.args.part.now.channels (demand_of c.args.asked.now).channels c.requires.picture.shape.few c.requires.modest.channels in
    framed c.args.asked.now.layout c.args.window c.args.asked.now.pad c.args.asked.now.fill c.args.channels.now c.in_ok-arranged.arranged.planes.items c.in_ok-arranged.arranged.buffer
    c.in_ok-arranged.ensures.planes (rw c.requires.channels few) (over c.args.part.now c.args.window c.requires.picture c.requires.within) c.in_ok-arranged.ensures.small
