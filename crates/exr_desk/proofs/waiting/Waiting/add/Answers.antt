use Rattle.std.specs.Vec.{vec_capacity}
use Rattle.exr_desk.proofs.Places.{kept_added}
use Rattle.exr_desk.proofs.waiting.Waiting.add.Goals as goal

pub invariant_of-self : goal.invariant_of-self
invariant_of-self c =
    kept_added c.self.inside.places.items c.self.inside.accepted c.add.new.self c.self.inside.taken.items (vec_capacity c.self.inside.taken) c.args.turn c.args.chunk c.args.self.now c.self.view_is c.self.invariant c.requires.turn
    c.requires.free c.requires.small c.add.ensures
