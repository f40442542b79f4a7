use Rattle.std.specs.Vec.{vec_capacity}
use Rattle.exr_desk.proofs.Keeping.{accepted}
use Rattle.exr_desk.proofs.filing.Filing.accept.Goals as goal

pub invariant_of-self : goal.invariant_of-self
invariant_of-self g c =
    accepted g.K.Printer.means c.self.inside.front.bytes.items c.self.inside.front.entries.items c.self.inside.front.free c.self.inside.begun c.self.inside.waiting c.add.new.self c.self.inside.broken c.self.inside.sink
    c.self.inside.starts.items (vec_capacity c.self.inside.starts) c.self.inside.appended c.args.turn c.args.chunk.bytes.items c.self.invariant c.add.ensures
