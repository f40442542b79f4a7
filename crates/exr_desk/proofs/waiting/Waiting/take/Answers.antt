use Rattle.std.proofs.Common.{sym, ◌∙◌, arith}
use Rattle.std.specs.Vec.{vec_capacity}
use Rattle.exr_desk.proofs.Places.{taken_fits, kept_taken}
use Rattle.exr_desk.proofs.waiting.Waiting.take.Goals as goal

pub push_reserved-requires : goal.push_reserved-requires
push_reserved-requires c =
    let fits = taken_fits c.self.inside.places.items c.self.inside.accepted c.self.inside.taken.items (vec_capacity c.self.inside.taken) c.args.turn c.index_mut.result.now c.in-Waits.chunk c.args.self.now c.self.view_is c.self.invariant c.requires
    (sym c.index_mut.ensures.value ∙ sym c.replace.ensures.value ∙ c.in-Waits.is) in
    omega (arith, fits, c.self.inside.taken.ok.0)

pub invariant_of-self : goal.invariant_of-self
invariant_of-self c =
    kept_taken c.self.inside.places.items c.self.inside.accepted c.self.inside.taken.items c.push_reserved.new.self.items (vec_capacity c.self.inside.taken) (vec_capacity c.push_reserved.new.self) c.args.turn c.index_mut.result.now
    c.replace.new.dest c.in-Waits.chunk c.args.self.now c.self.view_is c.self.invariant c.requires (sym c.index_mut.ensures.value ∙ sym c.replace.ensures.value ∙ c.in-Waits.is) c.replace.ensures.after c.push_reserved.ensures.items
    c.push_reserved.ensures.capacity
