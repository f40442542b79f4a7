use Rattle.std.proofs.Common.{ℕ, ◌++◌, List, length, ap, ◌∙◌, subst, arith}
use Rattle.std.specs.Vec.{vec_capacity}
use Rattle.exr_outside.specs.Transfer.{AddsAtLeast}
use Rattle.exr_desk.proofs.Keeping.{can_seen, unbroken_seen, start_fits, sum_fits, wrote, broke}
use Rattle.exr_desk.proofs.filing.Filing.write.Goals as goal

pub push_reserved-requires : goal.push_reserved-requires
push_reserved-requires g c =
    let fits = start_fits g.K.Printer.means _ c.self.inside.waiting.turns c.self.inside.starts.items (vec_capacity c.self.inside.starts) c.self.inside.appended c.args.turn c.self.invariant
    (unbroken_seen g.K.Printer.means c.self.view_is c.requires.whole) (can_seen g.K.Printer.means c.self.view_is c.requires.can) in
    omega (arith, fits, c.self.inside.starts.ok.0)

pub overflow_add-self : goal.overflow_add-self
overflow_add-self g c =
    let fits = sum_fits g.K.Printer.means _ c.self.inside.waiting.turns c.self.inside.starts.items (vec_capacity c.self.inside.starts) c.self.inside.appended c.args.turn (length c.in-Some.chunk.bytes.items) c.self.invariant
    (can_seen g.K.Printer.means c.self.view_is c.requires.can) c.in-Some.ensures.some.small in
    omega (arith, fits, c.len.ensures, c.in-Some.chunk.bytes.ok.0)

pub invariant_of-self : goal.invariant_of-self
invariant_of-self g c =
    let means = g.K.Printer.means in
    wrote means c.self.inside.front.bytes.items c.self.inside.front.entries.items c.self.inside.front.free c.self.inside.begun c.self.inside.waiting c.take.new.self c.self.inside.broken c.self.inside.sink c.append_all.new.printer
    c.self.inside.starts.items c.push_reserved.new.self.items (vec_capacity c.self.inside.starts) (vec_capacity c.push_reserved.new.self) c.self.inside.appended _ c.args.turn c.in-Some.chunk.bytes.items c.self.invariant
    (unbroken_seen means c.self.view_is c.requires.whole) (can_seen means c.self.view_is c.requires.can) c.in-Some.ensures.some c.push_reserved.ensures.items c.push_reserved.ensures.capacity
    (omega (arith, c.len.ensures, c.in-Some.chunk.bytes.ok.0))
    (λ tells. c.in-Ok.ensures.all tells ∙ ap (λ (l : List ℕ). means.holds c.self.inside.sink ++ l) c.deref.ensures.value) c.append_all.ensures.cause.later

pub overflow_add-self-in-Err : goal.overflow_add-self-in-Err
overflow_add-self-in-Err g c =
    let fits = sum_fits g.K.Printer.means _ c.self.inside.waiting.turns c.self.inside.starts.items (vec_capacity c.self.inside.starts) c.self.inside.appended c.args.turn (length c.in-Some.chunk.bytes.items) c.self.invariant
    (can_seen g.K.Printer.means c.self.view_is c.requires.can) c.in-Some.ensures.some.small in
    omega (arith, fits, c.in-Err.ensures.taken, ap length c.deref.ensures.value)

pub invariant_of-self-in-Err : goal.invariant_of-self-in-Err
invariant_of-self-in-Err g c =
    let means = g.K.Printer.means in
    broke means c.self.inside.front.bytes.items c.self.inside.front.entries.items c.self.inside.front.free c.self.inside.begun c.self.inside.waiting c.take.new.self c.self.inside.broken c.self.inside.sink c.append_all.new.printer
    c.self.inside.starts.items (vec_capacity c.self.inside.starts) c.self.inside.appended c.in-Err.field-0.taken _ c.args.turn c.in-Some.chunk.bytes.items c.self.invariant
    (unbroken_seen means c.self.view_is c.requires.whole) (can_seen means c.self.view_is c.requires.can) c.in-Some.ensures.some
    (omega arith)
    (omega (arith, c.in-Err.ensures.taken, ap length c.deref.ensures.value))
    (λ tells.
    subst (λ (l : List ℕ). AddsAtLeast c.in-Err.field-0.taken l (means.holds c.self.inside.sink) (means.holds c.append_all.new.printer)) c.deref.ensures.value (c.in-Err.ensures.cut tells))
    c.append_all.ensures.cause.later c.in-Err.ensures.cause.failed
