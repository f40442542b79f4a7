use Rattle.std.proofs.Common.{sym, ap, ◌∙◌, arith}
use Rattle.std.specs.Vec.{vec_capacity}
use Rattle.exr_desk.specs.Desk.{DeskState}
use Rattle.exr_desk.specs.Order.{has}
use Rattle.exr_desk.proofs.Keeping.{seen, first_is, waits_at}
use Rattle.exr_desk.proofs.filing.Filing.placed.Goals as goal

pub overflow_cast-first : goal.overflow_cast-first
overflow_cast-first g c =
    let first = first_is g.K.Printer.means _ c.self.inside.waiting.turns c.self.inside.starts.items (vec_capacity c.self.inside.starts) c.self.inside.appended c.len-first.result c.self.invariant c.if-self.false
    (c.len-first.ensures ∙ c.self.inside.starts.ok.0) in
    omega (arith, first.2)

pub returns : goal.returns
returns g c =
    let kept = seen g.K.Printer.means c.self.view_is c.self.invariant in
    let unbroken = sym (ap (λ (d : DeskState g.row.K.Denot). d.broken) c.self.view_is) ∙ c.if-self.false in
    let fresh = sym (ap (λ (d : DeskState g.row.K.Denot). has d.taken c.args.turn) c.self.view_is) ∙ sym c.is_taken.ensures ∙ c.if-is_taken.false in
    record {
      placed = waits_at g.K.Printer.means c.args.self.now c.self.inside.waiting.turns c.self.inside.starts.items (vec_capacity c.self.inside.starts) c.self.inside.appended c.len-first.result c.args.turn kept c.requires.settled unbroken
          c.requires.turn c.requires.accepted fresh (c.len-first.ensures ∙ c.self.inside.starts.ok.0);
      desk = kept.desk;
    }
