use Rattle.std.proofs.Common.{ℕ, List, is_some, IsSome, sym, ap, ◌∙◌, subst}
use Rattle.std.proofs.lemmas.Bool.{false≢true}
use Rattle.exr_desk.specs.Accepted.{chunk_of}
use Rattle.exr_desk.specs.Order.{has}
use Rattle.exr_desk.specs.Desk.{DeskState, IsSettledBut}
use Rattle.exr_desk.proofs.Chunks.{none_from, chunk_of-push_same}
use Rattle.exr_desk.proofs.Keeping.{fresh_turn, settled_but}
use Rattle.exr_desk.proofs.desk.Desk.put.Goals as goal

pub write_ready-requires-clause-there : goal.write_ready-requires-clause-there
write_ready-requires-clause-there g c =
    let none = none_from (chunk_of c.self.inside.filing.accepted c.args.turn) (λ there. false≢true (sym c.if-is_accepted.false ∙ c.is_accepted.ensures.1 there)) in
    subst (λ (d : DeskState g.row.K.Denot). IsSome (chunk_of d.accepted c.args.turn)) (sym c.accept.ensures)
    (ap is_some (chunk_of-push_same c.self.inside.filing.accepted c.args.turn c.args.chunk.bytes.items none))

pub write_ready-requires-clause-fresh : goal.write_ready-requires-clause-fresh
write_ready-requires-clause-fresh g c =
    let none = none_from (chunk_of c.self.inside.filing.accepted c.args.turn) (λ there. false≢true (sym c.if-is_accepted.false ∙ c.is_accepted.ensures.1 there)) in
    ap (λ (d : DeskState g.row.K.Denot). has d.taken c.args.turn) c.accept.ensures ∙ fresh_turn g.K.Printer.means c.self.inside.filing c.args.turn c.self.invariant.0 none

pub write_ready-requires-clause-others : goal.write_ready-requires-clause-others
write_ready-requires-clause-others g c =
    subst (λ (d : DeskState g.row.K.Denot). IsSettledBut c.args.turn d) (sym c.accept.ensures) (settled_but g.K.Printer.means c.self.inside.filing c.args.turn c.args.chunk.bytes.items c.self.invariant.1)

pub placed-requires-clause-accepted : goal.placed-requires-clause-accepted
placed-requires-clause-accepted g c =
    let none = none_from (chunk_of c.self.inside.filing.accepted c.args.turn) (λ there. false≢true (sym c.if-is_accepted.false ∙ c.is_accepted.ensures.1 there)) in
    let there = ap is_some (chunk_of-push_same c.self.inside.filing.accepted c.args.turn c.args.chunk.bytes.items none) in
    ap (λ (l : List (ℕ × List ℕ)). is_some (chunk_of l c.args.turn)) (c.write_ready.ensures.same.accepted ∙ ap (λ (d : DeskState g.row.K.Denot). d.accepted) c.accept.ensures) ∙ there
