use Rattle.std.proofs.Common.{◌≡◌, inl, inr, ℕ, ◌++◌, [], ◌∷◌, length, refl, sym, ap, ◌∙◌, subst, arith, IsSome}
use Rattle.std.proofs.lemmas.Bool.{false≢true}
use Rattle.std.specs.Vec.{vec_capacity}
use Rattle.exr_desk.specs.Accepted.{chunk_of}
use Rattle.exr_desk.specs.Desk.{DeskState}
use Rattle.exr_desk.proofs.Keeping.{seen, unbroken_seen, first_is, none_next, can_first}
use Rattle.exr_desk.proofs.filing.Filing.write_next.Goals.{then-turn-len-via-then-turn-len, then-turn-len-via-else-turn-len+then-not-is_accepted}
use Rattle.exr_desk.proofs.filing.Filing.write_next.Goals as goal

pub overflow_cast-turn : goal.overflow_cast-turn
overflow_cast-turn g c =
    let first = first_is g.K.Printer.means _ c.self.inside.waiting.turns c.self.inside.starts.items (vec_capacity c.self.inside.starts) c.self.inside.appended c.len-turn.result c.self.invariant
    (unbroken_seen g.K.Printer.means c.self.view_is c.requires.whole) (c.len-turn.ensures ∙ c.self.inside.starts.ok.0) in
    omega (arith, first.2)

pub is_accepted-requires : goal.is_accepted-requires
is_accepted-requires g c =
    let first = first_is g.K.Printer.means _ c.self.inside.waiting.turns c.self.inside.starts.items (vec_capacity c.self.inside.starts) c.self.inside.appended c.len-turn.result c.self.invariant
    (unbroken_seen g.K.Printer.means c.self.view_is c.requires.whole) (c.len-turn.ensures ∙ c.self.inside.starts.ok.0) in
    omega (arith, first.1, c.self.invariant.turns, c.len.ensures, c.self.inside.front.entries.ok.0, c.if-turn-len.false)

pub returns-then-turn-len-clause-wrote : goal.returns-then-turn-len-clause-wrote
returns-then-turn-len-clause-wrote g c =
    let kept = seen g.K.Printer.means c.self.view_is c.self.invariant in
    let all : length c.self.inside.front.entries.items ≡ length c.args.self.now.entries = ap (λ (d : DeskState g.row.K.Denot). length d.entries) c.self.view_is in (
      refl,
      none_next g.K.Printer.means c.args.self.now c.self.inside.waiting.turns c.self.inside.starts.items (vec_capacity c.self.inside.starts) c.self.inside.appended c.len-turn.result kept c.requires.rising c.requires.whole
          (c.len-turn.ensures ∙ c.self.inside.starts.ok.0)
          (elim c.then-turn-len.branch [
            | then-turn-len-via-then-turn-len w ↦ inl (w.if-turn-len.true ∙ c.len.ensures ∙ c.self.inside.front.entries.ok.0 ∙ all)
            | then-turn-len-via-else-turn-len+then-not-is_accepted w ↦
                inr (λ there.
                let inside : IsSome (chunk_of c.self.inside.waiting.accepted c.len-turn.result) =
                subst (λ (d : DeskState g.row.K.Denot). IsSome (chunk_of d.accepted c.len-turn.result)) (sym c.self.view_is) there in
                false≢true (sym w.if-not-is_accepted.true ∙ w.is_accepted.ensures.1 inside))
          ]),
    )

pub write-requires-clause-can : goal.write-requires-clause-can
write-requires-clause-can g c =
    let kept = seen g.K.Printer.means c.self.view_is c.self.invariant in
    let all : length c.self.inside.front.entries.items ≡ length c.args.self.now.entries = ap (λ (d : DeskState g.row.K.Denot). length d.entries) c.self.view_is in
    can_first g.K.Printer.means c.args.self.now c.self.inside.waiting.turns c.self.inside.starts.items (vec_capacity c.self.inside.starts) c.self.inside.appended c.len-turn.result kept c.requires.rising c.requires.whole
    (c.len-turn.ensures ∙ c.self.inside.starts.ok.0)
    (λ same. c.if-turn-len.false (same ∙ sym all ∙ sym c.self.inside.front.entries.ok.0 ∙ sym c.len.ensures))
    (subst (λ (d : DeskState g.row.K.Denot). IsSome (chunk_of d.accepted c.len-turn.result)) c.self.view_is (c.is_accepted.ensures.0 c.if-not-is_accepted.false))

pub returns-clause-wrote : goal.returns-clause-wrote
returns-clause-wrote g c =
    let kept = seen g.K.Printer.means c.self.view_is c.self.invariant in
    let all : length c.self.inside.front.entries.items ≡ length c.args.self.now.entries = ap (λ (d : DeskState g.row.K.Denot). length d.entries) c.self.view_is in
    let first = first_is g.K.Printer.means c.args.self.now c.self.inside.waiting.turns c.self.inside.starts.items (vec_capacity c.self.inside.starts) c.self.inside.appended c.len-turn.result kept c.requires.whole
    (c.len-turn.ensures ∙ c.self.inside.starts.ok.0) in (
      omega (arith, first.0, first.1, all, c.len.ensures, c.self.inside.front.entries.ok.0, c.if-turn-len.false),
      c.write.ensures.wrote ∙ ap (λ (t : ℕ). c.args.self.now.taken ++ t ∷ []) first.0,
    )
