use Rattle.std.proofs.Common.{◌≡◌, ℕ, ◌<◌, List, length, get_or, sym, ap, ◌∙◌, subst, arith}
use Rattle.std.specs.Vec.{vec_capacity}
use Rattle.exr_outside.specs.Sink.{replaced}
use Rattle.exr_outside.specs.Transfer.{ReplacesAtLeast}
use Rattle.exr_desk.specs.Accepted.{IsComplete}
use Rattle.exr_desk.specs.Order.{IsAllowed}
use Rattle.exr_desk.specs.Desk.{DeskState}
use Rattle.exr_desk.specs.File.{filled, filed, IsPartial}
use Rattle.exr_desk.proofs.Bytes.{written_back}
use Rattle.exr_desk.proofs.Keeping.{seen, unbroken_seen, starts_are, turn_at, allowed_all, finished, cut_short, cut_held, rose_since}
use Rattle.exr_desk.proofs.filing.Filing.write_tables.Goals as goal

pub fill-requires-clause-same : goal.fill-requires-clause-same
fill-requires-clause-same g c =
    ap length c.deref-2.ensures.value
    ∙ starts_are g.K.Printer.means _ c.self.inside.waiting.turns c.self.inside.starts.items (vec_capacity c.self.inside.starts) c.self.inside.appended c.self.invariant (unbroken_seen g.K.Printer.means c.self.view_is c.requires.whole)
    ∙ ap length (sym c.taken.ensures)

pub fill-requires-clause-turns : goal.fill-requires-clause-turns
fill-requires-clause-turns g c = λ k below.
    let size = ap length c.deref.ensures.value in
    let main : k < length c.self.inside.waiting.taken → get_or c.self.inside.waiting.taken k 0 < length c.deref.result.now = λ inside.
    let there = turn_at (length c.self.inside.front.entries.items) c.self.inside.front.free c.self.inside.waiting.taken k c.self.invariant.desk.order inside in
    omega (arith, there, size) in
    subst (λ (l : List ℕ). k < length l → get_or l k 0 < length c.deref.result.now) (sym c.taken.ensures) main below

pub returns-in-Ok-clause-order : goal.returns-in-Ok-clause-order
returns-in-Ok-clause-order g c = allowed_all g.K.Printer.means c.args.self (seen g.K.Printer.means c.self.view_is c.self.invariant).desk c.requires.settled c.requires.whole c.requires.complete

pub returns-in-Ok-clause-file : goal.returns-in-Ok-clause-file
returns-in-Ok-clause-file g c = λ tells.
    let means = g.K.Printer.means in
    let after = c.write_all_at.new.sink in
    let unbroken = unbroken_seen means c.self.view_is c.requires.whole in
    let size = c.fill.ensures.length ∙ ap length c.deref_mut.ensures.value in
    let bytes_are = c.deref-3.ensures.value ∙ written_back c.self.inside.front.bytes.len c.fill.new.bytes c.self.inside.front.bytes.items c.self.inside.front.bytes.ok.0 size in
    let filled_is : c.fill.new.bytes ≡ filled c.self.inside.front.entries.items c.self.inside.waiting.taken c.self.inside.starts.items c.self.inside.front.bytes.items =
    c.fill.ensures.bytes
    ∙ ap (λ (l : List ℕ). filled l c.taken.result.now c.deref-2.result.now c.deref_mut.result.now) c.deref.ensures.value
    ∙ ap (λ (l : List ℕ). filled c.self.inside.front.entries.items l c.deref-2.result.now c.deref_mut.result.now) c.taken.ensures
    ∙ ap (λ (l : List ℕ). filled c.self.inside.front.entries.items c.self.inside.waiting.taken l c.deref_mut.result.now) c.deref-2.ensures.value
    ∙ ap (filled c.self.inside.front.entries.items c.self.inside.waiting.taken c.self.inside.starts.items) c.deref_mut.ensures.value in
    let put = c.in-Ok.ensures.all tells ∙ ap (λ (l : List ℕ). replaced 0 l (means.holds c.self.inside.sink)) bytes_are in
    subst (λ (e : DeskState g.row.K.Denot). means.holds after ≡ filed e.front e.entries e.accepted e.taken) c.self.view_is
    (finished means _ after c.self.inside.waiting.turns c.self.inside.starts.items c.fill.new.bytes (vec_capacity c.self.inside.starts) c.self.inside.appended c.self.invariant unbroken filled_is size tells put)

pub returns-clause-order : goal.returns-clause-order
returns-clause-order g c = allowed_all g.K.Printer.means c.args.self (seen g.K.Printer.means c.self.view_is c.self.invariant).desk c.requires.settled c.requires.whole c.requires.complete

pub returns-clause-cause : goal.returns-clause-cause
returns-clause-cause g c =
    let kept = seen g.K.Printer.means c.self.view_is c.self.invariant in
    let name : g.K.Printer.means.faults c.self.inside.sink ≡ g.K.Printer.means.faults c.args.self.sink = ap (λ (d : DeskState g.row.K.Denot). g.K.Printer.means.faults d.sink) c.self.view_is in
    let rose = rose_since c.args.self.begun (g.K.Printer.means.faults c.self.inside.sink) (g.K.Printer.means.faults c.write_all_at.new.sink) (omega (arith, kept.desk.later, name)) c.in-Err.ensures.cause.failed in (
      c.requires.complete,
      rose,
      λ tells.
          let means = g.K.Printer.means in
          let after = c.write_all_at.new.sink in
          let unbroken = unbroken_seen means c.self.view_is c.requires.whole in
          let size = c.fill.ensures.length ∙ ap length c.deref_mut.ensures.value in
          let bytes_are = c.deref-3.ensures.value ∙ written_back c.self.inside.front.bytes.len c.fill.new.bytes c.self.inside.front.bytes.items c.self.inside.front.bytes.ok.0 size in
          let put : ReplacesAtLeast c.in-Err.field-0.taken 0 c.fill.new.bytes (means.holds c.self.inside.sink) (means.holds after) =
          subst (λ (l : List ℕ). ReplacesAtLeast c.in-Err.field-0.taken 0 l (means.holds c.self.inside.sink) (means.holds after)) bytes_are (c.in-Err.ensures.cut tells) in
          cut_held means _ after c.self.inside.waiting.turns c.self.inside.starts.items c.fill.new.bytes (vec_capacity c.self.inside.starts) c.self.inside.appended c.in-Err.field-0.taken c.self.invariant unbroken size tells put,
    )

pub returns-clause-partial : goal.returns-clause-partial
returns-clause-partial g c = λ tells.
    let means = g.K.Printer.means in
    let after = c.write_all_at.new.sink in
    let unbroken = unbroken_seen means c.self.view_is c.requires.whole in
    let size = c.fill.ensures.length ∙ ap length c.deref_mut.ensures.value in
    let bytes_are = c.deref-3.ensures.value ∙ written_back c.self.inside.front.bytes.len c.fill.new.bytes c.self.inside.front.bytes.items c.self.inside.front.bytes.ok.0 size in
    let filled_is : c.fill.new.bytes ≡ filled c.self.inside.front.entries.items c.self.inside.waiting.taken c.self.inside.starts.items c.self.inside.front.bytes.items =
    c.fill.ensures.bytes
    ∙ ap (λ (l : List ℕ). filled l c.taken.result.now c.deref-2.result.now c.deref_mut.result.now) c.deref.ensures.value
    ∙ ap (λ (l : List ℕ). filled c.self.inside.front.entries.items l c.deref-2.result.now c.deref_mut.result.now) c.taken.ensures
    ∙ ap (λ (l : List ℕ). filled c.self.inside.front.entries.items c.self.inside.waiting.taken l c.deref_mut.result.now) c.deref-2.ensures.value
    ∙ ap (filled c.self.inside.front.entries.items c.self.inside.waiting.taken c.self.inside.starts.items) c.deref_mut.ensures.value in
    let put : ReplacesAtLeast c.in-Err.field-0.taken 0 c.fill.new.bytes (means.holds c.self.inside.sink) (means.holds after) =
    subst (λ (l : List ℕ). ReplacesAtLeast c.in-Err.field-0.taken 0 l (means.holds c.self.inside.sink) (means.holds after)) bytes_are (c.in-Err.ensures.cut tells) in
    let allowed = allowed_all means c.args.self (seen means c.self.view_is c.self.invariant).desk c.requires.settled c.requires.whole c.requires.complete in
    let inside = subst (λ (e : DeskState g.row.K.Denot). IsAllowed (length e.entries) e.free e.taken) (sym c.self.view_is) allowed in
    let complete = subst (λ (e : DeskState g.row.K.Denot). IsComplete (length e.entries) e.accepted) (sym c.self.view_is) c.requires.complete in
    subst (λ (e : DeskState g.row.K.Denot). IsPartial e.front e.entries e.free e.accepted e.taken (means.holds after)) c.self.view_is
    (cut_short means _ after c.self.inside.waiting.turns c.self.inside.starts.items c.fill.new.bytes (vec_capacity c.self.inside.starts) c.self.inside.appended c.in-Err.field-0.taken c.self.invariant unbroken inside complete filled_is size
    tells put)
