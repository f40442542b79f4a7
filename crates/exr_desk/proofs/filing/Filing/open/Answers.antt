use Rattle.std.proofs.Common.{◌≡◌, ℕ, ◌++◌, List, length, take, ap, ◌∙◌, arith}
use Rattle.std.specs.Vec.{vec_capacity}
use Rattle.exr_desk.specs.Waiting.{no_chunk_of}
use Rattle.exr_desk.proofs.Keeping.{partial_front, opened}
use Rattle.exr_desk.proofs.filing.Filing.open.Goals as goal

pub returns-in-Err-clause-partial : goal.returns-in-Err-clause-partial
returns-in-Err-clause-partial g c = λ tells. partial_front c.args.front.bytes.items c.args.front.entries.items c.args.front.free (g.K.Printer.means.holds c.args.sink) 0 (c.requires.empty tells)

pub returns-in-Err-append_all-clause-partial : goal.returns-in-Err-append_all-clause-partial
returns-in-Err-append_all-clause-partial g c = λ tells.
    let added = c.in-Err-append_all.ensures.cut tells in
    partial_front c.args.front.bytes.items c.args.front.entries.items c.args.front.free (g.K.Printer.means.holds c.append_all.new.printer) added.0
    (added.2 ∙ ap (λ (l : List ℕ). l ++ take added.0 c.deref.result.now) (c.requires.empty tells) ∙ ap (take added.0) c.deref.ensures.value)

pub invariant_of-result : goal.invariant_of-result
invariant_of-result g c =
    let size : c.len.result ≡ length c.args.front.entries.items = c.len.ensures ∙ c.args.front.entries.ok.0 in
    opened g.K.Printer.means c.args.front.bytes.items c.args.front.entries.items c.args.front.free c.faults-begun.result c.in-Ok.made.0 c.append_all.new.printer c.in-Ok.made.1.items (vec_capacity c.in-Ok.made.1) c.len-appended.result
    c.requires.front (c.in-Ok.ensures.0 ∙ ap no_chunk_of size) c.in-Ok.ensures.1 (omega (arith, c.in-Ok.ensures.2, size)) (c.len-appended.ensures ∙ c.args.front.bytes.ok.0)
    (λ tells. c.in_default.ensures.all tells ∙ ap (λ (l : List ℕ). l ++ c.deref.result.now) (c.requires.empty tells) ∙ c.deref.ensures.value)
    (omega (arith, c.faults-begun.ensures, c.append_all.ensures.cause.later))
