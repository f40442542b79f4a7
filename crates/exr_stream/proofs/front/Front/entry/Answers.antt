-- The tables belong to the head, and the head to the file.
use Rattle.std.proofs.Common.{◌<◌, drop, length, ap, subst, ◌∙◌}
use Rattle.std.proofs.lemmas.List.{take_rest}
use Rattle.exr_stream.specs.Chunk.{entry_in}
use Rattle.exr_stream.proofs.Bare.{within}
use Rattle.exr_stream.proofs.Entries.{entry_is, entry_is_not}
use Rattle.exr_stream.proofs.front.Front.entry.Goals as goal

pub entry_at-at-requires-clause-index : goal.entry_at-at-requires-clause-index
entry_at-at-requires-clause-index c =
    within c.args.self.now.geometry c.args.self.now.head.parts c.args.part c.args.index c.requires.front.geometry c.requires.index

pub returns-then-tables-at : goal.returns-then-tables-at
returns-then-tables-at c = λ content whole.
    entry_is_not c.args.self.now content c.args.part c.args.index c.entry_at-at.result
    (record { front = c.requires.front; whole = whole; part = c.requires.part; index = c.requires.index; place = c.entry_at-at.ensures })
    (subst (λ l. length l < c.entry_at-at.result) c.as_slice-tables.ensures.value c.if-tables-at.true)

pub returns : goal.returns
returns c = λ content whole.
    c.entry_in.ensures
    ∙ ap entry_in (take_rest c.as_slice-tables.result.now c.entry_at-at.result)
    ∙ ap (λ l. entry_in (drop c.entry_at-at.result l)) c.as_slice-tables.ensures.value
    ∙ entry_is c.args.self.now content c.args.part c.args.index c.entry_at-at.result
    (record { front = c.requires.front; whole = whole; part = c.requires.part; index = c.requires.index; place = c.entry_at-at.ensures })
