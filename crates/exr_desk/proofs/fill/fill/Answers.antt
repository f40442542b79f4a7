use Rattle.std.proofs.Common.{ap, sym, ◌∙◌, ◌+◌, drop}
use Rattle.exr_desk.specs.File.{filled}
use Rattle.exr_desk.proofs.Bytes.{filled-next, filled-end}
use Rattle.exr_desk.proofs.fill.fill.Goals as goal

pub loop-i-preserved : goal.loop-i-preserved
loop-i-preserved c =
    let turns = c.args.turns.now in
    let numbers = c.args.numbers.now in
    let entries = c.args.entries.now in
    ap (filled entries (drop (c.loop-i.i + 1) turns) (drop (c.loop-i.i + 1) numbers)) c.put_number.ensures
    ∙ sym (filled-next entries turns numbers c.loop-i.bytes c.loop-i.i c.loop-i-test.true c.requires.same)
    ∙ c.loop-i.invariant

pub returns-clause-bytes : goal.returns-clause-bytes
returns-clause-bytes c =
    sym (filled-end c.args.entries.now c.args.turns.now c.args.numbers.now c.loop-i.bytes c.loop-i.i c.loop-i-test.false) ∙ c.loop-i.invariant
