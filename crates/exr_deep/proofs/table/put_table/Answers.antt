use Rattle.std.proofs.Common.{◌≡◌, ℕ, ◌*◌, take, sym, ap, ◌∙◌, subst, arith}
use Rattle.exr_deep.specs.Steps.{entries_of}
use Rattle.exr_deep.proofs.Running.{each_int}
use Rattle.exr_deep.proofs.Writing.{entries_none, table_whole}
use Rattle.exr_deep.proofs.table.put_table.Goals as goal

pub loop-row-init : goal.loop-row-init
loop-row-init c =
    let none : 0 * c.args.width ≡ 0 = omega arith in
    ap (λ k. take (4 * k) c.args.table.now) none ∙ sym (entries_none c.args.width c.args.counts.now) ∙ ap (entries_of c.args.width c.args.counts.now) (sym none)

pub returns : goal.returns
returns c =
    let whole : c.loop-row.row ≡ c.args.rows = omega arith in
    table_whole c.args.width c.args.counts.now c.loop-row.table (c.args.rows * c.args.width) (omega arith) (omega arith)
    (subst (λ (rows : ℕ). take (4 * (rows * c.args.width)) c.loop-row.table ≡ entries_of c.args.width c.args.counts.now (rows * c.args.width)) whole c.loop-row.invariant)

pub put_row-requires-clause-ints : goal.put_row-requires-clause-ints
put_row-requires-clause-ints c = each_int c.args.width c.args.counts.now c.requires.ints
