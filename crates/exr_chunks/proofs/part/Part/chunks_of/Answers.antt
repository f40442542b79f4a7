use Rattle.std.proofs.Common.{◌≡◌, ◌*◌, ap, ◌∙◌, arith}
use Rattle.exr_chunks.specs.Part.{header_of}
use Rattle.exr_chunks.specs.Window.{meeting_among}
use Rattle.exr_chunks.proofs.Windows.{all_columns_off, rows_begin, rows_end, a_row}
use Rattle.exr_chunks.proofs.part.Part.chunks_of.Goals as goal

pub returns-then-columns : goal.returns-then-columns
returns-then-columns c =
    c.new-chunks.ensures.items ∙ all_columns_off c.args.self.now c.args.window c.columns_met-columns.result c.requires c.columns_met-columns.ensures (omega (arith, c.if-columns.true))

pub loop-row-init : goal.loop-row-init
loop-row-init c =
    c.new-chunks.ensures.items ∙ rows_begin c.args.self.now c.args.window c.rows_met-rows.result c.requires c.rows_met-rows.ensures

pub push_row-requires-clause-row : goal.push_row-requires-clause-row
push_row-requires-clause-row c =
    a_row c.args.self.now c.args.window c.rows_met-rows.result c.loop-row.row c.requires c.rows_met-rows.ensures c.loop-row.auto.row c.loop-row-test.true

pub returns : goal.returns
returns c =
    let p = c.args.self.now in
    let ordered = c.rows_met-rows.ensures.ordered in
    let e : c.loop-row.row ≡ c.rows_met-rows.result.behind = omega (arith, c.loop-row-test.false, c.loop-row.auto.row-end ordered) in
    rows_end p c.args.window c.rows_met-rows.result c.loop-row.chunks.items c.requires c.rows_met-rows.ensures (c.loop-row.invariant ∙ ap (λ n. meeting_among (header_of p) c.args.window (n * p.across)) e)
