use Rattle.std.proofs.Common.{◌≡◌, ◌<◌, ◌+◌, ◌*◌, ap, ◌∙◌, arith}
use Rattle.exr_chunks.specs.Part.{header_of}
use Rattle.exr_chunks.specs.Window.{meeting_among}
use Rattle.exr_chunks.proofs.Windows.{across_here, row_small, index_small, row_begins, row_goes_on, row_ends}
use Rattle.exr_chunks.proofs.part.Part.push_row.Goals as goal

pub overflow_mul-begin : goal.overflow_mul-begin
overflow_mul-begin c = omega (arith, row_small c.args.self.now c.args.row c.requires.part c.requires.row.within)

pub loop-column-init : goal.loop-column-init
loop-column-init c = record {
  known = row_begins c.args.self.now c.args.window c.args.columns c.args.row c.args.chunks.now.items c.requires.part c.requires.columns c.requires.above;
  within = c.requires.columns.ordered;
}

pub overflow_add-begin : goal.overflow_add-begin
overflow_add-begin c =
    let p = c.args.self.now in
    let here = across_here p c.requires.part in
    let left : c.loop-column.column < p.across = omega (arith, here, c.requires.columns.within, c.loop-column-test.true) in
    omega (arith, index_small p c.args.row c.loop-column.column c.requires.part c.requires.row.within left)

pub loop-column-preserved : goal.loop-column-preserved
loop-column-preserved c =
    let below : c.loop-column.column < c.args.columns.behind = omega (arith, c.loop-column-test.true) in
    record {
      known =
          c.in_ok-push.ensures.items
          ∙ row_goes_on c.args.self.now c.args.window c.args.columns c.args.row c.loop-column.column c.loop-column.chunks.items c.requires.part c.requires.columns c.requires.row c.loop-column.auto.column below c.loop-column.invariant.known;
      within = omega (arith, below);
    }

pub returns : goal.returns
returns c =
    let p = c.args.self.now in
    let e : c.loop-column.column ≡ c.args.columns.behind = omega (arith, c.loop-column-test.false, c.loop-column.invariant.within) in
    row_ends p c.args.window c.args.columns c.args.row c.loop-column.chunks.items c.requires.part c.requires.columns (c.loop-column.invariant.known ∙ ap (λ n. meeting_among (header_of p) c.args.window (c.args.row * p.across + n)) e)
