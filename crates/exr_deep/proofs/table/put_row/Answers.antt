use Rattle.std.proofs.Common.{◌≡◌, ◌+◌, ◌*◌, get_or, refl, ap, ◌∙◌, sym, arith}
use Rattle.exr_deep.specs.Counts.{running_at}
use Rattle.exr_deep.proofs.Rows.{IsInRow}
use Rattle.exr_deep.proofs.Running.{running_here, running_next}
use Rattle.exr_deep.proofs.Writing.{entry_put}
use Rattle.exr_deep.proofs.table.put_row.Goals as goal

pub overflow_add-samples : goal.overflow_add-samples
overflow_add-samples c =
    let l = c.loop-pixel in
    let is : IsInRow c.args.width (c.args.row * c.args.width) l.pixel = record { row = c.args.row; begins = refl; from = omega arith; below = omega arith } in
    let here = running_here c.args.width (c.args.row * c.args.width) l.pixel c.args.counts.now is (omega arith) in
    let int = c.requires.ints.each l.pixel (omega arith) in
    record { fits = omega arith }

pub loop-pixel-preserved : goal.loop-pixel-preserved
loop-pixel-preserved c =
    let l = c.loop-pixel in
    let first = c.args.row * c.args.width in
    let counts = c.args.counts.now in
    let is : IsInRow c.args.width first l.pixel = record { row = c.args.row; begins = refl; from = omega arith; below = omega arith } in
    let here : l.samples + get_or counts l.pixel 0 ≡ running_at c.args.width counts l.pixel =
    ap (λ k. k + get_or counts l.pixel 0) l.invariant.samples ∙ sym (running_here c.args.width first l.pixel counts is (omega arith)) in
    record {
      written = entry_put c.args.width counts l.table c.put_entry.new.table l.pixel (l.samples + get_or counts l.pixel 0) l.invariant.written c.put_entry.ensures here;
      samples = here ∙ running_next c.args.width first l.pixel counts (omega arith);
    }
