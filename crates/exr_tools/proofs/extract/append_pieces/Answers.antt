-- Piece by piece; where one is cut short, those before it are whole.
use Rattle.std.proofs.Common.{ℕ, ◌++◌, take, Vec, Global, sym, ap, ◌∙◌, append-nil, refl, arith}
use Rattle.exr_tools.proofs.Pieces.{cut_short, next_added}
use Rattle.exr_tools.proofs.extract.append_pieces.Goals as goal

pub loop-piece-init : goal.loop-piece-init
loop-piece-init g c = record {
  added = λ told. sym (append-nil (g.P.Printer.means.holds c.args.printer.now));
  name = refl;
  later = omega arith;
}

pub returns-in-Err-clause-cut : goal.returns-in-Err-clause-cut
returns-in-Err-clause-cut g c = λ told.
    let means = g.P.Printer.means in
    let piece = c.piece-item.result in
    let between = means.holds c.loop-piece.printer in
    let cut = c.in-Err.ensures.cut told in
    let bytes = c.deref.ensures.value ∙ ap (λ (v : Vec ℕ Global). v.items) c.piece-item.is in
    cut_short c.args.pieces.now c.loop-piece.piece-index cut.0 piece (means.holds c.args.printer.now) between (means.holds c.append_all.new.printer) c.loop-piece-test.true (c.loop-piece.invariant.added told)
    (cut.2 ∙ ap (λ l. between ++ take cut.0 l) bytes)

pub loop-piece-preserved : goal.loop-piece-preserved
loop-piece-preserved g c =
    let means = g.P.Printer.means in
    let piece = c.piece-item.result in
    let between = means.holds c.loop-piece.printer in
    let so_far = c.loop-piece.invariant in
    let later = so_far.later in
    let here = c.in-Ok.ensures.cause.later in
    let bytes = c.deref.ensures.value ∙ ap (λ (v : Vec ℕ Global). v.items) c.piece-item.is in
    record {
      added = λ told. next_added c.args.pieces.now c.loop-piece.piece-index piece (means.holds c.args.printer.now) between (means.holds c.append_all.new.printer) c.loop-piece-test.true (so_far.added told)
          (c.in-Ok.ensures.all told ∙ ap (λ l. between ++ l) bytes);
      name = c.in-Ok.ensures.name ∙ so_far.name;
      later = omega (arith, later, here);
    }
