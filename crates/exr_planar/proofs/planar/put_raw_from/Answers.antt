-- Line by line, and in the end all.
use Rattle.std.proofs.Common.{◌≡◌, ℕ, subst, ap, ◌∙◌, sym, arith}
use Rattle.exr_base.specs.Shape.{height_of}
use Rattle.exr_planar.specs.Planar.{row_of, planar_row_of, planar_of}
use Rattle.exr_planar.specs.Moving.{AreLinesMoved}
use Rattle.exr_planar.proofs.Orders.{lines_none}
use Rattle.exr_planar.proofs.Moves.{lines_begun, lines_more, raw_whole_moved, planar_again}
use Rattle.exr_planar.proofs.planar.put_raw_from.Goals as goal

pub loop-line-init : goal.loop-line-init
loop-line-init g c = record {
  at = sym (lines_none c.args.shape.now.channels.now c.args.shape.now.region);
  moved = lines_begun (planar_row_of c.args.shape.now.channels.now c.args.shape.now.region) (row_of c.args.shape.now.channels.now c.args.shape.now.region) c.args.shape.now.channels.now c.args.shape.now.region (g.S.RowSource.planar c.args.source.now) c.args.into.now;
}

pub loop-line-preserved : goal.loop-line-preserved
loop-line-preserved g c =
    let lines = c.line_count-line-end.ensures.exact in
    let test = c.loop-line-test.true in
    record {
      at = c.put_line_in_raw-at.ensures.next;
      moved = lines_more (planar_row_of c.args.shape.now.channels.now c.args.shape.now.region) (row_of c.args.shape.now.channels.now c.args.shape.now.region) c.args.shape.now.channels.now c.args.shape.now.region c.loop-line.line (g.S.RowSource.planar c.args.source.now) c.args.into.now c.loop-line.into c.put_line_in_raw-at.new.into (omega arith) c.loop-line.invariant.moved c.put_line_in_raw-at.ensures.moved;
    }

pub returns-clause-exact : goal.returns-clause-exact
returns-clause-exact g c =
    let lines = c.line_count-line-end.ensures.exact in
    let test = c.loop-line-test.false in
    let end = c.loop-line.auto.line-end in
    let all : c.loop-line.line ≡ height_of c.args.shape.now.region = omega arith in
    raw_whole_moved c.args.shape.now.channels.now c.args.shape.now.region (g.S.RowSource.planar c.args.source.now) c.args.into.now c.loop-line.into c.requires.into
    (subst (λ (n : ℕ). AreLinesMoved (planar_row_of c.args.shape.now.channels.now c.args.shape.now.region) (row_of c.args.shape.now.channels.now c.args.shape.now.region) c.args.shape.now.channels.now c.args.shape.now.region n (g.S.RowSource.planar c.args.source.now) c.args.into.now c.loop-line.into) all c.loop-line.invariant.moved)

pub returns-clause-restores : goal.returns-clause-restores
returns-clause-restores g c = ap (planar_of c.args.shape.now.channels.now c.args.shape.now.region) (returns-clause-exact g c) ∙ planar_again c.args.shape.now.channels.now c.args.shape.now.region (g.S.RowSource.planar c.args.source.now) c.requires.planar
