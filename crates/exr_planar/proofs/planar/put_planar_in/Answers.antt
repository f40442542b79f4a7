-- Line by line, and in the end all.
use Rattle.std.proofs.Common.{◌≡◌, ℕ, subst, ap, ◌∙◌, sym, refl, arith}
use Rattle.exr_base.specs.Shape.{height_of}
use Rattle.exr_planar.specs.Planar.{row_of, planar_row_of, raw_from_planar}
use Rattle.exr_planar.specs.Moving.{AreLinesMoved}
use Rattle.exr_planar.proofs.Orders.{lines_none}
use Rattle.exr_planar.proofs.Moves.{lines_begun, lines_more, planar_whole_moved, raw_again}
use Rattle.exr_planar.proofs.planar.put_planar_in.Goals as goal

pub loop-line-init : goal.loop-line-init
loop-line-init g c = record {
  at = sym (lines_none c.args.shape.now.channels.now c.args.shape.now.region);
  moved = lines_begun (row_of c.args.shape.now.channels.now c.args.shape.now.region) (planar_row_of c.args.shape.now.channels.now c.args.shape.now.region) c.args.shape.now.channels.now c.args.shape.now.region c.args.raw.now (g.S.RowSink.planar c.args.sink.now);
  memory = refl;
}

pub loop-line-preserved : goal.loop-line-preserved
loop-line-preserved g c =
    let lines = c.line_count-line-end.ensures.exact in
    let test = c.loop-line-test.true in
    record {
      at = c.put_line_in_planes-at.ensures.next;
      moved = lines_more (row_of c.args.shape.now.channels.now c.args.shape.now.region) (planar_row_of c.args.shape.now.channels.now c.args.shape.now.region) c.args.shape.now.channels.now c.args.shape.now.region c.loop-line.line c.args.raw.now (g.S.RowSink.planar c.args.sink.now) (g.S.RowSink.planar c.loop-line.sink) (g.S.RowSink.planar c.put_line_in_planes-at.new.sink) (omega arith) c.loop-line.invariant.moved c.put_line_in_planes-at.ensures.moved;
      memory = c.put_line_in_planes-at.ensures.memory ∙ c.loop-line.invariant.memory;
    }

pub returns-clause-exact : goal.returns-clause-exact
returns-clause-exact g c =
    let lines = c.line_count-line-end.ensures.exact in
    let test = c.loop-line-test.false in
    let end = c.loop-line.auto.line-end in
    let all : c.loop-line.line ≡ height_of c.args.shape.now.region = omega arith in
    planar_whole_moved c.args.shape.now.channels.now c.args.shape.now.region c.args.raw.now (g.S.RowSink.planar c.args.sink.now) (g.S.RowSink.planar c.loop-line.sink) c.requires.planar
    (subst (λ (n : ℕ). AreLinesMoved (row_of c.args.shape.now.channels.now c.args.shape.now.region) (planar_row_of c.args.shape.now.channels.now c.args.shape.now.region) c.args.shape.now.channels.now c.args.shape.now.region n c.args.raw.now (g.S.RowSink.planar c.args.sink.now) (g.S.RowSink.planar c.loop-line.sink)) all c.loop-line.invariant.moved)

pub returns-clause-restores : goal.returns-clause-restores
returns-clause-restores g c = ap (raw_from_planar c.args.shape.now.channels.now c.args.shape.now.region) (returns-clause-exact g c) ∙ raw_again c.args.shape.now.channels.now c.args.shape.now.region c.args.raw.now c.requires.raw
