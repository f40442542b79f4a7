use Rattle.std.proofs.Common.{sym, subst, arith}
use Rattle.exr_rects.specs.Lending.{Keeps}
use Rattle.exr_rects.specs.Marks.{MarksRect}
use Rattle.exr_rects.proofs.Rows.{marks_cut}
use Rattle.exr_rects.proofs.Places.{joined_back, joined_over, keeps_itself, whole_rect}
use Rattle.exr_rects_tests.proofs.fills.fill_halves.Goals as goal

pub new-rect-requires-clause-inside : goal.new-rect-requires-clause-inside
new-rect-requires-clause-inside g c =
    let s = c.args.sheet in let p = c.args.place in
    subst (λ ms. MarksRect ms p.from p.rows p.cols p.pitch) (sym c.cut-mine.ensures.inside_marks)
    (marks_cut s.mine p.from p.rows p.cols p.pitch p.rows p.cols (omega arith) (omega arith) (whole_rect s p.from p.rows p.cols p.pitch c.requires.whole c.requires.fits))

pub returns : goal.returns
returns g c =
    let rect = joined_over _ _ _ _ _ _ _ c.split_rows-upper.ensures.sheets c.join-upper.ensures.first c.join-upper.ensures.second c.join.ensures in
    joined_back _ _ _ _ _ _ _ c.cut-mine.ensures (subst (λ t. Keeps t c.join.result) c.new-rect.ensures.sheet rect) (keeps_itself _) c.join-2.ensures
