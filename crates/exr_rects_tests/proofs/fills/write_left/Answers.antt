use Rattle.std.proofs.Common.{sym, subst, arith}
use Rattle.exr_rects.specs.Lending.{Keeps}
use Rattle.exr_rects.specs.Marks.{MarksRect}
use Rattle.exr_rects.proofs.Rows.{marks_cut}
use Rattle.exr_rects.proofs.Places.{joined_back, keeps_itself, whole_rect}
use Rattle.exr_rects_tests.proofs.fills.write_left.Goals as goal

pub new-rect-requires-clause-inside : goal.new-rect-requires-clause-inside
new-rect-requires-clause-inside c =
    let s = c.args.sheet in let long = c.requires.long in
    subst (λ ms. MarksRect ms 0 3 4 5) (sym c.cut-mine.ensures.inside_marks)
    (marks_cut s.mine 0 3 4 5 3 4 (omega arith) (omega arith) (whole_rect s 0 3 4 5 c.requires.whole (λ row lt. omega arith)))

pub returns : goal.returns
returns c =
    let left = subst (Keeps _) (sym c.into_sheet.ensures) c.put.ensures.sheet.keeps in
    let right = subst (Keeps _) (sym c.into_sheet-2.ensures) (keeps_itself _) in
    let rect = joined_back _ _ _ _ _ _ _ c.split_cols-left.ensures.sheets left right c.join.ensures in
    joined_back _ _ _ _ _ _ _ c.cut-mine.ensures (subst (λ t. Keeps t c.join.result) c.new-rect.ensures.sheet rect) (keeps_itself _) c.join-sheet.ensures
