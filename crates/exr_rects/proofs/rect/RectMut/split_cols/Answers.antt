use Rattle.std.proofs.Common.{◌≡◌, ◌+◌, ◌-◌, ◌<◌, ◌≤◌, sym, ap, subst, ◌∙◌, arith}
use Rattle.exr_rects.specs.Marks.{MarksRect, rows_of}
use Rattle.exr_rects.proofs.Rows.{marks_cut, marks_beside, cols_take, cols_drop}
use Rattle.exr_rects.proofs.rect.RectMut.split_cols.Goals as goal

pub invariant_of-result : goal.invariant_of-result
invariant_of-result c =
    let r = c.args.self in let at = c.args.at in let cut = c.cut-left.ensures in let le : at ≤ r.cols = c.requires in let narrow = r.apart in record {
      inside = subst (λ ms. MarksRect ms r.from r.rows at r.pitch) (sym cut.inside_marks) (marks_cut r.sheet.mine r.from r.rows r.cols r.pitch r.rows at (omega arith) le r.inside);
      lies = λ row lt. let fits = r.lies row lt in let count = cut.one_buffer.0.count in omega arith;
      apart = omega arith;
    }

pub invariant_of-result-2 : goal.invariant_of-result-2
invariant_of-result-2 c =
    let r = c.args.self in let at = c.args.at in let cut = c.cut-left.ensures in let le : at ≤ r.cols = c.requires in let narrow = r.apart in let rest = r.cols - at in let start = c.col_start-beside.result in
    let begins : 0 < r.rows → start ≡ r.from + at = c.col_start-beside.ensures in record {
      inside = subst (λ ms. MarksRect ms start r.rows rest r.pitch) (sym cut.rest_marks) (marks_beside r.sheet.mine r.from r.rows r.cols r.pitch r.inside r.apart at rest start (omega arith) begins);
      lies = λ row lt. let fits = r.lies row lt in let count = cut.one_buffer.1.count in let is = begins (omega arith) in omega arith;
      apart = omega arith;
    }

pub returns-clause-rows : goal.returns-clause-rows
returns-clause-rows c =
    let r = c.args.self in let at = c.args.at in let cut = c.cut-left.ensures in let le : at ≤ r.cols = c.requires in let rest = r.cols - at in let start = c.col_start-beside.result in
    let begins : 0 < r.rows → start ≡ r.from + at = c.col_start-beside.ensures in (
      ap (λ xs. rows_of xs r.from r.rows at r.pitch) cut.items.0 ∙ sym (cols_take r.sheet.items r.from r.rows r.cols r.pitch at le),
      ap (λ xs. rows_of xs start r.rows rest r.pitch) cut.items.1 ∙ sym (cols_drop r.sheet.items r.from r.rows r.cols r.pitch at rest start (omega arith) begins),
    )
