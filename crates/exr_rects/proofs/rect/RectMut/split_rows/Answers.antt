use Rattle.std.proofs.Common.{◌≡◌, ◌+◌, ◌-◌, ◌*◌, ◌<◌, ◌≤◌, sym, ap, subst, ◌∙◌, arith}
use native.Mathlib.Nat.{add-mul}
use Rattle.exr_rects.specs.Marks.{MarksRect, rows_of}
use Rattle.exr_rects.proofs.Rows.{marks_cut, marks_below, rows_take, rows_drop}
use Rattle.exr_rects.proofs.rect.RectMut.split_rows.Goals as goal

pub invariant_of-result : goal.invariant_of-result
invariant_of-result c =
    let r = c.args.self in let at = c.args.at in let cut = c.cut-upper.ensures in let le : at ≤ r.rows = c.requires in record {
      inside = subst (λ ms. MarksRect ms r.from at r.cols r.pitch) (sym cut.inside_marks) (marks_cut r.sheet.mine r.from r.rows r.cols r.pitch at r.cols le (omega arith) r.inside);
      lies = λ row lt. let fits = r.lies row (omega arith) in let count = cut.one_buffer.0.count in omega arith;
      apart = r.apart;
    }

pub invariant_of-result-2 : goal.invariant_of-result-2
invariant_of-result-2 c =
    let r = c.args.self in let at = c.args.at in let cut = c.cut-upper.ensures in let le : at ≤ r.rows = c.requires in let rest = r.rows - at in let start = c.row_start-below.result in
    let begins : 0 < rest → start ≡ r.from + at * r.pitch = λ more. c.row_start-below.ensures (omega arith) in record {
      inside = subst (λ ms. MarksRect ms start rest r.cols r.pitch) (sym cut.rest_marks) (marks_below r.sheet.mine r.from r.rows r.cols r.pitch r.inside r.apart at rest start (omega arith) begins);
      lies = λ row lt.
          let fits = r.lies (at + row) (omega arith) in let count = cut.one_buffer.1.count in let is = begins (omega arith) in let both = add-mul at row r.pitch in omega arith;
      apart = r.apart;
    }

pub returns-clause-rows : goal.returns-clause-rows
returns-clause-rows c =
    let r = c.args.self in let at = c.args.at in let cut = c.cut-upper.ensures in let le : at ≤ r.rows = c.requires in let rest = r.rows - at in let start = c.row_start-below.result in
    let begins : 0 < rest → start ≡ r.from + at * r.pitch = λ more. c.row_start-below.ensures (omega arith) in (
      ap (λ xs. rows_of xs r.from at r.cols r.pitch) cut.items.0 ∙ sym (rows_take r.sheet.items r.from r.rows r.cols r.pitch at le),
      ap (λ xs. rows_of xs start rest r.cols r.pitch) cut.items.1 ∙ sym (rows_drop r.sheet.items r.from r.rows r.cols r.pitch at rest start (omega arith) begins),
    )
