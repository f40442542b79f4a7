use Rattle.std.proofs.Common.{◌≡◌, ◌≤◌, length}
use Rattle.exr_rects.specs.Lending.{Keeps}
use Rattle.exr_rects.specs.Rects.{rect_sheet, rect_height, rect_width, SameRect}
use Rattle.exr_rects_tests.proofs.fills.fill_rows.Given as goal

abbrev pub invariant-loop-row : goal.invariant-loop-row
invariant-loop-row l =
    Keeps (rect_sheet l.fn.rect) (rect_sheet l.rect) × SameRect l.fn.rect l.rect × (l.n ≡ rect_width l.fn.rect) × (l.n ≤ length l.line) × (l.row-end ≤ rect_height l.fn.rect)
