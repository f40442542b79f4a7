-- Words on rectangles.
use Rattle.std.specs.Prelude.{◌≡◌, ℕ, List}
use Rattle.exr_rects.specs.Marks.{rows_of}
use Rattle.exr_rects.specs.declared.sheet.Sheet.{Sheet}
use Rattle.exr_rects.specs.declared.rect.RectMut.{RectMut}

-- the rows of a rectangle
abbrev pub rect_rows : RectMut → List (List ℕ)
rect_rows r = rows_of r.sheet.items r.from r.rows r.cols r.pitch

-- its sheet, the place of its first byte, the number of its rows, the bytes in a row, and from one row to the next
abbrev pub rect_sheet : RectMut → Sheet ℕ
rect_sheet r = r.sheet

abbrev pub rect_from : RectMut → ℕ
rect_from r = r.from

abbrev pub rect_height : RectMut → ℕ
rect_height r = r.rows

abbrev pub rect_width : RectMut → ℕ
rect_width r = r.cols

abbrev pub rect_pitch : RectMut → ℕ
rect_pitch r = r.pitch

-- b has the place and the size of a
pub record SameRect (a b : RectMut) : Type 0 where
  pub from : b.from ≡ a.from
  pub rows : b.rows ≡ a.rows
  pub cols : b.cols ≡ a.cols
  pub pitch : b.pitch ≡ a.pitch
