-- A window, as `X0,Y0,X1,Y1`.
use Rattle.std.specs.Prelude.{◌==◌, ◌^◌, ℕ, ℤ, pos, neg_ℤ, List, [], ◌∷◌, Option, Some, None, option_map, if◌then◌else◌}
use Rattle.exr_base.specs.declared.shape.Box2i.{Box2i}
use Rattle.exr_words.specs.Number.{number_within}
use Rattle.exr_words.specs.Parts.{◌>>=◌, around}

-- a number of 2^30 at the most, negative behind a `-`, which has the code 45
abbrev pub coordinate_of : List ℕ → Option ℤ
coordinate_of [] = None
coordinate_of (first ∷ digits) =
    if first == 45
    then option_map (λ n. neg_ℤ (pos n)) (number_within 0 (2 ^ 30) digits)
    else option_map pos (number_within 0 (2 ^ 30) (first ∷ digits))

-- four numbers, separated by commas, which have the code 44; a fifth stands behind the third comma with the fourth, and
-- the two are no number. Whether there is a pixel in the window is not asked here
abbrev pub window_of : List ℕ → Option Box2i
window_of text = do
  front ← around 44 text
  middle ← around 44 front.1
  back ← around 44 middle.1
  x0 ← coordinate_of front.0
  y0 ← coordinate_of middle.0
  x1 ← coordinate_of back.0
  y1 ← coordinate_of back.1
  Some (record { x0 = x0; y0 = y0; x1 = x1; y1 = y1 })
