-- Boxes of pixels: the pixels that a box has, and boxes within others (own).
use Rattle.std.specs.Prelude.{◌≤ℤ◌, ◌&&◌, ◌||◌, int_lt, int_le, ℤ, Bool}
use Rattle.exr_base.specs.declared.shape.Box2i.{Box2i}

-- no pixel
abbrev pub is_empty : Box2i → Bool
is_empty w = int_lt w.x1 w.x0 || int_lt w.y1 w.y0

-- a pixel of a box
pub record IsWithin (region : Box2i) (x y : ℤ) : Type 0 where
  pub left : region.x0 ≤ℤ x
  pub right : x ≤ℤ region.x1
  pub top : region.y0 ≤ℤ y
  pub bottom : y ≤ℤ region.y1

-- a box within another, and one of its sides
abbrev pub is_side_inside : ℤ → ℤ → ℤ → ℤ → Bool
is_side_inside from to low high = int_le low from && int_le to high

abbrev pub is_inside : Box2i → Box2i → Bool
is_inside a b = is_side_inside a.x0 a.x1 b.x0 b.x1 && is_side_inside a.y0 a.y1 b.y0 b.y1

-- a box with pixels, all of them in a window
pub record IsInside (window region : Box2i) : Type 0 where
  pub left : window.x0 ≤ℤ region.x0
  pub columns : region.x0 ≤ℤ region.x1
  pub right : region.x1 ≤ℤ window.x1
  pub top : window.y0 ≤ℤ region.y0
  pub rows : region.y0 ≤ℤ region.y1
  pub bottom : region.y1 ≤ℤ window.y1
