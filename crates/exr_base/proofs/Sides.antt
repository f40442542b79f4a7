-- Sides of boxes, from one place to another, and boxes of equal sides.
use Rattle.std.proofs.Common.{◌≡◌, ℕ, ◌^◌, ◌≤◌, refl, arith, Bool, true, ℤ, pos, negsuc, neg_ℤ, ◌+ℤ◌, ◌-ℤ◌, ◌≤ℤ◌, nat_abs}
use Rattle.std.specs.Prelude.{◌&&◌, IsTrue, int_le}
use Rattle.std.proofs.lemmas.Bool.{and_parts}
use Rattle.std.proofs.lemmas.Int.{ints}
use Rattle.exr_base.specs.Boxes.{is_side_inside, is_inside, IsInside}
use Rattle.exr_base.proofs.Logic.{le_true}
use Rattle.exr_base.specs.declared.shape.Box2i.{Box2i}
use Rattle.exr_base.specs.Sampling.{span_of}
use Rattle.exr_base.specs.Shape.{IsSide}

pub abs_pos : (z : ℤ) → pos 0 ≤ℤ z → pos (nat_abs z) ≡ z
abs_pos (pos n) h = refl
abs_pos (negsuc n) h = absurd (omega (arith, ints, h))

-- the places of a side
pub span_is : (from to : ℤ) → (from -ℤ pos 1) ≤ℤ to → pos (span_of from to) ≡ (to -ℤ from) +ℤ pos 1
span_is from to h = abs_pos ((to -ℤ from) +ℤ pos 1) (omega (arith, ints, h))

pub side_within : (from to : ℤ) (s : ℕ) → from ≤ℤ to → neg_ℤ (pos (2 ^ 30)) ≤ℤ from → to ≤ℤ pos (2 ^ 30) → s ≡ span_of from to → s ≤ 2 ^ 20 → IsSide from to
side_within from to s ordered low high is few = record {
  low = low;
  high = omega (arith, ints, ordered, high);
  ends = omega (arith, ints, ordered);
  end_high = high;
  few = omega (arith, is, few);
}

pub same_box : (a b c d e f g h : ℤ) → a ≡ e → b ≡ f → c ≡ g → d ≡ h → ◌≡◌ {A = Box2i} (record { x0 = a; y0 = b; x1 = c; y1 = d }) (record { x0 = e; y0 = f; x1 = g; y1 = h })
same_box a b c d e f g h p q r s = rw (p, q, r, s) refl

-- a box with pixels whose sides lie within those of another
pub inside_is : (all w : Box2i) → w.x0 ≤ℤ w.x1 → w.y0 ≤ℤ w.y1 → IsTrue (is_inside w all) → IsInside all w
inside_is all w columns rows within =
    let sides = and_parts (is_side_inside w.x0 w.x1 all.x0 all.x1) (is_side_inside w.y0 w.y1 all.y0 all.y1) within in
    let x = and_parts (int_le all.x0 w.x0) (int_le w.x1 all.x1) sides.0 in
    let y = and_parts (int_le all.y0 w.y0) (int_le w.y1 all.y1) sides.1 in
    record {
      left = le_true all.x0 w.x0 x.0;
      columns = columns;
      right = le_true w.x1 all.x1 x.1;
      top = le_true all.y0 w.y0 y.0;
      rows = rows;
      bottom = le_true w.y1 all.y1 y.1;
    }
