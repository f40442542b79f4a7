-- Sides of windows: places from one to another.
use Rattle.std.proofs.Common.{◌≡◌, ℕ, ◌+◌, ◌-◌, ◌*◌, ◌^◌, ◌<◌, ◌≤◌, refl, ◌∙◌, arith, min, ℤ, pos, negsuc, neg_ℤ, ◌+ℤ◌, ◌-ℤ◌, ◌≤ℤ◌, nat_abs}
use Rattle.std.proofs.Math.Nat.{mul-le-mul}
use Rattle.std.proofs.lemmas.Int.{ints}
use Rattle.exr_base.specs.Sampling.{span_of}
use Rattle.exr_base.specs.Shape.{IsSide}
use Rattle.exr_base.proofs.Sides.{span_is}
use Rattle.exr_judge.specs.Picture.{first_end}

-- the first piece of a side ends on the side
pub end_within : (from to : ℤ) (most : ℕ) (r : ℤ) → from ≤ℤ to → IsSide from to → 1 ≤ most → r ≡ first_end from to most → IsSide from r
end_within from to most r ordered side some is =
    let span = span_is from to (omega (arith, ints, ordered)) in
    let m = min (span_of from to) most - 1 in
    let within : m + 1 ≤ span_of from to = omega (arith, ints, span, ordered, some) in
    let few = side.few in
    let r_span : pos (span_of from r) ≡ (r -ℤ from) +ℤ pos 1 = span_is from r (omega (arith, ints, is, within, some)) in
    record {
      low = side.low;
      high = side.high;
      ends = omega (arith, ints, is);
      end_high = omega (arith, ints, is, within, span, side.end_high);
      few = omega (arith, ints, is, within, r_span, few);
    }

pub first_end_is : (from to : ℤ) (s m most : ℕ) (r : ℤ) → s ≡ span_of from to → m ≡ min s most → r ≡ from +ℤ pos (m - 1) → r ≡ first_end from to most
first_end_is from to s m most r is least e = e ∙ rw (least, is) refl

-- the count table of a chunk
pub table_small : (a b : ℕ) → a ≤ 2 ^ 20 → b ≤ 2 ^ 20 → 4 * (a * b) < 2 ^ 64
table_small a b ha hb = omega (arith, mul-le-mul ha hb)
