-- Sides cut into pieces, and rectangles of pieces counted row by row.
use Rattle.std.proofs.Common.{◌≡◌, ℕ, ◌+◌, ◌-◌, ◌*◌, ◌%◌, ◌<◌, ◌≤◌, subst, arith, ℤ, pos, ◌+ℤ◌, ◌-ℤ◌, ◌≤ℤ◌}
use Rattle.std.proofs.Math.Nat.{div-mul-le_self}
use Rattle.std.proofs.lemmas.Nat.{mul-le}
use Rattle.std.proofs.lemmas.Int.{ints, clamps}
use Rattle.std.specs.Int.{int_min}
use Rattle.exr_base.specs.Sampling.{span_of}
use Rattle.exr_base.specs.Shape.{IsSide}
use Rattle.exr_base.proofs.Sides.{span_is}
use Rattle.exr_chunks.specs.Heads.{pieces}
use Rattle.exr_chunks.specs.Region.{start_of, end_of}

-- a piece begins within what the pieces cover
pub piece_within : (size length n : ℕ) → 1 ≤ size → n < pieces size length → n * size < length
piece_within size length n some within =
    let whole : pieces size length * size ≤ length + size - 1 = div-mul-le_self (length + size - 1) size in
    let more : (n + 1) * size ≤ pieces size length * size = mul-le (n + 1) size (pieces size length) size (omega arith) (omega arith) in
    omega arith

-- a piece that begins on a side is a side
side_from : (from to : ℤ) (k size : ℕ) → IsSide from to → 1 ≤ size → k < span_of from to → IsSide (from +ℤ pos k) (int_min (from +ℤ pos (k + size - 1)) to)
side_from from to k size side some within =
    let span = span_is from to side.ends in
    let few = side.few in
    let low = side.low in
    let ends : ((from +ℤ pos k) -ℤ pos 1) ≤ℤ int_min (from +ℤ pos (k + size - 1)) to = omega (arith, ints, clamps, within, span, some) in
    let new = span_is (from +ℤ pos k) (int_min (from +ℤ pos (k + size - 1)) to) ends in
    let high : int_min (from +ℤ pos (k + size - 1)) to ≤ℤ to = omega (arith, ints, clamps) in
    record {
      low = omega (arith, ints);
      high = omega (arith, ints, within, span, side.end_high);
      ends = ends;
      end_high = omega (arith, ints, high, side.end_high);
      few = omega (arith, ints, high, new, span, within);
    }

pub piece_side : (from to : ℤ) (size n : ℕ) → IsSide from to → 1 ≤ size → n * size < span_of from to → IsSide (start_of from size n) (end_of from to size n)
piece_side from to size n side some within = side_from from to (n * size) size side some within

-- ---- a place on a side

pub side_to : (from to place : ℤ) → IsSide from to → from ≤ℤ place → place ≤ℤ to → IsSide from place
side_to from to place side low high =
    let a = span_is from place (omega (arith, ints, low)) in
    let b = span_is from to side.ends in
    let few = side.few in
    record {
      low = side.low;
      high = side.high;
      ends = omega (arith, ints, low);
      end_high = omega (arith, ints, high, side.end_high);
      few = omega (arith, ints, a, b, few, high);
    }

pub place_from : (from place : ℤ) (n : ℕ) → from ≤ℤ place → n ≡ span_of from place → place ≡ from +ℤ pos (n - 1)
place_from from place n low is =
    let a = span_is from place (omega (arith, ints, low)) in
    omega (arith, ints, a, is, low)

pub place_before : (from to place : ℤ) (n : ℕ) → IsSide from to → from ≤ℤ place → place ≤ℤ to → n ≡ span_of from place → n - 1 < span_of from to
place_before from to place n side low high is =
    let a = span_is from place (omega (arith, ints, low)) in
    let b = span_is from to side.ends in
    omega (arith, ints, a, b, is, low, high)

-- a place lies so far behind the first in one way only
pub same_offset : (y from : ℤ) (m n size : ℕ) → y ≡ from +ℤ pos m → y ≡ from +ℤ pos n → m % size ≡ 0 → n % size ≡ 0
same_offset y from m n size a b whole =
    let same : m ≡ n = omega (arith, ints, a, b) in
    subst (λ k. k % size ≡ 0) same whole
