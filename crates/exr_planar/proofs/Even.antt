-- Samples have 2 or 4 bytes, so the rows of planar data begin at even places and have even sizes.
use Rattle.std.proofs.Common.{◌≡◌, ◌+◌, ◌*◌, ◌/◌, ◌%◌, ℕ, ℤ, List, [], ◌∷◌, Bool, true, false, cond, take, refl, sym, subst, arith}
use Rattle.std.specs.List.{sum_by}
use Rattle.std.proofs.lemmas.List.Sums.{sum_by-cons}
use Rattle.exr_base.specs.declared.shape.Box2i.{Box2i}
use Rattle.exr_base.specs.declared.channel.Channel.{Channel}
use Rattle.exr_base.specs.declared.channel.Kind.{Kind}
use Rattle.exr_base.specs.declared.channel.Kind.TheVariants.{Uint, Half, Float}
use Rattle.exr_base.specs.Channel.{bytes_of, channel_at}
use Rattle.exr_base.specs.Sampling.{is_multiple, multiples_among, count_before}
use Rattle.exr_base.specs.Shape.{width_of, height_of, row_bytes_of, channel_bytes_of}
use Rattle.exr_planar.specs.Planar.{above_bytes_of, plane_place_of, planar_place_of}

twice : (kind : Kind) → bytes_of kind ≡ 2 * (bytes_of kind / 2)
twice Uint = refl
twice Half = refl
twice Float = refl

twice_even : (a h : ℕ) → (a * (2 * h)) % 2 ≡ 0
twice_even a h = let e : a * (2 * h) ≡ 2 * (a * h) = omega arith in omega arith

sum_even : (a b : ℕ) → a % 2 ≡ 0 → b % 2 ≡ 0 → (a + b) % 2 ≡ 0
sum_even a b first other = omega arith

-- any number of samples
samples_even : (a : ℕ) (kind : Kind) → (a * bytes_of kind) % 2 ≡ 0
samples_even a kind = subst (λ (k : ℕ). (a * k) % 2 ≡ 0) (sym (twice kind)) (twice_even a (bytes_of kind / 2))

pub row_even : (region : Box2i) (y : ℤ) (c : Channel) → row_bytes_of region y c % 2 ≡ 0
row_even region y c = of (is_multiple c.ys y)
  where
    of : (b : Bool) → cond b (multiples_among c.xs region.x0 (width_of region) * bytes_of c.kind) 0 % 2 ≡ 0
    of true = samples_even (multiples_among c.xs region.x0 (width_of region)) c.kind
    of false = refl

channel_even : (region : Box2i) (c : Channel) → channel_bytes_of region c % 2 ≡ 0
channel_even region c = samples_even (multiples_among c.xs region.x0 (width_of region) * multiples_among c.ys region.y0 (height_of region)) c.kind

above_even : (region : Box2i) (y : ℤ) (c : Channel) → above_bytes_of region y c % 2 ≡ 0
above_even region y c = samples_even (multiples_among c.xs region.x0 (width_of region) * count_before c.ys region.y0 y) c.kind

channels_even : (region : Box2i) (channels : List Channel) → sum_by (channel_bytes_of region) channels % 2 ≡ 0
channels_even region [] = refl
channels_even region (c ∷ cs) =
    let total = sum_by-cons (channel_bytes_of region) c cs in
    let first = channel_even region c in
    let others = channels_even region cs in
    subst (λ (n : ℕ). n % 2 ≡ 0) (sym total) (sum_even (channel_bytes_of region c) (sum_by (channel_bytes_of region) cs) first others)

pub place_even : (channels : List Channel) (region : Box2i) (c : ℕ) (y : ℤ) → planar_place_of channels region c y % 2 ≡ 0
place_even channels region c y =
    sum_even (plane_place_of channels region c) (above_bytes_of region y (channel_at channels c)) (channels_even region (take c channels)) (above_even region y (channel_at channels c))
