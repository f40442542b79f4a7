-- The raw size by lines is the raw size by channels.
use Rattle.std.proofs.Common.{◌≡◌, ◌+◌, ◌*◌, ◌≤◌, ◌^◌, ℕ, zero, suc, pos, ◌+ℤ◌, List, [], ◌∷◌, Bool, true, false, cond, refl, sym, ap, ◌∙◌, arith}
use Rattle.std.specs.List.{sum_by}
use Rattle.std.proofs.lemmas.List.Sums.{sum_by-cons}
use Rattle.std.proofs.lemmas.Nat.{mul-le}
use Rattle.exr_base.specs.declared.shape.Box2i.{Box2i}
use Rattle.exr_base.specs.declared.channel.Channel.{Channel}
use Rattle.exr_base.specs.declared.channel.Kind.{Kind}
use Rattle.exr_base.specs.declared.channel.Kind.TheVariants.{Uint, Half, Float}
use Rattle.exr_base.specs.Channel.{bytes_of}
use Rattle.exr_base.specs.Sampling.{is_multiple, multiples_among, sample_count_of}
use Rattle.exr_base.specs.Shape.{width_of, height_of, row_bytes_of, lines_bytes_of, raw_size_of, channel_bytes_of, IsRegion}
use Rattle.exr_base.proofs.Multiples.{multiples_le}

-- the bytes of one channel on the first n lines
rows_of : Box2i → Channel → ℕ → ℕ
rows_of region c zero = 0
rows_of region c (suc n) = rows_of region c n + row_bytes_of region (region.y0 +ℤ pos n) c

one_more : (b : Bool) (m w k : ℕ) → m * w * k + cond b (m * k) 0 ≡ m * (w + cond b 1 0) * k
one_more true m w k = omega arith
one_more false m w k = omega arith

rows_product : (region : Box2i) (c : Channel) (n : ℕ) → rows_of region c n ≡ multiples_among c.xs region.x0 (width_of region) * multiples_among c.ys region.y0 n * bytes_of c.kind
unfolding rows_of multiples_among
rows_product region c zero = omega arith
rows_product region c (suc n) =
    ap (λ k. k + row_bytes_of region (region.y0 +ℤ pos n) c) (rows_product region c n)
    ∙ one_more (is_multiple c.ys (region.y0 +ℤ pos n)) (multiples_among c.xs region.x0 (width_of region)) (multiples_among c.ys region.y0 n) (bytes_of c.kind)

no_channels : (region : Box2i) (n : ℕ) → lines_bytes_of [] region n ≡ 0
unfolding lines_bytes_of
no_channels region zero = refl
no_channels region (suc n) = ap (λ k. k + 0) (no_channels region n)

first_channel : (region : Box2i) (c : Channel) (cs : List Channel) (n : ℕ) → lines_bytes_of (c ∷ cs) region n ≡ rows_of region c n + lines_bytes_of cs region n
unfolding lines_bytes_of rows_of
first_channel region c cs zero = refl
first_channel region c cs (suc n) =
    let e = first_channel region c cs n in
    let f = sum_by-cons (row_bytes_of region (region.y0 +ℤ pos n)) c cs in
    rw (e, f) (omega arith)

pub by_channels : (region : Box2i) (cs : List Channel) → raw_size_of cs region ≡ sum_by (channel_bytes_of region) cs
by_channels region [] = no_channels region (height_of region)
by_channels region (c ∷ cs) =
    first_channel region c cs (height_of region) ∙ ap (λ k. k + raw_size_of cs region) (rows_product region c (height_of region))
    ∙ ap (λ k. channel_bytes_of region c + k) (by_channels region cs) ∙ sym (sum_by-cons (channel_bytes_of region) c cs)

bytes_few : (kind : Kind) → bytes_of kind ≤ 4
bytes_few Uint = omega arith
bytes_few Half = omega arith
bytes_few Float = omega arith

product_small : (m n k : ℕ) → m ≤ 2 ^ 20 → n ≤ 2 ^ 20 → k ≤ 4 → m * n * k ≤ 2 ^ 42
product_small m n k p q r =
    let h : m * n ≤ 2 ^ 20 * 2 ^ 20 = mul-le m n (2 ^ 20) (2 ^ 20) p q in
    omega (arith, mul-le (m * n) k (2 ^ 20 * 2 ^ 20) 4 h r)

-- a product of the two counts and the bytes of a sample is small
pub channel_small : (region : Box2i) (c : Channel) (a b k : ℕ) → IsRegion region
    → a ≡ sample_count_of c.xs region.x0 region.x1 → b ≡ sample_count_of c.ys region.y0 region.y1 → k ≡ bytes_of c.kind
    → (a * b * k ≤ 2 ^ 42) × (a * b ≤ 2 ^ 40)
channel_small region c a b k sides x y e =
    let m = multiples_le c.xs region.x0 (width_of region) in
    let n = multiples_le c.ys region.y0 (height_of region) in
    let l = bytes_few c.kind in
    let p : a ≤ 2 ^ 20 = omega (arith, sides.columns.few) in
    let q : b ≤ 2 ^ 20 = omega (arith, sides.rows.few) in
    (product_small a b k p q (omega arith), omega (arith, mul-le a b (2 ^ 20) (2 ^ 20) p q))
