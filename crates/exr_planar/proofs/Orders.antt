-- The rows of a region's channels stand in raw data line by line, in planar data channel by channel.
use Rattle.std.proofs.Common.{◌≡◌, ◌+◌, ◌*◌, ◌<◌, ◌≤◌, ◌^◌, ℕ, suc, ℤ, pos, ◌+ℤ◌, ◌-ℤ◌, nat_abs, List, length, take, drop, Bool, true, false, cond, refl, sym, ap, ap₂, ◌∙◌, arith}
use Rattle.std.specs.List.{sum_by}
use Rattle.std.proofs.lemmas.List.{take_all}
use Rattle.std.proofs.lemmas.List.Sums.{sum_by_more}
use Rattle.std.proofs.lemmas.Nat.{mul-le}
use Rattle.std.proofs.lemmas.Int.{ints}
use Rattle.exr_base.specs.declared.shape.Box2i.{Box2i}
use Rattle.exr_base.specs.declared.channel.Channel.{Channel}
use Rattle.exr_base.specs.declared.channel.Kind.{Kind}
use Rattle.exr_base.specs.declared.channel.Kind.TheVariants.{Uint, Half, Float}
use Rattle.exr_base.specs.Channel.{bytes_of, no_channel, channel_at}
use Rattle.exr_base.specs.Sampling.{is_multiple, multiples_among, count_before, sample_count_of, span_of}
use Rattle.exr_base.specs.Shape.{width_of, height_of, row_bytes_of, lines_bytes_of, raw_size_of, channel_bytes_of, IsRegion}
use Rattle.exr_base.proofs.Multiples.{multiples_le}
use Rattle.exr_base.proofs.RawSize.{by_channels}
use Rattle.exr_planar.specs.Planar.{above_bytes_of, planar_place_of, row_of, planar_row_of}
use Rattle.exr_planar.specs.Moving.{rows_at}
use Rattle.exr_planar.specs.declared.rows.Rows.{Rows}
use Rattle.exr_planar.proofs.Grid.{IsGrid, cut, swapped}

bytes_few : (kind : Kind) → bytes_of kind ≤ 4
bytes_few Uint = omega arith
bytes_few Half = omega arith
bytes_few Float = omega arith

-- how large the sizes are
pub row_small : (region : Box2i) (c : Channel) (a k : ℕ) → IsRegion region → a ≡ sample_count_of c.xs region.x0 region.x1 → k ≡ bytes_of c.kind → a * k ≤ 2 ^ 22
row_small region c a k sides x e =
    let m = multiples_le c.xs region.x0 (width_of region) in
    let l = bytes_few c.kind in
    let few = sides.columns.few in
    let p : a ≤ 2 ^ 20 = omega arith in
    omega (arith, mul-le a k (2 ^ 20) 4 p (omega arith))

pub rows_small : (s : ℕ) (from : ℤ) (n row b : ℕ) → row ≤ 2 ^ 22 → n ≤ 2 ^ 20 → b ≡ multiples_among s from n → row * b ≤ 2 ^ 42
rows_small s from n row b small few e =
    let m = multiples_le s from n in
    omega (arith, mul-le row b (2 ^ 22) (2 ^ 20) small (omega arith))

lines_few : (region : Box2i) (n : ℕ) (y : ℤ) → IsRegion region → n < height_of region → y ≡ region.y0 +ℤ pos n → nat_abs (y -ℤ region.y0) ≤ 2 ^ 20
lines_few region n y sides lt at = let few = sides.rows.few in omega (arith, ints)

pub above_small : (region : Box2i) (s n row b : ℕ) (y : ℤ) → IsRegion region → n < height_of region → y ≡ region.y0 +ℤ pos n → row ≤ 2 ^ 22 → b ≡ count_before s region.y0 y → row * b ≤ 2 ^ 42
above_small region s n row b y sides lt at small e = rows_small s region.y0 (nat_abs (y -ℤ region.y0)) row b small (lines_few region n y sides lt at) e

-- ---- the sizes of a channel's rows

here_is : (s row : ℕ) (y : ℤ) → row * multiples_among s y 1 ≡ cond (is_multiple s y) row 0
unfolding multiples_among
here_is s row y =
    let e : y +ℤ pos 0 ≡ y = omega (arith, ints) in
    ap (λ (z : ℤ). row * (0 + cond (is_multiple s z) 1 0)) e ∙ of (is_multiple s y)
  where
    of : (b : Bool) → row * (0 + cond b 1 0) ≡ cond b row 0
    of true = omega arith
    of false = omega arith

pub one_line : (s n : ℕ) (from to y : ℤ) → n ≡ sample_count_of s from to → from ≡ y → to ≡ y → n ≡ multiples_among s y 1
one_line s n from to y e f g =
    let one : span_of from to ≡ 1 = omega (arith, ints) in
    e ∙ ap (λ (z : ℤ). multiples_among s z (span_of from to)) f ∙ ap (multiples_among s y) one

swap_last : (a b k : ℕ) → a * k * b ≡ a * b * k
swap_last a b k = omega arith

pub rows_are : (region : Box2i) (c : Channel) (n a k here above all : ℕ) (y : ℤ) → y ≡ region.y0 +ℤ pos n → a ≡ sample_count_of c.xs region.x0 region.x1 → k ≡ bytes_of c.kind
    → here ≡ multiples_among c.ys y 1 → above ≡ count_before c.ys region.y0 y → all ≡ sample_count_of c.ys region.y0 region.y1
    → (let whole : Rows = record { here = a * k * here; above = a * k * above; all = a * k * all } in whole) ≡ rows_at region n c
rows_are region c n a k here above all y at x f g h i =
    let row : a * k ≡ sample_count_of c.xs region.x0 region.x1 * bytes_of c.kind = ap₂ (λ (a k : ℕ). a * k) x f in
    let first : a * k * here ≡ row_bytes_of region (region.y0 +ℤ pos n) c =
    ap₂ (λ (r h : ℕ). r * h) row g
    ∙ here_is c.ys (sample_count_of c.xs region.x0 region.x1 * bytes_of c.kind) y
    ∙ ap (λ (y : ℤ). row_bytes_of region y c) at in
    let second : a * k * above ≡ above_bytes_of region (region.y0 +ℤ pos n) c =
    ap₂ (λ (r h : ℕ). r * h) row h
    ∙ swap_last (sample_count_of c.xs region.x0 region.x1) (count_before c.ys region.y0 y) (bytes_of c.kind)
    ∙ ap (λ (y : ℤ). above_bytes_of region y c) at in
    let third : a * k * all ≡ channel_bytes_of region c =
    ap₂ (λ (r h : ℕ). r * h) row i ∙ swap_last (sample_count_of c.xs region.x0 region.x1) (sample_count_of c.ys region.y0 region.y1) (bytes_of c.kind) in
    cc

-- ---- the two orders

abbrev pub row_size : List Channel → Box2i → ℕ → ℕ → ℕ
row_size channels region n c = row_bytes_of region (region.y0 +ℤ pos n) (channel_at channels c)

abbrev pub raw_place : List Channel → Box2i → ℕ → ℕ → ℕ
raw_place channels region n c = lines_bytes_of channels region n + sum_by (row_bytes_of region (region.y0 +ℤ pos n)) (take c channels)

abbrev pub plane_place : List Channel → Box2i → ℕ → ℕ → ℕ
plane_place channels region c n = planar_place_of channels region c (region.y0 +ℤ pos n)

pub lines_none : (channels : List Channel) (region : Box2i) → lines_bytes_of channels region 0 ≡ 0
unfolding lines_bytes_of
lines_none channels region = refl

pub lines_suc : (channels : List Channel) (region : Box2i) (n : ℕ) → lines_bytes_of channels region (suc n) ≡ lines_bytes_of channels region n + sum_by (row_bytes_of region (region.y0 +ℤ pos n)) channels
unfolding lines_bytes_of
lines_suc channels region n = refl

sums_more : (size : Channel → ℕ) (channels : List Channel) (c : ℕ) → c < length channels → sum_by size (take c channels) + size (channel_at channels c) ≡ sum_by size (take (suc c) channels)
sums_more size channels c lt =
    let e : c + 1 ≡ suc c = omega arith in
    sym (ap (λ n. sum_by size (take n channels)) (sym e) ∙ sum_by_more size channels c no_channel lt)

pub raw_grid : (channels : List Channel) (region : Box2i) → IsGrid (height_of region) (length channels) (row_size channels region) (raw_place channels region)
raw_grid channels region = record {
  begins = let e = lines_none channels region in omega arith;
  steps = λ n c lt lt₂. let e = sums_more (row_bytes_of region (region.y0 +ℤ pos n)) channels c lt₂ in omega arith;
  turns = λ n lt.
      let e = lines_suc channels region n in
      let f = ap (sum_by (row_bytes_of region (region.y0 +ℤ pos n))) (take_all (length channels) channels (omega arith)) in
      omega arith;
}

lines_down : (y : ℤ) (n : ℕ) → nat_abs ((y +ℤ pos n) -ℤ y) ≡ n
lines_down y n = omega (arith, ints)

-- the bytes above a line, by its number
above_is : (region : Box2i) (c : Channel) (n : ℕ) → above_bytes_of region (region.y0 +ℤ pos n) c ≡ multiples_among c.xs region.x0 (width_of region) * multiples_among c.ys region.y0 n * bytes_of c.kind
above_is region c n = ap (λ k. multiples_among c.xs region.x0 (width_of region) * multiples_among c.ys region.y0 k * bytes_of c.kind) (lines_down region.y0 n)

pub above_none : (region : Box2i) (c : Channel) → above_bytes_of region (region.y0 +ℤ pos 0) c ≡ 0
unfolding multiples_among
above_none region c = above_is region c 0 ∙ none (multiples_among c.xs region.x0 (width_of region)) (bytes_of c.kind)
  where
    none : (a k : ℕ) → a * 0 * k ≡ 0
    none a k = omega arith

one_more : (b : Bool) (m w k : ℕ) → m * w * k + cond b (m * k) 0 ≡ m * (w + cond b 1 0) * k
one_more true m w k = omega arith
one_more false m w k = omega arith

above_more : (region : Box2i) (c : Channel) (n : ℕ) → above_bytes_of region (region.y0 +ℤ pos n) c + row_bytes_of region (region.y0 +ℤ pos n) c ≡ above_bytes_of region (region.y0 +ℤ pos (suc n)) c
unfolding multiples_among
above_more region c n =
    ap (λ k. k + row_bytes_of region (region.y0 +ℤ pos n) c) (above_is region c n)
    ∙ one_more (is_multiple c.ys (region.y0 +ℤ pos n)) (multiples_among c.xs region.x0 (width_of region)) (multiples_among c.ys region.y0 n) (bytes_of c.kind)
    ∙ sym (above_is region c (suc n))

pub planar_grid : (channels : List Channel) (region : Box2i) → IsGrid (length channels) (height_of region) (swapped (row_size channels region)) (plane_place channels region)
planar_grid channels region = record {
  begins = let e = above_none region (channel_at channels 0) in omega arith;
  steps = λ c n lt lt₂. let e = above_more region (channel_at channels c) n in omega arith;
  turns = λ c lt.
      let e = above_is region (channel_at channels c) (height_of region) in
      let f = sums_more (channel_bytes_of region) channels c lt in
      let g = above_none region (channel_at channels (suc c)) in
      omega arith;
}

-- both have the raw size
pub raw_whole : (channels : List Channel) (region : Box2i) → raw_place channels region (height_of region) 0 ≡ raw_size_of channels region
raw_whole channels region = omega arith

pub planar_whole : (channels : List Channel) (region : Box2i) → plane_place channels region (length channels) 0 ≡ raw_size_of channels region
planar_whole channels region =
    let e = above_none region (channel_at channels (length channels)) in
    let f = ap (sum_by (channel_bytes_of region)) (take_all (length channels) channels (omega arith)) in
    let g = by_channels region channels in
    omega arith

-- a row is what stands at its place
pub row_is : (channels : List Channel) (region : Box2i) (raw : List ℕ) (c n : ℕ) → row_of channels region raw c (region.y0 +ℤ pos n) ≡ cut (row_size channels region) (raw_place channels region) raw n c
unfolding row_of
row_is channels region raw c n =
    ap (λ k. take (row_size channels region n c) (drop (lines_bytes_of channels region k + sum_by (row_bytes_of region (region.y0 +ℤ pos n)) (take c channels)) raw)) (lines_down region.y0 n)

pub planar_row_is : (channels : List Channel) (region : Box2i) (planar : List ℕ) (c n : ℕ) → planar_row_of channels region planar c (region.y0 +ℤ pos n) ≡ cut (swapped (row_size channels region)) (plane_place channels region) planar c n
unfolding planar_row_of
planar_row_is channels region planar c n = refl
