-- Pixels of boxes, and the chunk that has one.
use Rattle.std.proofs.Common.{◌≡◌, ℕ, ◌+◌, ◌*◌, ◌<◌, ◌≤◌, Bool, true, false, List, [], ◌∷◌, length, get_or, Option, Some, None, inl, inr, refl, sym, ap, subst, ◌∙◌, arith, ℤ, pos, ◌+ℤ◌, ◌-ℤ◌, ◌≤ℤ◌, nat_abs}
use Rattle.std.specs.Prelude.{IsSome, MatchOption, ◌&&◌}
use Rattle.std.specs.List.{All, AllWithin}
use Rattle.std.proofs.Math.ListN.{set}
use Rattle.std.proofs.lemmas.Bool.{false≢true, cases_eq}
use Rattle.std.specs.Int.{int_min}
use Rattle.std.proofs.lemmas.Int.{ints, clamps}
use Rattle.std.proofs.lemmas.List.{get_or-map, length-set, get_or-set_same, get_or-set_other}
use Rattle.std.proofs.lemmas.Nat.{mul-le}
use Rattle.exr_base.specs.declared.shape.Box2i.{Box2i}
use Rattle.exr_base.specs.Boxes.{IsWithin}
use Rattle.exr_base.specs.Sampling.{span_of}
use Rattle.exr_base.specs.Shape.{width_of, height_of, IsRegion}
use Rattle.exr_base.proofs.Logic.{true_le}
use Rattle.exr_image.specs.declared.chunk.DeepChunk.{DeepChunk}
use Rattle.exr_image.specs.declared.pixel.Pixel.{Pixel}
use Rattle.exr_image.specs.declared.tally.Tally.{Tally}
use Rattle.exr_image.specs.Image.{HasPixel}
use Rattle.exr_image.specs.Pixel.{row_start, pixel_number}
use Rattle.exr_image.specs.Pieces.{ChunkView, view_of, no_chunk, chunk_at, IsCounted, has_pixel, IsTally, AreTallies}

-- ---- places on a side

steps_more : (from x : ℤ) (i : ℕ) → from ≤ℤ x → nat_abs ((x +ℤ pos i) -ℤ from) ≡ nat_abs (x -ℤ from) + i
steps_more from x i h = omega (arith, ints)

steps_less : (from x to : ℤ) → from ≤ℤ x → x ≤ℤ to → nat_abs (x -ℤ from) < span_of from to
steps_less from x to h k = omega (arith, ints)

before_end : (from x to : ℤ) (i : ℕ) → from ≤ℤ x → (from -ℤ pos 1) ≤ℤ to → nat_abs (x -ℤ from) + i < span_of from to → (x +ℤ pos i) ≤ℤ to
before_end from x to i h k lt = omega (arith, ints)

more : (from x to last : ℤ) (n : ℕ) → from ≤ℤ x → x ≤ℤ last → last ≤ℤ to → n ≡ nat_abs (last -ℤ x) → nat_abs (x -ℤ from) + (n + 1) ≤ span_of from to
more from x to last n h a b count = omega (arith, ints)

up_to : (x end last : ℤ) (n : ℕ) → x ≤ℤ last → last ≤ℤ end → n ≡ nat_abs (last -ℤ x) → (x +ℤ pos (n + 1)) ≤ℤ (end +ℤ pos 1)
up_to x end last n a b count = omega (arith, ints)

pub columns_fit : (from x to : ℤ) (column pixels : ℕ) → (from -ℤ pos 1) ≤ℤ to → x ≡ from +ℤ pos column → (x +ℤ pos pixels) ≤ℤ (to +ℤ pos 1) → column + pixels ≤ span_of from to
columns_fit from x to column pixels k is h = omega (arith, ints)

-- pixels from one to the first end of two
pub row_rest : (from x to end last : ℤ) (n : ℕ) → from ≤ℤ x → x ≤ℤ to → x ≤ℤ end → last ≡ int_min to end → n ≡ nat_abs (last -ℤ x) → nat_abs (x -ℤ from) + (n + 1) ≤ span_of from to
row_rest from x to end last n h k m is count =
    let a : x ≤ℤ last = omega (arith, ints, clamps) in
    let b : last ≤ℤ to = omega (arith, ints, clamps) in
    more from x to last n h a b count

pub window_rest : (x to end last : ℤ) (n : ℕ) → x ≤ℤ to → x ≤ℤ end → last ≡ int_min to end → n ≡ nat_abs (last -ℤ x) → (x +ℤ pos (n + 1)) ≤ℤ (end +ℤ pos 1)
window_rest x to end last n k m is count =
    let a : x ≤ℤ last = omega (arith, ints, clamps) in
    let b : last ≤ℤ end = omega (arith, ints, clamps) in
    up_to x end last n a b count

pub within_more : (region : Box2i) (x y : ℤ) (i : ℕ) → IsRegion region → IsWithin region x y → nat_abs (x -ℤ region.x0) + i < width_of region → IsWithin region (x +ℤ pos i) y
within_more region x y i sides is lt = record {
  left = let h = is.left in omega (arith, ints);
  right = before_end region.x0 x region.x1 i is.left sides.columns.ends lt;
  top = is.top;
  bottom = is.bottom;
}

pub number_more : (region : Box2i) (x y : ℤ) (i : ℕ) → region.x0 ≤ℤ x → pixel_number region (x +ℤ pos i) y ≡ pixel_number region x y + i
number_more region x y i h =
    let e = steps_more region.x0 x i h in
    let start = row_start region y in
    ap (λ n. start + n) e ∙ (let f : start + (nat_abs (x -ℤ region.x0) + i) ≡ start + nat_abs (x -ℤ region.x0) + i = omega arith in f)

pub column_less : (region : Box2i) (x y : ℤ) → IsWithin region x y → nat_abs (x -ℤ region.x0) < width_of region
column_less region x y is = steps_less region.x0 x region.x1 is.left is.right

-- ---- rows of a chunk

row_room : (j width rows long : ℕ) → j < rows → long ≡ rows * width → j * width + width ≤ long
row_room j width rows long lt is = let h : (j + 1) * width ≤ rows * width = mul-le (j + 1) width rows width (omega arith) (omega arith) in omega arith

pub row_within : (chunk : ChunkView) (x y : ℤ) → IsCounted chunk → IsWithin chunk.region x y → row_start chunk.region y + width_of chunk.region ≤ length chunk.content.counts
row_within chunk x y counted is =
    row_room (nat_abs (y -ℤ chunk.region.y0)) (width_of chunk.region) (height_of chunk.region) (length chunk.content.counts)
    (steps_less chunk.region.y0 y chunk.region.y1 is.top is.bottom) counted.long

-- ---- chunks of a list

item_of : {X : Type 0} (xs : List X) (n : ℕ) → n < length xs → X
item_of [] n h = absurd (omega (arith, h))
item_of (x ∷ xs) n h = x

pub at_is : (chunks : List DeepChunk) (number : ℕ) (chunk : DeepChunk) → number < length chunks → chunk ≡ get_or chunks number chunk → view_of chunk ≡ chunk_at chunks number
unfolding chunk_at
at_is chunks number chunk there is = ap view_of is ∙ sym (get_or-map view_of chunks number chunk no_chunk there)

pub at_chunk : (P : ChunkView → Type 0) (chunks : List DeepChunk) → All (λ chunk. P (view_of chunk)) chunks → (number : ℕ) → number < length chunks → P (chunk_at chunks number)
unfolding chunk_at
at_chunk P chunks all number there =
    let d = item_of chunks number there in
    subst P (sym (get_or-map view_of chunks number d no_chunk there)) (all number d there)

-- ---- the chunk that has a pixel

four : (a b d e : Bool) → a ≡ true → b ≡ true → d ≡ true → e ≡ true → ((a && b) && (d && e)) ≡ true
four a b d e p q r s = rw (p, q, r, s) refl

pub within_has : (region : Box2i) (pixel : Pixel) → IsWithin region pixel.x pixel.y → has_pixel region pixel ≡ true
within_has region pixel is =
    four _ _ _ _ (true_le region.x0 pixel.x is.left) (true_le pixel.x region.x1 is.right) (true_le region.y0 pixel.y is.top) (true_le pixel.y region.y1 is.bottom)

pub found_some : (chunks : List DeepChunk) (pixel : Pixel) (r : Option ℕ) → HasPixel chunks pixel.x pixel.y
    → MatchOption r (AllWithin (λ chunk. has_pixel chunk.region pixel ≡ false) chunks 0 (length chunks)) (λ number. number < length chunks) → IsSome r
found_some chunks pixel (Some n) has found = refl
found_some chunks pixel None has none =
    let d = item_of chunks has.number has.there in
    absurd (false≢true (sym (none has.number d (omega arith) has.there) ∙ within_has (get_or chunks has.number d).region pixel (has.has d)))

-- ---- tallies

pub tallies_set : (chunks : List DeepChunk) (tallies : List Tally) (number : ℕ) (tally : Tally) → AreTallies chunks tallies → number < length chunks → IsTally (chunk_at chunks number).content.counts tally → AreTallies chunks (set tallies number tally)
tallies_set chunks tallies number tally are there is = record {
  many = length-set tallies number tally ∙ are.many;
  each = λ k d lt. elim (cases_eq k number) [
    | inl same ↦
        let here : get_or (set tallies number tally) k d ≡ tally = ap (λ n. get_or (set tallies number tally) n d) same ∙ get_or-set_same tallies number tally d (let m = are.many in omega (arith, m, there)) in
        subst (λ (n : ℕ). IsTally (chunk_at chunks n).content.counts (get_or (set tallies number tally) k d)) (sym same)
        (subst (λ (t : Tally). IsTally (chunk_at chunks number).content.counts t) (sym here) is)
    | inr other ↦
        subst (λ (t : Tally). IsTally (chunk_at chunks k).content.counts t) (sym (get_or-set_other tallies number k tally d other)) (are.each k d lt)
  ];
}

pub fresh_tallies : (chunks : List DeepChunk) (tallies new : List Tally) → new ≡ tallies → length tallies ≡ length chunks → All (λ tally. (counts : List ℕ) → IsTally counts tally) tallies → AreTallies chunks new
fresh_tallies chunks tallies new same many each =
    subst (AreTallies chunks) (sym same) (record {
      many = many;
      each = λ number d lt. each number d (omega (arith, many, lt)) (chunk_at chunks number).content.counts;
    })
