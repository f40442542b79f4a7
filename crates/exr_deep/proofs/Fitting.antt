-- Content that can be stored.
use Rattle.std.proofs.Common.{◌≡◌, ℕ, ◌*◌, ◌^◌, Bool, true, false, eqb, leb, ◌&&◌, List, length, refl, ap, ◌∙◌}
use Rattle.std.proofs.lemmas.Bool.{eq-eqb, ne_eqb}
use Rattle.std.proofs.lemmas.List.FromFn.{length-map-range_with_len}
use Rattle.exr_rle.specs.Unpacked.{raw_at, Unpacks}
use Rattle.exr_base.specs.declared.shape.Box2i.{Box2i}
use Rattle.exr_base.specs.declared.channel.Channel.{Channel}
use Rattle.exr_base.specs.Shape.{width_of}
use Rattle.exr_deep.specs.Body.{DeepContent}
use Rattle.exr_deep.specs.Deep.{fits, are_ints, pixels_of, samples_size_of}

all_of : (a b d e f : Bool) → a ≡ true → b ≡ true → (a && b && d && e && f) ≡ (d && e && f)
all_of a b d e f x y = rw (x, y) refl

not_first : (a b d e f : Bool) → a ≡ false → (a && b && d && e && f) ≡ false
not_first a b d e f x = rw x refl

not_second : (a b d e f : Bool) → a ≡ true → b ≡ false → (a && b && d && e && f) ≡ false
not_second a b d e f x y = rw (x, y) refl

pub not_counts : (channels : List Channel) (region : Box2i) (content : DeepContent) → (length content.counts ≡ pixels_of region → ⊥) → fits channels region content ≡ false
unfolding fits
not_counts channels region content other = not_first _ _ _ _ _ (ne_eqb (length content.counts) (pixels_of region) other)

pub not_ints_fit : (channels : List Channel) (region : Box2i) (content : DeepContent) → length content.counts ≡ pixels_of region → are_ints (width_of region) content.counts ≡ false → fits channels region content ≡ false
unfolding fits
not_ints_fit channels region content long are = not_second _ _ _ _ _ (eq-eqb (length content.counts) (pixels_of region) long) are

pub fits_by_sizes : (channels : List Channel) (region : Box2i) (content : DeepContent) → length content.counts ≡ pixels_of region → are_ints (width_of region) content.counts ≡ true
    → fits channels region content ≡ ((eqb (length content.samples) (samples_size_of channels content.counts) && leb (4 * pixels_of region) (2 ^ 26)) && leb (length content.samples) (2 ^ 26))
unfolding fits
fits_by_sizes channels region content long are = all_of _ _ _ _ _ (eq-eqb (length content.counts) (pixels_of region) long) are

pub same_sizes : {p q a b x y : ℕ} → p ≡ q → a ≡ b → x ≡ y → ((eqb a x && leb (4 * p) (2 ^ 26)) && leb a (2 ^ 26)) ≡ ((eqb b y && leb (4 * q) (2 ^ 26)) && leb b (2 ^ 26))
same_sizes pixels said computed = λ i. ((eqb (said i) (computed i) && leb (4 * pixels i) (2 ^ 26)) && leb (said i) (2 ^ 26))

-- what run lengths stand for has the size that was asked for
pub run_lengths_size : {packed : List ℕ} (raw : List ℕ) (count : ℕ) → Unpacks packed count raw → length raw ≡ count
run_lengths_size raw count is = ap length is.restored ∙ length-map-range_with_len (raw_at is.bytes) 0 (length is.bytes) ∙ is.counted
