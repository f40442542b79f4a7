-- Sums of the first counts, and of those from one to another.
use Rattle.std.proofs.Common.{◌≡◌, ℕ, ◌+◌, ◌-◌, ◌*◌, ◌^◌, ◌≤◌, List, length, take, drop, ap, ◌∙◌, arith}
use Rattle.std.specs.List.{sum}
use Rattle.std.proofs.Math.Seq.{take-add}
use Rattle.std.proofs.lemmas.List.{drop-drop}
use Rattle.std.proofs.lemmas.List.Sums.{sum_by-append, sum_by-take-le}
use Rattle.std.proofs.lemmas.Nat.{mul-le}
use Rattle.exr_image.specs.declared.tally.Tally.{Tally}
use Rattle.exr_image.specs.Pixel.{samples_between}
use Rattle.exr_image.specs.Pieces.{IsTally}

taken_more : (counts : List ℕ) (a b : ℕ) → sum (take (a + b) counts) ≡ sum (take a counts) + sum (take b (drop a counts))
taken_more counts a b = ap sum (take-add a b counts) ∙ sum_by-append (λ x. x) (take a counts) (take b (drop a counts))

pub from_start : (counts : List ℕ) (a b : ℕ) → a ≤ b → sum (take b counts) ≡ sum (take a counts) + samples_between counts a b
from_start counts a b h =
    let e : b ≡ a + (b - a) = omega arith in
    ap (λ n. sum (take n counts)) e ∙ taken_more counts a (b - a)

pub between_more : (counts : List ℕ) (a b d : ℕ) → a ≤ b → b ≤ d → samples_between counts a d ≡ samples_between counts a b + samples_between counts b d
between_more counts a b d p q =
    let e : d - a ≡ (b - a) + (d - b) = omega arith in
    let f : a + (b - a) ≡ b = omega arith in
    ap (λ n. sum (take n (drop a counts))) e
    ∙ taken_more (drop a counts) (b - a) (d - b)
    ∙ ap (λ (l : List ℕ). samples_between counts a b + sum (take (d - b) l)) (drop-drop (b - a) a counts ∙ ap (λ n. drop n counts) f)

-- so many pixels from number a on
pub between_first : (counts : List ℕ) (a n : ℕ) → samples_between counts a (a + n) ≡ sum (take n (drop a counts))
between_first counts a n = let e : a + n - a ≡ n = omega arith in ap (λ k. sum (take k (drop a counts))) e

pub first_le : (counts : List ℕ) (a b : ℕ) → a ≤ b → sum (take a counts) + samples_between counts a b ≤ sum counts
first_le counts a b h = let e = from_start counts a b h in let le = sum_by-take-le (λ x. x) counts b in omega arith

-- ---- tallies

pub passed : (counts : List ℕ) (tally : Tally) (to more : ℕ) → IsTally counts tally → tally.pixels ≤ to → to ≤ length counts → more ≡ samples_between counts tally.pixels to → more ≤ (to - tally.pixels) * 2 ^ 32
    → IsTally counts (record { pixels = to; samples = tally.samples + more })
passed counts tally to more is forward within counted small = record {
  within = within;
  counted = (let e = from_start counts tally.pixels to forward in let a = is.counted in let r : tally.samples + more ≡ sum (take to counts) = omega arith in r);
  small = (let a = is.small in omega arith);
}

-- ---- bytes of samples

pub bytes_fit : (above row left samples all earlier own total long : ℕ) → above + row ≤ total → left + samples ≤ row → earlier + own ≤ all → long ≡ total * all
    → above * all + row * earlier + left * own + samples * own ≤ long
bytes_fit above row left samples all earlier own total long in_all in_row in_sample is =
    let a : (left + samples) * own ≤ row * own = mul-le (left + samples) own row own in_row (omega arith) in
    let b : row * (earlier + own) ≤ row * all = mul-le row (earlier + own) row all (omega arith) in_sample in
    let d : (above + row) * all ≤ total * all = mul-le (above + row) all total all in_all (omega arith) in
    omega arith
