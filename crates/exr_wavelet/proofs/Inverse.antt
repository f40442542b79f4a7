-- What was paired, squared or levelled comes back.
use Rattle.std.proofs.Common.{◌≡◌, ℕ, ◌+◌, ◌-◌, ◌/◌, ◌%◌, ◌<◌, ◌≤◌, Bool, true, false, cond, ltb, refl, ap, ◌∙◌, arith}
use Rattle.std.proofs.lemmas.Bool.{ltb-true, ltb-false}
use Rattle.exr_wavelet.specs.declared.pair.Square.{Square}
use Rattle.exr_wavelet.specs.Pair.{above_least, small_pair_of, small_back_of, wrapped_pair_of, wrapped_back_of, pair_of, back_of, square_of, unsquare_of}

-- a word with sign that is less than a quarter of all away from 0
pub record IsNear (a : ℕ) : Type 0 where
  pub word : a < 65536
  pub low : 16384 < above_least a
  pub high : above_least a < 49152

small_back_pair_a : (a b : ℕ) → IsNear a → IsNear b → (small_back_of (small_pair_of a b).0 (small_pair_of a b).1).0 ≡ a
small_back_pair_a a b na nb = omega (arith, na.word, na.low, na.high, nb.word, nb.low, nb.high)

small_back_pair_b : (a b : ℕ) → IsNear a → IsNear b → (small_back_of (small_pair_of a b).0 (small_pair_of a b).1).1 ≡ b
small_back_pair_b a b na nb = omega (arith, small_back_pair_a a b na nb, na.word, nb.word)

wrapped_back_pair_b : (a b : ℕ) → a < 65536 → b < 65536 → (wrapped_back_of (wrapped_pair_of a b).0 (wrapped_pair_of a b).1).1 ≡ b
wrapped_back_pair_b a b sa sb = by_sign (ltb ((a + 32768) % 65536) b) refl
  where
    by_sign : (t : Bool) → ltb ((a + 32768) % 65536) b ≡ t → ((cond t ((((a + 32768) % 65536 + b) / 2 + 32768) % 65536) (((a + 32768) % 65536 + b) / 2)) + 65536 - ((a + 32768) % 65536 + 65536 - b) % 65536 / 2) % 65536 ≡ b
    by_sign true is = let lt : (a + 32768) % 65536 < b = ltb-true _ b is in omega arith
    by_sign false is = let le : b ≤ (a + 32768) % 65536 = ltb-false _ b is in omega arith

wrapped_back_pair_a : (a b : ℕ) → a < 65536 → b < 65536 → (wrapped_back_of (wrapped_pair_of a b).0 (wrapped_pair_of a b).1).0 ≡ a
wrapped_back_pair_a a b sa sb = ap (λ c. (((a + 32768) % 65536 + 65536 - b) % 65536 + c + 32768) % 65536) (wrapped_back_pair_b a b sa sb) ∙ omega arith

-- the words for which the pair step can be undone: those up to max, or all
abbrev pub bound_of : ℕ → ℕ
bound_of max = cond (ltb max 16384) (max + 1) 65536

near_from_small : (max a : ℕ) → max < 16384 → a < max + 1 → IsNear a
near_from_small max a small lt = record { word = omega arith; low = omega arith; high = omega arith }

two_same : {a b : ℕ} {p : ℕ × ℕ} → p.0 ≡ a → p.1 ≡ b → p ≡ (a, b)
two_same e f = λ i. (e i, f i)

pub back_of-pair_of : (max a b : ℕ) → a < bound_of max → b < bound_of max → back_of max (pair_of max a b).0 (pair_of max a b).1 ≡ (a, b)
back_of-pair_of max a b la lb = by_max (ltb max 16384) refl la lb
  where
    by_max : (t : Bool) → ltb max 16384 ≡ t → a < cond t (max + 1) 65536 → b < cond t (max + 1) 65536 → back_of max (pair_of max a b).0 (pair_of max a b).1 ≡ (a, b)
    by_max true is la lb =
        let small : max < 16384 = ltb-true max 16384 is in
        let na = near_from_small max a small la in
        let nb = near_from_small max b small lb in
        rw is (two_same (small_back_pair_a a b na nb) (small_back_pair_b a b na nb))
    by_max false is la lb = rw is (two_same (wrapped_back_pair_a a b la lb) (wrapped_back_pair_b a b la lb))

-- a mean is in the bound again
pub mean_in_bound : (max a b : ℕ) → a < bound_of max → b < bound_of max → (pair_of max a b).0 < bound_of max
mean_in_bound max a b la lb = by_max (ltb max 16384) refl la lb
  where
    by_sign : (t : Bool) → b < 65536 → cond t ((((a + 32768) % 65536 + b) / 2 + 32768) % 65536) (((a + 32768) % 65536 + b) / 2) < 65536
    by_sign true lb = omega arith
    by_sign false lb = omega arith

    by_max : (t : Bool) → ltb max 16384 ≡ t → a < cond t (max + 1) 65536 → b < cond t (max + 1) 65536 → (pair_of max a b).0 < bound_of max
    by_max true is la lb = let small : max < 16384 = ltb-true max 16384 is in rw is (omega arith)
    by_max false is la lb = rw is (by_sign (ltb ((a + 32768) % 65536) b) lb)

-- two differences of words in the bound can be undone too
pub back_of-differences : (max a b c d : ℕ) → a < bound_of max → b < bound_of max → c < bound_of max → d < bound_of max
    → back_of max (pair_of max (pair_of max a b).1 (pair_of max c d).1).0 (pair_of max (pair_of max a b).1 (pair_of max c d).1).1 ≡ ((pair_of max a b).1, (pair_of max c d).1)
back_of-differences max a b c d la lb lc ld = by_max (ltb max 16384) refl la lb lc ld
  where
    near_difference : (a b : ℕ) → max < 16384 → a < max + 1 → b < max + 1 → IsNear ((a + 65536 - b) % 65536)
    near_difference a b small la lb = record { word = omega arith; low = omega arith; high = omega arith }

    by_max : (t : Bool) → ltb max 16384 ≡ t → a < cond t (max + 1) 65536 → b < cond t (max + 1) 65536 → c < cond t (max + 1) 65536 → d < cond t (max + 1) 65536
        → back_of max (pair_of max (pair_of max a b).1 (pair_of max c d).1).0 (pair_of max (pair_of max a b).1 (pair_of max c d).1).1 ≡ ((pair_of max a b).1, (pair_of max c d).1)
    by_max true is la lb lc ld =
        let small : max < 16384 = ltb-true max 16384 is in
        let nh = near_difference a b small la lb in
        let nk = near_difference c d small lc ld in
        rw is (two_same (small_back_pair_a _ _ nh nk) (small_back_pair_b _ _ nh nk))
    by_max false is la lb lc ld = rw is (two_same (wrapped_back_pair_a _ _ (omega arith) (omega arith)) (wrapped_back_pair_b _ _ (omega arith) (omega arith)))

pub record InBound (max : ℕ) (s : Square) : Type 0 where
  pub first : s.first < bound_of max
  pub right : s.right < bound_of max
  pub below : s.below < bound_of max
  pub across : s.across < bound_of max

abbrev pub square : ℕ → ℕ → ℕ → ℕ → Square
square a b c d = record { first = a; right = b; below = c; across = d }

pub unsquare_of-square_of : (max : ℕ) (s : Square) → InBound max s → unsquare_of max (square_of max s) ≡ s
unsquare_of-square_of max s is =
    let top = pair_of max s.first s.right in
    let bottom = pair_of max s.below s.across in
    let left : back_of max (pair_of max top.0 bottom.0).0 (pair_of max top.0 bottom.0).1 ≡ (top.0, bottom.0) = back_of-pair_of max top.0 bottom.0 (mean_in_bound max s.first s.right is.first is.right) (mean_in_bound max s.below s.across is.below is.across) in
    let right : back_of max (pair_of max top.1 bottom.1).0 (pair_of max top.1 bottom.1).1 ≡ (top.1, bottom.1) = back_of-differences max s.first s.right s.below s.across is.first is.right is.below is.across in
    let first : back_of max top.0 top.1 ≡ (s.first, s.right) = back_of-pair_of max s.first s.right is.first is.right in
    let second : back_of max bottom.0 bottom.1 ≡ (s.below, s.across) = back_of-pair_of max s.below s.across is.below is.across in
    (λ i. rows_back max (left i) (right i)) ∙ (λ i. square (first i).0 (first i).1 (second i).0 (second i).1)
  where
    rows_back : ℕ → ℕ × ℕ → ℕ × ℕ → Square
    rows_back max left right = square (back_of max left.0 right.0).0 (back_of max left.0 right.0).1 (back_of max left.1 right.1).0 (back_of max left.1 right.1).1

pub square_mean_in_bound : (max : ℕ) (s : Square) → InBound max s → (square_of max s).first < bound_of max
square_mean_in_bound max s is = mean_in_bound max _ _ (mean_in_bound max s.first s.right is.first is.right) (mean_in_bound max s.below s.across is.below is.across)
