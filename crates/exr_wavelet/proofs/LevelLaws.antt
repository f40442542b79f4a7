-- A level of words that agree, and a level undone.
use Rattle.std.proofs.Common.{◌≡◌, ◌≢◌, ℕ, ◌+◌, ◌*◌, ◌/◌, ◌%◌, ◌<◌, ◌≤◌, inl, inr, Bool, true, false, ◌&&◌, eqb, leb, refl, sym, ap, subst, ◌∙◌, arith}
use Rattle.std.proofs.lemmas.Bool.{cases_eq, eq-eqb, ne_eqb, eqb-true, leb-true, le-leb}
use Rattle.exr_wavelet.specs.declared.pair.Square.{Square}
use Rattle.exr_wavelet.specs.declared.pair.Way.{Way}
use Rattle.exr_wavelet.specs.declared.pair.Way.TheVariants.{Encode, Decode}
use Rattle.exr_wavelet.specs.Pair.{pair_of, back_of, square_of, unsquare_of, pair_by, square_by}
use Rattle.exr_wavelet.specs.Level.{Matrix, square_at, put_square, put_column, put_line, start_of, is_whole, is_odd_end, level_by, wave_level_of, unwave_level_of}
use Rattle.exr_wavelet.proofs.Levels.{put_square_same, put_line_same, put_column_same, square_same, pair_same, start_at}
use Rattle.exr_wavelet.proofs.Inverse.{bound_of, back_of-pair_of, mean_in_bound, InBound, unsquare_of-square_of, square_mean_in_bound}

-- two matrices have the same words in their columns and lines
abbrev pub Agrees : ℕ → ℕ → Matrix → Matrix → Type 0
Agrees nx ny M N = (x y : ℕ) → x < nx → y < ny → M x y ≡ N x y

pub level_agrees : (way : Way) (max nx ny p : ℕ) (M N : Matrix) → 1 ≤ p → Agrees nx ny M N → Agrees nx ny (level_by way max nx ny p M) (level_by way max nx ny p N)
level_agrees way max nx ny p M N some agree x y x_in y_in = by_tests (is_whole p nx x) (is_whole p ny y) refl refl (is_odd_end p nx x) (is_odd_end p ny y) refl refl
  where
    by_tests : (wx wy : Bool) → is_whole p nx x ≡ wx → is_whole p ny y ≡ wy → (ox oy : Bool) → is_odd_end p nx x ≡ ox → is_odd_end p ny y ≡ oy → level_by way max nx ny p M x y ≡ level_by way max nx ny p N x y
    by_tests true true ex ey ox oy dx dy =
        let fx : start_of p x + 2 * p ≤ nx = leb-true _ nx ex in
        let fy : start_of p y + 2 * p ≤ ny = leb-true _ ny ey in
        let x0 = start_of p x in
        let y0 = start_of p y in
        rw (ex, ey) (put_square_same M N x0 y0 p _ _ x y
        (square_same way max M N x0 y0 p (agree x0 y0 (omega arith) (omega arith)) (agree (x0 + p) y0 (omega arith) (omega arith)) (agree x0 (y0 + p) (omega arith) (omega arith)) (agree (x0 + p) (y0 + p) (omega arith) (omega arith)))
        (agree x y x_in y_in))
    by_tests true false ex ey ox true dx dy =
        let fx : start_of p x + 2 * p ≤ nx = leb-true _ nx ex in
        let x0 = start_of p x in
        rw (ex, ey, dy) (put_line_same M N x0 y p _ _ x y (pair_same way max _ _ _ _ (agree x0 y (omega arith) y_in) (agree (x0 + p) y (omega arith) y_in)) (agree x y x_in y_in))
    by_tests true false ex ey ox false dx dy = rw (ex, ey, dy) (agree x y x_in y_in)
    by_tests false true ex ey true oy dx dy =
        let fy : start_of p y + 2 * p ≤ ny = leb-true _ ny ey in
        let y0 = start_of p y in
        rw (ex, ey, dx) (put_column_same M N x y0 p _ _ x y (pair_same way max _ _ _ _ (agree x y0 x_in (omega arith)) (agree x (y0 + p) x_in (omega arith))) (agree x y x_in y_in))
    by_tests false true ex ey false oy dx dy = rw (ex, ey, dx) (agree x y x_in y_in)
    by_tests false false ex ey true oy dx dy = rw (ex, ey, dx) (agree x y x_in y_in)
    by_tests false false ex ey false oy dx dy = rw (ex, ey, dx) (agree x y x_in y_in)

-- ---- what is put and put back

-- the starts of a part's two places
start_of_start : (p k : ℕ) → 1 ≤ p → start_of p (start_of p k) ≡ start_of p k
start_of_start p k some = start_at p (start_of p k) (k / (2 * p)) some (omega arith) (omega arith)

start_of_end : (p k : ℕ) → 1 ≤ p → start_of p (start_of p k + p) ≡ start_of p k
start_of_end p k some = start_at p (start_of p k + p) (k / (2 * p)) some (omega arith) (omega arith)

whole_by_start : (p side a b : ℕ) → start_of p a ≡ start_of p b → is_whole p side a ≡ is_whole p side b
whole_by_start p side a b same = ap (λ s. leb (s + 2 * p) side) same

square_put_back : (L W : Matrix) (x0 y0 p : ℕ) (s : Square) (x y : ℕ) → L x y ≡ put_square W x0 y0 p s x y → put_square L x0 y0 p (square_at W x0 y0 p) x y ≡ W x y
square_put_back L W x0 y0 p s x y was = elim (cases_eq y y0) [
  | inl line ↦ elim (cases_eq x x0) [
    | inl column ↦ rw (eq-eqb y y0 line, eq-eqb x x0 column) (λ i. W (sym column i) (sym line i))
    | inr column ↦ elim (cases_eq x (x0 + p)) [
      | inl end ↦ rw (eq-eqb y y0 line, ne_eqb x x0 column, eq-eqb x (x0 + p) end) (λ i. W (sym end i) (sym line i))
      | inr end ↦ rw (eq-eqb y y0 line, ne_eqb x x0 column, ne_eqb x (x0 + p) end) (was ∙ rw (eq-eqb y y0 line, ne_eqb x x0 column, ne_eqb x (x0 + p) end) refl)
    ]
  ]
  | inr line ↦ elim (cases_eq y (y0 + p)) [
    | inl under ↦ elim (cases_eq x x0) [
      | inl column ↦ rw (ne_eqb y y0 line, eq-eqb y (y0 + p) under, eq-eqb x x0 column) (λ i. W (sym column i) (sym under i))
      | inr column ↦ elim (cases_eq x (x0 + p)) [
        | inl end ↦ rw (ne_eqb y y0 line, eq-eqb y (y0 + p) under, ne_eqb x x0 column, eq-eqb x (x0 + p) end) (λ i. W (sym end i) (sym under i))
        | inr end ↦ rw (ne_eqb y y0 line, eq-eqb y (y0 + p) under, ne_eqb x x0 column, ne_eqb x (x0 + p) end) (was ∙ rw (ne_eqb y y0 line, eq-eqb y (y0 + p) under, ne_eqb x x0 column, ne_eqb x (x0 + p) end) refl)
      ]
    ]
    | inr under ↦ rw (ne_eqb y y0 line, ne_eqb y (y0 + p) under) (was ∙ rw (ne_eqb y y0 line, ne_eqb y (y0 + p) under) refl)
  ]
]

line_put_back : (L W : Matrix) (x0 y0 p : ℕ) (s : ℕ × ℕ) (x y : ℕ) → L x y ≡ put_line W x0 y0 p s x y → put_line L x0 y0 p (W x0 y0, W (x0 + p) y0) x y ≡ W x y
line_put_back L W x0 y0 p s x y was = elim (cases_eq y y0) [
  | inl line ↦ elim (cases_eq x x0) [
    | inl column ↦ rw (eq-eqb y y0 line, eq-eqb x x0 column) (λ i. W (sym column i) (sym line i))
    | inr column ↦ elim (cases_eq x (x0 + p)) [
      | inl end ↦ rw (eq-eqb y y0 line, ne_eqb x x0 column, eq-eqb x (x0 + p) end) (λ i. W (sym end i) (sym line i))
      | inr end ↦ rw (eq-eqb y y0 line, ne_eqb x x0 column, ne_eqb x (x0 + p) end) (was ∙ rw (eq-eqb y y0 line, ne_eqb x x0 column, ne_eqb x (x0 + p) end) refl)
    ]
  ]
  | inr line ↦ rw (ne_eqb y y0 line) (was ∙ rw (ne_eqb y y0 line) refl)
]

column_put_back : (L W : Matrix) (x0 y0 p : ℕ) (s : ℕ × ℕ) (x y : ℕ) → L x y ≡ put_column W x0 y0 p s x y → put_column L x0 y0 p (W x0 y0, W x0 (y0 + p)) x y ≡ W x y
column_put_back L W x0 y0 p s x y was = elim (cases_eq x x0) [
  | inl column ↦ elim (cases_eq y y0) [
    | inl line ↦ rw (eq-eqb x x0 column, eq-eqb y y0 line) (λ i. W (sym column i) (sym line i))
    | inr line ↦ elim (cases_eq y (y0 + p)) [
      | inl under ↦ rw (eq-eqb x x0 column, ne_eqb y y0 line, eq-eqb y (y0 + p) under) (λ i. W (sym column i) (sym under i))
      | inr under ↦ rw (eq-eqb x x0 column, ne_eqb y y0 line, ne_eqb y (y0 + p) under) (was ∙ rw (eq-eqb x x0 column, ne_eqb y y0 line, ne_eqb y (y0 + p) under) refl)
    ]
  ]
  | inr column ↦ rw (ne_eqb x x0 column) (was ∙ rw (ne_eqb x x0 column) refl)
]

-- ---- what a level has at a square, a pair of the odd line, a pair of the odd column, and elsewhere

level_square : (way : Way) (max nx ny p : ℕ) (W : Matrix) (a b x0 y0 : ℕ) → start_of p a ≡ x0 → start_of p b ≡ y0 → leb (x0 + 2 * p) nx ≡ true → leb (y0 + 2 * p) ny ≡ true
    → level_by way max nx ny p W a b ≡ put_square W x0 y0 p (square_by way max (square_at W x0 y0 p)) a b
level_square way max nx ny p W a b x0 y0 sa sb ex ey =
    let wx : is_whole p nx a ≡ true = ap (λ s. leb (s + 2 * p) nx) sa ∙ ex in
    let wy : is_whole p ny b ≡ true = ap (λ s. leb (s + 2 * p) ny) sb ∙ ey in
    rw (wx, wy) (λ i. put_square W (sa i) (sb i) p (square_by way max (square_at W (sa i) (sb i) p)) a b)

level_line : (way : Way) (max nx ny p : ℕ) (W : Matrix) (a b x0 : ℕ) → start_of p a ≡ x0 → leb (x0 + 2 * p) nx ≡ true → is_whole p ny b ≡ false → is_odd_end p ny b ≡ true
    → level_by way max nx ny p W a b ≡ put_line W x0 b p (pair_by way max (W x0 b) (W (x0 + p) b)) a b
level_line way max nx ny p W a b x0 sa ex wy odd =
    let wx : is_whole p nx a ≡ true = ap (λ s. leb (s + 2 * p) nx) sa ∙ ex in
    rw (wx, wy, odd) (λ i. put_line W (sa i) b p (pair_by way max (W (sa i) b) (W (sa i + p) b)) a b)

level_column : (way : Way) (max nx ny p : ℕ) (W : Matrix) (a b y0 : ℕ) → start_of p b ≡ y0 → leb (y0 + 2 * p) ny ≡ true → is_whole p nx a ≡ false → is_odd_end p nx a ≡ true
    → level_by way max nx ny p W a b ≡ put_column W a y0 p (pair_by way max (W a y0) (W a (y0 + p))) a b
level_column way max nx ny p W a b y0 sb ey wx odd =
    let wy : is_whole p ny b ≡ true = ap (λ s. leb (s + 2 * p) ny) sb ∙ ey in
    rw (wx, wy, odd) (λ i. put_column W a (sb i) p (pair_by way max (W a (sb i)) (W a (sb i + p))) a b)

apart : (k p : ℕ) → 1 ≤ p → k + p ≢ k
apart k p some e = absurd (omega arith)

-- the words at multiples of p can be stepped and undone
unfoldable pub BoundedAt : ℕ → ℕ → ℕ → ℕ → Matrix → Type 0
BoundedAt p max nx ny W = (i j : ℕ) → i * p < nx → j * p < ny → W (i * p) (j * p) < bound_of max

abbrev L_of : ℕ → ℕ → ℕ → ℕ → Matrix → Matrix
L_of max nx ny p W = level_by Encode max nx ny p W

-- a corner of a whole part as a multiple of p
first_multiple : (p k : ℕ) → start_of p k ≡ 2 * (k / (2 * p)) * p
first_multiple p k = omega arith

second_multiple : (p k : ℕ) → start_of p k + p ≡ (2 * (k / (2 * p)) + 1) * p
second_multiple p k = omega arith

bounded_there : (p max nx ny : ℕ) (W : Matrix) → BoundedAt p max nx ny W → (a b i j : ℕ) → a ≡ i * p → b ≡ j * p → a < nx → b < ny → W a b < bound_of max
unfolding BoundedAt
bounded_there p max nx ny W bounded a b i j ea eb la lb = subst (λ v. v < bound_of max) (λ t. W (sym ea t) (sym eb t)) (bounded i j (omega arith) (omega arith))

square_undone : (max nx ny p : ℕ) (W : Matrix) (x y : ℕ) → 1 ≤ p → BoundedAt p max nx ny W → leb (start_of p x + 2 * p) nx ≡ true → leb (start_of p y + 2 * p) ny ≡ true
    → put_square (L_of max nx ny p W) (start_of p x) (start_of p y) p (square_by Decode max (square_at (L_of max nx ny p W) (start_of p x) (start_of p y) p)) x y ≡ W x y
square_undone max nx ny p W x y some bounded ex ey =
    let x0 = start_of p x in
    let y0 = start_of p y in
    let fx : x0 + 2 * p ≤ nx = leb-true _ nx ex in
    let fy : y0 + 2 * p ≤ ny = leb-true _ ny ey in
    let s = square_of max (square_at W x0 y0 p) in
    let L = L_of max nx ny p W in
    let sx = start_of_start p x some in
    let sy = start_of_start p y some in
    let tx = start_of_end p x some in
    let ty = start_of_end p y some in
    let nx0 = apart x0 p some in
    let ny0 = apart y0 p some in
    let c1 : L x0 y0 ≡ s.first = level_square Encode max nx ny p W x0 y0 x0 y0 sx sy ex ey ∙ rw (eq-eqb y0 y0 refl, eq-eqb x0 x0 refl) refl in
    let c2 : L (x0 + p) y0 ≡ s.right = level_square Encode max nx ny p W (x0 + p) y0 x0 y0 tx sy ex ey ∙ rw (eq-eqb y0 y0 refl, ne_eqb (x0 + p) x0 nx0, eq-eqb (x0 + p) (x0 + p) refl) refl in
    let c3 : L x0 (y0 + p) ≡ s.below = level_square Encode max nx ny p W x0 (y0 + p) x0 y0 sx ty ex ey ∙ rw (ne_eqb (y0 + p) y0 ny0, eq-eqb (y0 + p) (y0 + p) refl, eq-eqb x0 x0 refl) refl in
    let c4 : L (x0 + p) (y0 + p) ≡ s.across = level_square Encode max nx ny p W (x0 + p) (y0 + p) x0 y0 tx ty ex ey ∙ rw (ne_eqb (y0 + p) y0 ny0, eq-eqb (y0 + p) (y0 + p) refl, ne_eqb (x0 + p) x0 nx0, eq-eqb (x0 + p) (x0 + p) refl) refl in
    let in_bound : InBound max (square_at W x0 y0 p) = record {
      first = bounded_there p max nx ny W bounded x0 y0 _ _ (first_multiple p x) (first_multiple p y) (omega arith) (omega arith);
      right = bounded_there p max nx ny W bounded (x0 + p) y0 _ _ (second_multiple p x) (first_multiple p y) (omega arith) (omega arith);
      below = bounded_there p max nx ny W bounded x0 (y0 + p) _ _ (first_multiple p x) (second_multiple p y) (omega arith) (omega arith);
      across = bounded_there p max nx ny W bounded (x0 + p) (y0 + p) _ _ (second_multiple p x) (second_multiple p y) (omega arith) (omega arith);
    } in
    let corners : square_at L x0 y0 p ≡ s = λ i. record { first = c1 i; right = c2 i; below = c3 i; across = c4 i } in
    ap (λ t. put_square L x0 y0 p t x y) (ap (unsquare_of max) corners ∙ unsquare_of-square_of max (square_at W x0 y0 p) in_bound)
    ∙ square_put_back L W x0 y0 p s x y (level_square Encode max nx ny p W x y x0 y0 refl refl ex ey)

line_undone : (max nx ny p : ℕ) (W : Matrix) (x y : ℕ) → 1 ≤ p → BoundedAt p max nx ny W → leb (start_of p x + 2 * p) nx ≡ true → is_whole p ny y ≡ false → is_odd_end p ny y ≡ true → y < ny
    → put_line (L_of max nx ny p W) (start_of p x) y p (pair_by Decode max (L_of max nx ny p W (start_of p x) y) (L_of max nx ny p W (start_of p x + p) y)) x y ≡ W x y
line_undone max nx ny p W x y some bounded ex wy odd y_in =
    let x0 = start_of p x in
    let fx : x0 + 2 * p ≤ nx = leb-true _ nx ex in
    let s = pair_of max (W x0 y) (W (x0 + p) y) in
    let L = L_of max nx ny p W in
    let nx0 = apart x0 p some in
    let yo : y ≡ start_of p ny = eqb-true y _ (and_right (ny / p % 2) y (start_of p ny) odd) in
    let yn : y ≡ 2 * (ny / (2 * p)) * p = yo ∙ first_multiple p ny in
    let c1 : L x0 y ≡ s.0 = level_line Encode max nx ny p W x0 y x0 (start_of_start p x some) ex wy odd ∙ rw (eq-eqb y y refl, eq-eqb x0 x0 refl) refl in
    let c2 : L (x0 + p) y ≡ s.1 = level_line Encode max nx ny p W (x0 + p) y x0 (start_of_end p x some) ex wy odd ∙ rw (eq-eqb y y refl, ne_eqb (x0 + p) x0 nx0, eq-eqb (x0 + p) (x0 + p) refl) refl in
    let back : back_of max s.0 s.1 ≡ (W x0 y, W (x0 + p) y) = back_of-pair_of max (W x0 y) (W (x0 + p) y)
    (bounded_there p max nx ny W bounded x0 y _ _ (first_multiple p x) yn (omega arith) y_in) (bounded_there p max nx ny W bounded (x0 + p) y _ _ (second_multiple p x) yn (omega arith) y_in) in
    ap (λ t. put_line L x0 y p t x y) ((λ i. back_of max (c1 i) (c2 i)) ∙ back)
    ∙ line_put_back L W x0 y p s x y (level_line Encode max nx ny p W x y x0 refl ex wy odd)
  where
    and_right : (a b c : ℕ) → (eqb a 1 && eqb b c) ≡ true → eqb b c ≡ true
    and_right a b c is = by_first (eqb a 1) is
      where
        by_first : (t : Bool) → (t && eqb b c) ≡ true → eqb b c ≡ true
        by_first true is = is
        by_first false is = cc

column_undone : (max nx ny p : ℕ) (W : Matrix) (x y : ℕ) → 1 ≤ p → BoundedAt p max nx ny W → leb (start_of p y + 2 * p) ny ≡ true → is_whole p nx x ≡ false → is_odd_end p nx x ≡ true → x < nx
    → put_column (L_of max nx ny p W) x (start_of p y) p (pair_by Decode max (L_of max nx ny p W x (start_of p y)) (L_of max nx ny p W x (start_of p y + p))) x y ≡ W x y
column_undone max nx ny p W x y some bounded ey wx odd x_in =
    let y0 = start_of p y in
    let fy : y0 + 2 * p ≤ ny = leb-true _ ny ey in
    let s = pair_of max (W x y0) (W x (y0 + p)) in
    let L = L_of max nx ny p W in
    let ny0 = apart y0 p some in
    let xo : x ≡ start_of p nx = eqb-true x _ (and_right (nx / p % 2) x (start_of p nx) odd) in
    let xn : x ≡ 2 * (nx / (2 * p)) * p = xo ∙ first_multiple p nx in
    let c1 : L x y0 ≡ s.0 = level_column Encode max nx ny p W x y0 y0 (start_of_start p y some) ey wx odd ∙ rw (eq-eqb x x refl, eq-eqb y0 y0 refl) refl in
    let c2 : L x (y0 + p) ≡ s.1 = level_column Encode max nx ny p W x (y0 + p) y0 (start_of_end p y some) ey wx odd ∙ rw (eq-eqb x x refl, ne_eqb (y0 + p) y0 ny0, eq-eqb (y0 + p) (y0 + p) refl) refl in
    let back : back_of max s.0 s.1 ≡ (W x y0, W x (y0 + p)) = back_of-pair_of max (W x y0) (W x (y0 + p))
    (bounded_there p max nx ny W bounded x y0 _ _ xn (first_multiple p y) x_in (omega arith)) (bounded_there p max nx ny W bounded x (y0 + p) _ _ xn (second_multiple p y) x_in (omega arith)) in
    ap (λ t. put_column L x y0 p t x y) ((λ i. back_of max (c1 i) (c2 i)) ∙ back)
    ∙ column_put_back L W x y0 p s x y (level_column Encode max nx ny p W x y y0 refl ey wx odd)
  where
    and_right : (a b c : ℕ) → (eqb a 1 && eqb b c) ≡ true → eqb b c ≡ true
    and_right a b c is = by_first (eqb a 1) is
      where
        by_first : (t : Bool) → (t && eqb b c) ≡ true → eqb b c ≡ true
        by_first true is = is
        by_first false is = cc

-- a level undone
pub level_undone : (max nx ny p : ℕ) (W : Matrix) → 1 ≤ p → BoundedAt p max nx ny W → Agrees nx ny (unwave_level_of max nx ny p (wave_level_of max nx ny p W)) W
level_undone max nx ny p W some bounded x y x_in y_in = by_tests (is_whole p nx x) (is_whole p ny y) refl refl (is_odd_end p nx x) (is_odd_end p ny y) refl refl
  where
    by_tests : (wx wy : Bool) → is_whole p nx x ≡ wx → is_whole p ny y ≡ wy → (ox oy : Bool) → is_odd_end p nx x ≡ ox → is_odd_end p ny y ≡ oy → level_by Decode max nx ny p (level_by Encode max nx ny p W) x y ≡ W x y
    by_tests true true ex ey ox oy dx dy = level_square Decode max nx ny p (L_of max nx ny p W) x y (start_of p x) (start_of p y) refl refl ex ey ∙ square_undone max nx ny p W x y some bounded ex ey
    by_tests true false ex ey ox true dx dy = level_line Decode max nx ny p (L_of max nx ny p W) x y (start_of p x) refl ex ey dy ∙ line_undone max nx ny p W x y some bounded ex ey dy y_in
    by_tests true false ex ey ox false dx dy = rw (ex, ey, dy) refl
    by_tests false true ex ey true oy dx dy = level_column Decode max nx ny p (L_of max nx ny p W) x y (start_of p y) refl ey ex dx ∙ column_undone max nx ny p W x y some bounded ey ex dx x_in
    by_tests false true ex ey false oy dx dy = rw (ex, ey, dx) refl
    by_tests false false ex ey true oy dx dy = rw (ex, ey, dx) refl
    by_tests false false ex ey false oy dx dy = rw (ex, ey, dx) refl

-- ---- the words that the next level steps

-- at multiples of 2 p a level leaves means
pub level_bounded : (max nx ny p : ℕ) (W : Matrix) → 1 ≤ p → BoundedAt p max nx ny W → BoundedAt (2 * p) max nx ny (wave_level_of max nx ny p W)
unfolding BoundedAt
level_bounded max nx ny p W some bounded i j i_in j_in =
    let x = i * (2 * p) in
    let y = j * (2 * p) in
    let sx : start_of p x ≡ x = start_at p x i some (omega arith) (omega arith) in
    let sy : start_of p y ≡ y = start_at p y j some (omega arith) (omega arith) in
    by_tests x y sx sy (omega arith) (omega arith) i_in j_in (is_whole p nx x) (is_whole p ny y) refl refl (is_odd_end p nx x) (is_odd_end p ny y) refl refl
  where
    there : (x y : ℕ) → x ≡ i * (2 * p) → y ≡ j * (2 * p) → (a b c d : ℕ) → a ≡ x + c * p → b ≡ y + d * p → a < nx → b < ny → W a b < bound_of max
    there x y ex ey a b c d ea eb a_in b_in = bounded_there p max nx ny W bounded a b (2 * i + c) (2 * j + d) (omega arith) (omega arith) a_in b_in

    by_tests : (x y : ℕ) → start_of p x ≡ x → start_of p y ≡ y → x ≡ i * (2 * p) → y ≡ j * (2 * p) → x < nx → y < ny → (wx wy : Bool) → is_whole p nx x ≡ wx → is_whole p ny y ≡ wy
        → (ox oy : Bool) → is_odd_end p nx x ≡ ox → is_odd_end p ny y ≡ oy → level_by Encode max nx ny p W x y < bound_of max
    by_tests x y sx sy xi yj x_in y_in true true ex ey ox oy dx dy =
        let fx : start_of p x + 2 * p ≤ nx = leb-true _ nx ex in
        let fy : start_of p y + 2 * p ≤ ny = leb-true _ ny ey in
        let whole_x : leb (x + 2 * p) nx ≡ true = le-leb (x + 2 * p) nx (omega arith) in
        let whole_y : leb (y + 2 * p) ny ≡ true = le-leb (y + 2 * p) ny (omega arith) in
        subst (λ v. v < bound_of max) (sym (level_square Encode max nx ny p W x y x y sx sy whole_x whole_y ∙ rw (eq-eqb y y refl, eq-eqb x x refl) refl))
        (square_mean_in_bound max (square_at W x y p) (record {
          first = there x y xi yj x y 0 0 (omega arith) (omega arith) x_in y_in;
          right = there x y xi yj (x + p) y 1 0 (omega arith) (omega arith) (omega arith) y_in;
          below = there x y xi yj x (y + p) 0 1 (omega arith) (omega arith) x_in (omega arith);
          across = there x y xi yj (x + p) (y + p) 1 1 (omega arith) (omega arith) (omega arith) (omega arith);
        }))
    by_tests x y sx sy xi yj x_in y_in true false ex ey ox true dx dy =
        let fx : start_of p x + 2 * p ≤ nx = leb-true _ nx ex in
        let whole_x : leb (x + 2 * p) nx ≡ true = le-leb (x + 2 * p) nx (omega arith) in
        subst (λ v. v < bound_of max) (sym (level_line Encode max nx ny p W x y x sx whole_x ey dy ∙ rw (eq-eqb y y refl, eq-eqb x x refl) refl))
        (mean_in_bound max (W x y) (W (x + p) y) (there x y xi yj x y 0 0 (omega arith) (omega arith) x_in y_in) (there x y xi yj (x + p) y 1 0 (omega arith) (omega arith) (omega arith) y_in))
    by_tests x y sx sy xi yj x_in y_in true false ex ey ox false dx dy = rw (ex, ey, dy) (there x y xi yj x y 0 0 (omega arith) (omega arith) x_in y_in)
    by_tests x y sx sy xi yj x_in y_in false true ex ey true oy dx dy =
        let fy : start_of p y + 2 * p ≤ ny = leb-true _ ny ey in
        let whole_y : leb (y + 2 * p) ny ≡ true = le-leb (y + 2 * p) ny (omega arith) in
        subst (λ v. v < bound_of max) (sym (level_column Encode max nx ny p W x y y sy whole_y ex dx ∙ rw (eq-eqb x x refl, eq-eqb y y refl) refl))
        (mean_in_bound max (W x y) (W x (y + p)) (there x y xi yj x y 0 0 (omega arith) (omega arith) x_in y_in) (there x y xi yj x (y + p) 0 1 (omega arith) (omega arith) x_in (omega arith)))
    by_tests x y sx sy xi yj x_in y_in false true ex ey false oy dx dy = rw (ex, ey, dx) (there x y xi yj x y 0 0 (omega arith) (omega arith) x_in y_in)
    by_tests x y sx sy xi yj x_in y_in false false ex ey true oy dx dy = rw (ex, ey, dx) (there x y xi yj x y 0 0 (omega arith) (omega arith) x_in y_in)
    by_tests x y sx sy xi yj x_in y_in false false ex ey false oy dx dy = rw (ex, ey, dx) (there x y xi yj x y 0 0 (omega arith) (omega arith) x_in y_in)
