-- A level step by step: what is done so far, place by place.
use Rattle.std.proofs.Common.{◌≡◌, ◌≢◌, ℕ, ◌+◌, ◌*◌, ◌/◌, ◌%◌, ◌<◌, ◌≤◌, inl, inr, Bool, true, false, ◌&&◌, cond, eqb, ltb, refl, sym, ap, ◌∙◌, arith}
use Rattle.std.proofs.lemmas.Bool.{cases_eq, cases_lt, eq-eqb, ne_eqb, lt-ltb, le-ltb, le-leb, lt-leb, leb-true, true≢false}
use Rattle.std.proofs.Math.Nat.{mul-le-mul_right, lt-div-mul-add, div-mul-le_self}
use Rattle.exr_wavelet.specs.declared.pair.Square.{Square}
use Rattle.exr_wavelet.specs.declared.pair.Way.{Way}
use Rattle.exr_wavelet.specs.Pair.{pair_by, square_by}
use Rattle.exr_wavelet.specs.Level.{Matrix, square_at, put_square, put_column, put_line, start_of, is_whole, is_odd_end, squares_along, pairs_along, two_lines_of, level_by}

-- ---- multiples

-- a place from a multiple on, before the next one
pub quotient_is : (k j size : ℕ) → 1 ≤ size → j * size ≤ k → k < j * size + size → k / size ≡ j
quotient_is k j size some from before =
    let n = k / size in
    let under : n * size ≤ k = div-mul-le_self k size in
    let over : k < n * size + size = lt-div-mul-add {a = k} {b = size} (omega arith) in
    elim (cases_lt n j) [
      | inl lt ↦ absurd (let m : (n + 1) * size ≤ j * size = mul-le-mul_right size (omega arith) in omega arith)
      | inr le ↦ elim (cases_lt j n) [
        | inl lt ↦ absurd (let m : (j + 1) * size ≤ n * size = mul-le-mul_right size (omega arith) in omega arith)
        | inr ge ↦ omega arith
      ]
    ]

pub start_at : (p k j : ℕ) → 1 ≤ p → j * (2 * p) ≤ k → k < j * (2 * p) + 2 * p → start_of p k ≡ j * (2 * p)
start_at p k j some from before = ap (λ n. n * (2 * p)) (quotient_is k j (2 * p) (omega arith) from before)

-- where the parts of a side end
pub start_le : (p k : ℕ) → start_of p k ≤ k
start_le p k = div-mul-le_self k (2 * p)

pub start_next : (p k : ℕ) → 1 ≤ p → k < start_of p k + 2 * p
start_next p k some = lt-div-mul-add {a = k} {b = 2 * p} (omega arith)

-- a start that is whole lies before the last start, else it is that
pub part_fits : (p side j : ℕ) → 1 ≤ p → j < side / (2 * p) → j * (2 * p) + 2 * p ≤ side
part_fits p side j some lt =
    let under : side / (2 * p) * (2 * p) ≤ side = div-mul-le_self side (2 * p) in
    let m : (j + 1) * (2 * p) ≤ side / (2 * p) * (2 * p) = mul-le-mul_right (2 * p) (omega arith) in
    omega arith

-- ---- one write against a matrix

pub put_square_same : (M N : Matrix) (x0 y0 p : ℕ) (s t : Square) (x y : ℕ) → s ≡ t → M x y ≡ N x y → put_square M x0 y0 p s x y ≡ put_square N x0 y0 p t x y
put_square_same M N x0 y0 p s t x y same at =
    ap (λ r. put_square M x0 y0 p r x y) same
    ∙ ap (λ w. cond (eqb y y0) (cond (eqb x x0) t.first (cond (eqb x (x0 + p)) t.right w)) (cond (eqb y (y0 + p)) (cond (eqb x x0) t.below (cond (eqb x (x0 + p)) t.across w)) w)) at

pub put_square_off_lines : (M : Matrix) (x0 y0 p : ℕ) (s : Square) (x y : ℕ) → y ≢ y0 → y ≢ y0 + p → put_square M x0 y0 p s x y ≡ M x y
put_square_off_lines M x0 y0 p s x y a b = rw (ne_eqb y y0 a) (rw (ne_eqb y (y0 + p) b) refl)

pub put_square_off_columns : (M : Matrix) (x0 y0 p : ℕ) (s : Square) (x y : ℕ) → x ≢ x0 → x ≢ x0 + p → put_square M x0 y0 p s x y ≡ M x y
put_square_off_columns M x0 y0 p s x y a b = rw (ne_eqb x x0 a) (rw (ne_eqb x (x0 + p) b) (by_line (eqb y y0) (eqb y (y0 + p)) (M x y)))
  where
    by_line : (a b : Bool) (w : ℕ) → cond a w (cond b w w) ≡ w
    by_line true b w = refl
    by_line false true w = refl
    by_line false false w = refl

pub put_line_same : (M N : Matrix) (x0 y0 p : ℕ) (s t : ℕ × ℕ) (x y : ℕ) → s ≡ t → M x y ≡ N x y → put_line M x0 y0 p s x y ≡ put_line N x0 y0 p t x y
put_line_same M N x0 y0 p s t x y same at = ap (λ r. put_line M x0 y0 p r x y) same ∙ ap (λ w. cond (eqb y y0) (cond (eqb x x0) t.0 (cond (eqb x (x0 + p)) t.1 w)) w) at

pub put_line_off_line : (M : Matrix) (x0 y0 p : ℕ) (s : ℕ × ℕ) (x y : ℕ) → y ≢ y0 → put_line M x0 y0 p s x y ≡ M x y
put_line_off_line M x0 y0 p s x y a = rw (ne_eqb y y0 a) refl

pub put_line_off_columns : (M : Matrix) (x0 y0 p : ℕ) (s : ℕ × ℕ) (x y : ℕ) → x ≢ x0 → x ≢ x0 + p → put_line M x0 y0 p s x y ≡ M x y
put_line_off_columns M x0 y0 p s x y a b = rw (ne_eqb x x0 a) (rw (ne_eqb x (x0 + p) b) (by_line (eqb y y0) (M x y)))
  where
    by_line : (a : Bool) (w : ℕ) → cond a w w ≡ w
    by_line true w = refl
    by_line false w = refl

pub put_column_same : (M N : Matrix) (x0 y0 p : ℕ) (s t : ℕ × ℕ) (x y : ℕ) → s ≡ t → M x y ≡ N x y → put_column M x0 y0 p s x y ≡ put_column N x0 y0 p t x y
put_column_same M N x0 y0 p s t x y same at = ap (λ r. put_column M x0 y0 p r x y) same ∙ ap (λ w. cond (eqb x x0) (cond (eqb y y0) t.0 (cond (eqb y (y0 + p)) t.1 w)) w) at

pub put_column_off_column : (M : Matrix) (x0 y0 p : ℕ) (s : ℕ × ℕ) (x y : ℕ) → x ≢ x0 → put_column M x0 y0 p s x y ≡ M x y
put_column_off_column M x0 y0 p s x y a = rw (ne_eqb x x0 a) refl

pub put_column_off_lines : (M : Matrix) (x0 y0 p : ℕ) (s : ℕ × ℕ) (x y : ℕ) → y ≢ y0 → y ≢ y0 + p → put_column M x0 y0 p s x y ≡ M x y
put_column_off_lines M x0 y0 p s x y a b = rw (ne_eqb y y0 a) (rw (ne_eqb y (y0 + p) b) (by_line (eqb x x0) (M x y)))
  where
    by_line : (a : Bool) (w : ℕ) → cond a w w ≡ w
    by_line true w = refl
    by_line false w = refl

abbrev record_of : ℕ → ℕ → ℕ → ℕ → Square
record_of a b c d = record { first = a; right = b; below = c; across = d }

-- squares and pairs of words that agree
pub square_same : (way : Way) (max : ℕ) (M N : Matrix) (x y p : ℕ) → M x y ≡ N x y → M (x + p) y ≡ N (x + p) y → M x (y + p) ≡ N x (y + p) → M (x + p) (y + p) ≡ N (x + p) (y + p)
    → square_by way max (square_at M x y p) ≡ square_by way max (square_at N x y p)
square_same way max M N x y p a b c d = ap (square_by way max) (four a b c d)
  where
    four : {a b c d a' b' c' d' : ℕ} → a ≡ a' → b ≡ b' → c ≡ c' → d ≡ d' → record_of a b c d ≡ record_of a' b' c' d'
    four e f g h = λ i. record_of (e i) (f i) (g i) (h i)

pub pair_same : (way : Way) (max a b c d : ℕ) → a ≡ c → b ≡ d → pair_by way max a b ≡ pair_by way max c d
pair_same way max a b c d e f = λ i. pair_by way max (e i) (f i)

-- ---- along a line, part by part

-- what a put at one part reads and writes: the columns from its start on
pub record PutsPart (p nx ny : ℕ) (put : Matrix → ℕ → Matrix) : Type 0 where
  pub off : (M : Matrix) (x0 x y : ℕ) → x ≢ x0 → x ≢ x0 + p → put M x0 x y ≡ M x y
  pub same : (M N : Matrix) (x0 x y : ℕ) → x0 + p < nx → ((a b : ℕ) → x0 ≤ a → a < nx → b < ny → M a b ≡ N a b) → x0 ≤ x → x < nx → y < ny → put M x0 x y ≡ put N x0 x y

abbrev pub along : (Matrix → ℕ → Matrix) → ℕ → ℕ → Matrix → Matrix
along put p nx M x y = cond (is_whole p nx x) (put M (start_of p x) x y) (M x y)

-- the parts before a column are done
abbrev pub done_before : (Matrix → ℕ → Matrix) → ℕ → ℕ → ℕ → Matrix → Matrix
done_before put p nx bound M x y = cond (ltb x bound) (along put p nx M x y) (M x y)

pub whole_part : (p nx x i : ℕ) → 1 ≤ p → i < nx / (2 * p) → i * (2 * p) ≤ x → x < i * (2 * p) + 2 * p → (start_of p x ≡ i * (2 * p)) × (is_whole p nx x ≡ true)
whole_part p nx x i some lt from before =
    let start = start_at p x i some from before in
    (start, le-leb (start_of p x + 2 * p) nx (let fits = part_fits p nx i some lt in omega arith))

pub along_none : (put : Matrix → ℕ → Matrix) (p nx : ℕ) (M : Matrix) (x y : ℕ) → M x y ≡ done_before put p nx (0 * (2 * p)) M x y
along_none put p nx M x y = rw (le-ltb x (0 * (2 * p)) (omega arith)) refl

pub along_more : (put : Matrix → ℕ → Matrix) (p nx ny i : ℕ) (M0 M : Matrix) → PutsPart p nx ny put → 1 ≤ p → i < nx / (2 * p)
    → ((x y : ℕ) → x < nx → y < ny → M x y ≡ done_before put p nx (i * (2 * p)) M0 x y) → (x y : ℕ) → x < nx → y < ny → put M (i * (2 * p)) x y ≡ done_before put p nx ((i + 1) * (2 * p)) M0 x y
along_more put p nx ny i M0 M puts some lt agree x y x_in y_in =
    let x0 = i * (2 * p) in
    let fits : x0 + 2 * p ≤ nx = part_fits p nx i some lt in
    let next : (i + 1) * (2 * p) ≡ x0 + 2 * p = omega arith in
    elim (cases_lt x x0) [
      | inl earlier ↦
          puts.off M x0 x y (λ e. absurd (omega arith)) (λ e. absurd (omega arith)) ∙ agree x y x_in y_in
          ∙ ap (λ b. cond b (along put p nx M0 x y) (M0 x y)) (lt-ltb x x0 earlier ∙ sym (lt-ltb x ((i + 1) * (2 * p)) (omega arith)))
      | inr from ↦ elim (cases_lt x (x0 + 2 * p)) [
        | inl here ↦
            let part = whole_part p nx x i some lt from here in
            puts.same M M0 x0 x y (omega arith) (λ a b from' a_in b_in. agree a b a_in b_in ∙ ap (λ t. cond t (along put p nx M0 a b) (M0 a b)) (le-ltb a x0 from')) from x_in y_in
            ∙ ap (λ k. put M0 k x y) (sym part.0)
            ∙ ap (λ b. cond b (put M0 (start_of p x) x y) (M0 x y)) (sym part.1)
            ∙ ap (λ b. cond b (along put p nx M0 x y) (M0 x y)) (sym (lt-ltb x ((i + 1) * (2 * p)) (omega arith)))
        | inr later ↦
            puts.off M x0 x y (λ e. absurd (omega arith)) (λ e. absurd (omega arith)) ∙ agree x y x_in y_in
            ∙ ap (λ b. cond b (along put p nx M0 x y) (M0 x y)) (le-ltb x x0 from ∙ sym (le-ltb x ((i + 1) * (2 * p)) (omega arith)))
      ]
    ]

-- behind the last whole part
pub not_whole : (p side k : ℕ) → 1 ≤ p → side / (2 * p) * (2 * p) ≤ k → k < side → (start_of p k ≡ start_of p side) × (is_whole p side k ≡ false)
not_whole p side k some from inside =
    let over = start_next p side some in
    let start = start_at p k (side / (2 * p)) some from (omega arith) in
    (start, lt-leb (start_of p k + 2 * p) side (omega arith))

pub along_all : (put : Matrix → ℕ → Matrix) (p nx : ℕ) (M0 : Matrix) (x y : ℕ) → 1 ≤ p → x < nx → done_before put p nx (nx / (2 * p) * (2 * p)) M0 x y ≡ along put p nx M0 x y
along_all put p nx M0 x y some x_in = elim (cases_lt x (nx / (2 * p) * (2 * p))) [
  | inl earlier ↦ ap (λ b. cond b (along put p nx M0 x y) (M0 x y)) (lt-ltb x _ earlier)
  | inr later ↦ ap (λ b. cond b (along put p nx M0 x y) (M0 x y)) (le-ltb x _ later) ∙ ap (λ b. cond b (put M0 (start_of p x) x y) (M0 x y)) (sym (not_whole p nx x some later x_in).1)
]

-- squares and pairs are such puts
abbrev pub square_put : Way → ℕ → ℕ → ℕ → Matrix → ℕ → Matrix
square_put way max p y0 M x0 = put_square M x0 y0 p (square_by way max (square_at M x0 y0 p))

abbrev pub pair_put : Way → ℕ → ℕ → ℕ → Matrix → ℕ → Matrix
pair_put way max p y0 M x0 = put_line M x0 y0 p (pair_by way max (M x0 y0) (M (x0 + p) y0))

pub square_puts : (way : Way) (max p nx ny y0 : ℕ) → y0 + p < ny → PutsPart p nx ny (square_put way max p y0)
square_puts way max p nx ny y0 below = record {
  off = λ M x0 x y a b. put_square_off_columns M x0 y0 p (square_by way max (square_at M x0 y0 p)) x y a b;
  same = λ M N x0 x y right agree from x_in y_in.
      put_square_same M N x0 y0 p _ _ x y
      (square_same way max M N x0 y0 p (agree x0 y0 (omega arith) (omega arith) (omega arith)) (agree (x0 + p) y0 (omega arith) right (omega arith)) (agree x0 (y0 + p) (omega arith) (omega arith) below) (agree (x0 + p) (y0 + p) (omega arith) right below))
      (agree x y from x_in y_in);
}

pub pair_puts : (way : Way) (max p nx ny y0 : ℕ) → y0 < ny → PutsPart p nx ny (pair_put way max p y0)
pair_puts way max p nx ny y0 line = record {
  off = λ M x0 x y a b. put_line_off_columns M x0 y0 p (pair_by way max (M x0 y0) (M (x0 + p) y0)) x y a b;
  same = λ M N x0 x y right agree from x_in y_in.
      put_line_same M N x0 y0 p _ _ x y
      (pair_same way max _ _ _ _ (agree x0 y0 (omega arith) (omega arith) line) (agree (x0 + p) y0 (omega arith) right line))
      (agree x y from x_in y_in);
}

-- ---- two lines, with their pair of the odd column

pub odd_column_in : (p nx : ℕ) → 1 ≤ p → nx / p % 2 ≡ 1 → start_of p nx < nx
odd_column_in p nx some odd =
    let under = start_le p nx in
    elim (cases_lt (start_of p nx) nx) [
      | inl lt ↦ lt
      | inr le ↦ absurd (
          let n = nx / (2 * p) in
          let all : nx ≡ n * (2 * p) = omega arith in
          let even : nx / p ≡ 2 * n = quotient_is nx (2 * n) p some (omega arith) (omega arith) in
          omega arith)
    ]

and_true : (a : Bool) → (a && true) ≡ a
and_true true = refl
and_true false = refl

and_false : (a : Bool) → (a && false) ≡ false
and_false true = refl
and_false false = refl

-- the last start is its own start, and not whole
start_of_last : (p nx : ℕ) → 1 ≤ p → start_of p nx < nx → is_whole p nx (start_of p nx) ≡ false
start_of_last p nx some lt = (not_whole p nx (start_of p nx) some (omega arith) lt).1

pub two_lines_done : (way : Way) (max p nx ny y0 : ℕ) (M0 M : Matrix) → 1 ≤ p → y0 + p < ny → ((x y : ℕ) → x < nx → y < ny → M x y ≡ squares_along way max nx p y0 M0 x y) → nx / p % 2 ≡ 1
    → (x y : ℕ) → x < nx → y < ny → put_column M (start_of p nx) y0 p (pair_by way max (M (start_of p nx) y0) (M (start_of p nx) (y0 + p))) x y ≡ two_lines_of way max nx p y0 M0 x y
two_lines_done way max p nx ny y0 M0 M some below agree odd x y x_in y_in =
    let xo = start_of p nx in
    let xo_in = odd_column_in p nx some odd in
    let plain = start_of_last p nx some xo_in in
    let bit = eq-eqb (nx / p % 2) 1 odd in
    let at_last : (b : ℕ) → b < ny → M xo b ≡ M0 xo b = λ b b_in. agree xo b xo_in b_in ∙ ap (λ t. cond t (square_put way max p y0 M0 (start_of p xo) xo b) (M0 xo b)) plain in
    by_whole (is_whole p nx x) refl bit plain at_last
  where
    by_whole : (w : Bool) → is_whole p nx x ≡ w → eqb (nx / p % 2) 1 ≡ true → is_whole p nx (start_of p nx) ≡ false → ((b : ℕ) → b < ny → M (start_of p nx) b ≡ M0 (start_of p nx) b)
        → put_column M (start_of p nx) y0 p (pair_by way max (M (start_of p nx) y0) (M (start_of p nx) (y0 + p))) x y
        ≡ cond w (squares_along way max nx p y0 M0 x y) (cond (eqb (nx / p % 2) 1 && eqb x (start_of p nx)) (put_column M0 x y0 p (pair_by way max (M0 x y0) (M0 x (y0 + p))) x y) (M0 x y))
    by_whole true whole bit plain at_last = put_column_off_column M (start_of p nx) y0 p _ x y (λ e. true≢false (sym whole ∙ ap (is_whole p nx) e ∙ plain)) ∙ agree x y x_in y_in
    by_whole false whole bit plain at_last =
        let here : M x y ≡ M0 x y = agree x y x_in y_in ∙ ap (λ t. cond t (square_put way max p y0 M0 (start_of p x) x y) (M0 x y)) whole in
        elim (cases_eq x (start_of p nx)) [
          | inl e ↦
              put_column_same M M0 (start_of p nx) y0 p _ _ x y (pair_same way max _ _ _ _ (at_last y0 (omega arith)) (at_last (y0 + p) below)) here
              ∙ ap (λ k. put_column M0 k y0 p (pair_by way max (M0 k y0) (M0 k (y0 + p))) x y) (sym e)
              ∙ ap (λ t. cond t (put_column M0 x y0 p (pair_by way max (M0 x y0) (M0 x (y0 + p))) x y) (M0 x y)) (sym (ap (λ b. b && eqb x (start_of p nx)) bit ∙ eq-eqb x _ e))
          | inr ne ↦
              put_column_off_column M (start_of p nx) y0 p _ x y ne ∙ here
              ∙ ap (λ t. cond t (put_column M0 x y0 p (pair_by way max (M0 x y0) (M0 x (y0 + p))) x y) (M0 x y)) (sym (ap (λ b. b && eqb x (start_of p nx)) bit ∙ ne_eqb x _ ne))
        ]

pub two_lines_even : (way : Way) (max p nx y0 : ℕ) (M0 : Matrix) (x y : ℕ) → (nx / p % 2 ≡ 1 → ⊥) → squares_along way max nx p y0 M0 x y ≡ two_lines_of way max nx p y0 M0 x y
two_lines_even way max p nx y0 M0 x y even = by_whole (is_whole p nx x) refl (ne_eqb (nx / p % 2) 1 even)
  where
    by_whole : (w : Bool) → is_whole p nx x ≡ w → eqb (nx / p % 2) 1 ≡ false
        → squares_along way max nx p y0 M0 x y ≡ cond w (squares_along way max nx p y0 M0 x y) (cond (eqb (nx / p % 2) 1 && eqb x (start_of p nx)) (put_column M0 x y0 p (pair_by way max (M0 x y0) (M0 x (y0 + p))) x y) (M0 x y))
    by_whole true whole bit = refl
    by_whole false whole bit =
        ap (λ t. cond t (square_put way max p y0 M0 (start_of p x) x y) (M0 x y)) whole
        ∙ ap (λ t. cond t (put_column M0 x y0 p (pair_by way max (M0 x y0) (M0 x (y0 + p))) x y) (M0 x y)) (sym (ap (λ b. b && eqb x (start_of p nx)) bit))

two_lines_off : (way : Way) (max p nx y0 : ℕ) (M : Matrix) (x y : ℕ) → y ≢ y0 → y ≢ y0 + p → two_lines_of way max nx p y0 M x y ≡ M x y
two_lines_off way max p nx y0 M x y a b = by_tests (is_whole p nx x) refl (is_odd_end p nx x) refl
  where
    by_tests : (w : Bool) → is_whole p nx x ≡ w → (o : Bool) → is_odd_end p nx x ≡ o → two_lines_of way max nx p y0 M x y ≡ M x y
    by_tests true whole o is = rw whole (put_square_off_lines M (start_of p x) y0 p _ x y a b)
    by_tests false whole true is = rw whole (rw is (put_column_off_lines M x y0 p _ x y a b))
    by_tests false whole false is = rw whole (rw is refl)

-- ---- all lines of a level

abbrev pub lines_done : Way → ℕ → ℕ → ℕ → ℕ → ℕ → Matrix → Matrix
lines_done way max nx ny p bound M x y = cond (ltb y bound) (level_by way max nx ny p M x y) (M x y)

pub lines_none : (way : Way) (max nx ny p : ℕ) (M : Matrix) (x y : ℕ) → M x y ≡ lines_done way max nx ny p (0 * (2 * p)) M x y
lines_none way max nx ny p M x y = rw (le-ltb y (0 * (2 * p)) (omega arith)) refl

two_lines_same : (way : Way) (max p nx ny y0 : ℕ) (M N : Matrix) → 1 ≤ p → y0 + p < ny → ((a b : ℕ) → a < nx → y0 ≤ b → b < ny → M a b ≡ N a b)
    → (x y : ℕ) → x < nx → y0 ≤ y → y < ny → two_lines_of way max nx p y0 M x y ≡ two_lines_of way max nx p y0 N x y
two_lines_same way max p nx ny y0 M N some below agree x y x_in from y_in = by_tests (is_whole p nx x) refl (is_odd_end p nx x) refl
  where
    by_tests : (w : Bool) → is_whole p nx x ≡ w → (o : Bool) → is_odd_end p nx x ≡ o → two_lines_of way max nx p y0 M x y ≡ two_lines_of way max nx p y0 N x y
    by_tests true whole o is =
        let fits : start_of p x + 2 * p ≤ nx = leb-true (start_of p x + 2 * p) nx whole in
        let x0 = start_of p x in
        rw whole (put_square_same M N x0 y0 p _ _ x y
        (square_same way max M N x0 y0 p (agree x0 y0 (omega arith) (omega arith) (omega arith)) (agree (x0 + p) y0 (omega arith) (omega arith) (omega arith)) (agree x0 (y0 + p) (omega arith) (omega arith) below) (agree (x0 + p) (y0 + p) (omega arith) (omega arith) below))
        (agree x y x_in from y_in))
    by_tests false whole true is = rw whole (rw is (put_column_same M N x y0 p _ _ x y (pair_same way max _ _ _ _ (agree x y0 x_in (omega arith) (omega arith)) (agree x (y0 + p) x_in (omega arith) below)) (agree x y x_in from y_in)))
    by_tests false whole false is = rw whole (rw is (agree x y x_in from y_in))

-- what the level has in two whole lines
level_in_lines : (way : Way) (max nx ny p y0 : ℕ) (M : Matrix) (x y : ℕ) → start_of p y ≡ y0 → is_whole p ny y ≡ true → level_by way max nx ny p M x y ≡ two_lines_of way max nx p y0 M x y
level_in_lines way max nx ny p y0 M x y start whole_y = by_whole (is_whole p nx x) refl
  where
    by_whole : (w : Bool) → is_whole p nx x ≡ w → level_by way max nx ny p M x y ≡ two_lines_of way max nx p y0 M x y
    by_whole true whole = rw (whole, whole_y) (ap (λ k. put_square M (start_of p x) k p (square_by way max (square_at M (start_of p x) k p)) x y) start)
    by_whole false whole = rw (whole, whole_y) (ap (λ t. cond t (put_column M x (start_of p y) p (pair_by way max (M x (start_of p y)) (M x (start_of p y + p))) x y) (M x y)) (and_true (is_odd_end p nx x))
        ∙ ap (λ k. cond (is_odd_end p nx x) (put_column M x k p (pair_by way max (M x k) (M x (k + p))) x y) (M x y)) start)

pub lines_more : (way : Way) (max nx ny p j : ℕ) (M0 M : Matrix) → 1 ≤ p → j < ny / (2 * p) → ((x y : ℕ) → x < nx → y < ny → M x y ≡ lines_done way max nx ny p (j * (2 * p)) M0 x y)
    → (x y : ℕ) → x < nx → y < ny → two_lines_of way max nx p (j * (2 * p)) M x y ≡ lines_done way max nx ny p ((j + 1) * (2 * p)) M0 x y
lines_more way max nx ny p j M0 M some lt agree x y x_in y_in =
    let y0 = j * (2 * p) in
    let fits : y0 + 2 * p ≤ ny = part_fits p ny j some lt in
    let next : (j + 1) * (2 * p) ≡ y0 + 2 * p = omega arith in
    elim (cases_lt y y0) [
      | inl earlier ↦
          two_lines_off way max p nx y0 M x y (λ e. absurd (omega arith)) (λ e. absurd (omega arith)) ∙ agree x y x_in y_in
          ∙ ap (λ b. cond b (level_by way max nx ny p M0 x y) (M0 x y)) (lt-ltb y y0 earlier ∙ sym (lt-ltb y ((j + 1) * (2 * p)) (omega arith)))
      | inr from ↦ elim (cases_lt y (y0 + 2 * p)) [
        | inl here ↦
            let part = whole_part p ny y j some lt from here in
            two_lines_same way max p nx ny y0 M M0 some (omega arith) (λ a b a_in from' b_in. agree a b a_in b_in ∙ ap (λ t. cond t (level_by way max nx ny p M0 a b) (M0 a b)) (le-ltb b y0 from')) x y x_in from y_in
            ∙ sym (level_in_lines way max nx ny p y0 M0 x y part.0 part.1)
            ∙ ap (λ b. cond b (level_by way max nx ny p M0 x y) (M0 x y)) (sym (lt-ltb y ((j + 1) * (2 * p)) (omega arith)))
        | inr later ↦
            two_lines_off way max p nx y0 M x y (λ e. absurd (omega arith)) (λ e. absurd (omega arith)) ∙ agree x y x_in y_in
            ∙ ap (λ b. cond b (level_by way max nx ny p M0 x y) (M0 x y)) (le-ltb y y0 from ∙ sym (le-ltb y ((j + 1) * (2 * p)) (omega arith)))
      ]
    ]

-- ---- behind the last whole lines

-- what the level has there
level_behind : (way : Way) (max nx ny p : ℕ) (M : Matrix) (x y : ℕ) → is_whole p ny y ≡ false
    → level_by way max nx ny p M x y ≡ cond (is_whole p nx x) (cond (is_odd_end p ny y) (put_line M (start_of p x) y p (pair_by way max (M (start_of p x) y) (M (start_of p x + p) y)) x y) (M x y)) (M x y)
level_behind way max nx ny p M x y plain = by_whole (is_whole p nx x) refl
  where
    by_whole : (w : Bool) → is_whole p nx x ≡ w
        → level_by way max nx ny p M x y ≡ cond w (cond (is_odd_end p ny y) (put_line M (start_of p x) y p (pair_by way max (M (start_of p x) y) (M (start_of p x + p) y)) x y) (M x y)) (M x y)
    by_whole true whole = rw (whole, plain) refl
    by_whole false whole = rw (whole, plain) (ap (λ t. cond t (put_column M x (start_of p y) p (pair_by way max (M x (start_of p y)) (M x (start_of p y + p))) x y) (M x y)) (and_false (is_odd_end p nx x)))

same_choice : (b : Bool) (w : ℕ) → cond b w w ≡ w
same_choice true w = refl
same_choice false w = refl

pub level_even : (way : Way) (max nx ny p : ℕ) (M0 : Matrix) (x y : ℕ) → 1 ≤ p → y < ny → (ny / p % 2 ≡ 1 → ⊥) → lines_done way max nx ny p (ny / (2 * p) * (2 * p)) M0 x y ≡ level_by way max nx ny p M0 x y
level_even way max nx ny p M0 x y some y_in even = elim (cases_lt y (start_of p ny)) [
  | inl earlier ↦ ap (λ b. cond b (level_by way max nx ny p M0 x y) (M0 x y)) (lt-ltb y _ earlier)
  | inr later ↦
      let odd : is_odd_end p ny y ≡ false = ap (λ b. b && eqb y (start_of p ny)) (ne_eqb (ny / p % 2) 1 even) in
      ap (λ b. cond b (level_by way max nx ny p M0 x y) (M0 x y)) (le-ltb y _ later)
      ∙ sym (level_behind way max nx ny p M0 x y (not_whole p ny y some later y_in).1
      ∙ ap (λ o. cond (is_whole p nx x) (cond o (put_line M0 (start_of p x) y p (pair_by way max (M0 (start_of p x) y) (M0 (start_of p x + p) y)) x y) (M0 x y)) (M0 x y)) odd
      ∙ same_choice (is_whole p nx x) (M0 x y))
]

pub level_odd : (way : Way) (max nx ny p : ℕ) (M0 M : Matrix) → 1 ≤ p → ny / p % 2 ≡ 1 → ((x y : ℕ) → x < nx → y < ny → M x y ≡ lines_done way max nx ny p (ny / (2 * p) * (2 * p)) M0 x y)
    → (x y : ℕ) → x < nx → y < ny → pairs_along way max nx p (ny / (2 * p) * (2 * p)) M x y ≡ level_by way max nx ny p M0 x y
level_odd way max nx ny p M0 M some odd agree x y x_in y_in =
    let yo = ny / (2 * p) * (2 * p) in
    let yo_in : yo < ny = odd_column_in p ny some odd in
    elim (cases_eq y yo) [
      | inl e ↦
          let later : yo ≤ y = omega arith in
          let is_odd : is_odd_end p ny y ≡ true = ap (λ b. b && eqb y (start_of p ny)) (eq-eqb (ny / p % 2) 1 odd) ∙ eq-eqb y yo e in
          let at_last = λ (a : ℕ) (a_in : a < nx). agree a yo a_in yo_in ∙ ap (λ b. cond b (level_by way max nx ny p M0 a yo) (M0 a yo)) (le-ltb yo yo (omega arith)) in
          by_whole (is_whole p nx x) refl at_last (agree x y x_in y_in ∙ ap (λ b. cond b (level_by way max nx ny p M0 x y) (M0 x y)) (le-ltb y _ later))
          ∙ ap (λ k. cond (is_whole p nx x) (put_line M0 (start_of p x) k p (pair_by way max (M0 (start_of p x) k) (M0 (start_of p x + p) k)) x y) (M0 x y)) (sym e)
          ∙ ap (λ o. cond (is_whole p nx x) (cond o (put_line M0 (start_of p x) y p (pair_by way max (M0 (start_of p x) y) (M0 (start_of p x + p) y)) x y) (M0 x y)) (M0 x y)) (sym is_odd)
          ∙ sym (level_behind way max nx ny p M0 x y (not_whole p ny y some later y_in).1)
      | inr ne ↦
          off_line (is_whole p nx x) refl ne
          ∙ agree x y x_in y_in
          ∙ elim (cases_lt y yo) [
            | inl earlier ↦ ap (λ b. cond b (level_by way max nx ny p M0 x y) (M0 x y)) (lt-ltb y _ earlier)
            | inr later ↦
                let is_odd : is_odd_end p ny y ≡ false = ap (λ b. b && eqb y (start_of p ny)) (eq-eqb (ny / p % 2) 1 odd) ∙ ne_eqb y yo ne in
                ap (λ b. cond b (level_by way max nx ny p M0 x y) (M0 x y)) (le-ltb y _ later)
                ∙ sym (level_behind way max nx ny p M0 x y (not_whole p ny y some later y_in).1
                ∙ ap (λ o. cond (is_whole p nx x) (cond o (put_line M0 (start_of p x) y p (pair_by way max (M0 (start_of p x) y) (M0 (start_of p x + p) y)) x y) (M0 x y)) (M0 x y)) is_odd
                ∙ same_choice (is_whole p nx x) (M0 x y))
          ]
    ]
  where
    by_whole : (w : Bool) → is_whole p nx x ≡ w → ((a : ℕ) → a < nx → M a (ny / (2 * p) * (2 * p)) ≡ M0 a (ny / (2 * p) * (2 * p))) → M x y ≡ M0 x y
        → pairs_along way max nx p (ny / (2 * p) * (2 * p)) M x y ≡ cond w (put_line M0 (start_of p x) (ny / (2 * p) * (2 * p)) p (pair_by way max (M0 (start_of p x) (ny / (2 * p) * (2 * p))) (M0 (start_of p x + p) (ny / (2 * p) * (2 * p)))) x y) (M0 x y)
    by_whole true whole at_last here =
        let fits : start_of p x + 2 * p ≤ nx = leb-true (start_of p x + 2 * p) nx whole in
        rw whole (put_line_same M M0 (start_of p x) _ p _ _ x y (pair_same way max _ _ _ _ (at_last (start_of p x) (omega arith)) (at_last (start_of p x + p) (omega arith))) here)
    by_whole false whole at_last here = rw whole here

    off_line : (w : Bool) → is_whole p nx x ≡ w → y ≢ ny / (2 * p) * (2 * p) → pairs_along way max nx p (ny / (2 * p) * (2 * p)) M x y ≡ M x y
    off_line true whole ne = rw whole (put_line_off_line M (start_of p x) _ p _ x y ne)
    off_line false whole ne = rw whole refl
