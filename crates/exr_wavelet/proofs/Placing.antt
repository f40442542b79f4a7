-- Words of a matrix in a slice: which place is whose, and what writes at places leave.
use Rattle.std.proofs.Common.{◌≡◌, ℕ, ◌+◌, ◌*◌, ◌/◌, ◌<◌, ◌≤◌, inl, inr, Bool, true, false, ◌&&◌, cond, eqb, List, length, get_or, set, refl, sym, ap, subst, ◌∙◌, arith}
use Rattle.std.proofs.lemmas.Bool.{cases_eq, eq-eqb, ne_eqb}
use Rattle.std.proofs.lemmas.List.{get_or-set_same, get_or-set_other, length-set}
use Rattle.std.proofs.lemmas.Nat.{same_from_place}
use Rattle.std.proofs.Math.Nat.{mul-div_cancel_left, mul_comm}
use Rattle.exr_wavelet.specs.declared.level.Grid.{Grid}
use Rattle.exr_wavelet.specs.declared.pair.Square.{Square}
use Rattle.exr_wavelet.specs.declared.pair.Way.{Way}
use Rattle.exr_wavelet.specs.Pair.{pair_by, square_by}
use Rattle.exr_wavelet.specs.Level.{Matrix, square_at, put_square, put_column, put_line}
use Rattle.exr_wavelet.specs.Places.{place_of, matrix_of, IsWithin, Becomes}

cancel : (u v s : ℕ) → 1 ≤ s → u * s ≡ v * s → u ≡ v
cancel u v s some same =
    sym (mul-div_cancel_left u {n = s} (omega arith)) ∙ ap (λ n. n / s) (mul_comm s u ∙ same ∙ mul_comm v s) ∙ mul-div_cancel_left v {n = s} (omega arith)

-- two places that are one have one column and one line
pub place_inj : (g : Grid) (x y x' y' : ℕ) → 1 ≤ g.step → x < g.nx → x' < g.nx → place_of g x y ≡ place_of g x' y' → (x ≡ x') × (y ≡ y')
place_inj g x y x' y' spread inside inside' same =
    let u = y * g.nx + x in
    let v = y' * g.nx + x' in
    let products : u * g.step ≡ v * g.step = omega arith in
    let both = same_from_place y x y' x' g.nx inside inside' (cancel u v g.step spread products) in
    (both.1, both.0)

-- one word written
pub get_or-set-place : (words : List ℕ) (g : Grid) (x0 y0 v x y : ℕ) → 1 ≤ g.step → IsWithin g (length words) → x0 < g.nx → y0 < g.ny → x < g.nx → y < g.ny
    → get_or (set words (place_of g x0 y0) v) (place_of g x y) 0 ≡ cond (eqb y y0) (cond (eqb x x0) v (get_or words (place_of g x y) 0)) (get_or words (place_of g x y) 0)
get_or-set-place words g x0 y0 v x y spread within x0_in y0_in x_in y_in = elim (cases_eq y y0) [
  | inl line ↦ elim (cases_eq x x0) [
    | inl column ↦ rw (eq-eqb y y0 line) (rw (eq-eqb x x0 column) (ap (λ k. get_or (set words (place_of g x0 y0) v) k 0) (ap (λ i. place_of g i y) column ∙ ap (place_of g x0) line) ∙ get_or-set_same words (place_of g x0 y0) v 0 (within x0 y0 x0_in y0_in)))
    | inr column ↦ rw (eq-eqb y y0 line) (rw (ne_eqb x x0 column) (get_or-set_other words (place_of g x0 y0) (place_of g x y) v 0 (λ same. column (place_inj g x y x0 y0 spread x_in x0_in same).0)))
  ]
  | inr line ↦ rw (ne_eqb y y0 line) (get_or-set_other words (place_of g x0 y0) (place_of g x y) v 0 (λ same. line (place_inj g x y x0 y0 spread x_in x0_in same).1))
]

-- a place is not p before itself
not_both : (k k0 p : ℕ) → 1 ≤ p → (eqb k k0 && eqb k (k0 + p)) ≡ false
not_both k k0 p some = elim (cases_eq k k0) [
  | inl same ↦ rw (eq-eqb k k0 same) (ne_eqb k (k0 + p) (λ e. absurd (omega arith)))
  | inr other ↦ rw (ne_eqb k k0 other) refl
]

-- four writes, and a square put
square_tests : (a0 a1 b0 b1 : Bool) (w s1 s2 s3 s4 : ℕ) → (a0 && a1) ≡ false → (b0 && b1) ≡ false
    → (let l1 = cond a0 (cond b0 s1 w) w in let l2 = cond a0 (cond b1 s2 l1) l1 in let l3 = cond a1 (cond b0 s3 l2) l2 in cond a1 (cond b1 s4 l3) l3)
    ≡ cond a0 (cond b0 s1 (cond b1 s2 w)) (cond a1 (cond b0 s3 (cond b1 s4 w)) w)
square_tests true true b0 b1 w s1 s2 s3 s4 a b = cc
square_tests true false true true w s1 s2 s3 s4 a b = cc
square_tests true false true false w s1 s2 s3 s4 a b = refl
square_tests true false false true w s1 s2 s3 s4 a b = refl
square_tests true false false false w s1 s2 s3 s4 a b = refl
square_tests false true true true w s1 s2 s3 s4 a b = cc
square_tests false true true false w s1 s2 s3 s4 a b = refl
square_tests false true false true w s1 s2 s3 s4 a b = refl
square_tests false true false false w s1 s2 s3 s4 a b = refl
square_tests false false b0 b1 w s1 s2 s3 s4 a b = refl

-- two writes, and a pair put
pair_tests : (a b0 b1 : Bool) (w s1 s2 : ℕ) → (b0 && b1) ≡ false
    → (let l1 = cond a (cond b0 s1 w) w in cond a (cond b1 s2 l1) l1) ≡ cond a (cond b0 s1 (cond b1 s2 w)) w
pair_tests true true true w s1 s2 b = cc
pair_tests true true false w s1 s2 b = refl
pair_tests true false true w s1 s2 b = refl
pair_tests true false false w s1 s2 b = refl
pair_tests false b0 b1 w s1 s2 b = refl

column_tests : (a b0 b1 : Bool) (w s1 s2 : ℕ) → (b0 && b1) ≡ false
    → (let l1 = cond b0 (cond a s1 w) w in cond b1 (cond a s2 l1) l1) ≡ cond a (cond b0 s1 (cond b1 s2 w)) w
column_tests a true true w s1 s2 b = cc
column_tests true true false w s1 s2 b = refl
column_tests false true false w s1 s2 b = refl
column_tests true false true w s1 s2 b = refl
column_tests false false true w s1 s2 b = refl
column_tests true false false w s1 s2 b = refl
column_tests false false false w s1 s2 b = refl

within_set : (words : List ℕ) (g : Grid) (k v : ℕ) → IsWithin g (length words) → IsWithin g (length (set words k v))
within_set words g k v within x y x_in y_in = let inside = within x y x_in y_in in omega (arith, length-set words k v)

pub becomes_square : (words : List ℕ) (g : Grid) (x0 y0 p : ℕ) (s : Square) → 1 ≤ g.step → 1 ≤ p → IsWithin g (length words) → x0 + p < g.nx → y0 + p < g.ny
    → Becomes words (set (set (set (set words (place_of g x0 y0) s.first) (place_of g (x0 + p) y0) s.right) (place_of g x0 (y0 + p)) s.below) (place_of g (x0 + p) (y0 + p)) s.across) g (put_square (matrix_of words g) x0 y0 p s)
becomes_square words g x0 y0 p s spread some within right below =
    let w1 = set words (place_of g x0 y0) s.first in
    let w2 = set w1 (place_of g (x0 + p) y0) s.right in
    let w3 = set w2 (place_of g x0 (y0 + p)) s.below in
    let in1 = within_set words g (place_of g x0 y0) s.first within in
    let in2 = within_set w1 g (place_of g (x0 + p) y0) s.right in1 in
    let in3 = within_set w2 g (place_of g x0 (y0 + p)) s.below in2 in
    record {
      placed = λ x y x_in y_in.
          let w = get_or words (place_of g x y) 0 in
          let e1 = get_or-set-place words g x0 y0 s.first x y spread within (omega arith) (omega arith) x_in y_in in
          let e2 = get_or-set-place w1 g (x0 + p) y0 s.right x y spread in1 (omega arith) (omega arith) x_in y_in in
          let e3 = get_or-set-place w2 g x0 (y0 + p) s.below x y spread in2 (omega arith) (omega arith) x_in y_in in
          get_or-set-place w3 g (x0 + p) (y0 + p) s.across x y spread in3 (omega arith) (omega arith) x_in y_in
          ∙ ap (λ l. cond (eqb y (y0 + p)) (cond (eqb x (x0 + p)) s.across l) l) (e3 ∙ ap (λ l. cond (eqb y (y0 + p)) (cond (eqb x x0) s.below l) l) (e2 ∙ ap (λ l. cond (eqb y y0) (cond (eqb x (x0 + p)) s.right l) l) e1))
          ∙ square_tests (eqb y y0) (eqb y (y0 + p)) (eqb x x0) (eqb x (x0 + p)) w s.first s.right s.below s.across (not_both y y0 p some) (not_both x x0 p some);
      others = λ k off.
          get_or-set_other w3 _ k s.across 0 (off (x0 + p) (y0 + p) (omega arith) (omega arith)) ∙ get_or-set_other w2 _ k s.below 0 (off x0 (y0 + p) (omega arith) (omega arith))
          ∙ get_or-set_other w1 _ k s.right 0 (off (x0 + p) y0 (omega arith) (omega arith)) ∙ get_or-set_other words _ k s.first 0 (off x0 y0 (omega arith) (omega arith));
    }

pub becomes_column : (words : List ℕ) (g : Grid) (x0 y0 p a b : ℕ) → 1 ≤ g.step → 1 ≤ p → IsWithin g (length words) → x0 < g.nx → y0 + p < g.ny
    → Becomes words (set (set words (place_of g x0 y0) a) (place_of g x0 (y0 + p)) b) g (put_column (matrix_of words g) x0 y0 p (a, b))
becomes_column words g x0 y0 p a b spread some within column below =
    let w1 = set words (place_of g x0 y0) a in
    let in1 = within_set words g (place_of g x0 y0) a within in
    record {
      placed = λ x y x_in y_in.
          let w = get_or words (place_of g x y) 0 in
          let e1 = get_or-set-place words g x0 y0 a x y spread within (omega arith) (omega arith) x_in y_in in
          get_or-set-place w1 g x0 (y0 + p) b x y spread in1 (omega arith) (omega arith) x_in y_in
          ∙ ap (λ l. cond (eqb y (y0 + p)) (cond (eqb x x0) b l) l) e1
          ∙ column_tests (eqb x x0) (eqb y y0) (eqb y (y0 + p)) w a b (not_both y y0 p some);
      others = λ k off. get_or-set_other w1 _ k b 0 (off x0 (y0 + p) (omega arith) (omega arith)) ∙ get_or-set_other words _ k a 0 (off x0 y0 (omega arith) (omega arith));
    }

pub becomes_line : (words : List ℕ) (g : Grid) (x0 y0 p a b : ℕ) → 1 ≤ g.step → 1 ≤ p → IsWithin g (length words) → x0 + p < g.nx → y0 < g.ny
    → Becomes words (set (set words (place_of g x0 y0) a) (place_of g (x0 + p) y0) b) g (put_line (matrix_of words g) x0 y0 p (a, b))
becomes_line words g x0 y0 p a b spread some within right line =
    let w1 = set words (place_of g x0 y0) a in
    let in1 = within_set words g (place_of g x0 y0) a within in
    record {
      placed = λ x y x_in y_in.
          let w = get_or words (place_of g x y) 0 in
          let e1 = get_or-set-place words g x0 y0 a x y spread within (omega arith) (omega arith) x_in y_in in
          get_or-set-place w1 g (x0 + p) y0 b x y spread in1 (omega arith) (omega arith) x_in y_in
          ∙ ap (λ l. cond (eqb y y0) (cond (eqb x (x0 + p)) b l) l) e1
          ∙ pair_tests (eqb y y0) (eqb x x0) (eqb x (x0 + p)) w a b (not_both x x0 p some);
      others = λ k off. get_or-set_other w1 _ k b 0 (off (x0 + p) y0 (omega arith) (omega arith)) ∙ get_or-set_other words _ k a 0 (off x0 y0 (omega arith) (omega arith));
    }

-- ---- the same, at places that were computed and with the words that were read there

abbrev SquareRewritten : List ℕ → Grid → ℕ → ℕ → ℕ → Way → ℕ → ℕ → ℕ → ℕ → ℕ → Type 0
SquareRewritten words g x0 y0 p way max k1 k2 k3 k4 = (s : Square) → s ≡ square_by way max (record { first = get_or words k1 0; right = get_or words k2 0; below = get_or words k3 0; across = get_or words k4 0 })
    → Becomes words (set (set (set (set words k1 s.first) k2 s.right) k3 s.below) k4 s.across) g (put_square (matrix_of words g) x0 y0 p (square_by way max (square_at (matrix_of words g) x0 y0 p)))

pub square_rewritten : (words : List ℕ) (g : Grid) (x0 y0 p : ℕ) (way : Way) (max k1 k2 k3 k4 : ℕ) → 1 ≤ g.step → 1 ≤ p → IsWithin g (length words) → x0 + p < g.nx → y0 + p < g.ny
    → k1 ≡ place_of g x0 y0 → k2 ≡ place_of g (x0 + p) y0 → k3 ≡ place_of g x0 (y0 + p) → k4 ≡ place_of g (x0 + p) (y0 + p) → SquareRewritten words g x0 y0 p way max k1 k2 k3 k4
square_rewritten words g x0 y0 p way max k1 k2 k3 k4 spread some within right below e1 e2 e3 e4 =
    subst (λ k. SquareRewritten words g x0 y0 p way max k k2 k3 k4) (sym e1)
    (subst (λ k. SquareRewritten words g x0 y0 p way max (place_of g x0 y0) k k3 k4) (sym e2)
    (subst (λ k. SquareRewritten words g x0 y0 p way max (place_of g x0 y0) (place_of g (x0 + p) y0) k k4) (sym e3)
    (subst (λ k. SquareRewritten words g x0 y0 p way max (place_of g x0 y0) (place_of g (x0 + p) y0) (place_of g x0 (y0 + p)) k) (sym e4)
    (λ s e. subst (λ t. Becomes words (set (set (set (set words (place_of g x0 y0) s.first) (place_of g (x0 + p) y0) s.right) (place_of g x0 (y0 + p)) s.below) (place_of g (x0 + p) (y0 + p)) s.across) g (put_square (matrix_of words g) x0 y0 p t)) e
    (becomes_square words g x0 y0 p s spread some within right below)))))

abbrev ColumnRewritten : List ℕ → Grid → ℕ → ℕ → ℕ → Way → ℕ → ℕ → ℕ → Type 0
ColumnRewritten words g x0 y0 p way max k1 k2 = (s : ℕ × ℕ) → s ≡ pair_by way max (get_or words k1 0) (get_or words k2 0)
    → Becomes words (set (set words k1 s.0) k2 s.1) g (put_column (matrix_of words g) x0 y0 p (pair_by way max (matrix_of words g x0 y0) (matrix_of words g x0 (y0 + p))))

pub column_rewritten : (words : List ℕ) (g : Grid) (x0 y0 p : ℕ) (way : Way) (max k1 k2 : ℕ) → 1 ≤ g.step → 1 ≤ p → IsWithin g (length words) → x0 < g.nx → y0 + p < g.ny
    → k1 ≡ place_of g x0 y0 → k2 ≡ place_of g x0 (y0 + p) → ColumnRewritten words g x0 y0 p way max k1 k2
column_rewritten words g x0 y0 p way max k1 k2 spread some within column below e1 e2 =
    subst (λ k. ColumnRewritten words g x0 y0 p way max k k2) (sym e1)
    (subst (λ k. ColumnRewritten words g x0 y0 p way max (place_of g x0 y0) k) (sym e2)
    (λ s e. subst (λ t. Becomes words (set (set words (place_of g x0 y0) s.0) (place_of g x0 (y0 + p)) s.1) g (put_column (matrix_of words g) x0 y0 p t)) e
    (becomes_column words g x0 y0 p s.0 s.1 spread some within column below)))

abbrev LineRewritten : List ℕ → Grid → ℕ → ℕ → ℕ → Way → ℕ → ℕ → ℕ → Type 0
LineRewritten words g x0 y0 p way max k1 k2 = (s : ℕ × ℕ) → s ≡ pair_by way max (get_or words k1 0) (get_or words k2 0)
    → Becomes words (set (set words k1 s.0) k2 s.1) g (put_line (matrix_of words g) x0 y0 p (pair_by way max (matrix_of words g x0 y0) (matrix_of words g (x0 + p) y0)))

pub line_rewritten : (words : List ℕ) (g : Grid) (x0 y0 p : ℕ) (way : Way) (max k1 k2 : ℕ) → 1 ≤ g.step → 1 ≤ p → IsWithin g (length words) → x0 + p < g.nx → y0 < g.ny
    → k1 ≡ place_of g x0 y0 → k2 ≡ place_of g (x0 + p) y0 → LineRewritten words g x0 y0 p way max k1 k2
line_rewritten words g x0 y0 p way max k1 k2 spread some within right line e1 e2 =
    subst (λ k. LineRewritten words g x0 y0 p way max k k2) (sym e1)
    (subst (λ k. LineRewritten words g x0 y0 p way max (place_of g x0 y0) k) (sym e2)
    (λ s e. subst (λ t. Becomes words (set (set words (place_of g x0 y0) s.0) (place_of g (x0 + p) y0) s.1) g (put_line (matrix_of words g) x0 y0 p t)) e
    (becomes_line words g x0 y0 p s.0 s.1 spread some within right line)))

-- ---- one change and then another

pub becomes_same : (words : List ℕ) (g : Grid) (M : Matrix) → ((x y : ℕ) → x < g.nx → y < g.ny → matrix_of words g x y ≡ M x y) → Becomes words words g M
becomes_same words g M same = record { placed = same; others = λ k off. refl }

pub becomes_then : (old mid new : List ℕ) (g : Grid) (M N R : Matrix) → Becomes old mid g M → Becomes mid new g N → ((x y : ℕ) → x < g.nx → y < g.ny → N x y ≡ R x y) → Becomes old new g R
becomes_then old mid new g M N R first second same = record {
  placed = λ x y x_in y_in. second.placed x y x_in y_in ∙ same x y x_in y_in;
  others = λ k off. second.others k off ∙ first.others k off;
}

pub becomes_as : (old new : List ℕ) (g : Grid) (M R : Matrix) → Becomes old new g M → ((x y : ℕ) → x < g.nx → y < g.ny → M x y ≡ R x y) → Becomes old new g R
becomes_as old new g M R becomes same = record { placed = λ x y x_in y_in. becomes.placed x y x_in y_in ∙ same x y x_in y_in; others = becomes.others }
