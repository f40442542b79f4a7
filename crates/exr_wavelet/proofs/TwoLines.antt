-- Two lines as slices of their own, and as a part of a slice.
use Rattle.std.proofs.Common.{◌≡◌, ◌≢◌, ℕ, ◌+◌, ◌-◌, ◌*◌, ◌<◌, ◌≤◌, inl, inr, List, ◌++◌, cond, eqb, length, take, drop, get_or, set, refl, sym, ap, subst, ◌∙◌, arith}
use Rattle.std.proofs.lemmas.Bool.{cases_lt, eq-eqb, ne_eqb, le-leb, lt-leb}
use Rattle.std.proofs.lemmas.List.{get_or_append_left, get_or-append-add, get_or-append_right, get_or-take, get_or-drop, set-append_left, set-append_right, length-set, length-take-le, length-drop, length-append}
use Rattle.std.proofs.lemmas.Nat.{mul-add-lt}
use Rattle.std.proofs.Math.Nat.{mul-le-mul_right}
use Rattle.std.proofs.lemmas.Slice.{take-put_mid_below, drop-put_mid}
use borrow.Rule.Slice.PartMut.{put_mid, post_of}
use Rattle.exr_wavelet.specs.declared.level.Grid.{Grid}
use Rattle.exr_wavelet.specs.declared.pair.Square.{Square}
use Rattle.exr_wavelet.specs.declared.pair.Way.{Way}
use Rattle.exr_wavelet.specs.Pair.{square_by}
use Rattle.exr_wavelet.specs.Level.{Matrix, square_at, put_square, start_of, squares_along}
use Rattle.exr_wavelet.specs.Places.{two_lines, place_of, matrix_of, IsWithin, Becomes}
use Rattle.exr_wavelet.proofs.Placing.{square_rewritten}
use Rattle.exr_wavelet.proofs.Levels.{put_square_off_lines}

-- ---- two lists

two_within : (nx : ℕ) (top bottom : List ℕ) → length top ≡ nx → length bottom ≡ nx → IsWithin (two_lines nx) (length (top ++ bottom))
two_within nx top bottom long as_long x y x_in y_in =
    let inside : y * nx + x < nx * 2 = mul-add-lt y nx x 2 y_in x_in in
    omega (arith, length-append top bottom)

-- four writes to two lists, and to both joined
set_lines : (top bottom : List ℕ) (nx x a b c d : ℕ) → length top ≡ nx → length bottom ≡ nx → x + 1 < nx
    → set (set (set (set (top ++ bottom) x a) (x + 1) b) (nx + x) c) (nx + x + 1) d ≡ set (set top x a) (x + 1) b ++ set (set bottom x c) (x + 1) d
set_lines top bottom nx x a b c d long as_long right =
    let t1 = set top x a in
    let t2 = set t1 (x + 1) b in
    let b1 = set bottom x c in
    let long1 : length t1 ≡ nx = length-set top x a ∙ long in
    let long2 : length t2 ≡ nx = length-set t1 (x + 1) b ∙ long1 in
    let e1 : set (top ++ bottom) x a ≡ t1 ++ bottom = set-append_left top bottom x a (omega arith) in
    let e2 : set (t1 ++ bottom) (x + 1) b ≡ t2 ++ bottom = set-append_left t1 bottom (x + 1) b (omega arith) in
    let i3 : nx + x - nx ≡ x = omega arith in
    let i4 : nx + x + 1 - nx ≡ x + 1 = omega arith in
    let e3 : set (t2 ++ bottom) (nx + x) c ≡ t2 ++ b1 = set-append_right t2 bottom nx (nx + x) c long2 (omega arith) ∙ ap (λ i. t2 ++ set bottom i c) i3 in
    let e4 : set (t2 ++ b1) (nx + x + 1) d ≡ t2 ++ set b1 (x + 1) d = set-append_right t2 b1 nx (nx + x + 1) d long2 (omega arith) ∙ ap (λ i. t2 ++ set b1 i d) i4 in
    ap (λ l. set (set (set l (x + 1) b) (nx + x) c) (nx + x + 1) d) e1 ∙ ap (λ l. set (set l (nx + x) c) (nx + x + 1) d) e2 ∙ ap (λ l. set l (nx + x + 1) d) e3 ∙ e4

abbrev record_of : ℕ → ℕ → ℕ → ℕ → Square
record_of a b c d = record { first = a; right = b; below = c; across = d }

pub becomes_lines : (top bottom : List ℕ) (nx x : ℕ) (way : Way) (max : ℕ) (s : Square) → length top ≡ nx → length bottom ≡ nx → x + 1 < nx
    → s ≡ square_by way max (record_of (get_or top x 0) (get_or top (x + 1) 0) (get_or bottom x 0) (get_or bottom (x + 1) 0))
    → Becomes (top ++ bottom) (set (set top x s.first) (x + 1) s.right ++ set (set bottom x s.below) (x + 1) s.across) (two_lines nx)
    (put_square (matrix_of (top ++ bottom) (two_lines nx)) x 0 1 (square_by way max (square_at (matrix_of (top ++ bottom) (two_lines nx)) x 0 1)))
becomes_lines top bottom nx x way max s long as_long right is =
    let words = top ++ bottom in
    let g = two_lines nx in
    let a : get_or top x 0 ≡ get_or words x 0 = sym (get_or_append_left top bottom 0 x (omega arith)) in
    let b : get_or top (x + 1) 0 ≡ get_or words (x + 1) 0 = sym (get_or_append_left top bottom 0 (x + 1) (omega arith)) in
    let at_c : nx + x ≡ length top + x = omega arith in
    let at_d : nx + x + 1 ≡ length top + (x + 1) = omega arith in
    let c : get_or bottom x 0 ≡ get_or words (nx + x) 0 = sym (ap (λ k. get_or words k 0) at_c ∙ get_or-append-add top bottom x 0) in
    let d : get_or bottom (x + 1) 0 ≡ get_or words (nx + x + 1) 0 = sym (ap (λ k. get_or words k 0) at_d ∙ get_or-append-add top bottom (x + 1) 0) in
    let same : square_by way max (record_of (get_or top x 0) (get_or top (x + 1) 0) (get_or bottom x 0) (get_or bottom (x + 1) 0))
    ≡ square_by way max (record_of (get_or words x 0) (get_or words (x + 1) 0) (get_or words (nx + x) 0) (get_or words (nx + x + 1) 0)) = λ i. square_by way max (record_of (a i) (b i) (c i) (d i)) in
    subst (λ new. Becomes words new g (put_square (matrix_of words g) x 0 1 (square_by way max (square_at (matrix_of words g) x 0 1))))
    (set_lines top bottom nx x s.first s.right s.below s.across long as_long right)
    (square_rewritten words g x 0 1 way max x (x + 1) (nx + x) (nx + x + 1) (omega arith) (omega arith) (two_within nx top bottom long as_long) right (omega arith)
    (omega arith) (omega arith) (omega arith) (omega arith) s (is ∙ same))

-- ---- a part of a slice

place_one : (g : Grid) (x y : ℕ) → g.step ≡ 1 → place_of g x y ≡ g.first + y * g.nx + x
place_one g x y one = ap (λ s. g.first + (y * g.nx + x) * s) one ∙ omega arith

-- how many words two lines have
pub part_len : (g : Grid) (y first last : ℕ) → g.step ≡ 1 → 2 ≤ g.nx → first ≡ place_of g 0 y → last ≡ place_of g (g.nx - 1) (y + 1) → first + (last + 1 - first) ≡ place_of g (g.nx - 1) (y + 1) + 1
part_len g y first last one wide begins ends =
    let a : first ≡ g.first + y * g.nx = begins ∙ place_one g 0 y one ∙ omega arith in
    let b : last ≡ g.first + (y + 1) * g.nx + (g.nx - 1) = ends ∙ place_one g (g.nx - 1) (y + 1) one in
    let c : first + (last + 1 - first) ≡ last + 1 = omega arith in
    c ∙ ap (λ k. k + 1) ends

-- squares of lines that agree, wherever the two lines stand
put_top_same : (L M : Matrix) (x0 y x : ℕ) (s t : Square) → s ≡ t → L x 0 ≡ M x y → put_square L x0 0 1 s x 0 ≡ put_square M x0 y 1 t x y
put_top_same L M x0 y x s t same at =
    ap (λ r. put_square L x0 0 1 r x 0) same
    ∙ ap (λ w. cond (eqb x x0) t.first (cond (eqb x (x0 + 1)) t.right w)) at
    ∙ ap (λ b. cond b (cond (eqb x x0) t.first (cond (eqb x (x0 + 1)) t.right (M x y))) (cond (eqb y (y + 1)) (cond (eqb x x0) t.below (cond (eqb x (x0 + 1)) t.across (M x y))) (M x y))) (sym (eq-eqb y y refl))

put_bottom_same : (L M : Matrix) (x0 y x : ℕ) (s t : Square) → s ≡ t → L x 1 ≡ M x (y + 1) → put_square L x0 0 1 s x 1 ≡ put_square M x0 y 1 t x (y + 1)
put_bottom_same L M x0 y x s t same at =
    let w = M x (y + 1) in
    let below = cond (eqb x x0) t.below (cond (eqb x (x0 + 1)) t.across w) in
    let top = cond (eqb x x0) t.first (cond (eqb x (x0 + 1)) t.right w) in
    ap (λ r. put_square L x0 0 1 r x 1) same
    ∙ ap (λ v. cond (eqb x x0) t.below (cond (eqb x (x0 + 1)) t.across v)) at
    ∙ ap (λ b. cond b below w) (sym (eq-eqb (y + 1) (y + 1) refl))
    ∙ ap (λ b. cond b top (cond (eqb (y + 1) (y + 1)) below w)) (sym (ne_eqb (y + 1) y (λ e. absurd (omega arith))))

-- two lines of a matrix that are those of another
pub record SameLines (L M : Matrix) (nx y : ℕ) : Type 0 where
  pub top : (x : ℕ) → x < nx → L x 0 ≡ M x y
  pub bottom : (x : ℕ) → x < nx → L x 1 ≡ M x (y + 1)

square_there : (way : Way) (max : ℕ) (L M : Matrix) (nx y x0 : ℕ) → SameLines L M nx y → x0 + 1 < nx → square_by way max (square_at L x0 0 1) ≡ square_by way max (square_at M x0 y 1)
square_there way max L M nx y x0 same right =
    let a = same.top x0 (omega arith) in
    let b = same.top (x0 + 1) right in
    let c = same.bottom x0 (omega arith) in
    let d = same.bottom (x0 + 1) right in
    λ i. square_by way max (record_of (a i) (b i) (c i) (d i))

along_top : (way : Way) (max : ℕ) (L M : Matrix) (nx y x : ℕ) → SameLines L M nx y → x < nx → squares_along way max nx 1 0 L x 0 ≡ squares_along way max nx 1 y M x y
along_top way max L M nx y x same x_in =
    let x0 = start_of 1 x in
    let s = square_by way max (square_at L x0 0 1) in
    let t = square_by way max (square_at M x0 y 1) in
    elim (cases_lt nx (x0 + 2 * 1)) [
      | inl part ↦ ap (λ b. cond b (put_square L x0 0 1 s x 0) (L x 0)) (lt-leb (x0 + 2 * 1) nx part) ∙ same.top x x_in ∙ ap (λ b. cond b (put_square M x0 y 1 t x y) (M x y)) (sym (lt-leb (x0 + 2 * 1) nx part))
      | inr whole ↦
          ap (λ b. cond b (put_square L x0 0 1 s x 0) (L x 0)) (le-leb (x0 + 2 * 1) nx whole)
          ∙ put_top_same L M x0 y x s t (square_there way max L M nx y x0 same (omega arith)) (same.top x x_in)
          ∙ ap (λ b. cond b (put_square M x0 y 1 t x y) (M x y)) (sym (le-leb (x0 + 2 * 1) nx whole))
    ]

along_bottom : (way : Way) (max : ℕ) (L M : Matrix) (nx y x : ℕ) → SameLines L M nx y → x < nx → squares_along way max nx 1 0 L x 1 ≡ squares_along way max nx 1 y M x (y + 1)
along_bottom way max L M nx y x same x_in =
    let x0 = start_of 1 x in
    let s = square_by way max (square_at L x0 0 1) in
    let t = square_by way max (square_at M x0 y 1) in
    elim (cases_lt nx (x0 + 2 * 1)) [
      | inl part ↦
          ap (λ b. cond b (put_square L x0 0 1 s x 1) (L x 1)) (lt-leb (x0 + 2 * 1) nx part) ∙ same.bottom x x_in ∙ ap (λ b. cond b (put_square M x0 y 1 t x (y + 1)) (M x (y + 1))) (sym (lt-leb (x0 + 2 * 1) nx part))
      | inr whole ↦
          ap (λ b. cond b (put_square L x0 0 1 s x 1) (L x 1)) (le-leb (x0 + 2 * 1) nx whole)
          ∙ put_bottom_same L M x0 y x s t (square_there way max L M nx y x0 same (omega arith)) (same.bottom x x_in)
          ∙ ap (λ b. cond b (put_square M x0 y 1 t x (y + 1)) (M x (y + 1))) (sym (le-leb (x0 + 2 * 1) nx whole))
    ]

along_off : (way : Way) (max : ℕ) (M : Matrix) (nx y x y' : ℕ) → y' ≢ y → y' ≢ y + 1 → M x y' ≡ squares_along way max nx 1 y M x y'
along_off way max M nx y x y' a b =
    let x0 = start_of 1 x in
    let t = square_by way max (square_at M x0 y 1) in
    elim (cases_lt nx (x0 + 2 * 1)) [
      | inl part ↦ ap (λ b. cond b (put_square M x0 y 1 t x y') (M x y')) (sym (lt-leb (x0 + 2 * 1) nx part))
      | inr whole ↦ sym (put_square_off_lines M x0 y 1 t x y' a b) ∙ ap (λ b. cond b (put_square M x0 y 1 t x y') (M x y')) (sym (le-leb (x0 + 2 * 1) nx whole))
    ]

-- a word of a slice of which a part was written anew
in_part : (words new : List ℕ) (first len k : ℕ) → first ≤ length words → length new ≡ len → k < len → get_or (put_mid first len words new) (first + k) 0 ≡ get_or new k 0
in_part words new first len k inside long lt =
    let at : first + k - first ≡ k = omega arith in
    get_or-append_right (take first words) (new ++ post_of first len words) first (first + k) 0 (length-take-le first words inside) (omega arith)
    ∙ ap (λ i. get_or (new ++ post_of first len words) i 0) at ∙ get_or_append_left new (post_of first len words) 0 k (omega arith)

before_part : (words new : List ℕ) (first len k : ℕ) → first ≤ length words → k < first → get_or (put_mid first len words new) k 0 ≡ get_or words k 0
before_part words new first len k inside lt =
    sym (get_or-take (k + 1) (put_mid first len words new) k 0 (omega arith)) ∙ ap (λ l. get_or l k 0) (take-put_mid_below first len words new (k + 1) (omega arith) inside) ∙ get_or-take (k + 1) words k 0 (omega arith)

behind_part : (words new : List ℕ) (first len k : ℕ) → first ≤ length words → length new ≡ len → first + len ≤ k → get_or (put_mid first len words new) k 0 ≡ get_or words k 0
behind_part words new first len k inside long le =
    let at : k ≡ k + 0 = omega arith in
    ap (λ i. get_or (put_mid first len words new) i 0) at ∙ sym (get_or-drop k (put_mid first len words new) 0 0)
    ∙ ap (λ l. get_or l 0 0) (drop-put_mid first len words new k le inside long) ∙ get_or-drop k words 0 0 ∙ ap (λ i. get_or words i 0) (sym at)

-- two lines of a matrix stepped as a part of its slice
pub becomes_part : (words new : List ℕ) (g : Grid) (first len y : ℕ) (way : Way) (max : ℕ) → IsWithin g (length words) → g.step ≡ 1 → 2 ≤ g.nx → y + 1 < g.ny
    → first ≡ place_of g 0 y → first + len ≡ place_of g (g.nx - 1) (y + 1) + 1 → length new ≡ length (take len (drop first words))
    → (let part = take len (drop first words) in Becomes part new (two_lines g.nx) (squares_along way max g.nx 1 0 (matrix_of part (two_lines g.nx))))
    → Becomes words (put_mid first len words new) g (squares_along way max g.nx 1 y (matrix_of words g))
becomes_part words new g first len y way max within one wide below begins ends as_long becomes =
    let nx = g.nx in
    let M = matrix_of words g in
    let part = take len (drop first words) in
    let L = matrix_of part (two_lines nx) in
    let now = put_mid first len words new in
    let from : first ≡ g.first + y * nx = begins ∙ place_one g 0 y one ∙ omega arith in
    let whole : len ≡ 2 * nx = omega (arith, place_one g (nx - 1) (y + 1) one) in
    let inside : first + len ≤ length words = omega (arith, within (nx - 1) (y + 1) (omega arith) below) in
    let long : length new ≡ len = as_long ∙ length-take-le len (drop first words) (omega (arith, length-drop first words)) in
    let at_top : (x : ℕ) → x < nx → place_of g x y ≡ first + x = λ x x_in. place_one g x y one ∙ omega arith in
    let at_bottom : (x : ℕ) → x < nx → place_of g x (y + 1) ≡ first + (nx + x) = λ x x_in. place_one g x (y + 1) one ∙ omega arith in
    let of_part : (k : ℕ) → k < len → get_or part k 0 ≡ get_or words (first + k) 0 = λ k lt. get_or-take len (drop first words) k 0 lt ∙ get_or-drop first words k 0 in
    let top_place : (x : ℕ) → 0 + (0 * nx + x) * 1 ≡ x = λ x. omega arith in
    let bottom_place : (x : ℕ) → 0 + (1 * nx + x) * 1 ≡ nx + x = λ x. omega arith in
    let same : SameLines L M nx y = record {
      top = λ x x_in. ap (λ k. get_or part k 0) (top_place x) ∙ of_part x (omega arith) ∙ ap (λ k. get_or words k 0) (sym (at_top x x_in));
      bottom = λ x x_in. ap (λ k. get_or part k 0) (bottom_place x) ∙ of_part (nx + x) (omega arith) ∙ ap (λ k. get_or words k 0) (sym (at_bottom x x_in));
    } in
    record {
      placed = λ x y' x_in y'_in. elim (cases_lt y' y) [
        | inl above ↦
            let lines : (y' + 1) * nx ≤ y * nx = mul-le-mul_right nx (omega arith) in
            let before : place_of g x y' < first = omega (arith, place_one g x y' one) in
            before_part words new first len (place_of g x y') (omega arith) before ∙ along_off way max M nx y x y' (λ e. absurd (omega arith)) (λ e. absurd (omega arith))
        | inr from_y ↦ elim (cases_lt y' (y + 1)) [
          | inl first_line ↦
              let line : y' ≡ y = omega arith in
              subst (λ l. get_or now (place_of g x l) 0 ≡ squares_along way max nx 1 y M x l) (sym line)
              (ap (λ k. get_or now k 0) (at_top x x_in) ∙ in_part words new first len x (omega arith) long (omega arith) ∙ ap (λ k. get_or new k 0) (sym (top_place x)) ∙ becomes.placed x 0 x_in (omega arith) ∙ along_top way max L M nx y x same x_in)
          | inr later ↦ elim (cases_lt y' (y + 2)) [
            | inl second_line ↦
                let line : y' ≡ y + 1 = omega arith in
                subst (λ l. get_or now (place_of g x l) 0 ≡ squares_along way max nx 1 y M x l) (sym line)
                (ap (λ k. get_or now k 0) (at_bottom x x_in) ∙ in_part words new first len (nx + x) (omega arith) long (omega arith) ∙ ap (λ k. get_or new k 0) (sym (bottom_place x)) ∙ becomes.placed x 1 x_in (omega arith) ∙ along_bottom way max L M nx y x same x_in)
            | inr under ↦
                let lines : (y + 2) * nx ≤ y' * nx = mul-le-mul_right nx (omega arith) in
                let behind : first + len ≤ place_of g x y' = omega (arith, place_one g x y' one) in
                behind_part words new first len (place_of g x y') (omega arith) long behind ∙ along_off way max M nx y x y' (λ e. absurd (omega arith)) (λ e. absurd (omega arith))
          ]
        ]
      ];
      others = λ k off. elim (cases_lt k first) [
        | inl before ↦ before_part words new first len k (omega arith) before
        | inr from_k ↦ elim (cases_lt k (first + nx)) [
          | inl top ↦ absurd (off (k - first) y (omega arith) (omega arith) (let at = at_top (k - first) (omega arith) in omega arith))
          | inr not_top ↦ elim (cases_lt k (first + len)) [
            | inl bottom ↦ absurd (off (k - first - nx) (y + 1) (omega arith) below (let at = at_bottom (k - first - nx) (omega arith) in omega arith))
            | inr behind ↦ behind_part words new first len k (omega arith) long behind
          ]
        ]
      ];
    }
