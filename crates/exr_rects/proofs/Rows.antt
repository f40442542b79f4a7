-- The rows of a rectangle, taken, dropped, cut short and written; the places of a rectangle and the marks at them.
use Rattle.std.proofs.Common.{◌≡◌, ℕ, zero, suc, ◌+◌, ◌-◌, ◌*◌, ◌<◌, ◌≤◌, ◌⊎◌, inl, inr, List, [], ◌∷◌, length, take, drop, map, set, get_or, refl, sym, ap, subst, ◌∙◌, Bool, true, false, arith}
use native.Mathlib.Nat.{zero-mul, suc-mul, add-mul, mul-le-mul_right, not-suc-le-zero, le_of_suc-le-suc}
use mathlib.Core.Bool.{not, ◌&&◌, ◌||◌}
use lib.Seq.{drop-drop}
use lib.Dec.{leb, ltb}
use Rattle.std.proofs.Math.Nat.{eq-or-lt_of_le}
use Rattle.std.proofs.lemmas.Bool.{cases_lt}
use Rattle.std.proofs.lemmas.Bool.Decides.{nat_tests}
use Rattle.exr_rects.specs.Marks.{in_rect, marks_in, marked, MarksRect, RectFits, overwritten, rows_of}

module _ {X : Type 0} where
  drop_past : (xs : List X) (p j : ℕ) (ws : List X) → p + length ws ≤ j → drop j (overwritten xs p ws) ≡ drop j xs
  drop_past [] p j ws e = refl
  drop_past (x ∷ xs) zero zero [] e = refl
  drop_past (x ∷ xs) zero zero (w ∷ ws) e = let up : 0 + suc (length ws) ≤ 0 = e in absurd (omega arith)
  drop_past (x ∷ xs) (suc p) zero ws e = absurd (omega arith)
  drop_past (x ∷ xs) (suc p) (suc j) ws e = drop_past xs p j ws (omega arith)
  drop_past (x ∷ xs) zero (suc j) [] e = refl
  drop_past (x ∷ xs) zero (suc j) (w ∷ ws) e = let up : 0 + suc (length ws) ≤ suc j = e in drop_past xs zero j ws (omega arith)

  take_before : (xs : List X) (p j : ℕ) (ws : List X) → j ≤ p → take j (overwritten xs p ws) ≡ take j xs
  take_before xs p zero ws e = refl
  take_before xs zero (suc j) ws e = absurd (not-suc-le-zero e)
  take_before [] (suc p) (suc j) ws e = refl
  take_before (x ∷ xs) (suc p) (suc j) ws e = ap (λ l. x ∷ l) (take_before xs p j ws (le_of_suc-le-suc e))

  drop_within : (xs : List X) (j c p : ℕ) (ws : List X) → p ≡ j + c → drop j (overwritten xs p ws) ≡ overwritten (drop j xs) c ws
  drop_within xs zero c p ws e = ap (λ (k : ℕ). overwritten xs k ws) {x = p} {y = c} (omega arith)
  drop_within xs (suc j) c zero ws e = absurd (omega arith)
  drop_within [] (suc j) c (suc p) ws e = refl
  drop_within (x ∷ xs) (suc j) c (suc p) ws e = drop_within xs j c p ws (omega arith)

  take_over : (xs : List X) (j c : ℕ) (ws : List X) → c + length ws ≤ j → take j (overwritten xs c ws) ≡ overwritten (take j xs) c ws
  take_over xs zero c ws e = refl
  take_over [] (suc j) c ws e = refl
  take_over (x ∷ xs) (suc j) zero [] e = refl
  take_over (x ∷ xs) (suc j) zero (w ∷ ws) e = let up : 0 + suc (length ws) ≤ suc j = e in ap (λ l. w ∷ l) (take_over xs j zero ws (omega arith))
  take_over (x ∷ xs) (suc j) (suc c) ws e = ap (λ l. x ∷ l) (take_over xs j c ws (omega arith))

  take_less : (j n : ℕ) (xs : List X) → j ≤ n → take j (take n xs) ≡ take j xs
  take_less zero n xs e = refl
  take_less (suc j) zero xs e = absurd (not-suc-le-zero e)
  take_less (suc j) (suc n) [] e = refl
  take_less (suc j) (suc n) (x ∷ xs) e = ap (λ l. x ∷ l) (take_less j n xs (le_of_suc-le-suc e))

  drop_of_take : (j r n : ℕ) (xs : List X) → n ≡ j + r → drop j (take n xs) ≡ take r (drop j xs)
  drop_of_take zero r n xs e = ap (λ (k : ℕ). take k xs) {x = n} {y = r} (omega arith)
  drop_of_take (suc j) r zero xs e = absurd (omega arith)
  drop_of_take (suc j) zero (suc n) [] e = refl
  drop_of_take (suc j) (suc r) (suc n) [] e = refl
  drop_of_take (suc j) r (suc n) (x ∷ xs) e = drop_of_take j r n xs (omega arith)

  row_at : (xs : List X) (from rows cols pitch row j : ℕ) → row < rows → j ≡ from + row * pitch → get_or (rows_of xs from rows cols pitch) row [] ≡ take cols (drop j xs)
  row_at xs from zero cols pitch row j lt e = absurd (not-suc-le-zero lt)
  row_at xs from (suc rows) cols pitch zero j lt e = ap (λ (k : ℕ). take cols (drop k xs)) {x = from} {y = j} (omega (arith, zero-mul pitch))
  row_at xs from (suc rows) cols pitch (suc row) j lt e = row_at xs (from + pitch) rows cols pitch row j (le_of_suc-le-suc lt) (omega (arith, suc-mul row pitch))

  -- part of a row, as it lies in the buffer
  pub row_part : (xs : List X) (from rows cols pitch row col n j : ℕ) → row < rows → col + n ≤ cols → j ≡ from + (row * pitch + col)
      → take n (drop j xs) ≡ take n (drop col (get_or (rows_of xs from rows cols pitch) row []))
  row_part xs from rows cols pitch row col n j lt fits e =
      let at = from + row * pitch in let rest : cols ≡ col + (cols - col) = omega arith in
      sym (ap (λ l. take n (drop col l)) (row_at xs from rows cols pitch row at lt refl) ∙ ap (take n) (drop_of_take col (cols - col) cols (drop at xs) rest)
      ∙ take_less n (cols - col) (drop col (drop at xs)) (omega arith) ∙ ap (take n) (drop-drop col at xs) ∙ ap (λ (k : ℕ). take n (drop k xs)) {x = at + col} {y = j} (omega arith))

  pub rows_take : (xs : List X) (from rows cols pitch at : ℕ) → at ≤ rows → take at (rows_of xs from rows cols pitch) ≡ rows_of xs from at cols pitch
  rows_take xs from rows cols pitch zero le = refl
  rows_take xs from zero cols pitch (suc at) le = absurd (not-suc-le-zero le)
  rows_take xs from (suc rows) cols pitch (suc at) le = ap (λ l. take cols (drop from xs) ∷ l) (rows_take xs (from + pitch) rows cols pitch at (le_of_suc-le-suc le))

  pub rows_drop : (xs : List X) (from rows cols pitch at rest j : ℕ) → rows ≡ at + rest → (0 < rest → j ≡ from + at * pitch) → drop at (rows_of xs from rows cols pitch) ≡ rows_of xs j rest cols pitch
  rows_drop xs from rows cols pitch zero zero j e is = ap (λ (r : ℕ). rows_of xs from r cols pitch) {x = rows} {y = 0} (omega arith)
  rows_drop xs from rows cols pitch zero (suc rest) j e is =
      let at : j ≡ from + 0 * pitch = is (omega arith) in
      ap (λ (r : ℕ). rows_of xs from r cols pitch) {x = rows} {y = suc rest} (omega arith) ∙ ap (λ (f : ℕ). rows_of xs f (suc rest) cols pitch) {x = from} {y = j} (omega (arith, zero-mul pitch))
  rows_drop xs from zero cols pitch (suc at) rest j e is = absurd (omega arith)
  rows_drop xs from (suc rows) cols pitch (suc at) rest j e is =
      rows_drop xs (from + pitch) rows cols pitch at rest j (omega arith) (λ more. let at' : j ≡ from + suc at * pitch = is more in omega (arith, suc-mul at pitch))

  pub cols_take : (xs : List X) (from rows cols pitch at : ℕ) → at ≤ cols → map (take at) (rows_of xs from rows cols pitch) ≡ rows_of xs from rows at pitch
  cols_take xs from zero cols pitch at le = refl
  cols_take xs from (suc rows) cols pitch at le =
      let head = take_less at cols (drop from xs) le in let more = cols_take xs (from + pitch) rows cols pitch at le in λ i. head i ∷ more i

  pub cols_drop : (xs : List X) (from rows cols pitch at rest j : ℕ) → cols ≡ at + rest → (0 < rows → j ≡ from + at) → map (drop at) (rows_of xs from rows cols pitch) ≡ rows_of xs j rows rest pitch
  cols_drop xs from zero cols pitch at rest j e is = refl
  cols_drop xs from (suc rows) cols pitch at rest j e is =
      let same : j ≡ from + at = is (omega arith) in
      let head = drop_of_take at rest cols (drop from xs) e ∙ ap (take rest) (drop-drop at from xs) ∙ ap (λ (k : ℕ). take rest (drop k xs)) (sym same) in
      let more = cols_drop xs (from + pitch) rows cols pitch at rest (j + pitch) e (λ _. omega arith) in λ i. head i ∷ more i

  rows_past : (xs : List X) (f rows cols pitch p : ℕ) (ws : List X) → p + length ws ≤ f → rows_of (overwritten xs p ws) f rows cols pitch ≡ rows_of xs f rows cols pitch
  rows_past xs f zero cols pitch p ws e = refl
  rows_past xs f (suc rows) cols pitch p ws e =
      let head = ap (take cols) (drop_past xs p f ws e) in let more = rows_past xs (f + pitch) rows cols pitch p ws (omega arith) in λ i. head i ∷ more i

  -- what is written into one row changes that row alone
  pub rows_written : (xs : List X) (from rows cols pitch row col p : ℕ) (ws : List X) → row < rows → col + length ws ≤ cols → cols ≤ pitch → p ≡ from + (row * pitch + col)
      → rows_of (overwritten xs p ws) from rows cols pitch ≡ set (rows_of xs from rows cols pitch) row (overwritten (get_or (rows_of xs from rows cols pitch) row []) col ws)
  rows_written xs from zero cols pitch row col p ws lt fits narrow e = absurd (not-suc-le-zero lt)
  rows_written xs from (suc rows) cols pitch zero col p ws lt fits narrow e =
      let at : p ≡ from + col = omega (arith, zero-mul pitch) in
      let head = ap (take cols) (drop_within xs from col p ws at) ∙ take_over (drop from xs) cols col ws fits in
      let more = rows_past xs (from + pitch) rows cols pitch p ws (omega arith) in λ i. head i ∷ more i
  rows_written xs from (suc rows) cols pitch (suc row) col p ws lt fits narrow e =
      let step = suc-mul row pitch in let c = suc row * pitch + col in
      let head = ap (take cols) (drop_within xs from c p ws e) ∙ take_before (drop from xs) c cols ws (omega arith) in
      let more = rows_written xs (from + pitch) rows cols pitch row col p ws (le_of_suc-le-suc lt) fits narrow (omega arith) in λ i. head i ∷ more i

or_right : (b c : Bool) → c ≡ true → (b || c) ≡ true
or_right true c e = refl
or_right false c e = e

-- the place of a row and a column is in the rectangle
pub in_rect_true : (from rows cols pitch row col k : ℕ) → row < rows → col < cols → k ≡ from + (row * pitch + col) → in_rect from rows cols pitch k ≡ true
in_rect_true from zero cols pitch row col k lr lc e = absurd (not-suc-le-zero lr)
in_rect_true from (suc rows) cols pitch zero col k lr lc e =
    let at : k ≡ from + col = omega (arith, zero-mul pitch) in let low : from ≤ k = omega arith in let high : k < from + cols = omega arith in
    let first : (leb from k && ltb k (from + cols)) ≡ true = grind (arith, nat_tests) in ap (λ b. b || in_rect (from + pitch) rows cols pitch k) first
in_rect_true from (suc rows) cols pitch (suc row) col k lr lc e =
    or_right (leb from k && ltb k (from + cols)) _ (in_rect_true (from + pitch) rows cols pitch row col k (le_of_suc-le-suc lr) lc (omega (arith, suc-mul row pitch)))

-- a place before or after each row is not in the rectangle
pub in_rect_false : (from rows cols pitch k : ℕ) → ((row : ℕ) → row < rows → (k < from + row * pitch) ⊎ (from + (row * pitch + cols) ≤ k)) → in_rect from rows cols pitch k ≡ false
in_rect_false from zero cols pitch k out = refl
in_rect_false from (suc rows) cols pitch k out =
    let none : (leb from k && ltb k (from + cols)) ≡ false = elim (out 0 (omega arith)) [
      | inl lt ↦ (let low : k < from = omega (arith, zero-mul pitch) in grind (arith, nat_tests))
      | inr le ↦ (let high : from + cols ≤ k = omega (arith, zero-mul pitch) in grind (arith, nat_tests))
    ] in
    ap (λ b. b || in_rect (from + pitch) rows cols pitch k) none ∙ in_rect_false (from + pitch) rows cols pitch k (λ row lt. elim (out (suc row) (omega arith)) [
      | inl less ↦ inl (omega (arith, suc-mul row pitch))
      | inr more ↦ inr (omega (arith, suc-mul row pitch))
    ])

and_false : (b : Bool) → (b && false) ≡ false
and_false true = refl
and_false false = refl

-- a mark of the places that p names
pub marked_in : (p : ℕ → Bool) (j : ℕ) (ms : List Bool) (i k : ℕ) → k ≡ j + i → marked (marks_in p j ms) i ≡ (p k && marked ms i)
marked_in p j [] i k e = sym (and_false (p k))
marked_in p j (m ∷ ms) zero k e = ap (λ (n : ℕ). p n && m) {x = j} {y = k} (omega arith)
marked_in p j (m ∷ ms) (suc i) k e = marked_in p (suc j) ms i k (omega arith)

both_true : (b c : Bool) → b ≡ true → c ≡ true → (b && c) ≡ true
both_true b c e f = ap (λ x. x && c) e ∙ f

-- the places of fewer and shorter rows are marked in what is cut out for them
pub marks_cut : (ms : List Bool) (from rows cols pitch fewer shorter : ℕ) → fewer ≤ rows → shorter ≤ cols → MarksRect ms from rows cols pitch
    → MarksRect (marks_in (in_rect from fewer shorter pitch) 0 ms) from fewer shorter pitch
marks_cut ms from rows cols pitch fewer shorter lr lc inside row col r c =
    let k = from + (row * pitch + col) in
    marked_in (in_rect from fewer shorter pitch) 0 ms k k (omega arith)
    ∙ both_true _ _ (in_rect_true from fewer shorter pitch row col k r c refl) (inside row col (omega arith) (omega arith))

module _ (ms : List Bool) (from rows cols pitch : ℕ) (inside : MarksRect ms from rows cols pitch) (narrow : cols ≤ pitch) where
  rest_marked : (p : ℕ → Bool) (k : ℕ) → p k ≡ false → marked ms k ≡ true → marked (marks_in (λ i. not (p i)) 0 ms) k ≡ true
  rest_marked p k out mine = marked_in (λ i. not (p i)) 0 ms k k (omega arith) ∙ both_true _ _ (ap not out) mine

  -- the places of the lower rows are marked in the rest
  pub marks_below : (at rest start : ℕ) → at + rest ≡ rows → (0 < rest → start ≡ from + at * pitch) → MarksRect (marks_in (λ k. not (in_rect from at cols pitch k)) 0 ms) start rest cols pitch
  marks_below at rest start e is row col r c =
      let k = start + (row * pitch + col) in let begins : start ≡ from + at * pitch = is (omega arith) in let both = add-mul at row pitch in
      let mine : marked ms k ≡ true = subst (λ (j : ℕ). marked ms j ≡ true) {x = from + ((at + row) * pitch + col)} {y = k} (omega arith) (inside (at + row) col (omega arith) c) in
      rest_marked (in_rect from at cols pitch) k (in_rect_false from at cols pitch k (λ above lt.
      let up : suc above * pitch ≤ at * pitch = mul-le-mul_right pitch lt in let next = suc-mul above pitch in inr (omega arith))) mine

  -- the places of the columns to the right are marked in the rest
  pub marks_beside : (at rest start : ℕ) → at + rest ≡ cols → (0 < rows → start ≡ from + at) → MarksRect (marks_in (λ k. not (in_rect from rows at pitch k)) 0 ms) start rows rest pitch
  marks_beside at rest start e is row col r c =
      let k = start + (row * pitch + col) in let begins : start ≡ from + at = is (omega arith) in
      let mine : marked ms k ≡ true = subst (λ (j : ℕ). marked ms j ≡ true) {x = from + (row * pitch + (at + col))} {y = k} (omega arith) (inside row (at + col) r (omega arith)) in
      rest_marked (in_rect from rows at pitch) k (in_rect_false from rows at pitch k (λ other lt. elim (cases_lt other row) [
        | inl up ↦ (let less : suc other * pitch ≤ row * pitch = mul-le-mul_right pitch up in let next = suc-mul other pitch in inr (omega arith))
        | inr down ↦ elim (eq-or-lt_of_le down) [
          | inl same ↦ (let e' : row * pitch ≡ other * pitch = ap (λ (n : ℕ). n * pitch) same in inr (omega arith))
          | inr past ↦ (let less : suc row * pitch ≤ other * pitch = mul-le-mul_right pitch past in let next = suc-mul row pitch in inl (omega arith))
        ]
      ])) mine

-- where the last row ends in the buffer, each does
pub fits_all : (len from rows cols pitch : ℕ) → 0 < rows → from + ((rows - 1) * pitch + cols) ≤ len → RectFits len from rows cols pitch
fits_all len from rows cols pitch some_ end row lt = let up : row * pitch ≤ (rows - 1) * pitch = mul-le-mul_right pitch (omega arith) in omega arith

pub last_fits : (len from rows cols pitch : ℕ) → 0 < rows → RectFits len from rows cols pitch → from + ((rows - 1) * pitch + cols) ≤ len
last_fits len from rows cols pitch some_ fits = fits (rows - 1) (omega arith)
