-- The cells of a plane, taken and packed one behind the other.
use Rattle.std.proofs.Common.{◌≡◌, ℕ, zero, suc, ◌+◌, ◌-◌, ◌*◌, ◌/◌, ◌%◌, ◌<◌, ◌≤◌, min, inl, inr, List, [], ◌∷◌, ◌++◌, length, get_or, take, drop, refl, sym, ap, ◌∙◌, arith}
use Rattle.std.specs.List.{flat_map, range_with_len}
use Rattle.std.proofs.lemmas.Bool.{cases_lt}
use Rattle.std.proofs.lemmas.Nat.{div-mul-add, mod-mul-add}
use Rattle.std.proofs.lemmas.List.{append_assoc, map-id, flat_map_more, get_or-take, get_or-drop, length-take-le, length-drop}
use Rattle.std.proofs.lemmas.List.Concat.{flat_map-append}
use Rattle.std.proofs.lemmas.List.FromFn.{fill_by_all, map-range_with_len_more}
use borrow.Rule.Slice.PartMut.{put_mid}
use Rattle.exr_b44.specs.Lanes.{words_of}
use Rattle.exr_b44.specs.Lines.{place_in, IsCellIn}
use Rattle.exr_b44.specs.Plane.{cells_for, half_in, cell_in}
use Rattle.exr_b44.proofs.Rows.{in_part, before_part}
use Rattle.exr_b44.proofs.Written.{length-words_of}

-- a place in line y of a cell of which nothing is cut
place_is : (nx ny column line y k : ℕ) → 4 * column + 4 ≤ nx → 4 * line + 4 ≤ ny → y < 4 → 4 * y ≤ k → k < 4 * (y + 1) → place_in nx ny column line k ≡ 2 * ((4 * line + y) * nx + 4 * column) + 2 * (k - 4 * y)
place_is nx ny column line y k right below inside from upto =
    let row : min (4 * line + k / 4) (ny - 1) ≡ 4 * line + y = omega arith in
    let place : min (4 * column + k % 4) (nx - 1) ≡ 4 * column + (k - 4 * y) = omega arith in
    (λ i. 2 * (row i * nx + place i)) ∙ omega arith

pub line_taken : (rows cell new : List ℕ) (nx ny column line y at : ℕ) → length cell ≡ 32 → 4 * column + 4 ≤ nx → 4 * line + 4 ≤ ny → y < 4 → new ≡ take 8 (drop at rows)
    → at ≡ 2 * ((4 * line + y) * nx + 4 * column) → at + 8 ≤ length rows → IsCellIn rows cell nx ny column line (4 * y) → IsCellIn rows (put_mid (8 * y) 8 cell new) nx ny column line (4 * (y + 1))
line_taken rows cell new nx ny column line y at whole right below inside is begins there before =
    let long : length new ≡ 8 = ap length is ∙ length-take-le 8 (drop at rows) (omega (arith, length-drop at rows)) in
    let room : 8 * y ≤ length cell = omega arith in
    let read : (j : ℕ) → j < 8 → get_or (put_mid (8 * y) 8 cell new) (8 * y + j) 0 ≡ get_or rows (at + j) 0 = λ j lt. in_part cell new (8 * y) 8 j room long lt ∙ ap (λ l. get_or l j 0) is ∙ get_or-take 8 (drop at rows) j 0 lt ∙ get_or-drop at rows j 0 in
    record {
      low = λ k lt. elim (cases_lt k (4 * y)) [
        | inl earlier ↦ before_part cell new (8 * y) 8 (2 * k) room (omega arith) ∙ before.low k earlier
        | inr here ↦
            let to : 2 * k ≡ 8 * y + 2 * (k - 4 * y) = omega arith in
            let from : at + 2 * (k - 4 * y) ≡ place_in nx ny column line k = omega (arith, place_is nx ny column line y k right below inside here lt) in
            ap (λ j. get_or (put_mid (8 * y) 8 cell new) j 0) to ∙ read (2 * (k - 4 * y)) (omega arith) ∙ ap (λ j. get_or rows j 0) from
      ];
      high = λ k lt. elim (cases_lt k (4 * y)) [
        | inl earlier ↦ before_part cell new (8 * y) 8 (2 * k + 1) room (omega arith) ∙ before.high k earlier
        | inr here ↦
            let to : 2 * k + 1 ≡ 8 * y + (2 * (k - 4 * y) + 1) = omega arith in
            let from : at + (2 * (k - 4 * y) + 1) ≡ place_in nx ny column line k + 1 = omega (arith, place_is nx ny column line y k right below inside here lt) in
            ap (λ j. get_or (put_mid (8 * y) 8 cell new) j 0) to ∙ read (2 * (k - 4 * y) + 1) (omega arith) ∙ ap (λ j. get_or rows j 0) from
      ];
    }

get_or-words_of : (xs : List ℕ) (n k : ℕ) → length xs ≡ n + n → get_or (words_of xs) k 0 ≡ get_or xs (2 * k) 0 + 256 * get_or xs (2 * k + 1) 0
get_or-words_of [] n k long = omega arith
get_or-words_of (x ∷ []) n k long = absurd (omega arith)
get_or-words_of (x ∷ y ∷ xs) zero k long = absurd (omega arith)
get_or-words_of (x ∷ y ∷ xs) (suc n) zero long = refl
get_or-words_of (x ∷ y ∷ xs) (suc n) (suc k) long =
    let low : suc (suc (2 * k)) ≡ 2 * suc k = omega arith in
    let high : suc (suc (2 * k + 1)) ≡ 2 * suc k + 1 = omega arith in
    get_or-words_of xs n k (omega arith) ∙ (λ i. get_or (x ∷ y ∷ xs) (low i) 0 + 256 * get_or (x ∷ y ∷ xs) (high i) 0)

-- the halves of a cell that was taken
pub cell_taken : (rows cell : List ℕ) (nx ny column line : ℕ) → length cell ≡ 32 → column < cells_for nx → IsCellIn rows cell nx ny column line 16 → words_of cell ≡ cell_in nx ny rows (line * cells_for nx + column)
cell_taken rows cell nx ny column line long right is =
    let across = cells_for nx in
    let n = line * across + column in
    let f : ℕ → ℕ = λ k. half_in rows nx (min (4 * (n % across) + k % 4) (nx - 1)) (min (4 * (n / across) + k / 4) (ny - 1)) in
    let col : column ≡ n % across = sym (mod-mul-add line across column right) in
    let row : line ≡ n / across = sym (div-mul-add line across column right) in
    fill_by_all f (words_of cell) 16 0 (length-words_of 16 cell long) (λ k lt.
    get_or-words_of cell 16 k long ∙ (λ i. is.low k lt i + 256 * is.high k lt i)
    ∙ (λ i. half_in rows nx (min (4 * col i + k % 4) (nx - 1)) (min (4 * row i + k / 4) (ny - 1))))

range_more : (a n : ℕ) → range_with_len a (n + 1) ≡ range_with_len a n ++ (a + n) ∷ []
range_more a n = sym (map-id (range_with_len a (n + 1))) ∙ map-range_with_len_more (λ (k : ℕ). k) a n (a + n) refl ∙ ap (λ l. l ++ (a + n) ∷ []) (map-id (range_with_len a n))

-- one cell more
pub cells_more : (f : ℕ → List ℕ) (front now cell : List ℕ) (a n : ℕ) → now ≡ front ++ flat_map f (range_with_len a n) → cell ≡ f (a + n) → now ++ cell ≡ front ++ flat_map f (range_with_len a (n + 1))
cells_more f front now cell a n is here = (λ i. is i ++ here i) ∙ flat_map_more f front (range_with_len a n) (a + n) ∙ ap (λ l. front ++ flat_map f l) (sym (range_more a n))

pub range_add : (a m n : ℕ) → range_with_len a (m + n) ≡ range_with_len a m ++ range_with_len (a + m) n
range_add a zero n = let e : 0 + n ≡ n = omega arith in let b : a ≡ a + 0 = omega arith in (λ i. range_with_len (b i) (e i))
range_add a (suc m) n =
    let e : suc m + n ≡ suc (m + n) = omega arith in
    let b : a + 1 + m ≡ a + suc m = omega arith in
    ap (range_with_len a) e ∙ ap (λ l. a ∷ l) (range_add (a + 1) m n ∙ ap (λ c. range_with_len (a + 1) m ++ range_with_len c n) b)

-- one line of cells more
pub lines_of_cells : (f : ℕ → List ℕ) (front now line : List ℕ) (m n : ℕ) → now ≡ front ++ flat_map f (range_with_len 0 m) → line ≡ flat_map f (range_with_len m n) → now ++ line ≡ front ++ flat_map f (range_with_len 0 (m + n))
lines_of_cells f front now line m n is here =
    let zero_plus : 0 + m ≡ m = omega arith in
    (λ i. is i ++ here i) ∙ append_assoc front (flat_map f (range_with_len 0 m)) (flat_map f (range_with_len m n))
    ∙ ap (λ l. front ++ l) (sym (flat_map-append f (range_with_len 0 m) (range_with_len m n)) ∙ ap (flat_map f) (sym (range_add 0 m n ∙ ap (λ a. range_with_len 0 m ++ range_with_len a n) zero_plus)))
