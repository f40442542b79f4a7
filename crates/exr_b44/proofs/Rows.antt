-- Bytes put into lines.
use Rattle.std.proofs.Common.{◌≡◌, ℕ, ◌+◌, ◌-◌, ◌*◌, ◌/◌, ◌%◌, ◌<◌, ◌≤◌, inl, inr, List, ◌++◌, length, get_or, take, drop, refl, sym, ap, subst, ◌∙◌, arith}
use Rattle.std.proofs.lemmas.Bool.{cases_lt, cases_eq}
use Rattle.std.proofs.lemmas.Nat.{same_from_place, mul-add-lt, div_below, div-add-mod', mod_below}
use Rattle.std.proofs.lemmas.List.{ext_get_or, get_or_append_left, get_or-append_right, get_or-take, get_or-drop, length-take-le, length-drop}
use Rattle.std.proofs.lemmas.Slice.{take-put_mid_below, drop-put_mid}
use borrow.Rule.Slice.PartMut.{put_mid, post_of}
use Rattle.exr_b44.specs.Lines.{PiecePut, LinePut, LinesPut, RowsPut}

-- a byte of a slice of which a part was written anew
pub in_part : (words new : List ℕ) (first len k : ℕ) → first ≤ length words → length new ≡ len → k < len → get_or (put_mid first len words new) (first + k) 0 ≡ get_or new k 0
in_part words new first len k inside long lt =
    let at : first + k - first ≡ k = omega arith in
    get_or-append_right (take first words) (new ++ post_of first len words) first (first + k) 0 (length-take-le first words inside) (omega arith)
    ∙ ap (λ i. get_or (new ++ post_of first len words) i 0) at ∙ get_or_append_left new (post_of first len words) 0 k (omega arith)

pub before_part : (words new : List ℕ) (first len k : ℕ) → first ≤ length words → k < first → get_or (put_mid first len words new) k 0 ≡ get_or words k 0
before_part words new first len k inside lt =
    sym (get_or-take (k + 1) (put_mid first len words new) k 0 (omega arith)) ∙ ap (λ l. get_or l k 0) (take-put_mid_below first len words new (k + 1) (omega arith) inside) ∙ get_or-take (k + 1) words k 0 (omega arith)

pub behind_part : (words new : List ℕ) (first len k : ℕ) → first ≤ length words → length new ≡ len → first + len ≤ k → get_or (put_mid first len words new) k 0 ≡ get_or words k 0
behind_part words new first len k inside long le =
    let at : k ≡ k + 0 = omega arith in
    ap (λ i. get_or (put_mid first len words new) i 0) at ∙ sym (get_or-drop k (put_mid first len words new) 0 0)
    ∙ ap (λ l. get_or l 0 0) (drop-put_mid first len words new k le inside long) ∙ get_or-drop k words 0 0 ∙ ap (λ i. get_or words i 0) (sym at)

pub piece_put : (rows new : List ℕ) (wide from count y : ℕ) → (y + 1) * wide ≤ length rows → from + count ≤ wide → length new ≡ count
    → PiecePut new rows (put_mid (y * wide + from) count rows new) wide from count y
piece_put rows new wide from count y room inside long =
    let to = y * wide + from in
    let within : to ≤ length rows = omega arith in
    record {
      placed = λ b lt.
          let at : y * wide + (from + b) ≡ to + b = omega arith in
          ap (λ k. get_or (put_mid to count rows new) k 0) at ∙ in_part rows new to count b within long lt;
      others = λ line b narrow apart. elim (cases_lt (line * wide + b) to) [
        | inl before ↦ before_part rows new to count (line * wide + b) within before
        | inr from_there ↦ elim (cases_lt (line * wide + b) (to + count)) [
          | inr behind ↦ behind_part rows new to count (line * wide + b) within long behind
          | inl in_it ↦
              let k = line * wide + b - to in
              let same : line * wide + b ≡ y * wide + (from + k) = omega arith in
              let places = same_from_place line b y (from + k) wide narrow (omega arith) same in
              elim apart [
                | inl other ↦ absurd (other places.0)
                | inr sides ↦ elim sides [ inl left ↦ absurd (omega (arith, places.1)) | inr right ↦ absurd (omega (arith, places.1)) ]
              ]
        ]
      ];
    }

-- a piece that is a line of a cell
pub line_of_piece : (cell piece old new : List ℕ) (wide from count y : ℕ) → piece ≡ take count (drop (8 * y) cell) → PiecePut piece old new wide from count y → LinePut cell old new wide from count y
line_of_piece cell piece old new wide from count y is put = record {
  placed = λ b lt. put.placed b lt ∙ ap (λ l. get_or l b 0) is ∙ get_or-take count (drop (8 * y) cell) b 0 lt ∙ get_or-drop (8 * y) cell b 0;
  others = put.others;
}

pub line_put : (cell rows new : List ℕ) (wide from count y : ℕ) → 8 * y + count ≤ length cell → (y + 1) * wide ≤ length rows → from + count ≤ wide
    → new ≡ take count (drop (8 * y) cell) → LinePut cell rows (put_mid (y * wide + from) count rows new) wide from count y
line_put cell rows new wide from count y there room inside is =
    let long : length new ≡ count = ap length is ∙ length-take-le count (drop (8 * y) cell) (omega (arith, length-drop (8 * y) cell)) in
    line_of_piece cell new rows (put_mid (y * wide + from) count rows new) wide from count y is (piece_put rows new wide from count y room inside long)

-- ---- rows of a plane in lines

pub rows_none : (plane old : List ℕ) (line first wide : ℕ) → RowsPut plane old old line first wide 0
rows_none plane old line first wide = record { placed = λ y b lt narrow. absurd (omega arith); others = record { kept = λ y b lt apart. refl } }

-- one row more
pub rows_more : (plane old mid new : List ℕ) (line first wide y : ℕ) → (y + 1) * line ≤ length mid → first + wide ≤ line → length new ≡ wide → new ≡ take wide (drop (y * wide) plane)
    → RowsPut plane old mid line first wide y → RowsPut plane old (put_mid (y * line + first) wide mid new) line first wide (y + 1)
rows_more plane old mid new line first wide y room fits long is before =
    let put = piece_put mid new line first wide y room fits long in
    record {
      placed = λ r b lt narrow. elim (cases_eq r y) [
        | inl same ↦
            subst (λ r. get_or (put_mid (y * line + first) wide mid new) (r * line + (first + b)) 0 ≡ get_or plane (r * wide + b) 0) (sym same)
            (put.placed b narrow ∙ ap (λ l. get_or l b 0) is ∙ get_or-take wide (drop (y * wide) plane) b 0 narrow ∙ get_or-drop (y * wide) plane b 0)
        | inr other ↦ put.others r (first + b) (omega arith) (inl other) ∙ before.placed r b (omega arith) narrow
      ];
      others = record { kept = λ r b lt apart. put.others r b lt (inr apart) ∙ before.others.kept r b lt apart };
    }

-- a plane that ends after those rows
pub rows_taken : (plane old new : List ℕ) (line first wide rows n : ℕ) → n ≡ rows * wide → RowsPut plane old new line first wide rows → RowsPut (take n plane) old new line first wide rows
rows_taken plane old new line first wide rows n whole put = record {
  placed = λ y b lt narrow. put.placed y b lt narrow ∙ sym (get_or-take n plane (y * wide + b) 0 (omega (arith, mul-add-lt y wide b rows lt narrow)));
  others = put.others;
}

-- lists that agree in each row are the same
pub same_by_rows : (xs ys : List ℕ) (wide rows : ℕ) → length xs ≡ rows * wide → length ys ≡ rows * wide
    → ((y b : ℕ) → y < rows → b < wide → get_or xs (y * wide + b) 0 ≡ get_or ys (y * wide + b) 0) → xs ≡ ys
same_by_rows xs ys wide rows long as_long each =
    ext_get_or 0 xs ys (omega arith) (λ k inside.
    let some : 0 < wide = elim (cases_lt 0 wide) [ inl some ↦ some | inr none ↦ let e : wide ≡ 0 = omega arith in absurd (omega (arith, ap (λ n. rows * n) e)) ] in
    let here : k ≡ k / wide * wide + k % wide = sym (div-add-mod' k wide) in
    ap (λ j. get_or xs j 0) here
    ∙ each (k / wide) (k % wide) (div_below k wide rows some (omega arith)) (mod_below k wide some)
    ∙ ap (λ j. get_or ys j 0) (sym here))

-- a plane whose rows are whole lines
pub rows_whole : (plane old new : List ℕ) (line wide rows : ℕ) → line ≡ wide → length new ≡ rows * wide → length plane ≡ rows * wide → RowsPut plane old new line 0 wide rows → new ≡ plane
rows_whole plane old new line wide rows whole long as_long put =
    same_by_rows new plane wide rows long as_long (λ y b lt narrow.
    let e : y * wide + b ≡ y * line + (0 + b) = ap (λ n. y * n + b) (sym whole) ∙ omega arith in
    ap (λ k. get_or new k 0) e ∙ put.placed y b lt narrow)

-- ---- lines of a cell

pub lines_none : (cell rows : List ℕ) (wide from count : ℕ) → LinesPut cell rows rows wide from count 0
lines_none cell rows wide from count = record { placed = λ y b lt narrow. absurd (omega arith); others = λ y b narrow apart. refl }

-- one line more
pub lines_more : (cell old rows new : List ℕ) (wide from count y : ℕ) → from + count ≤ wide → LinesPut cell old rows wide from count y → LinePut cell rows new wide from count y → LinesPut cell old new wide from count (y + 1)
lines_more cell old rows new wide from count y inside before here = record {
  placed = λ line b lt narrow. elim (cases_eq line y) [
    | inl same ↦ subst (λ l. get_or new (l * wide + (from + b)) 0 ≡ get_or cell (8 * l + b) 0) (sym same) (here.placed b narrow)
    | inr other ↦ here.others line (from + b) (omega arith) (inl other) ∙ before.placed line b (omega arith) narrow
  ];
  others = λ line b narrow apart. elim apart [
    | inl later ↦ here.others line b narrow (inl (λ e. omega arith)) ∙ before.others line b narrow (inl (omega arith))
    | inr sides ↦ here.others line b narrow (inr sides) ∙ before.others line b narrow (inr sides)
  ];
}
