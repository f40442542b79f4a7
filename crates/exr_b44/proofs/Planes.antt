-- A plane by the places of its bytes.
use Rattle.std.proofs.Common.{◌≡◌, ℕ, zero, suc, ◌+◌, ◌-◌, ◌*◌, ◌/◌, ◌%◌, ◌<◌, ◌≤◌, inl, inr, min, cond, eqb, List, [], ◌∷◌, length, get_or, take, drop, map, refl, sym, ap, ◌∙◌, arith}
use Rattle.std.specs.List.{range_with_len}
use Rattle.std.proofs.lemmas.Bool.{cases_lt}
use Rattle.std.proofs.lemmas.Nat.{div-mul-add, mod-mul-add, mul-add-lt}
use Rattle.std.proofs.Math.Nat.{mul-le-mul_right}
use Rattle.std.proofs.lemmas.List.{drop-drop, get_or-take, get_or-drop}
use Rattle.std.proofs.lemmas.List.FromFn.{get_or-map-range_with_len, length-map-range_with_len}
use borrow.Rule.Slice.PartMut.{put_mid}
use Rattle.exr_b44.specs.Cell.{cell_len, uncell_of, bytes_of_halves}
use Rattle.exr_b44.specs.Lines.{LinesPut, AreOthersKept, RowsPut}
use Rattle.exr_b44.specs.Plane.{cells_for, cells_len, cell_at, half_at, plane_of}
use Rattle.exr_b44.proofs.Rows.{in_part, before_part, behind_part}

-- ---- cells one behind the other

pub cells_len-add : (m n : ℕ) (z : List ℕ) → cells_len (m + n) z ≡ cells_len m z + cells_len n (drop (cells_len m z) z)
unfolding cells_len
cells_len-add zero n z = let e : 0 + n ≡ n = omega arith in ap (λ k. cells_len k z) e ∙ omega arith
cells_len-add (suc m) n z =
    let rest = drop (cell_len z) z in
    let e : suc m + n ≡ suc (m + n) = omega arith in
    let same : cells_len n (drop (cells_len m rest) rest) ≡ cells_len n (drop (cell_len z + cells_len m rest) z) = ap (cells_len n) (drop-drop (cells_len m rest) (cell_len z) z) in
    ap (λ k. cells_len k z) e ∙ ap (λ k. cell_len z + k) (cells_len-add m n rest) ∙ omega arith

one_cell : (z : List ℕ) → cells_len 1 z ≡ cell_len z
unfolding cells_len
one_cell z = omega arith

pub cells_len-none : (z : List ℕ) → cells_len 0 z ≡ 0
unfolding cells_len
cells_len-none z = refl

-- one cell more, at a place of the packed data that the cells begin at
pub one_more : (packed : List ℕ) (from i at : ℕ) → at ≡ from + cells_len i (drop from packed) → at + cell_len (drop at packed) ≡ from + cells_len (i + 1) (drop from packed)
one_more packed from i at is =
    let z = drop from packed in
    let here : drop at packed ≡ drop (cells_len i z) z = ap (λ n. drop n packed) is ∙ sym (drop-drop (cells_len i z) from packed) in
    omega (arith, ap cell_len here, cells_len-add i 1 z, one_cell (drop (cells_len i z) z))

pub cells_len_grows : (m n : ℕ) (z : List ℕ) → m ≤ n → cells_len m z ≤ cells_len n z
cells_len_grows m n z le =
    let e : m + (n - m) ≡ n = omega arith in
    omega (arith, ap (λ k. cells_len k z) e, cells_len-add m (n - m) z)

-- the cell at that place
pub cell_there : (packed : List ℕ) (from i at : ℕ) → at ≡ from + cells_len i (drop from packed) → uncell_of (drop at packed) ≡ cell_at (drop from packed) i
cell_there packed from i at is = let z = drop from packed in ap uncell_of (ap (λ n. drop n packed) is ∙ sym (drop-drop (cells_len i z) from packed))

-- the cells of a band are those of the plane from some cell on
pub cell_of_band : (packed : List ℕ) (from m k at : ℕ) → at ≡ from + cells_len m (drop from packed) → cell_at (drop at packed) k ≡ cell_at (drop from packed) (m + k)
cell_of_band packed from m k at is =
    let z = drop from packed in
    let band = drop (cells_len m z) z in
    let here : drop at packed ≡ band = ap (λ n. drop n packed) is ∙ sym (drop-drop (cells_len m z) from packed) in
    ap (λ l. cell_at l k) here ∙ ap uncell_of (drop-drop (cells_len k band) (cells_len m z) z ∙ ap (λ n. drop n z) (sym (cells_len-add m k z)))

pub band_end : (packed : List ℕ) (from m n at : ℕ) → at ≡ from + cells_len m (drop from packed) → at + cells_len n (drop at packed) ≡ from + cells_len (m + n) (drop from packed)
band_end packed from m n at is =
    let z = drop from packed in
    let here : drop at packed ≡ drop (cells_len m z) z = ap (λ k. drop k packed) is ∙ sym (drop-drop (cells_len m z) from packed) in
    omega (arith, ap (cells_len n) here, cells_len-add m n z)

-- ---- a band

-- the bytes of a band's rows before column `upto`; no byte beside the rows is changed
pub record BandPut (old lines z : List ℕ) (line first wide count upto : ℕ) : Type 0 where
  pub placed : (y b : ℕ) → y < count → b < wide → b < upto → get_or lines (y * line + (first + b)) 0 ≡ get_or (bytes_of_halves (cell_at z (b / 8))) (8 * y + b % 8) 0
  pub others : AreOthersKept old lines line first wide

pub band_none : (old z : List ℕ) (line first wide count : ℕ) → BandPut old old z line first wide count 0
band_none old z line first wide count = record { placed = λ y b lt narrow before. absurd (omega arith); others = record { kept = λ y b lt apart. refl } }

pub band_more : (cell old lines new z : List ℕ) (line first wide count i size : ℕ) → cell ≡ bytes_of_halves (cell_at z i) → first + wide ≤ line → 8 * i < wide → size ≡ min (wide - 8 * i) 8
    → BandPut old lines z line first wide count (8 * i) → LinesPut cell lines new line (first + 8 * i) size count → BandPut old new z line first wide count (8 * (i + 1))
band_more cell old lines new z line first wide count i size is fits inside sized before put = record {
  placed = λ y b lt narrow upto. elim (cases_lt b (8 * i)) [
    | inl left ↦ put.others y (first + b) (omega arith) (inr (inl (omega arith))) ∙ before.placed y b lt narrow left
    | inr here ↦
        let column : b / 8 ≡ i = omega arith in
        let past : b % 8 ≡ b - 8 * i = omega arith in
        let at : first + b ≡ first + 8 * i + (b - 8 * i) = omega arith in
        ap (λ k. get_or new (y * line + k) 0) at ∙ put.placed y (b - 8 * i) lt (omega arith) ∙ (λ j. get_or (is j) (8 * y + sym past j) 0)
        ∙ ap (λ k. get_or (bytes_of_halves (cell_at z k)) (8 * y + b % 8) 0) (sym column)
  ];
  others = record {
    kept = λ y b lt apart.
        put.others y b lt (inr (elim apart [ inl left ↦ inl (omega arith) | inr right ↦ inr (omega arith) ])) ∙ before.others.kept y b lt apart;
  };
}

-- cells of three bytes after those before column 8 * i, which were put at once
pub band_flats : (packed old mid new : List ℕ) (from at line first wide i n most : ℕ) → at ≡ from + cells_len i (drop from packed) → first + wide ≤ line → 8 * (i + most) ≤ wide → n ≤ most
    → BandPut old mid (drop from packed) line first wide 4 (8 * i)
    → ((y b : ℕ) → y < 4 → b < 8 * n → get_or new (y * line + (first + 8 * i + b)) 0 ≡ get_or (bytes_of_halves (cell_at (drop at packed) (b / 8))) (8 * y + b % 8) 0)
    → AreOthersKept mid new line (first + 8 * i) (8 * most) → BandPut old new (drop from packed) line first wide 4 (8 * (i + n))
band_flats packed old mid new from at line first wide i n most is fits inside few before placed others = record {
  placed = λ y b lt narrow upto. elim (cases_lt b (8 * i)) [
    | inl left ↦ others.kept y (first + b) (omega arith) (inl (omega arith)) ∙ before.placed y b lt narrow left
    | inr here ↦
        let past = b - 8 * i in
        let place : first + b ≡ first + 8 * i + past = omega arith in
        let column : i + past / 8 ≡ b / 8 = omega arith in
        let rest : past % 8 ≡ b % 8 = omega arith in
        ap (λ k. get_or new (y * line + k) 0) place ∙ placed y past lt (omega arith)
        ∙ ap (λ cell. get_or (bytes_of_halves cell) (8 * y + past % 8) 0) (cell_of_band packed from i (past / 8) at is)
        ∙ (λ j. get_or (bytes_of_halves (cell_at (drop from packed) (column j))) (8 * y + rest j) 0)
  ];
  others = record {
    kept = λ y b lt apart. others.kept y b lt (elim apart [ inl left ↦ inl (omega arith) | inr right ↦ inr (omega arith) ]) ∙ before.others.kept y b lt apart;
  };
}

-- ---- a plane

-- the bytes of the first rows of a plane; no byte beside the rows is changed
pub record PlanePut (old lines z : List ℕ) (line first wide across rows : ℕ) : Type 0 where
  pub placed : (y b : ℕ) → y < rows → b < wide → get_or lines (y * line + (first + b)) 0 ≡ get_or (bytes_of_halves (cell_at z (y / 4 * across + b / 8))) (8 * (y % 4) + b % 8) 0
  pub others : AreOthersKept old lines line first wide

pub plane_none : (old z : List ℕ) (line first wide across : ℕ) → PlanePut old old z line first wide across 0
plane_none old z line first wide across = record { placed = λ y b lt narrow. absurd (omega arith); others = record { kept = λ y b lt apart. refl } }

-- one band more
pub plane_more : (packed old lines band_old new : List ℕ) (from at line first wide across band count top len upto : ℕ) → at ≡ from + cells_len (band * across) (drop from packed)
    → top ≡ 4 * band * line → len ≡ count * line → length new ≡ len → top + len ≤ length lines → first + wide ≤ line → upto ≤ 4 * band + count → count ≤ 4
    → band_old ≡ take len (drop top lines) → PlanePut old lines (drop from packed) line first wide across (4 * band) → BandPut band_old new (drop at packed) line first wide count wide
    → PlanePut old (put_mid top len lines new) (drop from packed) line first wide across upto
plane_more packed old lines band_old new from at line first wide across band count top len upto is begins counted long inside fits most few cut before here = record {
  placed = λ y b lt narrow. elim (cases_lt y (4 * band)) [
    | inl earlier ↦ ahead y (first + b) earlier (omega arith) ∙ before.placed y b earlier narrow
    | inr later ↦
        let row = y - 4 * band in
        let in_band : row < count = omega arith in
        let quarter : y / 4 ≡ band = omega arith in
        let rest : y % 4 ≡ row = omega arith in
        within y (first + b) later in_band (omega arith)
        ∙ here.placed row b in_band narrow narrow
        ∙ ap (λ cell. get_or (bytes_of_halves cell) (8 * row + b % 8) 0) (cell_of_band packed from (band * across) (b / 8) at is)
        ∙ (λ j. get_or (bytes_of_halves (cell_at (drop from packed) (sym quarter j * across + b / 8))) (8 * sym rest j + b % 8) 0)
  ];
  others = record {
    kept = λ y b lt apart. elim (cases_lt y (4 * band)) [
      | inl earlier ↦ ahead y b earlier lt ∙ before.others.kept y b lt apart
      | inr later ↦ elim (cases_lt y (4 * band + count)) [
        | inr behind ↦
            let past : (4 * band + count) * line ≤ y * line = mul-le-mul_right line behind in
            behind_part lines new top len (y * line + b) (omega arith) long (omega arith) ∙ before.others.kept y b lt apart
        | inl in_band ↦
            let row = y - 4 * band in
            let whole : 4 * band + row ≡ y = omega arith in
            let place : row * line + b < len = omega (arith, mul-add-lt row line b count (omega arith) lt) in
            let back : top + (row * line + b) ≡ y * line + b = ap (λ k. k + (row * line + b)) begins ∙ lines_add band row line b ∙ ap (λ k. k * line + b) whole in
            within y b later (omega arith) lt ∙ here.others.kept row b lt apart ∙ ap (λ l. get_or l (row * line + b) 0) cut
            ∙ get_or-take len (drop top lines) (row * line + b) 0 place ∙ get_or-drop top lines (row * line + b) 0
            ∙ ap (λ k. get_or lines k 0) back ∙ before.others.kept y b lt apart
      ]
    ];
  };
}
  where
    lines_add : (band row line b : ℕ) → 4 * band * line + (row * line + b) ≡ (4 * band + row) * line + b
    lines_add band row line b = omega arith

    ahead : (y b : ℕ) → y < 4 * band → b < line → get_or (put_mid top len lines new) (y * line + b) 0 ≡ get_or lines (y * line + b) 0
    ahead y b earlier lt =
        let row : (y + 1) * line ≤ 4 * band * line = mul-le-mul_right line (omega arith) in
        before_part lines new top len (y * line + b) (omega arith) (omega arith)

    within : (y b : ℕ) → 4 * band ≤ y → y - 4 * band < count → b < line → get_or (put_mid top len lines new) (y * line + b) 0 ≡ get_or new ((y - 4 * band) * line + b) 0
    within y b later in_band lt =
        let row = y - 4 * band in
        let split : y ≡ 4 * band + row = omega arith in
        let at_place : y * line + b ≡ top + (row * line + b) = ap (λ k. k * line + b) split ∙ sym (lines_add band row line b) ∙ ap (λ k. k + (row * line + b)) (sym begins) in
        ap (λ k. get_or (put_mid top len lines new) k 0) at_place
        ∙ in_part lines new top len (row * line + b) (omega arith) long (omega (arith, mul-add-lt row line b count in_band lt))

-- a byte of halves
abbrev part_of : ℕ → ℕ → ℕ
part_of k half = cond (eqb (k % 2) 0) (half % 256) (half / 256)

byte_of : (halves : List ℕ) (k : ℕ) → k < 2 * length halves → get_or (bytes_of_halves halves) k 0 ≡ part_of k (get_or halves (k / 2) 0)
byte_of [] k inside = absurd (omega arith)
byte_of (h ∷ halves) zero inside = refl
byte_of (h ∷ halves) (suc zero) inside = refl
byte_of (h ∷ halves) (suc (suc k)) inside =
    let even : k % 2 ≡ suc (suc k) % 2 = omega arith in
    let next : suc (suc k) / 2 ≡ suc (k / 2) = omega arith in
    byte_of halves k (omega arith) ∙ (λ i. cond (eqb (even i) 0) (get_or (h ∷ halves) (sym next i) 0 % 256) (get_or (h ∷ halves) (sym next i) 0 / 256))

pub length-bytes_of_halves : (halves : List ℕ) → length (bytes_of_halves halves) ≡ 2 * length halves
length-bytes_of_halves [] = refl
length-bytes_of_halves (h ∷ halves) = ap (λ n. suc (suc n)) (length-bytes_of_halves halves) ∙ omega arith

pub length-uncell_of : (z : List ℕ) → length (uncell_of z) ≡ 16
unfolding uncell_of
length-uncell_of z = refl

half_of_place : (y nx b k : ℕ) → k ≡ y * (2 * nx) + b → k / 2 ≡ y * nx + b / 2
half_of_place y nx b k e = omega arith

same_parity : (y nx b k r : ℕ) → k ≡ y * (2 * nx) + b → (8 * r + b % 8) % 2 ≡ k % 2
same_parity y nx b k r e = omega arith

pub length-plane_of : (nx ny : ℕ) (z : List ℕ) → length (plane_of nx ny z) ≡ 2 * nx * ny
unfolding plane_of
length-plane_of nx ny z =
    let f : ℕ → ℕ = λ n. half_at nx z (n % nx) (n / nx) in
    let count : length (map f (range_with_len 0 (nx * ny))) ≡ nx * ny = length-map-range_with_len f 0 (nx * ny) in
    omega (arith, length-bytes_of_halves (map f (range_with_len 0 (nx * ny))))

-- each byte of the plane
byte_of_plane : (z : List ℕ) (nx ny y b : ℕ) → y < ny → b < 2 * nx → get_or (plane_of nx ny z) (y * (2 * nx) + b) 0 ≡ get_or (bytes_of_halves (cell_at z (y / 4 * cells_for nx + b / 8))) (8 * (y % 4) + b % 8) 0
unfolding plane_of
byte_of_plane z nx ny y b row narrow =
    let f : ℕ → ℕ = λ n. half_at nx z (n % nx) (n / nx) in
    let halves = map f (range_with_len 0 (nx * ny)) in
    let count : length halves ≡ nx * ny = length-map-range_with_len f 0 (nx * ny) in
    let k = y * (2 * nx) + b in
    let here : k ≡ y * (2 * nx) + b = refl in
    let n : k / 2 ≡ y * nx + b / 2 = half_of_place y nx b k here in
    let within : b / 2 < nx = omega arith in
    let inside : y * nx + b / 2 < nx * ny = mul-add-lt y nx (b / 2) ny row within in
    let column : (k / 2) % nx ≡ b / 2 = ap (λ m. m % nx) n ∙ mod-mul-add y nx (b / 2) within in
    let line : (k / 2) / nx ≡ y = ap (λ m. m / nx) n ∙ div-mul-add y nx (b / 2) within in
    let cell = cell_at z (y / 4 * cells_for nx + b / 8) in
    let j = 8 * (y % 4) + b % 8 in
    let parity : j % 2 ≡ k % 2 = same_parity y nx b k (y % 4) here in
    let place : j / 2 ≡ y % 4 * 4 + (b / 2) % 4 = omega arith in
    let across : b / 8 ≡ (b / 2) / 4 = omega arith in
    let first : 0 + k / 2 ≡ k / 2 = omega arith in
    let half : get_or cell (j / 2) 0 ≡ get_or halves (k / 2) 0 =
    (λ i. get_or (cell_at z (y / 4 * cells_for nx + across i)) (place i) 0) ∙ (λ i. half_at nx z (sym column i) (sym line i))
    ∙ sym (get_or-map-range_with_len f 0 (nx * ny) (k / 2) (k / 2) 0 (omega arith) first)
    in
    byte_of halves k (omega arith)
    ∙ (λ i. cond (eqb (sym parity i) 0) (sym half i % 256) (sym half i / 256))
    ∙ sym (byte_of cell j (omega (arith, length-uncell_of (drop (cells_len (y / 4 * cells_for nx + b / 8) z) z))))

-- all its bytes make the plane
pub plane_rows : (old lines z : List ℕ) (line first nx ny : ℕ) → PlanePut old lines z line first (2 * nx) (cells_for nx) ny → RowsPut (plane_of nx ny z) old lines line first (2 * nx) ny
plane_rows old lines z line first nx ny put = record { placed = λ y b lt narrow. put.placed y b lt narrow ∙ sym (byte_of_plane z nx ny y b lt narrow); others = put.others }
