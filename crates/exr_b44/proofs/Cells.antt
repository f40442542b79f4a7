-- What the bytes of a cell mean, whatever follows them.
use Rattle.std.proofs.Common.{◌≡◌, ℕ, ◌+◌, ◌-◌, ◌*◌, ◌<◌, ◌≤◌, inl, inr, cond, leb, List, [], ◌∷◌, ◌++◌, length, get_or, take, drop, map, replicate, refl, sym, ap, ◌∙◌, arith}
use Rattle.std.specs.List.{range_with_len, slice_range}
use Rattle.std.proofs.lemmas.Bool.{cases_lt, le-leb, lt-leb}
use Rattle.std.proofs.lemmas.List.{ext_get_or, get_or-take, get_or-drop, get_or-replicate, get_or_past, get_or_append_left, get_or-append_right, length-take-le, length-drop}
use Rattle.exr_b44.specs.Cell.{sixes_of_bytes, number_along, half_of, cell_len, uncell_of, bytes_of_halves}
use Rattle.exr_b44.proofs.Vectors.{whole16}

abbrev pub first_of : List ℕ → ℕ
first_of packed = 256 * get_or packed 0 0 + get_or packed 1 0

abbrev pub halves_by : ℕ → ℕ → List ℕ → List ℕ
halves_by first shift differences = map (λ place. half_of (number_along first shift differences place)) (range_with_len 0 16)

pub flat_cell : (packed : List ℕ) → 52 ≤ get_or packed 2 0 → uncell_of packed ≡ replicate 16 (half_of (first_of packed))
unfolding uncell_of
flat_cell packed le = rw (le-leb 52 (get_or packed 2 0) le) refl

pub long_cell : (packed : List ℕ) → get_or packed 2 0 < 52
    → uncell_of packed ≡ (let sixes = sixes_of_bytes (slice_range packed 2 14) in halves_by (first_of packed) (get_or sixes 0 0) (drop 1 sixes))
unfolding uncell_of
long_cell packed lt = rw (lt-leb 52 (get_or packed 2 0) lt) refl

pub sixes_joined : (packed : List ℕ) → length packed ≡ 16 → sixes_of_bytes (slice_range packed 2 8) ++ sixes_of_bytes (slice_range packed 8 14) ≡ sixes_of_bytes (slice_range packed 2 14)
sixes_joined packed long = rw (whole16 packed long) refl

pub first_six : (packed : List ℕ) → length packed ≡ 16 → get_or (sixes_of_bytes (slice_range packed 2 8)) 0 0 ≡ get_or (sixes_of_bytes (slice_range packed 2 14)) 0 0
first_six packed long = rw (whole16 packed long) refl

first_same : (y z : List ℕ) → ((k : ℕ) → k < 16 → get_or y k 0 ≡ get_or z k 0) → first_of y ≡ first_of z
first_same y z same = let a = same 0 (omega arith) in let b = same 1 (omega arith) in λ i. 256 * a i + b i

middle_same : (y z : List ℕ) → length y ≡ 16 → 14 ≤ length z → ((k : ℕ) → k < 16 → get_or y k 0 ≡ get_or z k 0) → slice_range y 2 14 ≡ slice_range z 2 14
middle_same y z long there same =
    let a : length (take 12 (drop 2 y)) ≡ 12 = length-take-le 12 (drop 2 y) (omega (arith, length-drop 2 y)) in
    let b : length (take 12 (drop 2 z)) ≡ 12 = length-take-le 12 (drop 2 z) (omega (arith, length-drop 2 z)) in
    ext_get_or 0 (take 12 (drop 2 y)) (take 12 (drop 2 z)) (a ∙ sym b) (λ i inside.
    let lt : i < 12 = omega arith in
    get_or-take 12 (drop 2 y) i 0 lt ∙ get_or-drop 2 y i 0 ∙ same (2 + i) (omega arith) ∙ sym (get_or-take 12 (drop 2 z) i 0 lt ∙ get_or-drop 2 z i 0))

-- only the bytes of a cell count
pub same_cell : (y z : List ℕ) → length y ≡ 16 → cell_len z ≤ length z → ((k : ℕ) → k < 16 → get_or y k 0 ≡ get_or z k 0) → uncell_of y ≡ uncell_of z
same_cell y z long there same =
    let third = same 2 (omega arith) in
    elim (cases_lt (get_or z 2 0) 52) [
      | inl lt ↦
          let len : cell_len z ≡ 14 = rw (lt-leb 52 (get_or z 2 0) lt) refl in
          long_cell y (omega arith)
          ∙ (λ i. let sixes = sixes_of_bytes (middle_same y z long (omega arith) same i) in halves_by (first_same y z same i) (get_or sixes 0 0) (drop 1 sixes))
          ∙ sym (long_cell z lt)
      | inr le ↦ flat_cell y (omega arith) ∙ ap (λ first. replicate 16 (half_of first)) (first_same y z same) ∙ sym (flat_cell z le)
    ]

pub cell_len_small : (z : List ℕ) → cell_len z ≤ 14
cell_len_small z =
    elim (cases_lt (get_or z 2 0) 52) [
      | inl lt ↦ rw (lt-leb 52 (get_or z 2 0) lt) (omega arith)
      | inr le ↦ rw (le-leb 52 (get_or z 2 0) le) (omega arith)
    ]

pub cell_len_some : (z : List ℕ) → 3 ≤ cell_len z
cell_len_some z =
    elim (cases_lt (get_or z 2 0) 52) [
      | inl lt ↦ rw (lt-leb 52 (get_or z 2 0) lt) (omega arith)
      | inr le ↦ rw (le-leb 52 (get_or z 2 0) le) (omega arith)
    ]

-- what is left, filled up with zeros
pub filled : (z front : List ℕ) (left k : ℕ) → length z ≡ left → left < 16 → front ≡ take left z → k < 16 → get_or (front ++ drop left (replicate 16 0)) k 0 ≡ get_or z k 0
filled z front left k long few is inside =
    let count : length front ≡ left = ap length is ∙ length-take-le left z (omega arith) in
    elim (cases_lt k left) [
      | inl lt ↦ get_or_append_left front (drop left (replicate 16 0)) 0 k (omega arith) ∙ ap (λ l. get_or l k 0) is ∙ get_or-take left z k 0 lt
      | inr le ↦
          let at : left + (k - left) ≡ k = omega arith in
          get_or-append_right front (drop left (replicate 16 0)) left k 0 count le ∙ get_or-drop left (replicate 16 0) (k - left) 0 ∙ ap (λ i. get_or {A = ℕ} (replicate 16 0) i 0) at
          ∙ get_or-replicate 16 k 0 0 inside ∙ sym (get_or_past z k 0 (omega arith))
    ]

-- lanes of columns laid along the lines
abbrev pub laid : List ℕ → List ℕ → List ℕ
laid near far =
    let all = near ++ far in
    bytes_of_halves (get_or all 0 0 ∷ get_or all 4 0 ∷ get_or all 8 0 ∷ get_or all 12 0 ∷ get_or all 1 0 ∷ get_or all 5 0 ∷ get_or all 9 0 ∷ get_or all 13 0 ∷ [])
    ++ bytes_of_halves (get_or all 2 0 ∷ get_or all 6 0 ∷ get_or all 10 0 ∷ get_or all 14 0 ∷ get_or all 3 0 ∷ get_or all 7 0 ∷ get_or all 11 0 ∷ get_or all 15 0 ∷ [])

pub len_same : (y z : List ℕ) → get_or y 2 0 ≡ get_or z 2 0 → cell_len y ≡ cell_len z
len_same y z same = ap (λ b. cond (leb 52 b) 3 14) same
