-- The bytes of a packed cell.
use Rattle.std.proofs.Common.{◌≡◌, ℕ, zero, suc, ◌+◌, ◌-◌, ◌*◌, ◌%◌, ◌^◌, ◌<◌, ◌≤◌, inl, inr, Bool, true, false, cond, eqb, ◌&&◌, List, [], ◌∷◌, ◌++◌, length, get_or, take, drop, set, map, refl, sym, ap, ◌∙◌, arith}
use Rattle.std.specs.List.{list_all}
use Rattle.std.proofs.lemmas.Nat.{pow_pos, pow_below, one_shl}
use Rattle.std.proofs.lemmas.Bool.{and_from, cases_lt}
use Rattle.std.proofs.lemmas.List.{take_more_set, take-take, take_all, take-append-drop, drop-append-le, get_or_append_left, get_or-append_right, get_or-append-add, get_or-drop, get_or_past, length-append, length-take-le, length-drop, length-map, length-set, append_assoc, map-append}
use Rattle.std.proofs.lemmas.Simd.{take_more_put_chunk}
use lib.Lanes.{chunk, put_chunk}
use Rattle.exr_b44.specs.Cell.{ordered, greatest_of, below_of, depths_of, differences_of, shift_of, two_bytes, bytes_of_sixes, cell_of}
use Rattle.exr_b44.specs.Lanes.{words_of, turned}
use Rattle.exr_b44.proofs.Vectors.{whole16}
use Rattle.exr_b44.proofs.Depths.{depth_times, le_greatest}

-- the shift, the first depth and the differences of a cell, behind 32
pub record CellAt (halves : List ℕ) (shift first : ℕ) (both : List ℕ) : Type 0 where
  pub shift_is : shift ≡ shift_of (below_of (map ordered halves))
  pub first_is : first ≡ get_or (depths_of (below_of (map ordered halves)) shift) 0 0
  pub both_is : both ≡ 32 ∷ differences_of (depths_of (below_of (map ordered halves)) shift)

abbrev pub long_bytes : List ℕ → ℕ → ℕ → List ℕ → List ℕ
long_bytes halves shift first both =
    two_bytes ((greatest_of (map ordered halves) + 65536 - first * 2 ^ shift) % 65536) ++ bytes_of_sixes (shift ∷ drop 1 both)

abbrev pub bytes_by : List ℕ → Bool → ℕ → ℕ → List ℕ → List ℕ
bytes_by halves flat shift first both = cond (flat && list_all (λ d. eqb d 32) both) (two_bytes (get_or (map ordered halves) 0 0) ++ 252 ∷ []) (long_bytes halves shift first both)

-- the bytes of a cell, by those
pub cell_by : (halves : List ℕ) (flat : Bool) (shift first : ℕ) (both : List ℕ) → CellAt halves shift first both → cell_of halves flat ≡ bytes_by halves flat shift first both
unfolding cell_of
cell_by halves flat shift first both at =
    let below = below_of (map ordered halves) in
    (λ i. bytes_by halves flat (sym at.shift_is i) (get_or (depths_of below (sym at.shift_is i)) 0 0) (32 ∷ differences_of (depths_of below (sym at.shift_is i))))
    ∙ (λ i. bytes_by halves flat shift (sym at.first_is i) (sym at.both_is i))

pub take_past : (xs ys : List ℕ) (n m : ℕ) → length xs ≡ n → take (n + m) (xs ++ ys) ≡ xs ++ take m ys
take_past [] ys n m long = let e : n + m ≡ m = omega arith in ap (λ k. take k ys) e
take_past (x ∷ xs) ys zero m long = absurd (omega arith)
take_past (x ∷ xs) ys (suc n) m long = let e : suc n + m ≡ suc (n + m) = omega arith in ap (λ k. take k (x ∷ xs ++ ys)) e ∙ ap (λ l. x ∷ l) (take_past xs ys n m (omega arith))

pub two_set : (into : List ℕ) (to a b : ℕ) → to + 2 ≤ length into → take (to + 2) (set (set into to a) (to + 1) b) ≡ take to into ++ a ∷ b ∷ []
two_set into to a b room =
    let next : to + 2 ≡ to + 1 + 1 = omega arith in
    ap (λ n. take n (set (set into to a) (to + 1) b)) next
    ∙ take_more_set (set into to a) (to + 1) b (omega (arith, length-set into to a))
    ∙ ap (λ l. l ++ b ∷ []) (take_more_set into to a (omega arith))
    ∙ append_assoc (take to into) (a ∷ []) (b ∷ [])

pub long_put : (into sixes : List ℕ) (to a b : ℕ) → length sixes ≡ 16 → to + 18 ≤ length into
    → take (to + 14) (put_chunk (to + 2) (set (set into to a) (to + 1) b) sixes) ≡ take to into ++ a ∷ b ∷ take 12 sixes
long_put into sixes to a b long room =
    let begun = set (set into to a) (to + 1) b in
    let size : length begun ≡ length into = length-set (set into to a) (to + 1) b ∙ length-set into to a in
    let front : length (take (to + 2) begun) ≡ to + 2 = length-take-le (to + 2) begun (omega arith) in
    let fewer : to + 14 ≡ to + 2 + 12 = omega arith in
    let all : take (to + 18) (put_chunk (to + 2) begun sixes) ≡ take (to + 2) begun ++ sixes = take_more_put_chunk (to + 2) begun sixes (to + 18) (omega arith) (omega arith) in
    sym (take-take (to + 14) (to + 18) (put_chunk (to + 2) begun sixes) (omega arith))
    ∙ ap (take (to + 14)) all
    ∙ ap (λ n. take n (take (to + 2) begun ++ sixes)) fewer
    ∙ take_past (take (to + 2) begun) sixes (to + 2) 12 front
    ∙ ap (λ l. l ++ take 12 sixes) (two_set into to a b (omega arith))
    ∙ append_assoc (take to into) (a ∷ b ∷ []) (take 12 sixes)

pub twelve : (xs : List ℕ) → length xs ≡ 16 → take 12 (bytes_of_sixes xs ++ 0 ∷ 0 ∷ 0 ∷ 0 ∷ []) ≡ bytes_of_sixes xs
twelve xs long = rw (whole16 xs long) refl

pub subtracted : (m w : ℕ) → m < 65536 → w ≤ m + 65536 → (m + (65536 - w % 65536)) % 65536 ≡ (m + 65536 - w) % 65536
subtracted m w fits le = omega arith

pub words-append : (n : ℕ) (xs ys : List ℕ) → length xs ≡ n + n → words_of (xs ++ ys) ≡ words_of xs ++ words_of ys
words-append zero [] ys long = refl
words-append zero (x ∷ xs) ys long = absurd (omega arith)
words-append (suc n) [] ys long = absurd (omega arith)
words-append (suc n) (x ∷ []) ys long = absurd (omega arith)
words-append (suc n) (x ∷ y ∷ xs) ys long = ap (λ l. (x + 256 * y) ∷ l) (words-append n xs ys (omega arith))

pub length-words_of : (n : ℕ) (xs : List ℕ) → length xs ≡ n + n → length (words_of xs) ≡ n
length-words_of zero [] long = refl
length-words_of zero (x ∷ xs) long = absurd (omega arith)
length-words_of (suc n) [] long = absurd (omega arith)
length-words_of (suc n) (x ∷ []) long = absurd (omega arith)
length-words_of (suc n) (x ∷ y ∷ xs) long = ap suc (length-words_of n xs (omega arith))

-- the halves of a cell in two vectors
pub halves_joined : (cell : List ℕ) → length cell ≡ 32 → words_of (chunk 0 16 (take 16 cell)) ++ words_of (chunk 16 16 cell) ≡ words_of cell
halves_joined cell long =
    let first : chunk 0 16 (take 16 cell) ≡ take 16 cell = take-take 16 16 cell (omega arith) in
    let rest : chunk 16 16 cell ≡ drop 16 cell = take_all 16 (drop 16 cell) (omega (arith, length-drop 16 cell)) in
    (λ i. words_of (first i) ++ words_of (rest i))
    ∙ sym (words-append 8 (take 16 cell) (drop 16 cell) (length-take-le 16 cell (omega arith)))
    ∙ ap words_of (take-append-drop 16 cell)

pub length-first : (cell : List ℕ) → length cell ≡ 32 → length (words_of (chunk 0 16 (take 16 cell))) ≡ 8
length-first cell long = length-words_of 8 (chunk 0 16 (take 16 cell)) (length-take-le 16 (take 16 cell) (omega (arith, length-take-le 16 cell (omega arith))))

pub length-second : (cell : List ℕ) → length cell ≡ 32 → length (words_of (chunk 16 16 cell)) ≡ 8
length-second cell long = length-words_of 8 (chunk 16 16 cell) (length-take-le 16 (drop 16 cell) (omega (arith, length-drop 16 cell)))

-- what was computed of a cell: its numbers, the greatest of them and how far they are below it
pub record NumbersAt (cell top bottom : List ℕ) (most : ℕ) (columns : List ℕ) : Type 0 where
  pub numbers : top ++ bottom ≡ map ordered (words_of cell)
  pub long : length top ≡ 8
  pub below : turned columns ≡ below_of (map ordered (words_of cell))
  pub most_is : most ≡ greatest_of (map ordered (words_of cell))

pub numbers_joined : (cell w v top bottom : List ℕ) → length cell ≡ 32 → w ≡ words_of (chunk 0 16 (take 16 cell)) → v ≡ words_of (chunk 16 16 cell) → top ≡ map ordered w → bottom ≡ map ordered v
    → top ++ bottom ≡ map ordered (words_of cell)
numbers_joined cell w v top bottom long first second upper lower =
    (λ i. upper i ++ lower i) ∙ sym (map-append ordered w v) ∙ ap (map ordered) ((λ i. first i ++ second i) ∙ halves_joined cell long)

pub numbers_at : (cell w v top bottom columns : List ℕ) (most : ℕ) → length cell ≡ 32 → w ≡ words_of (chunk 0 16 (take 16 cell)) → v ≡ words_of (chunk 16 16 cell) → top ≡ map ordered w → bottom ≡ map ordered v
    → most ≡ greatest_of (top ++ bottom) → turned columns ≡ map (λ t. most - t) (top ++ bottom) → NumbersAt cell top bottom most columns
unfolding below_of
numbers_at cell w v top bottom columns most long first second upper lower greatest is =
    let joined = numbers_joined cell w v top bottom long first second upper lower in
    record {
      numbers = joined;
      long = ap length upper ∙ length-map w ordered ∙ ap length first ∙ length-first cell long;
      below = is ∙ (λ i. map (λ t. greatest i - t) (top ++ bottom)) ∙ (λ i. map (λ t. greatest_of (joined i) - t) (joined i));
      most_is = greatest ∙ ap greatest_of joined;
    }

pub cell_at : (cell top bottom columns both : List ℕ) (most shift first : ℕ) → NumbersAt cell top bottom most columns
    → shift ≡ shift_of (turned columns) → first ≡ get_or (depths_of (turned columns) shift) 0 0 → both ≡ 32 ∷ differences_of (depths_of (turned columns) shift)
    → CellAt (words_of cell) shift first both
cell_at cell top bottom columns both most shift first at least depth differences = record {
  shift_is = least ∙ ap shift_of at.below;
  first_is = depth ∙ ap (λ below. get_or (depths_of below shift) 0 0) at.below;
  both_is = differences ∙ ap (λ below. 32 ∷ differences_of (depths_of below shift)) at.below;
}

-- the two cases
pub flat_bytes : (cell top bottom columns both : List ℕ) (most shift first number : ℕ) (flat : Bool) → NumbersAt cell top bottom most columns → CellAt (words_of cell) shift first both
    → flat ≡ true → list_all (λ d. eqb d 32) both ≡ true → number ≡ get_or top 0 0 → two_bytes number ++ 252 ∷ [] ≡ cell_of (words_of cell) flat
flat_bytes cell top bottom columns both most shift first number flat at cell_is is_flat level is =
    let same : number ≡ get_or (map ordered (words_of cell)) 0 0 = is ∙ sym (get_or_append_left top bottom 0 0 (omega (arith, at.long))) ∙ ap (λ l. get_or l 0 0) at.numbers in
    ap (λ n. two_bytes n ++ 252 ∷ []) same
    ∙ sym (cell_by (words_of cell) flat shift first both cell_is
    ∙ ap (λ b. cond b (two_bytes (get_or (map ordered (words_of cell)) 0 0) ++ 252 ∷ []) (long_bytes (words_of cell) shift first both)) (and_from flat (list_all (λ d. eqb d 32) both) is_flat level))

depth_first : (below : List ℕ) (s : ℕ) → get_or (depths_of below s) 0 0 * 2 ^ s ≤ get_or below 0 0 + 2 ^ s
unfolding depths_of
depth_first [] s = omega arith
depth_first (x ∷ below) s = depth_times x (2 ^ s) (pow_pos s)

minus_le : (xs : List ℕ) (most : ℕ) → get_or (map (λ t. most - t) xs) 0 0 ≤ most
minus_le [] most = omega arith
minus_le (x ∷ xs) most = omega arith

-- the first number of a cell of 14 bytes
pub first_number : (cell top bottom columns both : List ℕ) (most shift first : ℕ) → NumbersAt cell top bottom most columns → CellAt (words_of cell) shift first both → shift < 13 → most < 65536
    → (most + (65536 - (first * ((1 * 2 ^ shift) % 65536)) % 65536)) % 65536 ≡ (greatest_of (map ordered (words_of cell)) + 65536 - first * 2 ^ shift) % 65536
unfolding below_of
first_number cell top bottom columns both most shift first at cell_is few fits =
    let numbers = map ordered (words_of cell) in
    let below = below_of numbers in
    let unit : 1 * 2 ^ shift % 65536 ≡ 2 ^ shift = one_shl shift 16 (omega arith) in
    let small : 2 ^ shift < 2 ^ 13 = pow_below shift 13 few in
    let depth = depth_first below shift in
    let start = minus_le numbers (greatest_of numbers) in
    let same : first * 2 ^ shift ≡ get_or (depths_of below shift) 0 0 * 2 ^ shift = ap (λ n. n * 2 ^ shift) cell_is.first_is in
    let most_is = at.most_is in
    ap (λ p. (most + (65536 - (first * p) % 65536)) % 65536) unit ∙ subtracted most (first * 2 ^ shift) fits (omega arith) ∙ ap (λ m. (m + 65536 - first * 2 ^ shift) % 65536) most_is

pub long_cell_bytes : (cell top bottom columns near far sixes : List ℕ) (most shift first number : ℕ) (flat : Bool) → NumbersAt cell top bottom most columns → CellAt (words_of cell) shift first (near ++ far)
    → (flat && list_all (λ d. eqb d 32) (near ++ far)) ≡ false → number ≡ (greatest_of (map ordered (words_of cell)) + 65536 - first * 2 ^ shift) % 65536
    → length near ≡ 8 → length far ≡ 8 → sixes ≡ bytes_of_sixes ((shift ∷ drop 1 near) ++ far) ++ 0 ∷ 0 ∷ 0 ∷ 0 ∷ [] → two_bytes number ++ take 12 sixes ≡ cell_of (words_of cell) flat
long_cell_bytes cell top bottom columns near far sixes most shift first number flat at cell_is other is long as_long packed =
    let list = (shift ∷ drop 1 near) ++ far in
    let joined : drop 1 (near ++ far) ≡ drop 1 near ++ far = drop-append-le 1 near far (omega arith) in
    let whole : length list ≡ 16 = omega (arith, length-append (drop 1 near) far, length-drop 1 near) in
    (λ i. two_bytes (is i) ++ take 12 (packed i))
    ∙ ap (λ l. two_bytes ((greatest_of (map ordered (words_of cell)) + 65536 - first * 2 ^ shift) % 65536) ++ l) (twelve list whole ∙ ap (λ l. bytes_of_sixes (shift ∷ l)) (sym joined))
    ∙ sym (cell_by (words_of cell) flat shift first (near ++ far) cell_is
    ∙ ap (λ b. cond b (two_bytes (get_or (map ordered (words_of cell)) 0 0) ++ 252 ∷ []) (long_bytes (words_of cell) shift first (near ++ far))) other)

-- the shift before the other differences
pub small_front : (near far : List ℕ) (shift : ℕ) → length near ≡ 8 → shift < 13 → ((k : ℕ) → get_or (near ++ far) k 0 < 64) → (k : ℕ) → get_or (shift ∷ drop 1 near) k 0 < 64
small_front near far shift long few small zero = omega arith
small_front near far shift long few small (suc k) =
    let at : get_or (drop 1 near) k 0 ≡ get_or near (1 + k) 0 = get_or-drop 1 near k 0 in
    elim (cases_lt (1 + k) 8) [
      | inl lt ↦ omega (arith, get_or_append_left near far 0 (1 + k) (omega arith), small (1 + k))
      | inr past ↦ omega (arith, get_or_past near (1 + k) 0 (omega arith))
    ]

pub small_back : (near far : List ℕ) → length near ≡ 8 → ((k : ℕ) → get_or (near ++ far) k 0 < 64) → (k : ℕ) → get_or far k 0 < 64
small_back near far long small k = let at : length near + k ≡ 8 + k = omega arith in omega (arith, get_or-append-add near far k 0, ap (λ j. get_or (near ++ far) j 0) at, small (8 + k))

-- numbers that leave room for differences
pub numbers_low : (top bottom : List ℕ) → length top ≡ 8 → length bottom ≡ 8 → ((k : ℕ) → k < 8 → 1024 ≤ get_or top k 0) → ((k : ℕ) → k < 8 → 1024 ≤ get_or bottom k 0) → (k : ℕ) → k < length (top ++ bottom) → 1024 ≤ get_or (top ++ bottom) k 0
numbers_low top bottom long as_long first second k inside =
    elim (cases_lt k 8) [
      | inl lt ↦ omega (arith, get_or_append_left top bottom 0 k (omega arith), first k lt)
      | inr le ↦ omega (arith, get_or-append_right top bottom 8 k 0 long le, second (k - 8) (omega (arith, length-append top bottom)))
    ]

pub numbers_high : (top bottom : List ℕ) → length top ≡ 8 → ((k : ℕ) → get_or top k 0 ≤ 64511) → ((k : ℕ) → get_or bottom k 0 ≤ 64511) → (k : ℕ) → get_or (top ++ bottom) k 0 ≤ 64511
numbers_high top bottom long first second k =
    elim (cases_lt k 8) [
      | inl lt ↦ omega (arith, get_or_append_left top bottom 0 k (omega arith), first k)
      | inr le ↦ omega (arith, get_or-append_right top bottom 8 k 0 long le, second (k - 8))
    ]

pub most_within : (xs : List ℕ) (k : ℕ) → get_or xs k 0 ≤ greatest_of xs
most_within xs k = elim (cases_lt k (length xs)) [ inl lt ↦ le_greatest xs k lt | inr past ↦ omega (arith, get_or_past xs k 0 past) ]
