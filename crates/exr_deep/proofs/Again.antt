-- The table of counts is read again, and the counts of a table have running sums that are ints.
use Rattle.std.proofs.Common.{◌≡◌, ℕ, ℤ, zero, suc, pos, nat_abs, int_lt, ◌-ℤ◌, ◌≤ℤ◌, ◌+◌, ◌-◌, ◌*◌, ◌/◌, ◌^◌, ◌<◌, ◌≤◌, true, false, eqb, List, [], ◌∷◌, length, get_or, take, drop, map, Ok, inl, inr, zero-add, refl, sym, ap, ap₂, ◌∙◌, w32, arith}
use Rattle.std.specs.List.{range_with_len, flat_map}
use Rattle.std.specs.Int.{to_le_bytes, from_le_bytes, cast_signed}
use Rattle.std.proofs.lemmas.Bool.{cases_eq, eq-eqb, ne_eqb}
use Rattle.std.proofs.lemmas.Int.{ints, to_z_pos}
use Rattle.std.proofs.lemmas.Nat.{from_le_bytes-to_le_bytes_4}
use Rattle.std.proofs.lemmas.List.{take_at, drop_at, drop-drop}
use Rattle.std.proofs.lemmas.List.Concat.{flat_map-cons}
use Rattle.std.proofs.lemmas.List.FromFn.{length-map-range_with_len, get_or-map-range_with_len}
use Rattle.exr_deep.specs.Counts.{entry_at, entry_before, falls_at, count_at, counts_in, running_at, table_of}
use Rattle.exr_deep.specs.Steps.{AreCounted, AreInts, entry_before_in, running_before_in}
use Rattle.exr_deep.proofs.Reading.{entry_before_is, not_below_is, no_fall, all_counted, counted_in}
use Rattle.exr_deep.proofs.Running.{running_here, row_at}

-- ---- counts that are written and read

word_at : (words : List ℕ) (k : ℕ) → k < length words → take 4 (drop (4 * k) (flat_map (to_le_bytes w32) words)) ≡ to_le_bytes w32 (get_or words k 0)
word_at [] k lt = absurd (omega arith)
word_at (w ∷ ws) zero lt = ap (λ (bytes : List ℕ). take 4 bytes) (flat_map-cons (to_le_bytes w32) w ws) ∙ take_at (to_le_bytes w32 w) (flat_map (to_le_bytes w32) ws) 4 refl
word_at (w ∷ ws) (suc k) lt =
    ap (λ n. take 4 (drop n (flat_map (to_le_bytes w32) (w ∷ ws)))) (let e : 4 * suc k ≡ 4 + 4 * k = omega arith in e)
    ∙ ap (take 4) (sym (drop-drop (4 * k) 4 (flat_map (to_le_bytes w32) (w ∷ ws))))
    ∙ ap (λ (bytes : List ℕ). take 4 (drop (4 * k) bytes)) (ap (drop 4) (flat_map-cons (to_le_bytes w32) w ws) ∙ drop_at (to_le_bytes w32 w) (flat_map (to_le_bytes w32) ws) 4 refl)
    ∙ word_at ws k (omega arith)

entry_again : (width : ℕ) (counts : List ℕ) (k : ℕ) → k < length counts → running_at width counts k < 2 ^ 31 → entry_at (table_of width counts) k ≡ pos (running_at width counts k)
unfolding entry_at table_of
entry_again width counts k lt small =
    let words = map (running_at width counts) (range_with_len 0 (length counts)) in
    let long : length words ≡ length counts = length-map-range_with_len (running_at width counts) 0 (length counts) in
    ap (λ (bytes : List ℕ). cast_signed w32 (from_le_bytes w32 bytes)) (word_at words k (omega arith))
    ∙ ap (cast_signed w32) (from_le_bytes-to_le_bytes_4 (get_or words k 0) (omega (arith, get_or-map-range_with_len (running_at width counts) 0 (length counts) k k 0 lt (zero-add k))))
    ∙ ap (cast_signed w32) (get_or-map-range_with_len (running_at width counts) 0 (length counts) k k 0 lt (zero-add k))
    ∙ to_z_pos w32 (running_at width counts k) small

before_again : (width first k : ℕ) (counts : List ℕ) → k < length counts → AreInts width counts (length counts) → first ≤ k → entry_before_in first (table_of width counts) k ≡ pos (running_before_in width first counts k)
before_again width first k counts lt are le = elim (cases_eq k first) [
  | inl same ↦ (let test : eqb k first ≡ true = eq-eqb k first same in rw test refl)
  | inr other ↦ (let test : eqb k first ≡ false = ne_eqb k first other in rw test (entry_again width counts (k - 1) (omega arith) (are.each (k - 1) (omega arith))))
]

below_sum : (before count : ℕ) → pos before ≤ℤ pos (before + count)
below_sum before count = omega (arith, ints)

difference : (before count : ℕ) → count ≡ nat_abs (pos (before + count) -ℤ pos before)
difference before count = omega (arith, ints)

counted_again : (width rows : ℕ) (counts : List ℕ) → length counts ≡ rows * width → AreInts width counts (length counts) → AreCounted width (table_of width counts) (rows * width) counts
unfolding falls_at count_at
counted_again width rows counts long are = record {
  rise = λ k lt. ap₂ int_lt (entry k lt) (before k lt) ∙ not_below_is (pos (sum_before k + get_or counts k 0)) (pos (sum_before k)) (below_sum (sum_before k) (get_or counts k 0));
  counted = λ k lt. difference (sum_before k) (get_or counts k 0) ∙ sym (ap nat_abs (ap₂ ◌-ℤ◌ (entry k lt) (before k lt)));
}
  where
    first : ℕ → ℕ
    first k = k / width * width

    sum_before : ℕ → ℕ
    sum_before k = running_before_in width (first k) counts k

    entry : (k : ℕ) → k < rows * width → entry_at (table_of width counts) k ≡ pos (sum_before k + get_or counts k 0)
    entry k lt = entry_again width counts k (omega arith) (are.each k (omega arith)) ∙ ap pos (running_here width (first k) k counts (row_at width rows k lt) (omega arith))

    before : (k : ℕ) → k < rows * width → entry_before width (table_of width counts) k ≡ pos (sum_before k)
    before k lt = entry_before_is width (first k) k (table_of width counts) (row_at width rows k lt) ∙ before_again width (first k) k counts (omega arith) are (let is = row_at width rows k lt in is.from)

pub counts_again : (width rows : ℕ) (counts : List ℕ) → length counts ≡ rows * width → AreInts width counts (length counts) → counts_in width (table_of width counts) (rows * width) ≡ Ok counts
counts_again width rows counts long are =
    let counted = counted_again width rows counts long are in
    counted_in width (table_of width counts) (rows * width) counts (no_fall width (rows * width) (table_of width counts) counts counted) (all_counted width (rows * width) (table_of width counts) counts long counted)

-- ---- counts that are read and have running sums

above_before : (entry before : ℤ) → int_lt entry before ≡ false → before ≤ℤ entry
above_before entry before test = grind (arith, ints)

pub rises_before : (width : ℕ) (table : List ℕ) (n : ℕ) → falls_at width table n ≡ false → entry_before width table n ≤ℤ entry_at table n
unfolding falls_at
rises_before width table n test = above_before (entry_at table n) (entry_before width table n) test

pub counted_by : (width : ℕ) (table : List ℕ) (n : ℕ) → count_at width table n ≡ nat_abs (entry_at table n -ℤ entry_before width table n)
unfolding count_at
counted_by width table n = refl

step : (entry before : ℤ) (running count : ℕ) → before ≡ pos running → before ≤ℤ entry → count ≡ nat_abs (entry -ℤ before) → entry ≡ pos (running + count)
step entry before running count is le by = omega (arith, ints)

signed_small : (m r : ℕ) → cast_signed w32 m ≡ pos r → r < 2 ^ 31
signed_small m r is = omega (arith, ints)

entry_small : (table : List ℕ) (n r : ℕ) → entry_at table n ≡ pos r → r < 2 ^ 31
unfolding entry_at
entry_small table n r is = signed_small (from_le_bytes w32 (take 4 (drop (4 * n) table))) r is

entry_here : (width rows : ℕ) (table counts : List ℕ) → length counts ≡ rows * width → AreCounted width table (rows * width) counts → (n : ℕ) → n < rows * width
    → entry_before_in (n / width * width) table n ≡ pos (running_before_in width (n / width * width) counts n) → entry_at table n ≡ pos (running_at width counts n)
entry_here width rows table counts long are n lt earlier =
    let first = n / width * width in
    let is = row_at width rows n lt in
    step (entry_at table n) (entry_before width table n) (running_before_in width first counts n) (get_or counts n 0) (entry_before_is width first n table is ∙ earlier) (rises_before width table n (are.rise n lt)) (are.counted n lt ∙ counted_by width table n)
    ∙ ap pos (sym (running_here width first n counts is (omega arith)))

before_first : (width first : ℕ) (table counts : List ℕ) → first ≤ 0 → entry_before_in first table 0 ≡ pos (running_before_in width first counts 0)
before_first width first table counts le = let test : eqb 0 first ≡ true = eq-eqb 0 first (omega arith) in rw test refl

before_later : (width first n : ℕ) (table counts : List ℕ) → entry_at table n ≡ pos (running_at width counts n) → entry_before_in first table (suc n) ≡ pos (running_before_in width first counts (suc n))
before_later width first n table counts is = elim (cases_eq (suc n) first) [
  | inl same ↦ (let test : eqb (suc n) first ≡ true = eq-eqb (suc n) first same in rw test refl)
  | inr other ↦
      let test : eqb (suc n) first ≡ false = ne_eqb (suc n) first other in
      let at : suc n - 1 ≡ n = omega arith in
      rw test (ap (entry_at table) at ∙ is ∙ ap (λ k. pos (running_at width counts k)) (sym at))
]

running_entry : (width rows : ℕ) (table counts : List ℕ) → length counts ≡ rows * width → AreCounted width table (rows * width) counts → (n : ℕ) → n < rows * width → entry_at table n ≡ pos (running_at width counts n)
running_entry width rows table counts long are zero lt = entry_here width rows table counts long are 0 lt (before_first width (0 / width * width) table counts (let is = row_at width rows 0 lt in is.from))
running_entry width rows table counts long are (suc n) lt =
    entry_here width rows table counts long are (suc n) lt (before_later width (suc n / width * width) n table counts (running_entry width rows table counts long are n (omega arith)))

pub ints_read : (width rows : ℕ) (table counts : List ℕ) → length counts ≡ rows * width → AreCounted width table (rows * width) counts → AreInts width counts (rows * width)
ints_read width rows table counts long are = record { each = λ k lt. entry_small table k (running_at width counts k) (running_entry width rows table counts long are k lt) }
