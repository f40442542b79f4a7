-- Running sums of counts along rows.
use Rattle.std.proofs.Common.{◌≡◌, ℕ, zero, suc, ◌+◌, ◌-◌, ◌*◌, ◌/◌, ◌^◌, ◌<◌, ◌≤◌, Bool, true, false, eqb, ltb, List, length, get_or, take, drop, slice_range, inl, inr, refl, zero-add, mul-zero, sym, ap, ap₂, subst, ◌∙◌, arith}
use Rattle.std.specs.List.{range_with_len, list_all, sum}
use Rattle.std.proofs.lemmas.Bool.{cases_lt, cases_eq, ne_eqb, eq-eqb, lt-ltb, le-ltb, ltb-true, and_from, and_parts}
use Rattle.std.proofs.lemmas.List.{get_or-drop, length-drop}
use Rattle.std.proofs.lemmas.Nat.{div-add-mod', mod_below}
use Rattle.std.proofs.lemmas.List.Sums.{sum_by_more}
use Rattle.std.proofs.lemmas.List.Folds.{list_all_at}
use Rattle.std.proofs.lemmas.List.FromFn.{length-range_with_len, get_or-range_with_len}
use Rattle.exr_deep.specs.Counts.{running_at}
use Rattle.exr_deep.specs.Deep.{are_ints}
use Rattle.exr_deep.specs.Steps.{AreInts, running_before_in}
use Rattle.exr_deep.proofs.Rows.{IsInRow, row_of}

-- the sum of the pixels of a row before pixel n
abbrev row_sum : ℕ → List ℕ → ℕ → ℕ
row_sum first counts n = sum (take (n - first) (drop first counts))

running_is : (width first n : ℕ) (counts : List ℕ) → IsInRow width first n → running_at width counts n ≡ row_sum first counts (n + 1)
unfolding running_at
running_is width first n counts is = ap (λ k. sum (slice_range counts k (n + 1))) (row_of width first n is)

before_is : (width first n : ℕ) (counts : List ℕ) → IsInRow width first n → row_sum first counts n ≡ running_before_in width first counts n
before_is width first n counts is = elim (cases_eq n first) [
  | inl same ↦
      let none : n - first ≡ 0 = omega arith in
      let test : eqb n first ≡ true = eq-eqb n first same in
      rw test (ap (λ k. sum (take k (drop first counts))) none)
  | inr other ↦
      let later : first < n = (let le = is.from in omega arith) in
      let test : eqb n first ≡ false = ne_eqb n first other in
      let earlier : IsInRow width first (n - 1) = record { row = is.row; begins = is.begins; from = omega arith; below = omega (arith, is.below) } in
      rw test (ap (λ k. sum (take (k - first) (drop first counts))) (let e : n ≡ n - 1 + 1 = omega arith in e) ∙ sym (running_is width first (n - 1) counts earlier))
]

pub running_here : (width first n : ℕ) (counts : List ℕ) → IsInRow width first n → n < length counts → running_at width counts n ≡ running_before_in width first counts n + get_or counts n 0
running_here width first n counts is inside =
    let rest = drop first counts in
    let le = is.from in
    running_is width first n counts is
    ∙ ap (λ k. sum (take k rest)) (let e : n + 1 - first ≡ n - first + 1 = omega arith in e)
    ∙ sum_by_more (λ x. x) rest (n - first) 0 (omega (arith, length-drop first counts))
    ∙ ap₂ ◌+◌ (before_is width first n counts is) (get_or-drop first counts (n - first) 0 ∙ ap (λ k. get_or counts k 0) (let e : first + (n - first) ≡ n = omega arith in e))

pub running_next : (width first n : ℕ) (counts : List ℕ) → first ≤ n → running_at width counts n ≡ running_before_in width first counts (n + 1)
running_next width first n counts le =
    let other : eqb (n + 1) first ≡ false = ne_eqb (n + 1) first (λ same. omega arith) in
    rw other (ap (running_at width counts) (let e : n ≡ n + 1 - 1 = omega arith in e))

pub running_start : (width first : ℕ) (counts : List ℕ) → 0 ≡ running_before_in width first counts first
running_start width first counts = let same : eqb first first ≡ true = eq-eqb first first refl in rw same refl

-- the row of a pixel
pub row_at : (width rows n : ℕ) → n < rows * width → IsInRow width (n / width * width) n
row_at width rows n lt = record {
  row = n / width;
  begins = refl;
  from = omega (arith, div-add-mod' n width);
  below = omega (arith, div-add-mod' n width, mod_below n width some);
}
  where
    some : 0 < width
    some = elim (cases_lt 0 width) [ inl h ↦ h | inr h ↦ absurd (let none : width ≡ 0 = omega arith in omega (arith, ap (λ w. rows * w) none ∙ mul-zero rows)) ]

-- ---- all running sums are ints

all_in : (p : ℕ → Bool) (a n : ℕ) → ((k : ℕ) → a ≤ k → k < a + n → p k ≡ true) → list_all p (range_with_len a n) ≡ true
all_in p a zero each = refl
all_in p a (suc n) each = and_from (p a) (list_all p (range_with_len (a + 1) n)) (each a (omega arith) (omega arith)) (all_in p (a + 1) n (λ k le lt. each k (omega arith) (omega arith)))

each_in : (p : ℕ → Bool) (a n : ℕ) → list_all p (range_with_len a n) ≡ true → (k : ℕ) → a ≤ k → k < a + n → p k ≡ true
each_in p a zero is k le lt = absurd (omega arith)
each_in p a (suc n) is k le lt =
    let parts = and_parts (p a) (list_all p (range_with_len (a + 1) n)) is in
    elim (cases_eq a k) [
      | inl same ↦ ap p (sym same) ∙ parts.0
      | inr other ↦ each_in p (a + 1) n parts.1 k (omega arith) (omega arith)
    ]

pub are_ints_if : (width n : ℕ) (counts : List ℕ) → length counts ≡ n → AreInts width counts n → are_ints width counts ≡ true
unfolding are_ints
are_ints_if width n counts long are = all_in (λ k. ltb (running_at width counts k) (2 ^ 31)) 0 (length counts) (λ k le lt. lt-ltb (running_at width counts k) (2 ^ 31) (are.each k (omega arith)))

pub each_int : (width : ℕ) (counts : List ℕ) → are_ints width counts ≡ true → AreInts width counts (length counts)
unfolding are_ints
each_int width counts are = record { each = λ k lt. ltb-true (running_at width counts k) (2 ^ 31) (each_in (λ k. ltb (running_at width counts k) (2 ^ 31)) 0 (length counts) are k (omega arith) (omega arith)) }

pub not_ints : (width n : ℕ) (counts : List ℕ) → n < length counts → 2 ^ 31 ≤ running_at width counts n → are_ints width counts ≡ false
unfolding are_ints
not_ints width n counts inside large =
    list_all_at (λ k. ltb (running_at width counts k) (2 ^ 31)) (range_with_len 0 (length counts)) n 0 (omega (arith, length-range_with_len 0 (length counts)))
    (ap (λ k. ltb (running_at width counts k) (2 ^ 31)) (get_or-range_with_len 0 (length counts) n 0 inside ∙ zero-add n) ∙ le-ltb (running_at width counts n) (2 ^ 31) large)

pub ints_more : (width n : ℕ) (counts : List ℕ) → AreInts width counts n → running_at width counts n < 2 ^ 31 → AreInts width counts (n + 1)
ints_more width n counts are small = record {
  each = λ k lt. elim (cases_lt k n) [
    | inl earlier ↦ are.each k earlier
    | inr last ↦ subst (λ (m : ℕ). running_at width counts m < 2 ^ 31) (let e : n ≡ k = omega arith in e) small
  ];
}

pub sum_more : (counts : List ℕ) (n before so_far count : ℕ) → n < length counts → sum (take n counts) ≡ before + so_far → count ≡ get_or counts n 0 → sum (take (n + 1) counts) ≡ before + (so_far + count)
sum_more counts n before so_far count inside is here = sum_by_more (λ x. x) counts n 0 inside ∙ omega arith
