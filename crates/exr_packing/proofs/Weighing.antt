-- The weights of words: how they add up, and that each word and the run symbol get a code.
use Rattle.std.proofs.Common.{◌≡◌, ℕ, zero, suc, ◌+◌, ◌-◌, ◌*◌, ◌^◌, ◌<◌, ◌≤◌, false, cond, eqb, ltb, List, [], ◌∷◌, length, get_or, set, min, max, fold, count_by, sum, refl, sym, ap, ◌∙◌, ap₂, inl, inr, arith}
use Rattle.std.specs.List.{sum_by}
use Rattle.std.proofs.lemmas.Bool.{cases_eq, eq-eqb, ne_eqb, lt-ltb}
use Rattle.std.proofs.lemmas.List.{length-set, length_push, get_or_at, get_or_append_left, get_or-set_same, get_or-set_other, ext_get_or}
use Rattle.std.proofs.lemmas.List.Sums.{sum_by-cons, sum_by_push, get_or-le-sum_by}
use Rattle.exr_codes.specs.Codes.{IsComplete}
use Rattle.exr_huffman.specs.Tokens.{run_entry}
use Rattle.exr_merging.specs.Trees.{values_below, merged_lengths}
use Rattle.exr_merging.proofs.Merging.{total, total-add, length-values_below, get_or-values_below, sum_values_below, are_complete, has_code, length-merged_lengths}
use Rattle.exr_packing.specs.Packed.{least_of, greatest_of, weights_of, lengths_of}
use Rattle.exr_packing.specs.Costs.{cost_below, cost_of, AreCoded}

-- ---- the least and the greatest word

min_le : (a : ℕ) (words : List ℕ) → fold min a words ≤ a
min_le a [] = omega arith
min_le a (w ∷ words) = omega (arith, min_le (min a w) words)

min_at : (a : ℕ) (words : List ℕ) (k : ℕ) → k < length words → fold min a words ≤ get_or words k 0
min_at a [] k within = absurd (omega arith)
min_at a (w ∷ words) zero within = omega (arith, min_le (min a w) words)
min_at a (w ∷ words) (suc k) within = min_at (min a w) words k (omega arith)

max_le : (a : ℕ) (words : List ℕ) → a ≤ fold max a words
max_le a [] = omega arith
max_le a (w ∷ words) = omega (arith, max_le (max a w) words)

max_at : (a : ℕ) (words : List ℕ) (k : ℕ) → k < length words → get_or words k 0 ≤ fold max a words
max_at a [] k within = absurd (omega arith)
max_at a (w ∷ words) zero within = omega (arith, max_le (max a w) words)
max_at a (w ∷ words) (suc k) within = max_at (max a w) words k (omega arith)

pub least_at : (words : List ℕ) (k : ℕ) → k < length words → least_of words ≤ get_or words k 0
unfolding least_of
least_at words k within = min_at 65535 words k within

pub greatest_at : (words : List ℕ) (k : ℕ) → k < length words → get_or words k 0 ≤ greatest_of words
unfolding greatest_of
greatest_at words k within = max_at 0 words k within

pub ordered : (words : List ℕ) → 0 < length words → least_of words ≤ greatest_of words
ordered words some = omega (arith, least_at words 0 some, greatest_at words 0 some)

-- ---- the weights, one by one

pub length-weights_of : (words : List ℕ) → length (weights_of words) ≡ greatest_of words - least_of words + 2
unfolding weights_of
length-weights_of words =
    let counts = values_below (λ k. count_by (λ w. eqb w (least_of words + k)) words) (greatest_of words - least_of words + 1) in
    omega (arith, length_push counts 1, length-values_below (λ k. count_by (λ w. eqb w (least_of words + k)) words) (greatest_of words - least_of words + 1))

pub weight_of_word : (words : List ℕ) (k : ℕ) → k ≤ greatest_of words - least_of words → get_or (weights_of words) k 0 ≡ count_by (λ w. eqb w (least_of words + k)) words
unfolding weights_of
weight_of_word words k within =
    let f = λ (j : ℕ). count_by (λ w. eqb w (least_of words + j)) words in
    let n = greatest_of words - least_of words + 1 in
    get_or_append_left (values_below f n) (1 ∷ []) 0 k (omega (arith, length-values_below f n)) ∙ get_or-values_below f n k (omega arith)

pub weight_of_run : (words : List ℕ) → get_or (weights_of words) (greatest_of words - least_of words + 1) 0 ≡ 1
unfolding weights_of
weight_of_run words =
    let f = λ (j : ℕ). count_by (λ w. eqb w (least_of words + j)) words in
    let n = greatest_of words - least_of words + 1 in
    get_or_at (values_below f n) 1 [] 0 n (length-values_below f n)

-- counts of words, with 1 behind them
pub weights_from : (words counts : List ℕ) (run : ℕ) → run ≡ greatest_of words - least_of words + 1 → length counts ≡ run + 1 → ((k : ℕ) → k < length counts → get_or counts k 0 ≡ count_by (λ w. eqb w (least_of words + k)) words) → set counts run 1 ≡ weights_of words
weights_from words counts run is size counted =
    ext_get_or 0 (set counts run 1) (weights_of words) (length-set counts run 1 ∙ omega (arith, length-weights_of words)) (λ k within.
    let inside : k < length counts = omega (arith, length-set counts run 1) in
    elim (cases_eq k run) [
      | inl same ↦ rw same (get_or-set_same counts run 1 0 (omega arith) ∙ sym (ap (λ j. get_or (weights_of words) j 0) is ∙ weight_of_run words))
      | inr other ↦ get_or-set_other counts run k 1 0 other ∙ counted k inside ∙ sym (weight_of_word words k (omega arith))
    ])

-- ---- sums over entries

pub total_same_below : (f g : ℕ → ℕ) (n : ℕ) → ((k : ℕ) → k < n → f k ≡ g k) → total f n ≡ total g n
total_same_below f g zero same = refl
total_same_below f g (suc n) same = ap₂ ◌+◌ (total_same_below f g n (λ k below. same k (omega arith))) (same n (omega arith))

total_zero : (f : ℕ → ℕ) (n : ℕ) → ((k : ℕ) → f k ≡ 0) → total f n ≡ 0
total_zero f zero none = refl
total_zero f (suc n) none = omega (arith, total_zero f n none, none n)

no_other : (least n w : ℕ) (f : ℕ → ℕ) → least ≤ w → n ≤ w - least → total (λ k. cond (eqb w (least + k)) 1 0 * f k) n ≡ 0
no_other least zero w f from past = refl
no_other least (suc n) w f from past =
    let here : eqb w (least + n) ≡ false = ne_eqb w (least + n) (λ e. omega arith) in
    let none : cond (eqb w (least + n)) 1 0 * f n ≡ 0 = rw here (omega arith) in
    omega (arith, no_other least n w f from (omega arith), none)

one_word : (least n w : ℕ) (f : ℕ → ℕ) → least ≤ w → w - least < n → total (λ k. cond (eqb w (least + k)) 1 0 * f k) n ≡ f (w - least)
one_word least zero w f from within = absurd (omega arith)
one_word least (suc n) w f from within = elim (cases_eq w (least + n)) [
  | inl same ↦
      let here : cond (eqb w (least + n)) 1 0 * f n ≡ f n = rw (eq-eqb w (least + n) same) (omega arith) in
      let place : n ≡ w - least = omega arith in
      omega (arith, no_other least n w f from (omega arith), here, ap f place)
  | inr other ↦
      let none : cond (eqb w (least + n)) 1 0 * f n ≡ 0 = rw (ne_eqb w (least + n) other) (omega arith) in
      omega (arith, one_word least n w f from (omega arith), none)
]

-- what words add up to is what each of them is worth, as often as it occurs
pub counted : (least n : ℕ) (f : ℕ → ℕ) (words : List ℕ) → ((k : ℕ) → k < length words → (least ≤ get_or words k 0) × (get_or words k 0 - least < n)) → total (λ k. count_by (λ w. eqb w (least + k)) words * f k) n ≡ sum_by (λ w. f (w - least)) words
counted least n f [] inside = total_zero (λ k. 0 * f k) n (λ k. omega arith)
counted least n f (w ∷ words) inside =
    let one = λ (k : ℕ). cond (eqb w (least + k)) 1 0 * f k in
    let others = λ (k : ℕ). count_by (λ v. eqb v (least + k)) words * f k in
    total_same_below (λ k. count_by (λ v. eqb v (least + k)) (w ∷ words) * f k) (λ k. one k + others k) n (λ k below. rw (sum_by-cons (λ v. cond (eqb v (least + k)) 1 0) w words) (omega arith))
    ∙ total-add one others n
    ∙ ap₂ ◌+◌ (one_word least n w f (inside 0 (omega arith)).0 (inside 0 (omega arith)).1) (counted least n f words (λ k below. inside (suc k) (omega arith)))
    ∙ sym (sum_by-cons (λ v. f (v - least)) w words)

sum_ones : (words : List ℕ) → sum_by (λ w. 1) words ≡ length words
sum_ones [] = refl
sum_ones (w ∷ words) = sum_by-cons (λ v. 1) w words ∙ omega (arith, sum_ones words)

occurs : (words : List ℕ) (k v : ℕ) → k < length words → get_or words k 0 ≡ v → 0 < count_by (λ w. eqb w v) words
occurs words k v within is =
    let at_most = get_or-le-sum_by (λ w. cond (eqb w v) 1 0) words k 0 within in
    let here : ◌≡◌ {A = ℕ} (cond (eqb (get_or words k 0) v) 1 0) 1 = rw (eq-eqb (get_or words k 0) v is) refl in
    omega (arith, at_most, here)

cost_total : (weights lengths : List ℕ) (n : ℕ) → cost_below weights lengths n ≡ total (λ k. get_or weights k 0 * get_or lengths k 0) n
unfolding cost_below
cost_total weights lengths zero = refl
cost_total weights lengths (suc n) = ap (λ s. s + get_or weights n 0 * get_or lengths n 0) (cost_total weights lengths n)

module _ (words : List ℕ) (some : 0 < length words) where
  inside : (k : ℕ) → k < length words → (least_of words ≤ get_or words k 0) × (get_or words k 0 - least_of words < greatest_of words - least_of words + 1)
  inside k within = (least_at words k within, omega (arith, least_at words k within, greatest_at words k within))

  -- all weights together are the words and the run symbol
  pub sum-weights_of : sum (weights_of words) ≡ length words + 1
  unfolding weights_of
  sum-weights_of =
      let f = λ (j : ℕ). count_by (λ w. eqb w (least_of words + j)) words in
      let n = greatest_of words - least_of words + 1 in
      sum_by_push (λ x. x) (values_below f n) 1
      ∙ ap (λ s. s + 1) (sum_values_below (λ x. x) f n ∙ total_same_below f (λ k. f k * 1) n (λ k below. omega arith) ∙ counted (least_of words) n (λ k. 1) words inside ∙ sum_ones words)

  pub word_has_weight : (k : ℕ) → k < length words → 0 < get_or (weights_of words) (get_or words k 0 - least_of words) 0
  word_has_weight k within =
      let in_k = inside k within in
      let w = get_or words k 0 in
      let back : w ≡ least_of words + (w - least_of words) = omega arith in
      omega (arith, weight_of_word words (w - least_of words) (omega arith), occurs words k (least_of words + (w - least_of words)) within back)

  -- two symbols have a weight at least
  pub two_weights : 2 ≤ count_by (λ weight. ltb 0 weight) (weights_of words)
  unfolding weights_of
  two_weights =
      let f = λ (j : ℕ). count_by (λ w. eqb w (least_of words + j)) words in
      let n = greatest_of words - least_of words + 1 in
      let first = get_or words 0 0 - least_of words in
      let in_first = inside 0 some in
      let heavy : 0 < get_or (values_below f n) first 0 = rw (get_or-values_below f n first in_first.1) (occurs words 0 (least_of words + first) some (omega arith)) in
      let one : ◌≡◌ {A = ℕ} (cond (ltb 0 (get_or (values_below f n) first 0)) 1 0) 1 = rw (lt-ltb 0 (get_or (values_below f n) first 0) heavy) refl in
      let at_most = get_or-le-sum_by (λ weight. cond (ltb 0 weight) 1 0) (values_below f n) first 0 (omega (arith, length-values_below f n, in_first.1)) in
      let pushed = sum_by_push (λ weight. cond (ltb 0 weight) 1 0) (values_below f n) 1 in
      omega (arith, one, at_most, pushed)

  -- what the codes take is what the words' codes take, and the run symbol's code once
  pub cost_is : (lengths : List ℕ) → cost_below (weights_of words) lengths (length (weights_of words)) ≡ cost_of (least_of words) lengths words + get_or lengths (greatest_of words - least_of words + 1) 0
  unfolding cost_of
  cost_is lengths =
      let n = greatest_of words - least_of words + 1 in
      let g = λ (k : ℕ). get_or lengths k 0 in
      let weights = weights_of words in
      let size : length weights ≡ suc n = omega (arith, length-weights_of words) in
      ap (cost_below weights lengths) size ∙ cost_total weights lengths (suc n)
      ∙ ap₂ ◌+◌ (total_same_below (λ k. get_or weights k 0 * g k) (λ k. count_by (λ w. eqb w (least_of words + k)) words * g k) n (λ k below. ap (λ x. x * g k) (weight_of_word words k (omega arith))) ∙ counted (least_of words) n g words inside) (ap (λ x. x * g n) (weight_of_run words) ∙ omega arith)

  module _ (most : length words ≤ 2 ^ 25) where
    -- the lengths are a complete table, and none of them is above 51
    pub lengths_complete : IsComplete (lengths_of words) × ((k : ℕ) → get_or (lengths_of words) k 0 ≤ 51)
    unfolding lengths_of
    lengths_complete = are_complete (weights_of words) two_weights (omega (arith, sum-weights_of))

    coded : (k : ℕ) → k < length (weights_of words) → 0 < get_or (weights_of words) k 0 → 0 < get_or (lengths_of words) k 0
    unfolding lengths_of
    coded k within heavy = has_code (weights_of words) two_weights (omega (arith, sum-weights_of)) k within heavy

    pub words_coded : AreCoded (least_of words) (lengths_of words) words
    words_coded k within =
        let in_k = inside k within in
        (in_k.0, coded (get_or words k 0 - least_of words) (omega (arith, length-weights_of words)) (word_has_weight k within))

    pub length-lengths_of : length (lengths_of words) ≡ greatest_of words - least_of words + 2
    unfolding lengths_of
    length-lengths_of = length-merged_lengths (weights_of words) ∙ length-weights_of words

    pub run_coded : 0 < get_or (lengths_of words) (run_entry (lengths_of words)) 0
    run_coded =
        let place : run_entry (lengths_of words) ≡ greatest_of words - least_of words + 1 = omega (arith, length-lengths_of) in
        rw place (coded (greatest_of words - least_of words + 1) (omega (arith, length-weights_of words)) (omega (arith, weight_of_run words)))

pub cost_none : (weights lengths : List ℕ) → cost_below weights lengths 0 ≡ 0
unfolding cost_below
cost_none weights lengths = refl

pub cost_more : (weights lengths : List ℕ) (n : ℕ) → cost_below weights lengths (n + 1) ≡ cost_below weights lengths n + get_or weights n 0 * get_or lengths n 0
unfolding cost_below
cost_more weights lengths n = ap (cost_below weights lengths) (let one : n + 1 ≡ suc n = omega arith in one)

pub merged_is : (words weights : List ℕ) → weights ≡ weights_of words → merged_lengths weights ≡ lengths_of words
unfolding lengths_of
merged_is words weights is = ap merged_lengths is

max_small : (most a : ℕ) (words : List ℕ) → a ≤ most → ((k : ℕ) → get_or words k 0 ≤ most) → fold max a words ≤ most
max_small most a [] le small = le
max_small most a (w ∷ words) le small = max_small most (max a w) words (omega (arith, small 0)) (λ k. small (suc k))

pub greatest_small : (words : List ℕ) → ((k : ℕ) → get_or words k 0 < 2 ^ 16) → greatest_of words ≤ 65535
unfolding greatest_of
greatest_small words small = max_small 65535 0 words (omega arith) (λ k. omega (arith, small k))
