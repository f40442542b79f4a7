-- A table of lengths that is filled from its front on, over zeros.
use Rattle.std.proofs.Common.{◌≡◌, ℕ, zero, suc, ◌+◌, ◌-◌, ◌^◌, ◌<◌, ◌≤◌, eqb, List, [], ◌∷◌, ◌++◌, length, take, drop, get_or, set, replicate, min, refl, sym, ap, ◌∙◌, inl, inr, arith}
use Rattle.std.specs.List.{sum_by}
use Rattle.std.proofs.Math.Seq.{take-add}
use Rattle.std.proofs.lemmas.Bool.{cases_eq, eq-eqb, ne_eqb}
use Rattle.std.proofs.lemmas.List.{length-set, get_or-set_same, get_or-set_other, take_all, take_more_set, take-replicate, drop-drop, drop-replicate, drop-set-lt}
use Rattle.std.proofs.lemmas.List.Sums.{sum_by-cons, sum_by-append}
use Rattle.exr_codes.specs.Codes.{weight_of}
use Rattle.exr_codes.specs.Tables.{is_full}

-- so many lengths are filled in, zeros are behind them, and this is what their codes take, or one more than all
pub record IsBegun (lengths : List ℕ) (count total : ℕ) : Type 0 where
  pub within : count ≤ length lengths
  pub short : (k : ℕ) → get_or lengths k 0 ≤ 58
  pub behind : drop count lengths ≡ replicate (length lengths - count) 0
  pub sum : total ≡ min (sum_by weight_of (take count lengths)) (2 ^ 58 + 1)

pub zeros_short : (n k : ℕ) → get_or (replicate n 0) k 0 ≤ 58
zeros_short zero k = omega arith
zeros_short (suc n) zero = omega arith
zeros_short (suc n) (suc k) = zeros_short n k

zeros_weigh_nothing : (n : ℕ) → sum_by weight_of (replicate n 0) ≡ 0
zeros_weigh_nothing zero = refl
zeros_weigh_nothing (suc n) = sum_by-cons weight_of 0 (replicate n 0) ∙ omega (arith, zeros_weigh_nothing n)

pub begun : (lengths : List ℕ) → lengths ≡ replicate (length lengths) 0 → IsBegun lengths 0 0
begun lengths zeros = record {
  within = omega arith;
  short = λ k. rw zeros (zeros_short (length lengths) k);
  behind = zeros ∙ ap (λ n. replicate n 0) (omega arith);
  sum = omega arith;
}

module _ (lengths : List ℕ) (count total : ℕ) (known : IsBegun lengths count total) where
  -- one length more
  pub begun_length : (len more : ℕ) → count < length lengths → len ≤ 58 → more ≡ min (total + weight_of len) (2 ^ 58 + 1) → IsBegun (set lengths count len) (count + 1) more
  begun_length len more inside small is =
      let size = length-set lengths count len in
      let front : sum_by weight_of (take (count + 1) (set lengths count len)) ≡ sum_by weight_of (take count lengths) + weight_of len = ap (sum_by weight_of) (take_more_set lengths count len inside) ∙ sum_by-append weight_of (take count lengths) (len ∷ []) ∙ ap (λ n. sum_by weight_of (take count lengths) + n) (sum_by-cons weight_of len [] ∙ omega arith) in
      record {
        within = omega (arith, size);
        short = λ k. elim (cases_eq k count) [
          | inl same ↦ rw (same, get_or-set_same lengths count len 0 inside) small
          | inr other ↦ rw (get_or-set_other lengths count k len 0 other) (known.short k)
        ];
        behind = drop-set-lt (count + 1) lengths count len (omega arith) ∙ sym (drop-drop 1 count lengths) ∙ ap (drop 1) known.behind ∙ drop-replicate 1 (length lengths - count) 0 ∙ ap (λ n. replicate n 0) (omega (arith, size));
        sum = rw front (omega (arith, known.sum));
      }

  -- a run of entries without a code
  pub taken_zeros : (n : ℕ) → n ≤ length lengths - count → take (count + n) lengths ≡ take count lengths ++ replicate n 0
  taken_zeros n fits = take-add count n lengths ∙ ap (λ (xs : List ℕ). take count lengths ++ xs) (ap (take n) known.behind ∙ take-replicate n (length lengths - count) 0 fits)

  pub begun_zeros : (n : ℕ) → n ≤ length lengths - count → IsBegun lengths (count + n) total
  begun_zeros n fits =
      let front : sum_by weight_of (take (count + n) lengths) ≡ sum_by weight_of (take count lengths) = ap (sum_by weight_of) (taken_zeros n fits) ∙ sum_by-append weight_of (take count lengths) (replicate n 0) ∙ omega (arith, zeros_weigh_nothing n) in
      record {
        within = omega (arith, known.within);
        short = known.short;
        behind = sym (drop-drop n count lengths) ∙ ap (drop n) known.behind ∙ drop-replicate n (length lengths - count) 0 ∙ ap (λ m. replicate m 0) (omega arith);
        sum = rw front known.sum;
      }

  -- all lengths are filled in
  pub filled_all : length lengths ≤ count → take count lengths ≡ lengths
  filled_all done = take_all count lengths done

-- what all codes take, or one more than all, says whether they take all
pub full_by_total : (lengths : List ℕ) (total : ℕ) → total ≡ min (sum_by weight_of lengths) (2 ^ 58 + 1) → eqb total (2 ^ 58) ≡ is_full lengths
unfolding is_full
full_by_total lengths total sum = elim (cases_eq total (2 ^ 58)) [
  | inl all ↦ eq-eqb total (2 ^ 58) all ∙ sym (eq-eqb (sum_by weight_of lengths) (2 ^ 58) (omega arith))
  | inr other ↦ ne_eqb total (2 ^ 58) other ∙ sym (ne_eqb (sum_by weight_of lengths) (2 ^ 58) (λ all. other (omega arith)))
]
