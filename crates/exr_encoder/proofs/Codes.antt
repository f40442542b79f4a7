-- The number of a code from the tables of an encoder, and what those tables count.
use Rattle.std.proofs.Common.{◌≡◌, ℕ, zero, suc, ◌+◌, ◌^◌, ◌<◌, ◌≤◌, List, length, take, get_or, ap, ap₂, ◌∙◌, inl, inr, arith}
use Rattle.std.proofs.lemmas.Bool.{cases_lt}
use Rattle.std.proofs.lemmas.List.{get_or_past}
use Rattle.std.proofs.lemmas.Nat.{pow_below}
use Rattle.exr_codes.specs.Codes.{IsComplete, code_number, count_of}
use Rattle.exr_codes.proofs.Intervals.{code_number_below}
use Rattle.exr_codes.proofs.Orders.{count_of_same}
use Rattle.exr_encoder.specs.Encoding.{IsEncoder}

pub coded_within : (lengths : List ℕ) (k : ℕ) → 0 < get_or lengths k 0 → k < length lengths
coded_within lengths k some = elim (cases_lt k (length lengths)) [ inl lt ↦ lt | inr past ↦ absurd (omega (arith, get_or_past lengths k 0 past)) ]

pub number_from : (lengths firsts ranks : List ℕ) (k : ℕ) → IsEncoder lengths firsts ranks → 0 < get_or lengths k 0 → get_or firsts (get_or lengths k 0) 0 + get_or ranks k 0 ≡ code_number lengths k
unfolding code_number
number_from lengths firsts ranks k is some = ap₂ ◌+◌ (is.first (get_or lengths k 0) (is.complete.short k)) (is.rank k some)

pub number_small : (lengths : List ℕ) (k : ℕ) → IsComplete lengths → 0 < get_or lengths k 0 → code_number lengths k < 2 ^ 64
number_small lengths k complete some =
    let below = code_number_below lengths complete k some in
    omega (arith, below, pow_below (get_or lengths k 0) 64 (omega (arith, complete.short k)))

-- entries without a code do not change how many codes of a length there are
pub count_of-passed : (len : ℕ) (lengths : List ℕ) (k n : ℕ) → 0 < len → k + n ≤ length lengths → ((j : ℕ) → j < n → get_or lengths (k + j) 0 ≡ 0) → count_of len (take (k + n) lengths) ≡ count_of len (take k lengths)
count_of-passed len lengths k zero some within none = ap (λ m. count_of len (take m lengths)) (let e : k + zero ≡ k = omega arith in e)
count_of-passed len lengths k (suc n) some within none =
    ap (λ m. count_of len (take m lengths)) (let e : k + suc n ≡ k + n + 1 = omega arith in e) ∙ count_of_same lengths (k + n) len (omega arith) (none n (omega arith)) some ∙ count_of-passed len lengths k n some (omega arith) (λ j below. none j (omega arith))
