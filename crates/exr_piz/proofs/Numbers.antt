-- Numbers of which tests are the bits.
use Rattle.std.proofs.Common.{◌≡◌, ℕ, zero, suc, ◌+◌, ◌-◌, ◌*◌, ◌/◌, ◌%◌, ◌^◌, ◌<◌, ◌≤◌, Bool, true, false, cond, eqb, inl, inr, refl, sym, ap, ◌∙◌, arith}
use Rattle.std.proofs.Math.Nat.{div-eq_of_lt, add-mul-div_left, add-mul-mod_self_left}
use Rattle.std.proofs.lemmas.Bool.{cases_eq, eq-eqb}
use Rattle.std.proofs.lemmas.Nat.{pow-add}
use Rattle.exr_wavelet.proofs.Waves.{pow_some, pow_suc}
use Rattle.exr_piz.specs.Values.{number_with}

pub number_with-none : (test : ℕ → Bool) → number_with test 0 ≡ 0
unfolding number_with
number_with-none test = refl

pub number_with-suc : (test : ℕ → Bool) (n : ℕ) → number_with test (suc n) ≡ number_with test n + cond (test n) (2 ^ n) 0
unfolding number_with
number_with-suc test n = refl

pub number_with-more : (test : ℕ → Bool) (n : ℕ) → number_with test (n + 1) ≡ number_with test n + cond (test n) (2 ^ n) 0
number_with-more test n = ap (number_with test) (let e : n + 1 ≡ suc n = omega arith in e) ∙ number_with-suc test n

bit_most : (b : Bool) (n : ℕ) → cond b (2 ^ n) 0 ≤ 2 ^ n
bit_most true n = omega arith
bit_most false n = omega arith

pub number_with-below : (test : ℕ → Bool) (n : ℕ) → number_with test n < 2 ^ n
number_with-below test zero = let e = number_with-none test in let one : 2 ^ 0 ≡ 1 = refl in omega arith
number_with-below test (suc n) =
    let e = number_with-suc test n in
    let most = bit_most (test n) n in
    let low = number_with-below test n in
    let twice = pow_suc n in
    omega arith

-- two tests that agree
pub number_with-same : (p q : ℕ → Bool) (n : ℕ) → ((i : ℕ) → i < n → p i ≡ q i) → number_with p n ≡ number_with q n
number_with-same p q zero same = number_with-none p ∙ sym (number_with-none q)
number_with-same p q (suc n) same =
    let before = number_with-same p q n (λ i low. same i (omega arith)) in
    number_with-suc p n ∙ ap (λ k. k + cond (p n) (2 ^ n) 0) before ∙ ap (λ (b : Bool). number_with q n + cond b (2 ^ n) 0) (same n (omega arith)) ∙ sym (number_with-suc q n)

-- a bit laid above
laid_above : (b : Bool) (n low i : ℕ) → low < 2 ^ n → i < n → (low + cond b (2 ^ n) 0) / 2 ^ i % 2 ≡ low / 2 ^ i % 2
laid_above false n low i few before = ap (λ k. k / 2 ^ i % 2) (let e : low + 0 ≡ low = omega arith in e)
laid_above true n low i few before =
    let j = n - i - 1 in
    let parts : 2 ^ n ≡ 2 ^ i * (2 * 2 ^ j) = ap (λ k. 2 ^ k) (let e : n ≡ i + suc j = omega arith in e) ∙ pow-add 2 i (suc j) ∙ ap (λ k. 2 ^ i * k) (pow_suc j) in
    let some : 0 < 2 ^ i = pow_some i in
    ap (λ k. (low + k) / 2 ^ i % 2) parts
    ∙ ap (λ k. k % 2) (add-mul-div_left low (2 * 2 ^ j) some)
    ∙ add-mul-mod_self_left (low / 2 ^ i) 2 (2 ^ j)

high_bit : (b : Bool) (n low : ℕ) → low < 2 ^ n → (low + cond b (2 ^ n) 0) / 2 ^ n % 2 ≡ cond b 1 0
high_bit false n low few = ap (λ k. k / 2 ^ n % 2) (let e : low + 0 ≡ low = omega arith in e) ∙ ap (λ k. k % 2) (div-eq_of_lt few)
high_bit true n low few =
    let some : 0 < 2 ^ n = pow_some n in
    ap (λ k. (low + k) / 2 ^ n % 2) (let e : 2 ^ n ≡ 2 ^ n * 1 = omega arith in e)
    ∙ ap (λ k. k % 2) (add-mul-div_left low 1 some ∙ ap (λ k. k + 1) (div-eq_of_lt few))

-- the bits are the tests
pub bit_of-number_with : (test : ℕ → Bool) (n i : ℕ) → i < n → number_with test n / 2 ^ i % 2 ≡ cond (test i) 1 0
bit_of-number_with test zero i before = absurd (omega arith)
bit_of-number_with test (suc n) i before = elim (cases_eq i n) [
  | inl last ↦
      ap (λ k. number_with test (suc n) / 2 ^ k % 2) last ∙ ap (λ k. k / 2 ^ n % 2) (number_with-suc test n) ∙ high_bit (test n) n (number_with test n) (number_with-below test n) ∙ ap (λ k. cond (test k) 1 0) (sym last)
  | inr other ↦
      let low : i < n = omega arith in
      ap (λ k. k / 2 ^ i % 2) (number_with-suc test n) ∙ laid_above (test n) n (number_with test n) i (number_with-below test n) low ∙ bit_of-number_with test n i low
]

bit_is : (b : Bool) (n : ℕ) → n ≡ cond b 1 0 → eqb n 1 ≡ b
bit_is true n is = eq-eqb n 1 is
bit_is false n is = ap (λ k. eqb k 1) is

pub test-number_with : (test : ℕ → Bool) (n i : ℕ) → i < n → eqb (number_with test n / 2 ^ i % 2) 1 ≡ test i
test-number_with test n i before = bit_is (test i) _ (bit_of-number_with test n i before)
