-- Numbers below a bound that pass a test, and their ranks.
use Rattle.std.proofs.Common.{◌≡◌, ℕ, zero, suc, ◌+◌, ◌-◌, ◌<◌, ◌≤◌, Bool, true, false, cond, eqb, List, [], ◌∷◌, ◌++◌, length, take, get_or, set, inl, inr, refl, sym, ap, ◌∙◌, arith, append-nil}
use Rattle.std.specs.List.{range_with_len, filter}
use Rattle.std.proofs.lemmas.List.{map-id, length_push, get_or_push, get_or_append_left, take-set, take_more_set}
use Rattle.std.proofs.lemmas.List.FromFn.{filter_of_map_range_with_len_more}
use Rattle.std.proofs.lemmas.Bool.{cases_eq}
use Rattle.exr_piz.specs.Values.{passing_below}

pub passing-none : (test : ℕ → Bool) → passing_below test 0 ≡ []
unfolding passing_below
passing-none test = refl

-- one number more
pub passing-more : (test : ℕ → Bool) (n : ℕ) → passing_below test (n + 1) ≡ passing_below test n ++ cond (test n) (n ∷ []) []
unfolding passing_below
passing-more test n =
    sym (ap (filter test) (map-id (range_with_len 0 (n + 1))))
    ∙ filter_of_map_range_with_len_more test (λ k. k) 0 n n (omega arith)
    ∙ ap (λ (ks : List ℕ). filter test ks ++ cond (test n) (n ∷ []) []) (map-id (range_with_len 0 n))

pub passing-yes : (test : ℕ → Bool) (n : ℕ) → test n ≡ true → passing_below test (n + 1) ≡ passing_below test n ++ n ∷ []
passing-yes test n passes = passing-more test n ∙ ap (λ (b : Bool). passing_below test n ++ cond b (n ∷ []) []) passes

pub passing-no : (test : ℕ → Bool) (n : ℕ) → test n ≡ false → passing_below test (n + 1) ≡ passing_below test n
passing-no test n fails = passing-more test n ∙ ap (λ (b : Bool). passing_below test n ++ cond b (n ∷ []) []) fails ∙ append-nil (passing_below test n)

next : (test : ℕ → Bool) (n : ℕ) → passing_below test (suc n) ≡ passing_below test (n + 1)
next test n = ap (passing_below test) (let e : suc n ≡ n + 1 = omega arith in e)

-- no number passes from m on
pub passing-stays : (test : ℕ → Bool) (m k : ℕ) → ((v : ℕ) → m ≤ v → v < m + k → test v ≡ false) → passing_below test (m + k) ≡ passing_below test m
passing-stays test m zero none = ap (passing_below test) (let e : m + 0 ≡ m = omega arith in e)
passing-stays test m (suc k) none =
    ap (passing_below test) (let e : m + suc k ≡ m + k + 1 = omega arith in e)
    ∙ passing-no test (m + k) (none (m + k) (omega arith) (omega arith))
    ∙ passing-stays test m k (λ v low high. none v low (omega arith))

pub passing-up_to : (test : ℕ → Bool) (m n : ℕ) → m ≤ n → ((v : ℕ) → m ≤ v → v < n → test v ≡ false) → passing_below test n ≡ passing_below test m
passing-up_to test m n up none =
    let e : n ≡ m + (n - m) = omega arith in
    ap (passing_below test) e ∙ passing-stays test m (n - m) (λ v low high. none v low (omega arith))

-- two tests that agree
pub passing-same : (p q : ℕ → Bool) (n : ℕ) → ((v : ℕ) → v < n → p v ≡ q v) → passing_below p n ≡ passing_below q n
passing-same p q zero same = passing-none p ∙ sym (passing-none q)
passing-same p q (suc n) same =
    next p n ∙ passing-more p n
    ∙ ap (λ (b : Bool). passing_below p n ++ cond b (n ∷ []) []) (same n (omega arith))
    ∙ ap (λ (vs : List ℕ). vs ++ cond (q n) (n ∷ []) []) (passing-same p q n (λ v low. same v (omega arith)))
    ∙ sym (passing-more q n) ∙ sym (next q n)

-- how many there are
pub length-passing-more : (test : ℕ → Bool) (n : ℕ) → length (passing_below test (n + 1)) ≡ length (passing_below test n) + cond (test n) 1 0
length-passing-more test n = by_test (test n) refl
  where
    by_test : (b : Bool) → test n ≡ b → length (passing_below test (n + 1)) ≡ length (passing_below test n) + cond b 1 0
    by_test true passes = ap length (passing-yes test n passes) ∙ length_push (passing_below test n) n
    by_test false fails = ap length (passing-no test n fails) ∙ (let e : length (passing_below test n) ≡ length (passing_below test n) + 0 = omega arith in e)

few : (b : Bool) (before after n : ℕ) → after ≡ before + cond b 1 0 → before ≤ n → after ≤ suc n
few true before after n more low = omega arith
few false before after n more low = omega arith

pub length-passing : (test : ℕ → Bool) (n : ℕ) → length (passing_below test n) ≤ n
length-passing test zero = let e = ap length (passing-none test) in omega arith
length-passing test (suc n) = few (test n) (length (passing_below test n)) (length (passing_below test (suc n))) n (ap length (next test n) ∙ length-passing-more test n) (length-passing test n)

-- more numbers, more of them
pub passing-grows : (test : ℕ → Bool) (m k : ℕ) → length (passing_below test m) ≤ length (passing_below test (m + k))
passing-grows test m zero = let e = ap (λ n. length (passing_below test n)) (let z : m + 0 ≡ m = omega arith in z) in omega arith
passing-grows test m (suc k) =
    let before = passing-grows test m k in
    let e = ap (λ n. length (passing_below test n)) (let z : m + suc k ≡ m + k + 1 = omega arith in z) in
    let more = length-passing-more test (m + k) in
    omega arith

-- the rank of a number that passes is below their number
pub rank-below : (test : ℕ → Bool) (v n : ℕ) → v < n → test v ≡ true → length (passing_below test v) < length (passing_below test n)
rank-below test v n within passes =
    let one = ap length (passing-yes test v passes) ∙ length_push (passing_below test v) v in
    let others = passing-grows test (v + 1) (n - (v + 1)) in
    let e = ap (λ k. length (passing_below test k)) (let z : v + 1 + (n - (v + 1)) ≡ n = omega arith in z) in
    omega arith

-- the number at the rank of a number is that number
pub passing-at_rank : (test : ℕ → Bool) (v n : ℕ) → v < n → test v ≡ true → get_or (passing_below test n) (length (passing_below test v)) 0 ≡ v
passing-at_rank test v zero within passes = absurd (omega arith)
passing-at_rank test v (suc n) within passes = elim (cases_eq v n) [
  | inl last ↦
      let whole : passing_below test (suc n) ≡ passing_below test v ++ v ∷ [] = next test n ∙ ap (λ k. passing_below test (k + 1)) (sym last) ∙ passing-yes test v passes in
      ap (λ (vs : List ℕ). get_or vs (length (passing_below test v)) 0) whole ∙ get_or_push (passing_below test v) v 0 (length (passing_below test v)) refl
  | inr before ↦
      let low : v < n = omega arith in
      let whole = next test n ∙ passing-more test n in
      ap (λ (vs : List ℕ). get_or vs (length (passing_below test v)) 0) whole
      ∙ get_or_append_left (passing_below test n) (cond (test n) (n ∷ []) []) 0 (length (passing_below test v)) (rank-below test v n low passes)
      ∙ passing-at_rank test v n low passes
]

-- a number written behind those before, and kept where it passes
pub kept_behind : (values front : List ℕ) (count v bit : ℕ) → count < length values → take count values ≡ front → bit < 2 → take (count + bit) (set values count v) ≡ front ++ cond (eqb bit 1) (v ∷ []) []
kept_behind values front count v zero within so_far few =
    ap (λ n. take n (set values count v)) (let e : count + 0 ≡ count = omega arith in e) ∙ take-set values count v ∙ so_far ∙ sym (append-nil front)
kept_behind values front count v (suc zero) within so_far few =
    ap (λ n. take n (set values count v)) (let e : count + suc zero ≡ count + 1 = omega arith in e) ∙ take_more_set values count v within ∙ ap (λ (vs : List ℕ). vs ++ v ∷ []) so_far
kept_behind values front count v (suc (suc bit)) within so_far few = absurd (omega arith)
