-- Each code of a complete table takes an interval of the numbers below 2 ^ 58, and no two of them meet.
use Rattle.std.proofs.Common.{◌≡◌, ℕ, zero, suc, ◌+◌, ◌-◌, ◌*◌, ◌/◌, ◌%◌, ◌^◌, ◌<◌, ◌≤◌, ◌⊎◌, Bool, true, false, cond, eqb, ltb, leb, ◌&&◌, List, [], ◌∷◌, ◌++◌, length, take, drop, get_or, replicate, Option, Some, None, refl, sym, ap, ◌∙◌, subst, inl, inr, arith, mod-eq_of_lt}
use Rattle.std.specs.List.{sum_by}
use Rattle.std.proofs.lemmas.List.{get_or_past, take-take, take_at, take-append-le, take-append-drop, length-replicate, length-append, length-take}
use Rattle.std.proofs.lemmas.List.Sums.{sum_by-cons, sum_by-take-le, count_by_more_yes}
use Rattle.std.proofs.lemmas.Bool.{cases_lt, cases_eq, cases_order, eq-eqb, lt-ltb, le-ltb, ltb-true, eqb-true, leb-true, le-leb, and_parts, and_from, false_from_ne_true}
use Rattle.std.proofs.lemmas.Bool.Decides.{nat_tests}
use Rattle.std.proofs.lemmas.Nat.{pow_pos, pow-add, shl-shr, shr-shr, shr_high, mod_below, div-mul-add, div-add-mod'}
use Rattle.std.proofs.Math.Nat.{mul_comm, mul-sub, mul-le-mul_right, lt_of_mul-lt-mul_right}
use Rattle.exr_base.specs.Bits.{number_of, bits_of}
use Rattle.exr_base.proofs.BitLists.{length-bits_of, number_of-append, number_of-below, number_of-bits_of}
use Rattle.exr_codes.proofs.BitFronts.{number_of-take, bits_of-front}
use Rattle.exr_codes.specs.Windows.{IsWindow, IsCodeAt}
use Rattle.exr_codes.specs.Codes.{weight_of, IsComplete, weight_above, count_of, code_number, code_of, code_begins, first_below, first_of_two, entry_at, IsPrefixFree}

-- one length fewer takes the codes of that length in
above_one : (len l : ℕ) → 0 < len → cond (ltb (len - 1) l) (weight_of l) 0 ≡ cond (ltb len l) (weight_of l) 0 + cond (eqb l len) 1 0 * 2 ^ (58 - len)
above_one len l some = grind (arith, nat_tests)

pub weight_above-less : (len : ℕ) (lengths : List ℕ) → 0 < len → weight_above (len - 1) lengths ≡ weight_above len lengths + count_of len lengths * 2 ^ (58 - len)
unfolding weight_above count_of
weight_above-less len [] some = omega arith
weight_above-less len (l ∷ lengths) some =
    let h = weight_above-less len lengths some in
    rw (sum_by-cons (λ m. cond (ltb (len - 1) m) (weight_of m) 0) l lengths, sum_by-cons (λ m. cond (ltb len m) (weight_of m) 0) l lengths, sum_by-cons (λ m. cond (eqb m len) 1 0) l lengths, above_one len l some) (omega arith)

above_fewer : (a b l w : ℕ) → a ≤ b → cond (ltb b l) w 0 ≤ cond (ltb a l) w 0
above_fewer a b l w le = grind (arith, nat_tests)

pub weight_above_mono : (a b : ℕ) (lengths : List ℕ) → a ≤ b → weight_above b lengths ≤ weight_above a lengths
unfolding weight_above
weight_above_mono a b [] le = omega arith
weight_above_mono a b (l ∷ lengths) le =
    let h = weight_above_mono a b lengths le in
    let e = above_fewer a b l (weight_of l) le in
    rw (sum_by-cons (λ m. cond (ltb a m) (weight_of m) 0) l lengths, sum_by-cons (λ m. cond (ltb b m) (weight_of m) 0) l lengths) (omega arith)

above_none : (l : ℕ) → cond (ltb 0 l) (weight_of l) 0 ≡ weight_of l
above_none l = grind (arith, nat_tests)

pub weight_above-zero : (lengths : List ℕ) → weight_above 0 lengths ≡ sum_by weight_of lengths
unfolding weight_above
weight_above-zero [] = refl
weight_above-zero (l ∷ lengths) =
    rw (sum_by-cons (λ m. cond (ltb 0 m) (weight_of m) 0) l lengths, sum_by-cons weight_of l lengths, above_none l) (ap (λ n. weight_of l + n) (weight_above-zero lengths))

weight_some : (l : ℕ) → 0 < l → weight_of l ≡ 2 ^ (58 - l)
weight_some l some = grind (arith, nat_tests)

-- each weight of a code that is no longer is a multiple
multiple_of : (len l : ℕ) → len ≤ 58 → l ≤ 58 → (q : ℕ) × (weight_of l ≡ cond (ltb len l) (weight_of l) 0 + q * 2 ^ (58 - len))
multiple_of len zero small short = (0, rw (le-ltb len 0 (omega arith)) (omega arith))
multiple_of len (suc l) small short = elim (cases_lt len (suc l)) [
  | inl longer ↦ (0, rw (lt-ltb len (suc l) longer) (omega arith))
  | inr shorter ↦ (
    2 ^ (len - suc l),
    rw (le-ltb len (suc l) shorter, weight_some (suc l) (omega arith)) (let e : 58 - suc l ≡ (len - suc l) + (58 - len) = omega arith in rw (e, pow-add 2 (len - suc l) (58 - len)) (omega arith)),
  )
]

pub rest_is_multiple : (len : ℕ) (lengths : List ℕ) → len ≤ 58 → ((k : ℕ) → get_or lengths k 0 ≤ 58) → (q : ℕ) × (sum_by weight_of lengths ≡ weight_above len lengths + q * 2 ^ (58 - len))
unfolding weight_above
rest_is_multiple len [] small short = (0, omega arith)
rest_is_multiple len (l ∷ lengths) small short =
    let h = rest_is_multiple len lengths small (λ k. short (suc k)) in
    let m = multiple_of len l small (short 0) in
    (m.0 + h.0, rw (sum_by-cons (λ m. cond (ltb len m) (weight_of m) 0) l lengths, sum_by-cons weight_of l lengths) (omega (arith, h.1, m.1)))

exact_quotient : (whole part q w n : ℕ) → 0 < w → whole ≡ part + q * w → whole ≡ n * w → part / w * w ≡ part
exact_quotient whole part q w n pos split total =
    let e : part ≡ (n - q) * w + 0 = rw (mul_comm (n - q) w, mul-sub w n q) (omega arith) in
    let d : part / w ≡ n - q = rw e (div-mul-add (n - q) w 0 pos) in
    rw d (omega arith)

pub count_of_more : (len : ℕ) (lengths : List ℕ) (k : ℕ) → k < length lengths → get_or lengths k 0 ≡ len → count_of len (take (k + 1) lengths) ≡ count_of len (take k lengths) + 1
unfolding count_of
count_of_more len lengths k within is = count_by_more_yes (λ l. eqb l len) lengths k 0 within (eq-eqb (get_or lengths k 0) len is)

pub count_of-take : (len : ℕ) (lengths : List ℕ) (k : ℕ) → count_of len (take k lengths) ≤ count_of len lengths
unfolding count_of
count_of-take len lengths k = sum_by-take-le (λ l. cond (eqb l len) 1 0) lengths k

pub count_of-take_le : (len : ℕ) (lengths : List ℕ) (i j : ℕ) → i ≤ j → count_of len (take i lengths) ≤ count_of len (take j lengths)
count_of-take_le len lengths i j le = subst (λ (xs : List ℕ). count_of len xs ≤ count_of len (take j lengths)) (take-take i j lengths le) (count_of-take len (take j lengths) i)

-- where the interval of code k begins
abbrev pub start_of : List ℕ → ℕ → ℕ
start_of lengths k = weight_above (get_or lengths k 0) lengths + count_of (get_or lengths k 0) (take k lengths) * 2 ^ (58 - get_or lengths k 0)

module _ (lengths : List ℕ) (complete : IsComplete lengths) where
  -- what the longer codes take is a multiple of what one code takes
  pub weight_above_exact : (len : ℕ) → len ≤ 58 → weight_above len lengths / 2 ^ (58 - len) * 2 ^ (58 - len) ≡ weight_above len lengths
  weight_above_exact len short =
      let w = 2 ^ (58 - len) in
      let h = rest_is_multiple len lengths short complete.short in
      let total : 2 ^ 58 ≡ 2 ^ len * w = let e : 58 ≡ len + (58 - len) = omega arith in ap (λ n. 2 ^ n) e ∙ pow-add 2 len (58 - len) in
      exact_quotient (2 ^ 58) (weight_above len lengths) h.0 w (2 ^ len) (pow_pos (58 - len)) (sym complete.full ∙ h.1) total

  -- a code's number, moved up to 58 bits, is where its interval begins
  pub code_number_start : (k : ℕ) → code_number lengths k * 2 ^ (58 - get_or lengths k 0) ≡ start_of lengths k
  unfolding code_number
  code_number_start k =
      let exact = weight_above_exact (get_or lengths k 0) (complete.short k) in
      omega (arith, exact)

  end_of_interval : (k : ℕ) → 0 < get_or lengths k 0 → start_of lengths k + 2 ^ (58 - get_or lengths k 0) ≤ weight_above (get_or lengths k 0 - 1) lengths
  end_of_interval k some =
      let len = get_or lengths k 0 in
      let within : k < length lengths = elim (cases_lt k (length lengths)) [ inl lt ↦ lt | inr past ↦ absurd (omega (arith, get_or_past lengths k 0 past)) ] in
      let one = count_of_more len lengths k within refl in
      let most = count_of-take len lengths (k + 1) in
      let fewer : count_of len (take k lengths) + 1 ≤ count_of len lengths = omega arith in
      let product = mul-le-mul_right (2 ^ (58 - len)) fewer in
      rw (weight_above-less len lengths some) (omega (arith, product))

  -- the interval lies below 2 ^ 58
  pub interval_below : (k : ℕ) → 0 < get_or lengths k 0 → start_of lengths k + 2 ^ (58 - get_or lengths k 0) ≤ 2 ^ 58
  interval_below k some =
      omega (arith, end_of_interval k some, weight_above_mono 0 (get_or lengths k 0 - 1) lengths (omega arith), weight_above-zero lengths, complete.full)

  -- of two codes one comes first, and its interval ends before the other begins
  first_ends : (i j : ℕ) → 0 < get_or lengths i 0 → 0 < get_or lengths j 0 → (get_or lengths j 0 < get_or lengths i 0) ⊎ ((get_or lengths i 0 ≡ get_or lengths j 0) × (i < j)) → start_of lengths i + 2 ^ (58 - get_or lengths i 0) ≤ start_of lengths j
  first_ends i j some_i some_j (inl longer) =
      omega (arith, end_of_interval i some_i, weight_above_mono (get_or lengths j 0) (get_or lengths i 0 - 1) lengths (omega arith))
  first_ends i j some_i some_j (inr (same, before)) =
      let len = get_or lengths j 0 in
      let within : j < length lengths = elim (cases_lt j (length lengths)) [ inl lt ↦ lt | inr past ↦ absurd (omega (arith, get_or_past lengths j 0 past)) ] in
      let one = count_of_more len lengths i (omega arith) same in
      let most = count_of-take_le len lengths (i + 1) j (omega arith) in
      let fewer : count_of len (take i lengths) + 1 ≤ count_of len (take j lengths) = omega arith in
      let product = mul-le-mul_right (2 ^ (58 - len)) fewer in
      rw same (omega (arith, product))

  -- a number stands in one interval at most
  pub same_from_interval : (i j v : ℕ) → 0 < get_or lengths i 0 → 0 < get_or lengths j 0 → start_of lengths i ≤ v → v < start_of lengths i + 2 ^ (58 - get_or lengths i 0) → start_of lengths j ≤ v → v < start_of lengths j + 2 ^ (58 - get_or lengths j 0) → i ≡ j
  same_from_interval i j v some_i some_j from_i to_i from_j to_j = elim (cases_order i j) [
    | inl same ↦ same
    | inr (inl before) ↦ elim (cases_order (get_or lengths i 0) (get_or lengths j 0)) [
      | inl same ↦ absurd (omega (arith, first_ends i j some_i some_j (inr (same, before))))
      | inr (inl shorter) ↦ absurd (omega (arith, first_ends j i some_j some_i (inl shorter)))
      | inr (inr longer) ↦ absurd (omega (arith, first_ends i j some_i some_j (inl longer)))
    ]
    | inr (inr after) ↦ elim (cases_order (get_or lengths i 0) (get_or lengths j 0)) [
      | inl same ↦ absurd (omega (arith, first_ends j i some_j some_i (inr (sym same, after))))
      | inr (inl shorter) ↦ absurd (omega (arith, first_ends j i some_j some_i (inl shorter)))
      | inr (inr longer) ↦ absurd (omega (arith, first_ends i j some_i some_j (inl longer)))
    ]
  ]

  in_interval : (k v : ℕ) → v / 2 ^ (58 - get_or lengths k 0) ≡ code_number lengths k → (start_of lengths k ≤ v) × (v < start_of lengths k + 2 ^ (58 - get_or lengths k 0))
  in_interval k v is =
      let w = 2 ^ (58 - get_or lengths k 0) in
      let start = code_number_start k in
      let whole = div-add-mod' v w in
      let low = mod_below v w (pow_pos (58 - get_or lengths k 0)) in
      let multiple : v / w * w ≡ start_of lengths k = rw is start in
      (omega arith, omega arith)

  -- one code at most begins a number of 58 bits
  pub same_from_front : (i j v : ℕ) → 0 < get_or lengths i 0 → 0 < get_or lengths j 0 → v / 2 ^ (58 - get_or lengths i 0) ≡ code_number lengths i → v / 2 ^ (58 - get_or lengths j 0) ≡ code_number lengths j → i ≡ j
  same_from_front i j v some_i some_j at_i at_j =
      let p = in_interval i v at_i in
      let q = in_interval j v at_j in
      same_from_interval i j v some_i some_j p.0 p.1 q.0 q.1

  -- a code's number has no more bits than the code
  pub code_number_below : (k : ℕ) → 0 < get_or lengths k 0 → code_number lengths k < 2 ^ get_or lengths k 0
  code_number_below k some =
      let len = get_or lengths k 0 in
      let short = complete.short k in
      let e : 58 ≡ len + (58 - len) = omega arith in
      let total : 2 ^ 58 ≡ 2 ^ len * 2 ^ (58 - len) = ap (λ n. 2 ^ n) e ∙ pow-add 2 len (58 - len) in
      let below : code_number lengths k * 2 ^ (58 - len) < 2 ^ len * 2 ^ (58 - len) = omega (arith, interval_below k some, code_number_start k, pow_pos (58 - len)) in
      lt_of_mul-lt-mul_right (2 ^ (58 - len)) below

  pub prefix_free : IsPrefixFree lengths
  unfolding code_of
  prefix_free i j rest some_i some_j begins =
      let len_i = get_or lengths i 0 in
      let len_j = get_or lengths j 0 in
      let n_i = code_number lengths i in
      let n_j = code_number lengths j in
      let more = length rest in
      let longer : len_j ≡ len_i + more = sym (length-bits_of len_j n_j) ∙ ap length begins ∙ length-append (bits_of len_i n_i) rest ∙ ap (λ k. k + more) (length-bits_of len_i n_i) in
      let short_j = complete.short j in
      let below_i : n_i % 2 ^ len_i ≡ n_i = mod-eq_of_lt (code_number_below i some_i) in
      let below_j : n_j % 2 ^ len_j ≡ n_j = mod-eq_of_lt (code_number_below j some_j) in
      let value : n_j ≡ n_i * 2 ^ more + number_of rest = sym below_j ∙ sym (number_of-bits_of len_j n_j) ∙ ap number_of begins ∙ number_of-append (bits_of len_i n_i) rest ∙ ap (λ n. n * 2 ^ more + number_of rest) (number_of-bits_of len_i n_i ∙ below_i) in
      let v = n_j * 2 ^ (58 - len_j) in
      let at_j : v / 2 ^ (58 - len_j) ≡ n_j = shl-shr n_j (58 - len_j) in
      let shift : 58 - len_i ≡ (58 - len_j) + more = omega arith in
      let at_i : v / 2 ^ (58 - len_i) ≡ n_i = ap (λ k. v / 2 ^ k) shift ∙ sym (shr-shr v (58 - len_j) more) ∙ ap (λ n. n / 2 ^ more) (at_j ∙ value) ∙ shr_high n_i more (number_of rest) (number_of-below rest) in
      same_from_front i j v some_i some_j at_i at_j

-- no number passes
pub first_below_none : (passes : ℕ → Bool) (n : ℕ) → ((j : ℕ) → j < n → passes j ≡ false) → first_below passes n ≡ None
unfolding first_below
first_below_none passes zero none = refl
first_below_none passes (suc n) none = rw (first_below_none passes n (λ j lt. none j (omega arith)), none n (omega arith)) refl

-- the least number that passes is the only one that does
pub first_below_is : (passes : ℕ → Bool) (n k : ℕ) → k < n → passes k ≡ true → ((j : ℕ) → j < n → passes j ≡ true → j ≡ k) → first_below passes n ≡ Some k
unfolding first_below
first_below_is passes zero k within pass only = absurd (omega arith)
first_below_is passes (suc n) k within pass only = elim (cases_eq k n) [
  | inl same ↦
      let none : first_below passes n ≡ None = first_below_none passes n (λ j lt. false_from_ne_true (passes j) (λ e. omega (arith, only j (omega arith) e))) in
      let here : passes n ≡ true = subst (λ (m : ℕ). passes m ≡ true) same pass in
      rw (none, here) (ap Some (sym same))
  | inr other ↦ rw (first_below_is passes n k (omega arith) pass (λ j lt e. only j (omega arith) e)) refl
]

-- what it means that a code begins the bits
pub code_begins_parts : (lengths : List ℕ) (bits : List Bool) (k : ℕ) → code_begins lengths bits k ≡ true → (0 < get_or lengths k 0) × (get_or lengths k 0 ≤ length bits) × (number_of (take (get_or lengths k 0) bits) ≡ code_number lengths k)
unfolding code_begins
code_begins_parts lengths bits k e =
    let len = get_or lengths k 0 in
    let p = and_parts (ltb 0 len && leb len (length bits)) (eqb (number_of (take len bits)) (code_number lengths k)) e in
    let q = and_parts (ltb 0 len) (leb len (length bits)) p.0 in
    (ltb-true 0 len q.0, leb-true len (length bits) q.1, eqb-true (number_of (take len bits)) (code_number lengths k) p.1)

pub code_begins_from : (lengths : List ℕ) (bits : List Bool) (k : ℕ) → 0 < get_or lengths k 0 → get_or lengths k 0 ≤ length bits → number_of (take (get_or lengths k 0) bits) ≡ code_number lengths k → code_begins lengths bits k ≡ true
unfolding code_begins
code_begins_from lengths bits k some fits is =
    let len = get_or lengths k 0 in
    and_from (ltb 0 len && leb len (length bits)) (eqb (number_of (take len bits)) (code_number lengths k)) (and_from (ltb 0 len) (leb len (length bits)) (lt-ltb 0 len some) (le-leb len (length bits) fits)) (eq-eqb (number_of (take len bits)) (code_number lengths k) is)

-- the bits with zero bits behind them, so many
padded : List Bool → List Bool
padded bits = take 58 (bits ++ replicate 58 false)

front_of_padded : (bits : List Bool) (n : ℕ) → n ≤ length bits → n ≤ 58 → number_of (take n bits) ≡ number_of (padded bits) / 2 ^ (58 - n)
unfolding padded
front_of_padded bits n within small =
    let len : length (padded bits) ≡ 58 = rw (length-take, length-append, length-replicate) (omega arith) in
    let same : take n (padded bits) ≡ take n bits = take-take n 58 (bits ++ replicate 58 false) small ∙ take-append-le n bits (replicate 58 false) within in
    subst (λ (m : ℕ). number_of (take n bits) ≡ number_of (padded bits) / 2 ^ (m - n)) len (sym (ap number_of same) ∙ number_of-take n (padded bits) (omega (arith, len)))

module _ (lengths : List ℕ) (complete : IsComplete lengths) (bits : List Bool) where
  -- one code at most begins the bits
  pub same_from_begins : (i j : ℕ) → code_begins lengths bits i ≡ true → code_begins lengths bits j ≡ true → i ≡ j
  same_from_begins i j begins_i begins_j =
      let p = code_begins_parts lengths bits i begins_i in
      let q = code_begins_parts lengths bits j begins_j in
      let at_i = sym (front_of_padded bits (get_or lengths i 0) p.1 (complete.short i)) ∙ p.2 in
      let at_j = sym (front_of_padded bits (get_or lengths j 0) q.1 (complete.short j)) ∙ q.2 in
      same_from_front lengths complete i j (number_of (padded bits)) p.0 q.0 at_i at_j

  pub entry_at_begins : (k : ℕ) → k < length lengths → code_begins lengths bits k ≡ true → entry_at lengths bits ≡ Some k
  unfolding entry_at
  entry_at_begins k within begins = first_below_is (code_begins lengths bits) (length lengths) k within begins (λ j lt begins_j. same_from_begins j k begins_j begins)

-- the bits begin with code k where they are it and others
pub code_begins_joined : (lengths : List ℕ) (k : ℕ) (rest : List Bool) → IsComplete lengths → 0 < get_or lengths k 0 → code_begins lengths (code_of lengths k ++ rest) k ≡ true
unfolding code_of
code_begins_joined lengths k rest complete some =
    let len = get_or lengths k 0 in
    let n = code_number lengths k in
    let bits = bits_of len n in
    let size = length-bits_of len n in
    let value : number_of (take len (bits ++ rest)) ≡ n = rw (take_at bits rest len size, number_of-bits_of len n) (mod-eq_of_lt (code_number_below lengths complete k some)) in
    code_begins_from lengths (bits ++ rest) k some (rw (length-append, size) (omega arith)) value

module _ (lengths : List ℕ) (complete : IsComplete lengths) (bits : List Bool) (window k len : ℕ) (found : IsCodeAt lengths window k len) where
  -- the code that begins a window begins the bits, where they are enough
  pub entry_at_found : (count : ℕ) → IsWindow count bits window → len ≤ count → len ≤ length bits → entry_at lengths bits ≡ Some k
  entry_at_found count is_window valid enough =
      let value : number_of (take (get_or lengths k 0) bits) ≡ code_number lengths k = rw found.is_len (is_window len valid enough ∙ found.begins) in
      entry_at_begins lengths complete bits k found.is_there (code_begins_from lengths bits k (rw found.is_len found.has_bits) (rw found.is_len enough) value)

  high_of_window : (n : ℕ) → n ≤ 58 → window / 2 ^ (64 - n) ≡ window / 2 ^ 6 / 2 ^ (58 - n)
  high_of_window n small = ap (λ m. window / 2 ^ m) (let e : 64 - n ≡ 6 + (58 - n) = omega arith in e) ∙ sym (shr-shr window 6 (58 - n))

  -- where they are not enough, no code begins them
  pub entry_at_short : (count : ℕ) → IsWindow count bits window → len ≤ count → length bits < len → entry_at lengths bits ≡ None
  unfolding entry_at
  entry_at_short count is_window valid short = first_below_none (code_begins lengths bits) (length lengths) (λ j lt. false_from_ne_true (code_begins lengths bits j) (λ begins.
      let p = code_begins_parts lengths bits j begins in
      let len_j = get_or lengths j 0 in
      let short_j = complete.short j in
      let at_j : window / 2 ^ 6 / 2 ^ (58 - len_j) ≡ code_number lengths j = sym (high_of_window len_j short_j) ∙ sym (is_window len_j (omega arith) p.1) ∙ p.2 in
      let short_k : len ≤ 58 = omega (arith, complete.short k, found.is_len) in
      let at_k : window / 2 ^ 6 / 2 ^ (58 - get_or lengths k 0) ≡ code_number lengths k = rw found.is_len (sym (high_of_window len short_k) ∙ found.begins) in
      let same = same_from_front lengths complete j k (window / 2 ^ 6) p.0 (omega (arith, found.is_len, found.has_bits)) at_j at_k in
      omega (arith, p.1, found.is_len, ap (λ i. get_or lengths i 0) same)))

first_of_two_passes : (passes : ℕ → Bool) (n k : ℕ) (earlier : Option ℕ) → (earlier ≡ Some k → passes k ≡ true) → first_of_two earlier (cond (passes n) (Some n) None) ≡ Some k → passes k ≡ true
first_of_two_passes passes n k (Some j) pass e = pass e
first_of_two_passes passes n k None pass e = here (passes n) refl e
  where
    here : (b : Bool) → passes n ≡ b → cond b (Some n) None ≡ Some k → passes k ≡ true
    here true is f = let same : n ≡ k = cc in subst (λ (m : ℕ). passes m ≡ true) same is
    here false is f = absurd cc

-- what is found passes
pub first_below_passes : (passes : ℕ → Bool) (n k : ℕ) → first_below passes n ≡ Some k → passes k ≡ true
unfolding first_below
first_below_passes passes zero k e = absurd cc
first_below_passes passes (suc n) k e = first_of_two_passes passes n k (first_below passes n) (first_below_passes passes n k) e

-- the entry found has a code that begins the bits
pub entry_at_is : (lengths : List ℕ) (bits : List Bool) (k : ℕ) → entry_at lengths bits ≡ Some k → (0 < get_or lengths k 0) × (get_or lengths k 0 ≤ length bits)
unfolding entry_at
entry_at_is lengths bits k e =
    let p = code_begins_parts lengths bits k (first_below_passes (code_begins lengths bits) (length lengths) k e) in
    (p.0, p.1)

-- the bits are the code of the entry found and what is behind it
pub entry_at_joined : (lengths : List ℕ) (bits : List Bool) (k : ℕ) → entry_at lengths bits ≡ Some k → (k < length lengths) × (0 < get_or lengths k 0) × (bits ≡ code_of lengths k ++ drop (get_or lengths k 0) bits)
unfolding entry_at code_of
entry_at_joined lengths bits k e =
    let len = get_or lengths k 0 in
    let p = code_begins_parts lengths bits k (first_below_passes (code_begins lengths bits) (length lengths) k e) in
    let within : k < length lengths = elim (cases_lt k (length lengths)) [ inl lt ↦ lt | inr past ↦ absurd (omega (arith, get_or_past lengths k 0 past, p.0)) ] in
    let code : bits_of len (code_number lengths k) ≡ take len bits = ap (bits_of len) (sym p.2) ∙ bits_of-front len bits p.1 in
    (within, p.0, sym (take-append-drop len bits) ∙ ap (λ (front : List Bool). front ++ drop len bits) (sym code))

-- no code begins no bits
pub entry_at_nothing : (lengths : List ℕ) → entry_at lengths [] ≡ None
unfolding entry_at
entry_at_nothing lengths = first_below_none (code_begins lengths []) (length lengths) (λ j lt. false_from_ne_true (code_begins lengths [] j) (λ begins. omega (arith, code_begins_parts lengths [] j begins)))
