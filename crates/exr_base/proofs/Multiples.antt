-- Quotients that round down count the multiples of a sampling.
use Rattle.std.proofs.Common.{◌≡◌, ◌≢◌, ◌%◌, ◌/◌, ◌+◌, ◌-◌, ◌*◌, ◌^◌, ◌<◌, ◌≤◌, ℕ, zero, suc, ℤ, pos, negsuc, neg_ℤ, ◌+ℤ◌, ◌-ℤ◌, ◌≤ℤ◌, ◌<ℤ◌, nat_abs, Bool, true, false, cond, eqb, refl, sym, ap, ap₂, subst, ◌∙◌, inl, inr, add-one, add-zero, arith}
use Rattle.std.specs.Int.{int_div_euclid, int_rem_euclid}
use Rattle.std.proofs.lemmas.Nat.{div-add-mod', div-mul-add, mod-mul-add, mod_below}
use Rattle.std.proofs.lemmas.Int.{ints}
use Rattle.std.proofs.lemmas.Bool.{cases_lt}
use Rattle.std.proofs.Math.Nat.{div-eq_of_lt, mod-eq_of_lt, div-le_self}
use Rattle.std.proofs.lemmas.Bool.Decides.{nat_tests}
use Rattle.exr_base.specs.Sampling.{is_multiple, multiples_among, span_of, sample_count_of, count_before, IsFirstSample}

at_multiple : (s q r n : ℕ) → r < s → n ≡ q * s + r → (n / s ≡ q) × (n % s ≡ r)
at_multiple s q r n h e = (ap (λ k. k / s) e ∙ div-mul-add q s r h, ap (λ k. k % s) e ∙ mod-mul-add q s r h)

-- the place after one that has the quotient q and the remainder r
quotient_at : (s q r : ℕ) → r < s → (q * s + r + 1) / s ≡ q + cond (eqb ((q * s + r + 1) % s) 0) 1 0
quotient_at s q r h =
    elim (cases_lt (r + 1) s) [
      | inl lt ↦
          let e = at_multiple s q (r + 1) (q * s + r + 1) lt (omega arith) in
          rw (e.0, e.1) (grind (arith, nat_tests))
      | inr le ↦
          let e = at_multiple s (q + 1) 0 (q * s + r + 1) (omega arith) (omega arith) in
          rw (e.0, e.1) refl
    ]

-- one step further, the quotient grows by one exactly where a multiple is reached
pub quotient_more : (s a : ℕ) → 0 < s → (a + 1) / s ≡ a / s + cond (eqb ((a + 1) % s) 0) 1 0
quotient_more s a h =
    let whole = div-add-mod' a s in
    let e = quotient_at s (a / s) (a % s) (mod_below a s h) in
    let P : ℕ → Type 0 = λ n. (n + 1) / s ≡ a / s + cond (eqb ((n + 1) % s) 0) 1 0 in
    subst P whole e

one_up : (a : ℕ) → negsuc (suc a) +ℤ pos 1 ≡ negsuc a
one_up a = omega (arith, ints)

some_up : (q k : ℕ) → negsuc (q + k) +ℤ pos k ≡ negsuc q
some_up q k = omega (arith, ints)

-- the same over all integers
pub floor_more : (s : ℕ) (z : ℤ) → 0 < s → int_div_euclid (z +ℤ pos 1) (pos s) ≡ int_div_euclid z (pos s) +ℤ pos (cond (is_multiple s (z +ℤ pos 1)) 1 0)
floor_more s (pos a) h = ap pos (quotient_more s a h)
floor_more s (negsuc zero) h = rw (div-eq_of_lt h, mod-eq_of_lt h) refl
floor_more s (negsuc (suc a)) h =
    let e : suc a / s ≡ a / s + cond (eqb (suc a % s) 0) 1 0 = rw add-one at (quotient_more s a h) in
    let P : ℤ → Type 0 = λ y. int_div_euclid y (pos s) ≡ int_div_euclid (negsuc (suc a)) (pos s) +ℤ pos (cond (is_multiple s y) 1 0) in
    subst P (sym (one_up a)) (rw e (sym (some_up (a / s) (cond (eqb (suc a % s) 0) 1 0))))

pub multiples_le : (s : ℕ) (from : ℤ) (n : ℕ) → multiples_among s from n ≤ n
unfolding multiples_among
multiples_le s from zero = omega arith
multiples_le s from (suc n) =
    let e = multiples_le s from n in
    elim (is_multiple s (from +ℤ pos n)) as (λ b. multiples_among s from n + cond b 1 0 ≤ suc n) [ true ↦ omega arith | false ↦ omega arith ]

-- each place is a multiple of one
each_whole : (z : ℤ) → is_multiple 1 z ≡ true
each_whole z = grind (arith, nat_tests)

among_each : (from : ℤ) (n : ℕ) → multiples_among 1 from n ≡ n
unfolding multiples_among
among_each from zero = refl
among_each from (suc n) = ap₂ (λ (m : ℕ) (b : Bool). m + cond b 1 0) (among_each from n) (each_whole (from +ℤ pos n)) ∙ omega arith

pub each_place : (sampling : ℕ) (from to : ℤ) (n : ℕ) → sampling ≡ 1 → n ≡ span_of from to → n ≡ sample_count_of sampling from to
each_place sampling from to n one e = e ∙ sym (among_each from (span_of from to)) ∙ ap (λ s. multiples_among s from (span_of from to)) (sym one)

-- what is counted before a place is counted up to the one before it
pub places_before : (s n : ℕ) (from low last to : ℤ) → n ≡ sample_count_of s low last → low ≡ from → last ≡ to -ℤ pos 1 → from ≤ℤ to → n ≡ count_before s from to
places_before s n from low last to e f g le =
    let same : span_of low last ≡ nat_abs (to -ℤ from) = omega (arith, ints) in
    e ∙ ap (λ (x : ℤ). multiples_among s x (span_of low last)) f ∙ ap (multiples_among s from) same

joined : (p q : ℤ) (m k : ℕ) → p ≡ q +ℤ pos m → p +ℤ pos k ≡ q +ℤ pos (m + k)
joined p q m k e = omega (arith, ints)

-- the quotient at a place counts the multiples up to it
pub floor_counts : (s : ℕ) (from : ℤ) (n : ℕ) → 0 < s → int_div_euclid (from -ℤ pos 1 +ℤ pos n) (pos s) ≡ int_div_euclid (from -ℤ pos 1) (pos s) +ℤ pos (multiples_among s from n)
unfolding multiples_among
floor_counts s from zero h =
    let a : from -ℤ pos 1 +ℤ pos 0 ≡ from -ℤ pos 1 = omega (arith, ints) in
    let b : int_div_euclid (from -ℤ pos 1) (pos s) +ℤ pos 0 ≡ int_div_euclid (from -ℤ pos 1) (pos s) = omega (arith, ints) in
    ap (λ y. int_div_euclid y (pos s)) a ∙ sym b
floor_counts s from (suc n) h =
    let e = floor_counts s from n h in
    let f = floor_more s (from -ℤ pos 1 +ℤ pos n) h in
    let a : from -ℤ pos 1 +ℤ pos (suc n) ≡ from -ℤ pos 1 +ℤ pos n +ℤ pos 1 = omega (arith, ints) in
    let b : from -ℤ pos 1 +ℤ pos n +ℤ pos 1 ≡ from +ℤ pos n = omega (arith, ints) in
    let g : int_div_euclid (from +ℤ pos n) (pos s) ≡ int_div_euclid (from -ℤ pos 1 +ℤ pos n) (pos s) +ℤ pos (cond (is_multiple s (from +ℤ pos n)) 1 0) = subst (λ y. int_div_euclid y (pos s) ≡ int_div_euclid (from -ℤ pos 1 +ℤ pos n) (pos s) +ℤ pos (cond (is_multiple s y) 1 0)) b f in
    ap (λ y. int_div_euclid y (pos s)) (a ∙ b) ∙ g ∙ joined _ _ _ _ e

-- a quotient is no further from zero than what is divided
pub floor_near : (s : ℕ) (z : ℤ) → 0 < s → nat_abs (int_div_euclid z (pos s)) ≤ nat_abs z
floor_near s (pos a) h = div-le_self a s
floor_near s (negsuc a) h = omega (arith, div-le_self a s)

-- what the quotients at both ends say of the count between them
pub record Counted (s : ℕ) (from to before last : ℤ) : Type 0 where
  pub count : last ≡ before +ℤ pos (sample_count_of s from to)
  pub few : sample_count_of s from to < 2 ^ 32
  pub near : nat_abs before < 2 ^ 32

few_places : (from to : ℤ) (n : ℕ) → neg_ℤ (pos (2 ^ 30)) ≤ℤ from → (from -ℤ pos 1) ≤ℤ to → to ≤ℤ pos (2 ^ 30) → n ≤ span_of from to → n < 2 ^ 32
few_places from to n low ends high le = omega (arith, ints)

near_zero : (from before : ℤ) → neg_ℤ (pos (2 ^ 30)) ≤ℤ from → from ≤ℤ pos (2 ^ 30) → nat_abs before ≤ nat_abs (from -ℤ pos 1) → nat_abs before < 2 ^ 32
near_zero from before low high le = omega (arith, ints)

pub counted : (s : ℕ) (from to before last : ℤ) → 0 < s → neg_ℤ (pos (2 ^ 30)) ≤ℤ from → from ≤ℤ pos (2 ^ 30) → (from -ℤ pos 1) ≤ℤ to → to ≤ℤ pos (2 ^ 30) → before ≡ int_div_euclid (from -ℤ pos 1) (pos s) → last ≡ int_div_euclid to (pos s) → Counted s from to before last
counted s from to before last h low from_high ends high b l =
    let e : to ≡ from -ℤ pos 1 +ℤ pos (span_of from to) = omega (arith, ints) in
    record {
      count = l ∙ ap (λ y. int_div_euclid y (pos s)) e ∙ floor_counts s from (span_of from to) h ∙ ap (λ y. y +ℤ pos (sample_count_of s from to)) (sym b);
      few = few_places from to (sample_count_of s from to) low ends high (multiples_le s from (span_of from to));
      near = near_zero from before low from_high (subst (λ y. nat_abs y ≤ nat_abs (from -ℤ pos 1)) (sym b) (floor_near s (from -ℤ pos 1) h));
    }

-- strictly between two neighbouring multiples there is none
between : (s j m : ℕ) → j * s < m → m < j * s + s → eqb (m % s) 0 ≡ false
between s j m low high =
    let at : m ≡ j * s + (m - j * s) = omega arith in
    let within : m - j * s < s = omega arith in
    let e : m % s ≡ m - j * s = ap (λ k. k % s) at ∙ mod-mul-add j s (m - j * s) within in
    let k : m % s ≢ 0 = omega arith in
    grind (arith, nat_tests)

whole_multiple : (s k : ℕ) → 0 < s → eqb ((k * s) % s) 0 ≡ true
whole_multiple s k h =
    let e : (k * s) % s ≡ 0 = ap (λ n. n % s) (sym (add-zero (k * s))) ∙ mod-mul-add k s 0 h in
    rw e refl

below_multiple : (s k m : ℕ) → m < k * s → k * s < m + s → eqb (m % s) 0 ≡ false
below_multiple s zero m high low = absurd (omega arith)
below_multiple s (suc j) m high low = between s j m (omega arith) (omega arith)

none_above : (s a k : ℕ) → k * s < a + s → (z : ℤ) → pos a ≤ℤ z → z <ℤ pos (k * s) → is_multiple s z ≡ false
none_above s a k high (pos m) from_a below = below_multiple s k m (omega (arith, ints)) (omega (arith, ints))
none_above s a k high (negsuc m) from_a below = absurd (omega (arith, ints))

-- the multiple k * s, where a place at or above 0 is no further below it than s
first_above : (s a k : ℕ) → 0 < s → a ≤ k * s → k * s < a + s → IsFirstSample s (pos a) (pos (k * s))
first_above s a k h low high = record {
  multiple = whole_multiple s k h;
  not_before = omega (arith, ints);
  least = none_above s a k high;
}

abs_neg : (n : ℕ) → nat_abs (neg_ℤ (pos n)) ≡ n
abs_neg zero = refl
abs_neg (suc n) = refl

none_below : (s a k : ℕ) → suc a < k * s + s → (z : ℤ) → negsuc a ≤ℤ z → z <ℤ neg_ℤ (pos (k * s)) → is_multiple s z ≡ false
none_below s a k high (pos m) from_a below = absurd (omega (arith, ints))
none_below s a k high (negsuc m) from_a below = between s k (suc m) (omega (arith, ints)) (omega (arith, ints))

-- the multiple - k * s, where a place below 0 is no further below it than s
first_below : (s a k : ℕ) → 0 < s → k * s ≤ suc a → suc a < k * s + s → IsFirstSample s (negsuc a) (neg_ℤ (pos (k * s)))
first_below s a k h low high = record {
  multiple = rw (abs_neg (k * s)) (whole_multiple s k h);
  not_before = omega (arith, ints);
  least = none_below s a k high;
}

-- what is past the multiple before a place leads to the first multiple from it on
pub first_found : (s : ℕ) (from past : ℤ) → 0 < s → past ≡ int_rem_euclid from (pos s) → (past ≡ pos 0 → IsFirstSample s from from) × (past ≢ pos 0 → IsFirstSample s from (from +ℤ (pos s -ℤ past)))
first_found s (pos a) past h e =
    let whole = div-add-mod' a s in
    let below = mod_below a s h in
    let k = suc (a / s) in (
      λ here.
          let none : a % s ≡ 0 = omega (arith, ints) in
          let at : a / s * s ≡ a = omega arith in
          subst (λ n. IsFirstSample s (pos a) (pos n)) at (first_above s a (a / s) h (omega arith) (omega arith)),
      λ there.
          let some : 0 < a % s = omega (arith, ints) in
          let at : pos (k * s) ≡ pos a +ℤ (pos s -ℤ past) = omega (arith, ints) in
          subst (IsFirstSample s (pos a)) at (first_above s a k h (omega arith) (omega arith)),
    )
first_found s (negsuc a) past h e =
    let whole = div-add-mod' a s in
    let below = mod_below a s h in
    let k = suc (a / s) in (
      λ here.
          let at : neg_ℤ (pos (k * s)) ≡ negsuc a = omega (arith, ints) in
          subst (IsFirstSample s (negsuc a)) at (first_below s a k h (omega (arith, ints)) (omega (arith, ints))),
      λ there.
          let at : neg_ℤ (pos (a / s * s)) ≡ negsuc a +ℤ (pos s -ℤ past) = omega (arith, ints) in
          subst (IsFirstSample s (negsuc a)) at (first_below s a (a / s) h (omega (arith, ints)) (omega (arith, ints))),
    )
