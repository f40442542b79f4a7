-- Of all runs of places, those that begin at a sample have the most samples.
use Rattle.std.proofs.Common.{◌≡◌, ℕ, suc, ◌+◌, ◌-◌, ◌*◌, ◌/◌, ◌%◌, ◌<◌, ◌≤◌, ℤ, pos, negsuc, ◌+ℤ◌, ◌-ℤ◌, nat_abs, true, eqb, sym, ap, subst, inl, inr, arith}
use Rattle.std.specs.Int.{int_div_euclid}
use Rattle.std.proofs.lemmas.Nat.{div-add-mod', mod_below, mul-le}
use Rattle.std.proofs.lemmas.Int.{ints}
use Rattle.std.proofs.lemmas.Bool.{cases_lt}
use Rattle.std.proofs.lemmas.Bool.Decides.{nat_tests}
use Rattle.exr_base.specs.Sampling.{is_multiple, multiples_among}
use Rattle.exr_base.proofs.Multiples.{floor_counts}

-- ---- what the quotients at both ends of n places say of how often the quotient grows between them

-- it grows at most once in s places
at_most : (s : ℕ) (z : ℤ) (n m : ℕ) → 0 < s → int_div_euclid (z +ℤ pos n) (pos s) ≡ int_div_euclid z (pos s) +ℤ pos m → m * s ≤ n + (s - 1)
at_most s (pos a) n m some e =
    let same : (a + n) / s ≡ a / s + m = omega (arith, ints, e) in
    let times : (a + n) / s * s ≡ (a / s + m) * s = ap (λ k. k * s) same in
    omega (arith, times, div-add-mod' a s, div-add-mod' (a + n) s, mod_below a s some)
at_most s (negsuc a) n m some e =
    elim (cases_lt n (suc a)) [
      | inl low ↦
          let there : negsuc a +ℤ pos n ≡ negsuc (a - n) = omega (arith, ints, low) in
          let f : negsuc ((a - n) / s) ≡ negsuc (a / s) +ℤ pos m = subst (λ z. int_div_euclid z (pos s) ≡ negsuc (a / s) +ℤ pos m) there e in
          let same : a / s ≡ (a - n) / s + m = omega (arith, ints, f) in
          let times : a / s * s ≡ ((a - n) / s + m) * s = ap (λ k. k * s) same in
          omega (arith, low, times, div-add-mod' a s, div-add-mod' (a - n) s, mod_below (a - n) s some)
      | inr high ↦
          let there : negsuc a +ℤ pos n ≡ pos (n - suc a) = omega (arith, ints, high) in
          let f : pos ((n - suc a) / s) ≡ negsuc (a / s) +ℤ pos m = subst (λ z. int_div_euclid z (pos s) ≡ negsuc (a / s) +ℤ pos m) there e in
          let same : (n - suc a) / s + a / s + 1 ≡ m = omega (arith, ints, f) in
          let times : ((n - suc a) / s + a / s + 1) * s ≡ m * s = ap (λ k. k * s) same in
          omega (arith, high, times, div-add-mod' a s, div-add-mod' (n - suc a) s)
    ]

-- a multiple's place before
before : (s a : ℕ) → 0 < s → eqb (suc a % s) 0 ≡ true → a % s + 1 ≡ s
before s a some e =
    let whole : suc a % s ≡ 0 = grind (arith, nat_tests) in
    let b : suc a / s * s ≡ a + 1 = omega (arith, div-add-mod' (suc a) s, whole) in
    let d = div-add-mod' a s in
    let low = mod_below a s some in
    elim (cases_lt (a / s) (suc a / s)) [
      | inl lt ↦
          let more : (a / s + 1) * s ≤ suc a / s * s = mul-le (a / s + 1) s (suc a / s) s (omega (arith, lt)) (omega arith) in
          omega (arith, b, d, low, more)
      | inr le ↦
          let less : suc a / s * s ≤ a / s * s = mul-le (suc a / s) s (a / s) s le (omega arith) in
          absurd (omega (arith, b, d, less))
    ]

-- and where it begins with a multiple, at least once in each s
at_least : (s : ℕ) (z : ℤ) (n m : ℕ) → 0 < s → is_multiple s (z +ℤ pos 1) ≡ true → int_div_euclid (z +ℤ pos n) (pos s) ≡ int_div_euclid z (pos s) +ℤ pos m → n ≤ m * s
at_least s (pos a) n m some multiple e =
    let same : (a + n) / s ≡ a / s + m = omega (arith, ints, e) in
    let times : (a + n) / s * s ≡ (a / s + m) * s = ap (λ k. k * s) same in
    let one : a + 1 ≡ suc a = omega arith in
    let last = before s a some (subst (λ k. eqb (k % s) 0 ≡ true) one multiple) in
    omega (arith, times, div-add-mod' a s, div-add-mod' (a + n) s, mod_below (a + n) s some, last)
at_least s (negsuc a) n m some multiple e =
    let here : nat_abs (negsuc a +ℤ pos 1) ≡ a = omega (arith, ints) in
    let test : eqb (a % s) 0 ≡ true = subst (λ k. eqb (k % s) 0 ≡ true) here multiple in
    let whole : a % s ≡ 0 = grind (arith, nat_tests) in
    elim (cases_lt n (suc a)) [
      | inl low ↦
          let there : negsuc a +ℤ pos n ≡ negsuc (a - n) = omega (arith, ints, low) in
          let f : negsuc ((a - n) / s) ≡ negsuc (a / s) +ℤ pos m = subst (λ z. int_div_euclid z (pos s) ≡ negsuc (a / s) +ℤ pos m) there e in
          let same : a / s ≡ (a - n) / s + m = omega (arith, ints, f) in
          let times : a / s * s ≡ ((a - n) / s + m) * s = ap (λ k. k * s) same in
          omega (arith, low, times, whole, div-add-mod' a s, div-add-mod' (a - n) s)
      | inr high ↦
          let there : negsuc a +ℤ pos n ≡ pos (n - suc a) = omega (arith, ints, high) in
          let f : pos ((n - suc a) / s) ≡ negsuc (a / s) +ℤ pos m = subst (λ z. int_div_euclid z (pos s) ≡ negsuc (a / s) +ℤ pos m) there e in
          let same : (n - suc a) / s + a / s + 1 ≡ m = omega (arith, ints, f) in
          let times : ((n - suc a) / s + a / s + 1) * s ≡ m * s = ap (λ k. k * s) same in
          omega (arith, high, times, whole, div-add-mod' a s, div-add-mod' (n - suc a) s, mod_below (n - suc a) s some)
    ]

no_fewer : (s m n k l : ℕ) → 0 < s → m * s ≤ n + (s - 1) → n ≤ k → k ≤ l * s → m ≤ l
no_fewer s m n k l some high le low =
    elim (cases_lt l m) [
      | inl lt ↦
          let more : (l + 1) * s ≤ m * s = mul-le (l + 1) s m s (omega (arith, lt)) (omega arith) in
          absurd (omega (arith, more, high, le, low, some))
      | inr le ↦ le
    ]

first_place : (from : ℤ) → from -ℤ pos 1 +ℤ pos 1 ≡ from
first_place from = omega (arith, ints)

-- n places have no more samples than at least as many that begin at a sample
pub most_samples : (s : ℕ) (from other : ℤ) (n k : ℕ) → 0 < s → is_multiple s from ≡ true → n ≤ k → multiples_among s other n ≤ multiples_among s from k
most_samples s from other n k some multiple le =
    let a = at_most s (other -ℤ pos 1) n (multiples_among s other n) some (floor_counts s other n some) in
    let first : is_multiple s (from -ℤ pos 1 +ℤ pos 1) ≡ true = subst (λ z. is_multiple s z ≡ true) (sym (first_place from)) multiple in
    let b = at_least s (from -ℤ pos 1) k (multiples_among s from k) some first (floor_counts s from k some) in
    no_fewer s (multiples_among s other n) n k (multiples_among s from k) some a le b
