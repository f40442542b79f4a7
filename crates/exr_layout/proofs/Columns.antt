-- Multiples of a sampling along a side: counted in two pieces, found by their number, and told apart by it.
use Rattle.std.proofs.Common.{◌≡◌, ◌+◌, ◌-◌, ◌<◌, ◌≤◌, ℕ, zero, suc, ℤ, pos, ◌+ℤ◌, ◌-ℤ◌, ◌≤ℤ◌, nat_abs, Bool, true, false, cond, refl, sym, ap, ap₂, ◌∙◌, inl, inr, arith, add-zero}
use Rattle.std.proofs.lemmas.Bool.{cases_lt}
use Rattle.std.proofs.lemmas.Bool.Decides.{nat_tests}
use Rattle.std.proofs.lemmas.Int.{ints}
use Rattle.exr_base.specs.Sampling.{is_multiple, multiples_among, span_of, sample_count_of}
use Rattle.exr_base.specs.Sampling.{count_before}

shifted : (from : ℤ) (a b : ℕ) → (from +ℤ pos a) +ℤ pos b ≡ from +ℤ pos (a + b)
shifted from a b = omega (arith, ints)

step : (whole a b c d : ℕ) → whole ≡ a + b → c ≡ d → whole + c ≡ a + (b + d)
step whole a b c d e f = omega arith

-- in two pieces
pub among_add : (s : ℕ) (from : ℤ) (a b : ℕ) → multiples_among s from (a + b) ≡ multiples_among s from a + multiples_among s (from +ℤ pos a) b
unfolding multiples_among
among_add s from a zero = let e : a + zero ≡ a = omega arith in ap (multiples_among s from) e ∙ omega arith
among_add s from a (suc b) =
    let turn : a + suc b ≡ suc (a + b) = omega arith in
    let e = among_add s from a b in
    let f : cond (is_multiple s (from +ℤ pos (a + b))) 1 0 ≡ cond (is_multiple s ((from +ℤ pos a) +ℤ pos b)) 1 0 = ap (λ z. cond (is_multiple s z) 1 0) (sym (shifted from a b)) in
    ap (multiples_among s from) turn ∙ step (multiples_among s from (a + b)) (multiples_among s from a) (multiples_among s (from +ℤ pos a) b) (cond (is_multiple s (from +ℤ pos (a + b))) 1 0) (cond (is_multiple s ((from +ℤ pos a) +ℤ pos b)) 1 0) e f

pub among_more : (s : ℕ) (from : ℤ) (n : ℕ) → multiples_among s from (suc n) ≡ multiples_among s from n + cond (is_multiple s (from +ℤ pos n)) 1 0
unfolding multiples_among
among_more s from n = refl

among_one : (s : ℕ) (from : ℤ) (n : ℕ) → is_multiple s (from +ℤ pos n) ≡ true → multiples_among s from (suc n) ≡ multiples_among s from n + 1
among_one s from n h = among_more s from n ∙ ap (λ b. multiples_among s from n + cond b 1 0) h

among_none : (s : ℕ) (from : ℤ) (n : ℕ) → is_multiple s (from +ℤ pos n) ≡ false → multiples_among s from (suc n) ≡ multiples_among s from n
among_none s from n h = among_more s from n ∙ ap (λ b. multiples_among s from n + cond b 1 0) h ∙ add-zero (multiples_among s from n)

among_to : (s : ℕ) (from : ℤ) (a b : ℕ) → a ≤ b → multiples_among s from a ≤ multiples_among s from b
among_to s from a b h =
    let e = among_add s from a (b - a) in
    let f : multiples_among s from (a + (b - a)) ≡ multiples_among s from b = ap (multiples_among s from) (omega (arith, h)) in
    omega arith

-- a multiple is counted by what comes after it
pub before_less : (s : ℕ) (from : ℤ) (a b : ℕ) → a < b → is_multiple s (from +ℤ pos a) ≡ true → multiples_among s from a < multiples_among s from b
before_less s from a b h here =
    let e = among_one s from a here in
    let f = among_to s from (suc a) b (omega arith) in
    omega arith

-- the multiple of a number
pub record Multiple (s : ℕ) (from : ℤ) (n i : ℕ) : Type 0 where
  pub at : ℕ
  pub within : at < n
  pub here : is_multiple s (from +ℤ pos at) ≡ true
  pub count : multiples_among s from at ≡ i

none : (s : ℕ) (from : ℤ) (i : ℕ) → i < multiples_among s from zero → ⊥
unfolding multiples_among
none s from i h = omega arith

at_last : (s : ℕ) (from : ℤ) (n i : ℕ) (b : Bool) → b ≡ is_multiple s (from +ℤ pos n) → multiples_among s from n ≤ i → i < multiples_among s from (suc n) → Multiple s from (suc n) i
at_last s from n i true e past h =
    let f = among_one s from n (sym e) in
    record { at = n; within = omega arith; here = sym e; count = omega arith }
at_last s from n i false e past h =
    let f = among_none s from n (sym e) in
    absurd (omega arith)

pub multiple_numbered : (s : ℕ) (from : ℤ) (n i : ℕ) → i < multiples_among s from n → Multiple s from n i
multiple_numbered s from zero i h = absurd (none s from i h)
multiple_numbered s from (suc n) i h =
    elim (cases_lt i (multiples_among s from n)) [
      | inl before ↦
          let m = multiple_numbered s from n i before in
          record { at = m.at; within = omega (arith, m.within); here = m.here; count = m.count }
      | inr past ↦ at_last s from n i (is_multiple s (from +ℤ pos n)) refl past h
    ]

-- ---- by places

steps_to : (from z : ℤ) → from ≤ℤ z → from +ℤ pos (nat_abs (z -ℤ from)) ≡ z
steps_to from z h = omega (arith, ints)

steps_apart : (from a b : ℤ) → from ≤ℤ a → from ≤ℤ b → nat_abs (a -ℤ from) ≡ nat_abs (b -ℤ from) → a ≡ b
steps_apart from a b h k e = omega (arith, ints)

steps_less : (from z to : ℤ) → from ≤ℤ z → z ≤ℤ to → nat_abs (z -ℤ from) < span_of from to
steps_less from z to h k = omega (arith, ints)

steps_split : (from mid z : ℤ) → from ≤ℤ mid → mid ≤ℤ z → nat_abs (z -ℤ from) ≡ nat_abs (mid -ℤ from) + nat_abs (z -ℤ mid)
steps_split from mid z h k = omega (arith, ints)

-- a multiple on a side comes before its end
pub before_count : (s : ℕ) (from z to : ℤ) → from ≤ℤ z → z ≤ℤ to → is_multiple s z ≡ true → count_before s from z < sample_count_of s from to
before_count s from z to h k here =
    before_less s from (nat_abs (z -ℤ from)) (span_of from to) (steps_less from z to h k) (ap (is_multiple s) (steps_to from z h) ∙ here)

-- two multiples with as many before them are one
pub same_multiple : (s : ℕ) (from a b : ℤ) → from ≤ℤ a → from ≤ℤ b → is_multiple s a ≡ true → is_multiple s b ≡ true → count_before s from a ≡ count_before s from b → a ≡ b
same_multiple s from a b ha hb ma mb e =
    let m = nat_abs (a -ℤ from) in
    let n = nat_abs (b -ℤ from) in
    let am : is_multiple s (from +ℤ pos m) ≡ true = ap (is_multiple s) (steps_to from a ha) ∙ ma in
    let bm : is_multiple s (from +ℤ pos n) ≡ true = ap (is_multiple s) (steps_to from b hb) ∙ mb in
    elim (cases_lt m n) [
      | inl lt ↦ absurd (let l = before_less s from m n lt am in omega arith)
      | inr le ↦ elim (cases_lt n m) [
        | inl gt ↦ absurd (let l = before_less s from n m gt bm in omega arith)
        | inr ge ↦ steps_apart from a b ha hb (omega arith)
      ]
    ]

-- counted from a place between
pub before_split : (s : ℕ) (from mid z : ℤ) → from ≤ℤ mid → mid ≤ℤ z → count_before s from z ≡ count_before s from mid + count_before s mid z
before_split s from mid z h k =
    ap (multiples_among s from) (steps_split from mid z h k) ∙ among_add s from (nat_abs (mid -ℤ from)) (nat_abs (z -ℤ mid))
    ∙ ap (λ w. multiples_among s from (nat_abs (mid -ℤ from)) + multiples_among s w (nat_abs (z -ℤ mid))) (steps_to from mid h)
