-- The numbers of a cell's places, as words that wrap: each lane of the sums that `columns` makes.
use Rattle.std.proofs.Common.{◌≡◌, ℕ, ◌+◌, ◌-◌, ◌*◌, ◌%◌, ◌^◌, ◌<◌, ◌≤◌, inl, inr, cond, ltb, ap, ◌∙◌, arith}
use Rattle.std.proofs.lemmas.Nat.{pow_below, one_shl, mul-mod_first}
use Rattle.std.proofs.lemmas.Bool.{cases_lt, lt-ltb, le-ltb}
use lib.Lanes.{top}
use Rattle.exr_b44.specs.Cell.{half_of}

distributed : (d p : ℕ) → p ≤ 65536 → (d + 65504) * p % 65536 ≡ (d * p + 32 * (65536 - p)) % 65536
distributed d p le = omega arith

-- a difference minus 32, shifted
pub shifted : (d s i : ℕ) → i ≡ s → s < 13 → ((d + 65504) % 65536 * ((1 * 2 ^ i) % 65536)) % 65536 ≡ (d * 2 ^ s + 32 * (65536 - 2 ^ s)) % 65536
shifted d s i is lt =
    let below : s < 16 = omega arith in
    let whole : (1 * 2 ^ i) % 65536 ≡ 2 ^ s = ap (λ k. (1 * 2 ^ k) % 65536) is ∙ one_shl s 16 below in
    let small : 2 ^ s < 2 ^ 16 = pow_below s 16 below in
    ap (λ p. ((d + 65504) % 65536 * p) % 65536) whole ∙ mul-mod_first (d + 65504) (2 ^ s) 65536 ∙ distributed d (2 ^ s) (omega arith)

-- the first column, before and after a last sum with 0
pub place_0 : (f : ℕ) → ((f + 0) % 65536 + 0) % 65536 ≡ (f + 0) % 65536
place_0 f = omega arith

pub place_4 : (f t x : ℕ) → t ≡ x % 65536 → ((t + f) % 65536 + 0) % 65536 ≡ (f + (0 + x)) % 65536
place_4 f t x e = omega arith

pub place_8 : (f t x u y : ℕ) → t ≡ x % 65536 → u ≡ y % 65536 → ((u + t) % 65536 + (f + 0) % 65536) % 65536 ≡ (f + (0 + y + x)) % 65536
place_8 f t x u y e g = omega arith

pub place_12 : (f t x u y v z : ℕ) → t ≡ x % 65536 → u ≡ y % 65536 → v ≡ z % 65536 → ((v + u) % 65536 + (t + f) % 65536) % 65536 ≡ (f + (0 + z + y + x)) % 65536
place_12 f t x u y v z e g h = omega arith

pub with_zero : (n x : ℕ) → n ≡ x % 65536 → (n + 0) % 65536 ≡ x % 65536
with_zero n x e = omega arith

-- the second column behind the first
pub second : (t x n s total : ℕ) → t ≡ x % 65536 → n ≡ s % 65536 → x + s ≡ total → (((t + 0) % 65536 + 0) % 65536 + n) % 65536 ≡ total % 65536
second t x n s total e g h = omega arith

-- the third and the fourth behind the second
pub third : (t x n s total : ℕ) → t ≡ x % 65536 → n ≡ s % 65536 → x + s ≡ total → ((t + 0) % 65536 + n) % 65536 ≡ total % 65536
third t x n s total e g h = omega arith

pub fourth : (t x u y n s total : ℕ) → t ≡ x % 65536 → u ≡ y % 65536 → n ≡ s % 65536 → y + x + s ≡ total → ((u + t) % 65536 + n) % 65536 ≡ total % 65536
fourth t x u y n s total e g h is = omega arith

-- a number as a half
pub halved : (n : ℕ) → n < 65536 → cond (top 15 (cond (ltb n 32768) 65535 0)) ((65535 + (65536 - n)) % 65536) ((n + 32768) % 65536) ≡ half_of n
halved n fits =
    elim (cases_lt n 32768) [
      | inl lt ↦ let b = lt-ltb n 32768 lt in rw b (let e : (65535 + (65536 - n)) % 65536 ≡ 65535 - n = omega arith in e)
      | inr le ↦ let b = le-ltb n 32768 le in rw b (let e : (n + 32768) % 65536 ≡ n - 32768 = omega arith in e)
    ]
