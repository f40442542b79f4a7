-- What a pen has written, one number more.
use Rattle.std.proofs.Common.{◌≡◌, ℕ, zero, suc, ◌+◌, ◌-◌, ◌*◌, ◌/◌, ◌%◌, ◌^◌, ◌<◌, ◌≤◌, Bool, List, [], ◌++◌, length, take, drop, get_or, refl, sym, ap, ◌∙◌, ap₂, inl, inr, arith, append_assoc}
use Rattle.std.specs.Int.{w64, byte_at, bytes_high_first, to_be_bytes}
use Rattle.std.proofs.Math.Nat.{pow-suc}
use Rattle.std.proofs.Math.Seq.{take-add}
use Rattle.std.proofs.lemmas.Bool.{cases_lt}
use Rattle.std.proofs.lemmas.List.{length-append, length-take, length-take-le, take_at, drop_at, take-append-drop, take-take, get_or-take, get_or_past}
use Rattle.std.proofs.lemmas.Nat.{pow-add, shl-shr, shr-shr, mul-add-lt}
use Rattle.exr_base.specs.Bits.{bits_of, bits_of_bytes}
use Rattle.exr_base.proofs.BitLists.{length-bits_of, length-bits_of_bytes, bits_of-add, bits_of-low, bits_of-laid, bits_of_bytes-cons, bits_of_bytes-append}
use Rattle.exr_encoder.specs.Writing.{written, times_bits}

-- ---- a number of 64 bits as bytes

pow_256 : (i : ℕ) → 256 ^ i ≡ 2 ^ (8 * i)
pow_256 zero = refl
pow_256 (suc i) =
    let h = pow_256 i in
    let turn : 8 * suc i ≡ 8 * i + 8 = omega arith in
    rw (turn, pow-add 2 (8 * i) 8, pow-suc, h) refl

byte_bits : (i n : ℕ) → bits_of 8 (byte_at i n) ≡ bits_of 8 (n / 2 ^ (8 * i))
byte_bits zero n = bits_of-low 8 n ∙ ap (bits_of 8) (omega arith)
byte_bits (suc i) n = bits_of-low 8 (n / 256 ^ suc i) ∙ ap (λ k. bits_of 8 (n / k)) (pow_256 (suc i))

bytes_nothing : bits_of_bytes [] ≡ []
unfolding bits_of_bytes
bytes_nothing = refl

bits_nothing : (n : ℕ) → bits_of 0 n ≡ []
unfolding bits_of
bits_nothing n = refl

bytes_high : (k n : ℕ) → bits_of_bytes (bytes_high_first k n) ≡ bits_of (8 * k) n
bytes_high zero n = bytes_nothing ∙ sym (bits_nothing n)
bytes_high (suc k) n =
    let turn : 8 * suc k ≡ 8 + 8 * k = omega arith in
    bits_of_bytes-cons (byte_at k n) (bytes_high_first k n) ∙ ap₂ ◌++◌ (byte_bits k n) (bytes_high k n) ∙ sym (ap (λ m. bits_of m n) turn ∙ bits_of-add 8 (8 * k) n)

eight_bytes : (n : ℕ) → bits_of_bytes (to_be_bytes w64 n) ≡ bits_of 64 n
eight_bytes n = bytes_high 8 n

-- the bits of the first bytes
take-bits_of_bytes : (q : ℕ) (bytes : List ℕ) → q ≤ length bytes → bits_of_bytes (take q bytes) ≡ take (8 * q) (bits_of_bytes bytes)
take-bits_of_bytes q bytes within =
    let len : length (bits_of_bytes (take q bytes)) ≡ 8 * q = length-bits_of_bytes (take q bytes) ∙ ap (λ k. 8 * k) (length-take-le q bytes within) in
    sym (take_at (bits_of_bytes (take q bytes)) (bits_of_bytes (drop q bytes)) (8 * q) len) ∙ ap (take (8 * q)) (sym (bits_of_bytes-append (take q bytes) (drop q bytes)) ∙ ap bits_of_bytes (take-append-drop q bytes))

-- a number of t bits, laid at the high end of 64: its whole bytes, and the bits behind them
front_of_eight : (number t q r : ℕ) → t < 64 → t ≡ 8 * q + r → bits_of_bytes (take q (to_be_bytes w64 (number * 2 ^ (64 - t)))) ++ bits_of r number ≡ bits_of t number
front_of_eight number t q r few split =
    let high = number * 2 ^ (64 - t) in
    let rest = 64 - 8 * q in
    let whole : 64 ≡ 8 * q + rest = omega arith in
    let down : rest ≡ (64 - t) + r = omega arith in
    let cut : take (8 * q) (bits_of 64 high) ≡ bits_of (8 * q) (high / 2 ^ rest) = ap (λ k. take (8 * q) (bits_of k high)) whole ∙ ap (take (8 * q)) (bits_of-add (8 * q) rest high) ∙ take_at (bits_of (8 * q) (high / 2 ^ rest)) (bits_of rest high) (8 * q) (length-bits_of (8 * q) (high / 2 ^ rest)) in
    let moved : high / 2 ^ rest ≡ number / 2 ^ r = ap (λ k. high / 2 ^ k) down ∙ sym (shr-shr high (64 - t) r) ∙ ap (λ n. n / 2 ^ r) (shl-shr number (64 - t)) in
    let front : bits_of_bytes (take q (to_be_bytes w64 high)) ≡ bits_of (8 * q) (number / 2 ^ r) = take-bits_of_bytes q (to_be_bytes w64 high) (omega arith) ∙ ap (take (8 * q)) (eight_bytes high) ∙ cut ∙ ap (bits_of (8 * q)) moved in
    ap (λ (bits : List Bool). bits ++ bits_of r number) front ∙ sym (ap (λ k. bits_of k number) split ∙ bits_of-add (8 * q) r number)

-- ---- one number more

pub put_is : (out new : List ℕ) (at have pending len number q r : ℕ) → at + 8 ≤ length out → number < 2 ^ len → have + len < 64 → have + len ≡ 8 * q + r
    → take (at + 8) new ≡ take at out ++ to_be_bytes w64 ((pending * 2 ^ len + number) * 2 ^ (64 - (have + len)))
    → written (at + q) r ((pending * 2 ^ len + number) % 2 ^ r) new ≡ written at have pending out ++ bits_of len number
unfolding written
put_is out new at have pending len number q r room fits few split stored =
    let whole = pending * 2 ^ len + number in
    let bytes = to_be_bytes w64 (whole * 2 ^ (64 - (have + len))) in
    let size : length (take at out) ≡ at = length-take-le at out (omega arith) in
    let front : take (at + q) new ≡ take at out ++ take q bytes =
    sym (take-take (at + q) (at + 8) new (omega arith)) ∙ ap (take (at + q)) stored ∙ take-add at q (take at out ++ bytes)
    ∙ ap₂ ◌++◌ (take_at (take at out) bytes at size) (ap (take q) (drop_at (take at out) bytes at size)) in
    let low : bits_of r (whole % 2 ^ r) ≡ bits_of r whole = bits_of-low r whole in
    ap₂ (λ (xs : List ℕ) (ys : List Bool). bits_of_bytes xs ++ ys) front low
    ∙ ap (λ (xs : List Bool). xs ++ bits_of r whole) (bits_of_bytes-append (take at out) (take q bytes))
    ∙ append_assoc (bits_of_bytes (take at out)) (bits_of_bytes (take q bytes)) (bits_of r whole)
    ∙ ap (λ (xs : List Bool). bits_of_bytes (take at out) ++ xs) (front_of_eight whole (have + len) q r few split ∙ bits_of-laid have len pending number fits)
    ∙ sym (append_assoc (bits_of_bytes (take at out)) (bits_of have pending) (bits_of len number))

-- ---- a number so many times

pub times_none : (bits : List Bool) → times_bits 0 bits ≡ []
unfolding times_bits
times_none bits = refl

pub times_one : (n : ℕ) (bits : List Bool) → 0 < n → times_bits n bits ≡ bits ++ times_bits (n - 1) bits
unfolding times_bits
times_one zero bits some = absurd (omega arith)
times_one (suc n) bits some = ap (λ k. bits ++ times_bits k bits) (omega arith)

pub times_less : (len n : ℕ) → 0 < n → len * n ≡ len + len * (n - 1)
times_less len zero some = absurd (omega arith)
times_less len (suc n) some = let one : suc n - 1 ≡ n = omega arith in rw one (omega arith)

-- ---- small facts of one call

pub laid_below : (pending have len number : ℕ) → pending < 2 ^ have → number < 2 ^ len → pending * 2 ^ len + number < 2 ^ (have + len)
laid_below pending have len number below fits = rw (pow-add 2 have len) (omega (arith, mul-add-lt pending (2 ^ len) number (2 ^ have) below fits))

pub front_is_bytes : (out : List ℕ) (at : ℕ) → ((k : ℕ) → get_or out k 0 < 256) → (k : ℕ) → get_or (take at out) k 0 < 256
front_is_bytes out at fits k = elim (cases_lt k at) [
  | inl inside ↦ omega (arith, get_or-take at out k 0 inside, fits k)
  | inr past ↦ omega (arith, get_or_past (take at out) k 0 (omega (arith, length-take at out)))
]

-- ---- before the first number, and how many bits there are

pub written_nothing : (at have pending : ℕ) (out : List ℕ) → at ≡ 0 → have ≡ 0 → written at have pending out ≡ []
unfolding written
written_nothing at have pending out none no_bits =
    ap₂ (λ i j. bits_of_bytes (take i out) ++ bits_of j pending) none no_bits ∙ ap₂ (λ (xs ys : List Bool). xs ++ ys) bytes_nothing (bits_nothing pending)

pub length-written : (at have pending : ℕ) (out : List ℕ) → at ≤ length out → length (written at have pending out) ≡ 8 * at + have
unfolding written
length-written at have pending out within =
    length-append (bits_of_bytes (take at out)) (bits_of have pending) ∙ ap₂ ◌+◌ (length-bits_of_bytes (take at out) ∙ ap (λ k. 8 * k) (length-take-le at out within)) (length-bits_of have pending)
