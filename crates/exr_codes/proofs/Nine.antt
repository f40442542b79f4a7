-- Nine bytes as one number, and 64 of their bits.
use Rattle.std.proofs.Common.{◌≡◌, ℕ, ◌+◌, ◌-◌, ◌*◌, ◌/◌, ◌%◌, ◌^◌, ◌<◌, ◌≤◌, Bool, List, [], ◌∷◌, ◌++◌, length, take, drop, get_or, bit_or, refl, sym, ap, ◌∙◌, ap₂, subst, arith, mod-eq_of_lt, append_assoc}
use Rattle.std.specs.Int.{w64, from_be_bytes}
use Rattle.std.proofs.Math.Nat.{add-mul-div_right, mul_assoc}
use Rattle.std.proofs.lemmas.List.{length-append, length-drop, take-append-le, drop-append-le}
use Rattle.std.proofs.lemmas.Nat.{pow_pos, pow-add, shr_high, mod_low, or_shifted, mod-pow-add, shr_below}
use Rattle.exr_base.specs.Bits.{number_of, bits_of, bits_of_bytes}
use Rattle.exr_base.proofs.BitLists.{length-bits_of, length-bits_of_bytes, bits_of_bytes-cons, bits_of_bytes-append, number_of-append, number_of-bits_of, bits_of-number_of, bits_within_is}

-- one byte more at the high end
number_of_bytes-cons : (b : ℕ) (bytes : List ℕ) → b < 256 → number_of (bits_of_bytes (b ∷ bytes)) ≡ b * 2 ^ (8 * length bytes) + number_of (bits_of_bytes bytes)
number_of_bytes-cons b bytes small =
    ap number_of (bits_of_bytes-cons b bytes) ∙ number_of-append (bits_of 8 b) (bits_of_bytes bytes) ∙ rw (length-bits_of_bytes bytes, number_of-bits_of 8 b) (rw (mod-eq_of_lt small) refl)

number_of_none : number_of (bits_of_bytes []) ≡ 0
unfolding number_of bits_of_bytes
number_of_none = refl

-- eight bytes spell what `from_be_bytes` reads
pub number_of_eight : (a b c d e f g h : ℕ) → a < 256 → b < 256 → c < 256 → d < 256 → e < 256 → f < 256 → g < 256 → h < 256
    → number_of (bits_of_bytes (a ∷ b ∷ c ∷ d ∷ e ∷ f ∷ g ∷ h ∷ [])) ≡ from_be_bytes w64 (a ∷ b ∷ c ∷ d ∷ e ∷ f ∷ g ∷ h ∷ [])
number_of_eight a b c d e f g h sa sb sc sd se sf sg sh =
    omega (
      arith,
      number_of_bytes-cons a (b ∷ c ∷ d ∷ e ∷ f ∷ g ∷ h ∷ []) sa,
      number_of_bytes-cons b (c ∷ d ∷ e ∷ f ∷ g ∷ h ∷ []) sb,
      number_of_bytes-cons c (d ∷ e ∷ f ∷ g ∷ h ∷ []) sc,
      number_of_bytes-cons d (e ∷ f ∷ g ∷ h ∷ []) sd,
      number_of_bytes-cons e (f ∷ g ∷ h ∷ []) se,
      number_of_bytes-cons f (g ∷ h ∷ []) sf,
      number_of_bytes-cons g (h ∷ []) sg,
      number_of_bytes-cons h [] sh,
      number_of_none,
    )

-- 64 bits of 72
pub shifted_is : (high low offset : ℕ) → offset < 8 → low < 256 → bit_or (high * 2 ^ offset % 2 ^ 64) (low / 2 ^ (8 - offset)) ≡ (high * 2 ^ 8 + low) / 2 ^ (8 - offset) % 2 ^ 64
shifted_is high low offset small byte =
    let r = offset in
    let c = low / 2 ^ (8 - r) in
    let eight : r + (8 - r) ≡ 8 = omega arith in
    let whole : (64 - r) + r ≡ 64 = omega arith in
    let few : c < 2 ^ r = shr_below low r (8 - r) (subst (λ (k : ℕ). low < 2 ^ k) (sym eight) byte) in
    let shift : (high * 2 ^ 8 + low) / 2 ^ (8 - r) ≡ c + high * 2 ^ r =
    ap (λ n. n / 2 ^ (8 - r)) (let p : high * 2 ^ 8 + low ≡ low + high * 2 ^ r * 2 ^ (8 - r) = let q : 2 ^ 8 ≡ 2 ^ r * 2 ^ (8 - r) = ap (λ k. 2 ^ k) (sym eight) ∙ pow-add 2 r (8 - r) in omega (arith, mul_assoc high (2 ^ r) (2 ^ (8 - r)), ap (λ k. high * k) q) in p) ∙ add-mul-div_right low (high * 2 ^ r) (pow_pos (8 - r)) in
    let turned : c + high * 2 ^ r ≡ high * 2 ^ r + c = omega arith in
    let all : (high * 2 ^ r + c) % 2 ^ 64 ≡ (high % 2 ^ (64 - r)) * 2 ^ r + c =
    subst (λ (k : ℕ). (high * 2 ^ r + c) % 2 ^ k ≡ (high % 2 ^ (64 - r)) * 2 ^ r + c) whole (mod-pow-add (high * 2 ^ r + c) (64 - r) r ∙ ap₂ (λ x y. x % 2 ^ (64 - r) * 2 ^ r + y) (shr_high high r c few) (mod_low high r c few)) in
    let none : high * 2 ^ r ≡ high * 2 ^ r + 0 = omega arith in
    let top : high * 2 ^ r % 2 ^ 64 ≡ (high % 2 ^ (64 - r)) * 2 ^ r =
    subst (λ (k : ℕ). high * 2 ^ r % 2 ^ k ≡ (high % 2 ^ (64 - r)) * 2 ^ r) whole (mod-pow-add (high * 2 ^ r) (64 - r) r ∙ rw none (ap₂ (λ x y. x % 2 ^ (64 - r) * 2 ^ r + y) (shr_high high r 0 (pow_pos r)) (mod_low high r 0 (pow_pos r)) ∙ omega arith)) in
    rw (top, shift, turned, all) (or_shifted (high % 2 ^ (64 - r)) r c few)

first_nine : (bytes : List ℕ) → 9 ≤ length bytes → bytes ≡ (get_or bytes 0 0 ∷ get_or bytes 1 0 ∷ get_or bytes 2 0 ∷ get_or bytes 3 0 ∷ get_or bytes 4 0 ∷ get_or bytes 5 0 ∷ get_or bytes 6 0 ∷ get_or bytes 7 0 ∷ []) ++ (get_or bytes 8 0 ∷ drop 9 bytes)
first_nine (a ∷ b ∷ c ∷ d ∷ e ∷ f ∷ g ∷ h ∷ i ∷ rest) long = refl
first_nine [] long = absurd (omega arith)
first_nine (a ∷ []) long = absurd (omega arith)
first_nine (a ∷ b ∷ []) long = absurd (omega arith)
first_nine (a ∷ b ∷ c ∷ []) long = absurd (omega arith)
first_nine (a ∷ b ∷ c ∷ d ∷ []) long = absurd (omega arith)
first_nine (a ∷ b ∷ c ∷ d ∷ e ∷ []) long = absurd (omega arith)
first_nine (a ∷ b ∷ c ∷ d ∷ e ∷ f ∷ []) long = absurd (omega arith)
first_nine (a ∷ b ∷ c ∷ d ∷ e ∷ f ∷ g ∷ []) long = absurd (omega arith)
first_nine (a ∷ b ∷ c ∷ d ∷ e ∷ f ∷ g ∷ h ∷ []) long = absurd (omega arith)

-- 64 bits behind the first ones of two numbers of 64 and 8 bits
pub bits_of_two : (front : List Bool) (low offset : ℕ) (rest : List Bool) → offset < 8 → length front ≡ 64 → low < 256 → number_of (take 64 (drop offset (front ++ (bits_of 8 low ++ rest)))) ≡ (number_of front * 2 ^ 8 + low) / 2 ^ (8 - offset) % 2 ^ 64
bits_of_two front low offset rest small size byte =
    let x = front ++ bits_of 8 low in
    let n = number_of x in
    let wide : length x ≡ 72 = rw (length-append, length-bits_of 8 low, size) refl in
    let value : n ≡ number_of front * 2 ^ 8 + low = number_of-append front (bits_of 8 low) ∙ rw (length-bits_of 8 low, number_of-bits_of 8 low) (rw (mod-eq_of_lt byte) refl) in
    let split : offset + (64 + (8 - offset)) ≡ 72 = omega arith in
    let spelled : bits_of 72 n ≡ x = ap (λ k. bits_of k n) (sym wide) ∙ bits_of-number_of x in
    let cut : take 64 (drop offset x) ≡ bits_of 64 (n / 2 ^ (8 - offset)) =
    subst (λ (xs : List Bool). take 64 (drop offset xs) ≡ bits_of 64 (n / 2 ^ (8 - offset))) spelled (subst (λ (k : ℕ). take 64 (drop offset (bits_of k n)) ≡ bits_of 64 (n / 2 ^ (8 - offset))) split (bits_within_is offset 64 (8 - offset) n)) in
    let joined : front ++ (bits_of 8 low ++ rest) ≡ x ++ rest = sym (append_assoc front (bits_of 8 low) rest) in
    let whole : take 64 (drop offset (front ++ (bits_of 8 low ++ rest))) ≡ take 64 (drop offset x) =
    ap (λ (xs : List Bool). take 64 (drop offset xs)) joined ∙ ap (take 64) (drop-append-le offset x rest (omega arith)) ∙ take-append-le 64 (drop offset x) rest (rw length-drop (omega arith)) in
    ap number_of (whole ∙ cut) ∙ number_of-bits_of 64 (n / 2 ^ (8 - offset)) ∙ ap (λ m. m / 2 ^ (8 - offset) % 2 ^ 64) value

pub bits_of_nine_is : (bytes : List ℕ) (offset : ℕ) → offset < 8 → 9 ≤ length bytes → ((i : ℕ) → get_or bytes i 0 < 256)
    → number_of (take 64 (drop offset (bits_of_bytes bytes))) ≡ bit_or (from_be_bytes w64 (get_or bytes 0 0 ∷ get_or bytes 1 0 ∷ get_or bytes 2 0 ∷ get_or bytes 3 0 ∷ get_or bytes 4 0 ∷ get_or bytes 5 0 ∷ get_or bytes 6 0 ∷ get_or bytes 7 0 ∷ []) * 2 ^ offset % 2 ^ 64) (get_or bytes 8 0 / 2 ^ (8 - offset))
bits_of_nine_is bytes offset small long fits =
    let eight = get_or bytes 0 0 ∷ get_or bytes 1 0 ∷ get_or bytes 2 0 ∷ get_or bytes 3 0 ∷ get_or bytes 4 0 ∷ get_or bytes 5 0 ∷ get_or bytes 6 0 ∷ get_or bytes 7 0 ∷ [] in
    let low = get_or bytes 8 0 in
    let high = number_of_eight (get_or bytes 0 0) (get_or bytes 1 0) (get_or bytes 2 0) (get_or bytes 3 0) (get_or bytes 4 0) (get_or bytes 5 0) (get_or bytes 6 0) (get_or bytes 7 0) (fits 0) (fits 1) (fits 2) (fits 3) (fits 4) (fits 5) (fits 6) (fits 7) in
    let parts : bits_of_bytes bytes ≡ bits_of_bytes eight ++ (bits_of 8 low ++ bits_of_bytes (drop 9 bytes)) =
    ap bits_of_bytes (first_nine bytes long) ∙ bits_of_bytes-append eight (low ∷ drop 9 bytes) ∙ ap (λ (xs : List Bool). bits_of_bytes eight ++ xs) (bits_of_bytes-cons low (drop 9 bytes)) in
    ap (λ (xs : List Bool). number_of (take 64 (drop offset xs))) parts ∙ bits_of_two (bits_of_bytes eight) low offset (bits_of_bytes (drop 9 bytes)) small (length-bits_of_bytes eight) (fits 8)
    ∙ ap (λ n. (n * 2 ^ 8 + low) / 2 ^ (8 - offset) % 2 ^ 64) high ∙ sym (shifted_is (from_be_bytes w64 eight) low offset small (fits 8))
