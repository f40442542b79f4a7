-- The bits from a place on, and what a window knows of them.
use Rattle.std.proofs.Common.{◌≡◌, ℕ, zero, suc, ◌+◌, ◌-◌, ◌*◌, ◌/◌, ◌%◌, ◌^◌, ◌<◌, ◌≤◌, Bool, false, List, [], ◌∷◌, ◌++◌, length, take, drop, replicate, refl, sym, ap, ◌∙◌, ap₂, subst, arith}
use Rattle.std.proofs.lemmas.List.{length-append, length-take, length-take-le, length-drop, length-replicate, take-append-le, drop-append-le, take-take, nil_from_length, replicate-append-replicate, drop-drop, drop-take}
use Rattle.std.proofs.Math.Nat.{zero-div}
use Rattle.std.proofs.lemmas.Nat.{field_of, shl-shr, shr-shr, mod_low}
use Rattle.exr_base.specs.Bits.{number_of, bits_of, bits_of_bytes}
use Rattle.exr_base.proofs.BitLists.{length-bits_of_bytes, bits_of_bytes-cons, bits_of_bytes-append, drop-bits_of_bytes, number_of-take_more, number_of-take_below}
use Rattle.exr_codes.proofs.BitFronts.{number_of-take}
use Rattle.exr_codes.proofs.Padded.{take_padded}
use Rattle.exr_codes.specs.Windows.{IsWindow}
use Rattle.exr_codes.specs.Rest.{rest_at, bits_from}

take_nil : {X : Type 0} (m : ℕ) (none : List X) → none ≡ [] → take m none ≡ []
take_nil m none is = nil_from_length (take m none) (rw length-take (omega (arith, ap length is)))

-- bits behind some, with more or fewer copies at the end
same_padded : {X : Type 0} (n r : ℕ) (xs : List X) (a b : ℕ) (x : X) → r + n ≤ length xs + a → r + n ≤ length xs + b → take n (drop r (xs ++ replicate a x)) ≡ take n (drop r (xs ++ replicate b x))
same_padded n r xs a b x enough_a enough_b =
    sym (drop-take r n (xs ++ replicate a x)) ∙ ap (drop r) (take_padded (r + n) xs a x enough_a ∙ sym (take_padded (r + n) xs b x enough_b)) ∙ drop-take r n (xs ++ replicate b x)

bits_of_zero : (n : ℕ) → bits_of n 0 ≡ replicate n false
unfolding bits_of
bits_of_zero zero = refl
bits_of_zero (suc n) = ap₂ ◌∷◌ (rw zero-div refl) (bits_of_zero n)

bits_of_zeros : (n : ℕ) → bits_of_bytes (replicate n 0) ≡ replicate (8 * n) false
unfolding bits_of_bytes
bits_of_zeros zero = refl
bits_of_zeros (suc n) =
    bits_of_bytes-cons 0 (replicate n 0) ∙ ap₂ ◌++◌ (bits_of_zero 8) (bits_of_zeros n) ∙ replicate-append-replicate 8 (8 * n) false ∙ ap (λ k. replicate k false) (omega arith)

-- the rest from a place on, byte by byte
rest_at_byte : (bytes : List ℕ) (at : ℕ) → at ≤ 8 * length bytes → rest_at bytes at ≡ drop (at % 8) (bits_of_bytes (drop (at / 8) bytes) ++ replicate 64 false)
rest_at_byte bytes at within =
    let turn : at ≡ 8 * (at / 8) + at % 8 = omega arith in
    let len = length-bits_of_bytes bytes in
    ap (λ n. drop n (bits_of_bytes bytes ++ replicate 64 false)) turn ∙ sym (drop-drop (at % 8) (8 * (at / 8)) (bits_of_bytes bytes ++ replicate 64 false))
    ∙ ap (drop (at % 8)) (drop-append-le (8 * (at / 8)) (bits_of_bytes bytes) (replicate 64 false) (omega arith) ∙ ap (λ (xs : List Bool). xs ++ replicate 64 false) (drop-bits_of_bytes (at / 8) bytes))

pub rest_long : (bytes : List ℕ) (at : ℕ) → at ≤ 8 * length bytes → 9 ≤ length (drop (at / 8) bytes) → take 64 (rest_at bytes at) ≡ take 64 (drop (at % 8) (bits_of_bytes (drop (at / 8) bytes)))
rest_long bytes at within long =
    let behind = bits_of_bytes (drop (at / 8) bytes) in
    let len = length-bits_of_bytes (drop (at / 8) bytes) in
    ap (take 64) (rest_at_byte bytes at within ∙ drop-append-le (at % 8) behind (replicate 64 false) (omega arith)) ∙ take-append-le 64 (drop (at % 8) behind) (replicate 64 false) (rw length-drop (omega arith))

pub rest_short : (bytes : List ℕ) (at : ℕ) → at ≤ 8 * length bytes → length (drop (at / 8) bytes) < 9 → take 64 (rest_at bytes at) ≡ take 64 (drop (at % 8) (bits_of_bytes (drop (at / 8) bytes ++ replicate (9 - length (drop (at / 8) bytes)) 0)))
rest_short bytes at within short =
    let rest = drop (at / 8) bytes in
    let len = length-bits_of_bytes rest in
    let size = length-drop (at / 8) bytes in
    let more = 8 * (9 - length rest) in
    ap (take 64) (rest_at_byte bytes at within) ∙ same_padded 64 (at % 8) (bits_of_bytes rest) 64 more false (omega arith) (omega arith)
    ∙ ap (λ (xs : List Bool). take 64 (drop (at % 8) xs)) (ap (λ (xs : List Bool). bits_of_bytes rest ++ xs) (sym (bits_of_zeros (9 - length rest))) ∙ sym (bits_of_bytes-append rest (replicate (9 - length rest) 0)))

-- ---- windows

number_of_no : number_of [] ≡ 0
unfolding number_of
number_of_no = refl

pub window_none : (bits : List Bool) → IsWindow 0 bits 0
window_none bits n le within = let none : n ≡ 0 = omega arith in subst (λ (k : ℕ). number_of (take k bits) ≡ 0 / 2 ^ (64 - k)) (sym none) (number_of_no ∙ omega arith)

pub window_full : (bits : List Bool) (window : ℕ) → window ≡ number_of (take 64 bits) → 64 ≤ length bits → IsWindow 64 bits window
window_full bits window is enough n le within =
    let len : length (take 64 bits) ≡ 64 = length-take-le 64 bits enough in
    rw is (sym (ap number_of (take-take n 64 bits le)) ∙ number_of-take n (take 64 bits) (omega arith) ∙ ap (λ k. number_of (take 64 bits) / 2 ^ (k - n)) len)

pub window_skipped : (have n : ℕ) (bits : List Bool) (window : ℕ) → n ≤ have → have ≤ 64 → n ≤ length bits → IsWindow have bits window → IsWindow (have - n) (drop n bits) (window * 2 ^ n % 2 ^ 64)
window_skipped have n bits window fits few inside known m le within =
    let both : n + m ≤ length bits = omega (arith, length-drop n bits) in
    let front = known (n + m) (omega arith) both in
    let more = number_of-take_more n m bits both in
    let rest = number_of (take m (drop n bits)) in
    let head = number_of (take n bits) in
    let low : (window / 2 ^ (64 - (n + m))) % 2 ^ m ≡ rest = rw (← front, more) (mod_low head m rest (number_of-take_below m (drop n bits))) in
    let whole : m + (64 - m) ≡ 64 = omega arith in
    let field : window * 2 ^ n % 2 ^ 64 / 2 ^ (64 - m) ≡ window * 2 ^ n / 2 ^ (64 - m) % 2 ^ m = subst (λ (k : ℕ). window * 2 ^ n % 2 ^ k / 2 ^ (64 - m) ≡ window * 2 ^ n / 2 ^ (64 - m) % 2 ^ m) whole (field_of (window * 2 ^ n) m (64 - m)) in
    let shift : 64 - m ≡ n + (64 - (n + m)) = omega arith in
    let moved : window * 2 ^ n / 2 ^ (64 - m) ≡ window / 2 ^ (64 - (n + m)) = ap (λ k. window * 2 ^ n / 2 ^ k) shift ∙ sym (shr-shr (window * 2 ^ n) n (64 - (n + m))) ∙ ap (λ x. x / 2 ^ (64 - (n + m))) (shl-shr window n) in
    sym (field ∙ ap (λ x. x % 2 ^ m) moved ∙ low)

pub length-rest_at : (bytes : List ℕ) (at : ℕ) → length (rest_at bytes at) ≡ 8 * length bytes + 64 - at
length-rest_at bytes at = rw (length-drop, length-append, length-replicate, length-bits_of_bytes bytes) refl

pub rest_at-skip : (bytes : List ℕ) (at n : ℕ) → rest_at bytes (at + n) ≡ drop n (rest_at bytes at)
rest_at-skip bytes at n = sym (drop-drop n at (bits_of_bytes bytes ++ replicate 64 false))

-- ---- the bits that are there

pub length-bits_from : (bytes : List ℕ) (at : ℕ) → length (bits_from bytes at) ≡ 8 * length bytes - at
length-bits_from bytes at = rw (length-drop, length-bits_of_bytes bytes) refl

-- the high end of a window, as a number
pub number_from_window : (bytes : List ℕ) (at have window n : ℕ) → at + n ≤ 8 * length bytes → n ≤ have → IsWindow have (rest_at bytes at) window → window / 2 ^ (64 - n) ≡ number_of (take n (bits_from bytes at))
number_from_window bytes at have window n there fits filled =
    let x = bits_of_bytes bytes in
    let len = length-bits_of_bytes bytes in
    let front : take n (rest_at bytes at) ≡ take n (bits_from bytes at) = ap (take n) (drop-append-le at x (replicate 64 false) (omega arith)) ∙ take-append-le n (drop at x) (replicate 64 false) (rw length-drop (omega arith)) in
    sym (filled n fits (omega (arith, length-rest_at bytes at))) ∙ ap number_of front
