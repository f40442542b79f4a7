-- The bytes that a list of bits spells hold the bits, and zero bits that fill the last byte.
use Rattle.std.proofs.Common.{◌≡◌, ℕ, zero, suc, ◌+◌, ◌-◌, ◌*◌, ◌/◌, ◌<◌, Bool, false, List, [], ◌∷◌, ◌++◌, length, take, drop, replicate, refl, sym, ap, ◌∙◌, ap₂, inl, inr, arith}
use Rattle.std.proofs.Math.Seq.{take-add}
use Rattle.std.proofs.lemmas.Bool.{cases_lt}
use Rattle.std.proofs.lemmas.List.{length-append, length-take, length-replicate, drop_at, drop-append-le, take_all, drop_all, drop-drop, take-replicate, drop-replicate}
use Rattle.exr_base.specs.Bits.{number_of, bits_of, bits_of_bytes, first_bytes_of, bytes_of}
use Rattle.exr_base.proofs.BitLists.{bits_of-number_of, bits_of_bytes-cons}
use Rattle.exr_codes.proofs.Padded.{take_padded}

-- eight bits on, with eight copies fewer
rest_padded : (n : ℕ) (bits : List Bool) → take (8 * n) (drop 8 (bits ++ replicate (8 + 8 * n) false)) ≡ take (8 * n) (drop 8 bits ++ replicate (8 * n) false)
rest_padded n bits = elim (cases_lt (length bits) 8) [
  | inl short ↦
      let split : 8 ≡ length bits + (8 - length bits) = omega arith in
      let none : drop 8 bits ≡ [] = drop_all 8 bits (omega arith) in
      let left : drop 8 (bits ++ replicate (8 + 8 * n) false) ≡ replicate (8 + 8 * n - (8 - length bits)) false =
      ap (λ k. drop k (bits ++ replicate (8 + 8 * n) false)) split ∙ sym (drop-drop (8 - length bits) (length bits) (bits ++ replicate (8 + 8 * n) false)) ∙ ap (drop (8 - length bits)) (drop_at bits (replicate (8 + 8 * n) false) (length bits) refl) ∙ drop-replicate (8 - length bits) (8 + 8 * n) false in
      ap (take (8 * n)) left ∙ take-replicate (8 * n) (8 + 8 * n - (8 - length bits)) false (omega arith) ∙ sym (ap (λ (xs : List Bool). take (8 * n) (xs ++ replicate (8 * n) false)) none ∙ take-replicate (8 * n) (8 * n) false (omega arith))
  | inr long ↦
      let behind = drop 8 bits in
      ap (take (8 * n)) (drop-append-le 8 bits (replicate (8 + 8 * n) false) long) ∙ take_padded (8 * n) behind (8 + 8 * n) false (omega arith) ∙ sym (take_padded (8 * n) behind (8 * n) false (omega arith))
]

first_bytes_of-suc : (n : ℕ) (bits : List Bool) → first_bytes_of (suc n) bits ≡ number_of (take 8 (bits ++ replicate 8 false)) ∷ first_bytes_of n (drop 8 bits)
unfolding first_bytes_of
first_bytes_of-suc n bits = refl

filled_nothing : (bits : List Bool) → bits_of_bytes (first_bytes_of 0 bits) ≡ []
unfolding bits_of_bytes first_bytes_of
filled_nothing bits = refl

filled : (n : ℕ) (bits : List Bool) → bits_of_bytes (first_bytes_of n bits) ≡ take (8 * n) (bits ++ replicate (8 * n) false)
filled zero bits = filled_nothing bits
filled (suc n) bits =
    let x = take 8 (bits ++ replicate 8 false) in
    let len : length x ≡ 8 = rw (length-take, length-append, length-replicate) (omega arith) in
    let first : bits_of 8 (number_of x) ≡ x = ap (λ k. bits_of k (number_of x)) (sym len) ∙ bits_of-number_of x in
    let turn : 8 * suc n ≡ 8 + 8 * n = omega arith in
    let front : take 8 (bits ++ replicate (8 + 8 * n) false) ≡ x = take_padded 8 bits (8 + 8 * n) false (omega arith) ∙ sym (take_padded 8 bits 8 false (omega arith)) in
    ap bits_of_bytes (first_bytes_of-suc n bits) ∙ bits_of_bytes-cons (number_of x) (first_bytes_of n (drop 8 bits)) ∙ ap₂ ◌++◌ first (filled n (drop 8 bits))
    ∙ sym (ap (λ k. take k (bits ++ replicate k false)) turn ∙ take-add 8 (8 * n) (bits ++ replicate (8 + 8 * n) false) ∙ ap₂ ◌++◌ front (rest_padded n bits))

-- the bits of the bytes, with fewer than eight zero bits behind them
pub bits_of_bytes-bytes_of : (bits : List Bool) → (fill : ℕ) × (fill < 8) × (bits_of_bytes (bytes_of bits) ≡ bits ++ replicate fill false)
unfolding bytes_of
bits_of_bytes-bytes_of bits =
    let n = (length bits + 7) / 8 in
    let whole : take (8 * n) bits ≡ bits = take_all (8 * n) bits (omega arith) in
    (8 * n - length bits, omega arith, filled n bits ∙ take_padded (8 * n) bits (8 * n) false (omega arith) ∙ ap (λ (xs : List Bool). xs ++ replicate (8 * n - length bits) false) whole)

pub number_of-zeros : (n : ℕ) → number_of (replicate n false) ≡ 0
unfolding number_of
number_of-zeros zero = refl
number_of-zeros (suc n) = number_of-zeros n
