-- The front of a list of bits as a number.
use Rattle.std.proofs.Common.{◌≡◌, ℕ, ◌+◌, ◌-◌, ◌*◌, ◌/◌, ◌^◌, ◌≤◌, Bool, List, length, take, drop, sym, ap, ◌∙◌, subst}
use Rattle.std.proofs.lemmas.List.{length-drop, length-take-le, take-append-drop}
use Rattle.std.proofs.lemmas.Nat.{shr_high}
use Rattle.exr_base.specs.Bits.{number_of, bits_of}
use Rattle.exr_base.proofs.BitLists.{number_of-append, number_of-below, bits_of-number_of}

-- the first bits spell the high part of the number
pub number_of-take : (n : ℕ) (bits : List Bool) → n ≤ length bits → number_of (take n bits) ≡ number_of bits / 2 ^ (length bits - n)
number_of-take n bits within =
    let back = drop n bits in
    let len : length back ≡ length bits - n = length-drop n bits in
    let whole : number_of bits ≡ number_of (take n bits) * 2 ^ length back + number_of back = ap number_of (sym (take-append-drop n bits)) ∙ number_of-append (take n bits) back in
    rw (← len, whole) (sym (shr_high (number_of (take n bits)) (length back) (number_of back) (number_of-below back)))

-- the first bits are the bits of their number
pub bits_of-front : (n : ℕ) (bits : List Bool) → n ≤ length bits → bits_of n (number_of (take n bits)) ≡ take n bits
bits_of-front n bits within = subst (λ (k : ℕ). bits_of k (number_of (take n bits)) ≡ take n bits) (length-take-le n bits within) (bits_of-number_of (take n bits))
