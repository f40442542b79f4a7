-- The halves and the differences of raw data, place by place.
use Rattle.std.proofs.Common.{◌≡◌, ℕ, zero, suc, ◌+◌, ◌-◌, ◌*◌, ◌/◌, ◌%◌, ◌<◌, ◌≤◌, inl, inr, List, [], ◌∷◌, ◌++◌, length, get_or, map, refl, sym, ap, ◌∙◌, arith}
use Rattle.std.specs.List.{range_with_len}
use Rattle.std.proofs.lemmas.Bool.{cases_lt}
use Rattle.std.proofs.lemmas.List.{ext_get_or, length-append, get_or_append_left, get_or-append_right}
use Rattle.std.proofs.lemmas.List.FromFn.{get_or-map-range_with_len}
use Rattle.std.proofs.lemmas.Simd.{get_or-chunk, length-chunk}
use lib.Lanes.{chunk}
use Rattle.exr_rle.specs.Packed.{evens_of, odds_of, differences_after, differences_of}

pub length-evens_of : (raw : List ℕ) → length (evens_of raw) ≡ (length raw + 1) / 2
length-evens_of [] = refl
length-evens_of (a ∷ []) = refl
length-evens_of (a ∷ b ∷ rest) = omega (arith, length-evens_of rest)

pub length-odds_of : (raw : List ℕ) → length (odds_of raw) ≡ length raw / 2
length-odds_of [] = refl
length-odds_of (a ∷ []) = refl
length-odds_of (a ∷ b ∷ rest) = omega (arith, length-odds_of rest)

two_more : (k : ℕ) → 2 * suc k ≡ suc (suc (2 * k))
two_more k = omega arith

two_more' : (k : ℕ) → 2 * suc k + 1 ≡ suc (suc (2 * k + 1))
two_more' k = omega arith

one_at : 2 * 0 + 1 ≡ suc zero
one_at = omega arith

pub get_or-evens_of : (raw : List ℕ) (k : ℕ) → get_or (evens_of raw) k 0 ≡ get_or raw (2 * k) 0
get_or-evens_of [] k = refl
get_or-evens_of (a ∷ []) zero = refl
get_or-evens_of (a ∷ []) (suc k) = sym (ap (λ i. get_or (a ∷ []) i 0) (two_more k))
get_or-evens_of (a ∷ b ∷ rest) zero = refl
get_or-evens_of (a ∷ b ∷ rest) (suc k) = get_or-evens_of rest k ∙ sym (ap (λ i. get_or (a ∷ b ∷ rest) i 0) (two_more k))

pub get_or-odds_of : (raw : List ℕ) (k : ℕ) → get_or (odds_of raw) k 0 ≡ get_or raw (2 * k + 1) 0
get_or-odds_of [] k = refl
get_or-odds_of (a ∷ []) zero = sym (ap (λ i. get_or (a ∷ []) i 0) one_at)
get_or-odds_of (a ∷ []) (suc k) = sym (ap (λ i. get_or (a ∷ []) i 0) (two_more' k))
get_or-odds_of (a ∷ b ∷ rest) zero = sym (ap (λ i. get_or (a ∷ b ∷ rest) i 0) one_at)
get_or-odds_of (a ∷ b ∷ rest) (suc k) = get_or-odds_of rest k ∙ sym (ap (λ i. get_or (a ∷ b ∷ rest) i 0) (two_more' k))

-- a list that has the halves, place by place
pub halves_apart : (raw into : List ℕ) (pairs middle : ℕ) → length into ≡ length raw → pairs ≡ length raw / 2 → middle ≡ length raw - pairs
    → ((k : ℕ) → k < middle → get_or into k 0 ≡ get_or raw (2 * k) 0) → ((k : ℕ) → k < pairs → get_or into (middle + k) 0 ≡ get_or raw (2 * k + 1) 0) → into ≡ evens_of raw ++ odds_of raw
halves_apart raw into pairs middle same pairs_is middle_is evens odds =
    let e : length (evens_of raw) ≡ middle = omega (arith, length-evens_of raw) in
    ext_get_or 0 into (evens_of raw ++ odds_of raw) (omega (arith, length-append (evens_of raw) (odds_of raw), length-evens_of raw, length-odds_of raw)) (λ k inside.
    elim (cases_lt k middle) [
      | inl lt ↦ evens k lt ∙ sym (get_or_append_left (evens_of raw) (odds_of raw) 0 k (omega arith) ∙ get_or-evens_of raw k)
      | inr le ↦ ap (λ i. get_or into i 0) (omega arith) ∙ odds (k - middle) (omega arith) ∙ sym (get_or-append_right (evens_of raw) (odds_of raw) middle k 0 e le ∙ get_or-odds_of raw (k - middle))
    ])

pub length-differences_after : (before : ℕ) (bytes : List ℕ) → length (differences_after before bytes) ≡ length bytes
length-differences_after before [] = refl
length-differences_after before (byte ∷ rest) = ap suc (length-differences_after byte rest)

get_or-differences_after : (before : ℕ) (bytes : List ℕ) (k : ℕ) → suc k < length bytes → get_or (differences_after before bytes) (suc k) 0 ≡ (get_or bytes (suc k) 0 + 384 - get_or bytes k 0) % 256
get_or-differences_after before [] k inside = absurd (omega arith)
get_or-differences_after before (a ∷ []) k inside = absurd (omega arith)
get_or-differences_after before (a ∷ b ∷ rest) zero inside = refl
get_or-differences_after before (a ∷ b ∷ rest) (suc k) inside = get_or-differences_after a (b ∷ rest) k (omega arith)

-- a list that has the differences, place by place
pub differences_by_place : (bytes into : List ℕ) → length into ≡ length bytes → get_or into 0 0 ≡ get_or bytes 0 0
    → ((k : ℕ) → k + 1 < length bytes → get_or into (k + 1) 0 ≡ (get_or bytes (k + 1) 0 + 384 - get_or bytes k 0) % 256) → into ≡ differences_of bytes
differences_by_place [] into same first later = ext_get_or 0 into [] same (λ k inside. absurd (omega arith))
differences_by_place (byte ∷ rest) into same first later = ext_get_or 0 into (byte ∷ differences_after byte rest) (omega (arith, length-differences_after byte rest)) at
  where
    next : (k : ℕ) → suc k < length (byte ∷ rest) → get_or into (suc k) 0 ≡ (get_or rest k 0 + 384 - get_or (byte ∷ rest) k 0) % 256
    next k lt =
        let same : k + 1 ≡ suc k = omega arith in
        ap (λ i. get_or into i 0) (sym same) ∙ later k (omega arith) ∙ ap (λ i. (get_or (byte ∷ rest) i 0 + 384 - get_or (byte ∷ rest) k 0) % 256) same

    at : (k : ℕ) → k < length into → get_or into k 0 ≡ get_or (byte ∷ differences_after byte rest) k 0
    at zero inside = first
    at (suc zero) inside = next 0 (omega arith) ∙ second rest (omega arith)
      where
        second : (rest : List ℕ) → 0 < length rest → (get_or rest 0 0 + 384 - byte) % 256 ≡ get_or (differences_after byte rest) 0 0
        second [] some = absurd (omega arith)
        second (b ∷ rest) some = refl
    at (suc (suc k)) inside = next (suc k) (omega arith) ∙ sym (get_or-differences_after byte rest k (omega arith))

-- lanes at even places and at odd ones
pub lanes_even : (xs : List ℕ) (k : ℕ) → k < 16 → get_or (map (λ j. get_or xs (2 * j) 0) (range_with_len 0 16)) k 0 ≡ get_or xs (2 * k) 0
lanes_even xs k inside = get_or-map-range_with_len (λ j. get_or xs (2 * j) 0) 0 16 k k 0 inside (omega arith)

pub lanes_odd : (xs : List ℕ) (k : ℕ) → k < 16 → get_or (map (λ j. get_or xs (2 * j + 1) 0) (range_with_len 0 16)) k 0 ≡ get_or xs (2 * k + 1) 0
lanes_odd xs k inside = get_or-map-range_with_len (λ j. get_or xs (2 * j + 1) 0) 0 16 k k 0 inside (omega arith)

-- two neighbouring chunks
pub get_or-chunks : (at : ℕ) (xs : List ℕ) (k : ℕ) → at + 32 ≤ length xs → k < 32 → get_or (chunk at 16 xs ++ chunk (at + 16) 16 xs) k 0 ≡ get_or xs (at + k) 0
get_or-chunks at xs k there inside =
    let long = length-chunk at 16 xs (omega arith) in
    elim (cases_lt k 16) [
      | inl lt ↦ get_or_append_left (chunk at 16 xs) (chunk (at + 16) 16 xs) 0 k (omega arith) ∙ get_or-chunk at 16 xs k 0 lt
      | inr le ↦ get_or-append_right (chunk at 16 xs) (chunk (at + 16) 16 xs) 16 k 0 long le ∙ get_or-chunk (at + 16) 16 xs (k - 16) 0 (omega arith) ∙ ap (λ i. get_or xs i 0) (omega arith)
    ]
