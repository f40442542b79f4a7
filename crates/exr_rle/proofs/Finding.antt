-- What sixteen compared lanes say of the places that they were read from.
use Rattle.std.proofs.Common.{◌≡◌, ◌≢◌, ℕ, zero, suc, ◌+◌, ◌-◌, ◌<◌, ◌≤◌, inl, inr, Bool, true, false, not, ◌&&◌, eqb, List, [], ◌∷◌, length, get_or, drop, min, refl, sym, ap, ◌∙◌, subst, arith}
use Rattle.std.specs.List.{prefix_len}
use Rattle.std.proofs.lemmas.Bool.{cases_lt, cases_eq, eq-eqb, ne_eqb, eqb-true, eqb-false, false≢true}
use Rattle.std.proofs.lemmas.List.{drop_more, length-drop, get_or-drop, drop-drop}
use Rattle.std.proofs.lemmas.List.Sums.{prefix_len_passes, prefix_len_stops, prefix_len_is, prefix_len-le-length}
use Rattle.std.proofs.lemmas.Simd.{run_in_chunk_le, run_in_chunk_fails, run_in_chunk_stops, length-chunk, get_or-chunk, length-zip2, get_or-zip2}
use lib.Lanes.{chunk, zip2}
use lib.Bits.{bit_or, bit_xor, xor_self, xor_assoc, xor_zero_l, xor_zero_r, or_add_and, and_le_l, and_le_r}
use Rattle.exr_rle.specs.Packed.{begins_three, plain_len, run_len}

same_from_xor : (a b : ℕ) → bit_xor a b ≡ 0 → a ≡ b
same_from_xor a b none = sym (xor_zero_r a) ∙ ap (bit_xor a) (sym (xor_self b)) ∙ sym (xor_assoc a b b) ∙ ap (λ x. bit_xor x b) none ∙ xor_zero_l b

none_from_or : (a b : ℕ) → bit_or a b ≡ 0 → (a ≡ 0) × (b ≡ 0)
none_from_or a b none = (omega (arith, or_add_and a b, and_le_r a b), omega (arith, or_add_and a b, and_le_l a b))

-- the three are equal exactly where nothing differs
pub differs : (a b c : ℕ) → eqb (bit_or (bit_xor a b) (bit_xor b c)) 0 ≡ (eqb a b && eqb b c)
differs a b c = elim (cases_eq a b) [
  | inl ab ↦ elim (cases_eq b c) [
    | inl bc ↦
        let none : bit_or (bit_xor a b) (bit_xor b c) ≡ 0 = ap (λ x. bit_or (bit_xor a x) (bit_xor b c)) (sym ab) ∙ ap (λ x. bit_or x (bit_xor b c)) (xor_self a) ∙ ap (λ x. bit_or 0 (bit_xor b x)) (sym bc) ∙ ap (bit_or 0) (xor_self b) in
        eq-eqb _ 0 none ∙ sym (ap (λ t. t && eqb b c) (eq-eqb a b ab) ∙ eq-eqb b c bc)
    | inr bc ↦ ne_eqb _ 0 (λ none. bc (same_from_xor b c (none_from_or _ _ none).1)) ∙ sym (ap (λ t. t && eqb b c) (eq-eqb a b ab) ∙ ne_eqb b c bc)
  ]
  | inr ab ↦ ne_eqb _ 0 (λ none. ab (same_from_xor a b (none_from_or _ _ none).0)) ∙ sym (ap (λ t. t && eqb b c) (ne_eqb a b ab))
]

two_on : (at : ℕ) → at + 1 + 1 ≡ at + 2
two_on at = omega arith

-- three bytes at a place
pub begins_three-drop : (bytes : List ℕ) (at : ℕ) → at + 2 < length bytes → begins_three (drop at bytes) ≡ (eqb (get_or bytes at 0) (get_or bytes (at + 1) 0) && eqb (get_or bytes (at + 1) 0) (get_or bytes (at + 2) 0))
begins_three-drop bytes at there =
    let first = drop_more bytes at 0 (omega arith) in
    let second = drop_more bytes (at + 1) 0 (omega arith) in
    let third = drop_more bytes (at + 2) 0 (omega arith) in
    let next : drop (at + 1 + 1) bytes ≡ drop (at + 2) bytes = ap (λ k. drop k bytes) (two_on at) in
    ap begins_three (first ∙ ap (λ l. get_or bytes at 0 ∷ l) (second ∙ ap (λ l. get_or bytes (at + 1) 0 ∷ l) (next ∙ third)))

-- fewer than three bytes
pub begins_three-short : (bytes : List ℕ) → length bytes < 3 → begins_three bytes ≡ false
begins_three-short [] few = refl
begins_three-short (a ∷ []) few = refl
begins_three-short (a ∷ b ∷ []) few = refl
begins_three-short (a ∷ b ∷ c ∷ rest) few = absurd (omega arith)

-- places without a run, and then one with a run or the end
pub plain_len_is : (bytes : List ℕ) (n : ℕ) → n ≤ length bytes → ((k : ℕ) → k < n → begins_three (drop k bytes) ≡ false) → (n < length bytes → begins_three (drop n bytes) ≡ true) → plain_len bytes ≡ n
plain_len_is [] n within plain stops = omega arith
plain_len_is (byte ∷ rest) zero within plain stops = rw (stops (omega arith)) refl
plain_len_is (byte ∷ rest) (suc n) within plain stops =
    let here : begins_three (byte ∷ rest) ≡ false = plain 0 (omega arith) in
    rw here (ap suc (plain_len_is rest n (omega arith) (λ k lt. plain (suc k) (omega arith)) (λ lt. stops (omega arith))))

-- as many places without a run at least
pub plain_len_ge : (bytes : List ℕ) (n : ℕ) → n ≤ length bytes → ((k : ℕ) → k < n → begins_three (drop k bytes) ≡ false) → n ≤ plain_len bytes
plain_len_ge bytes zero within plain = omega arith
plain_len_ge [] (suc n) within plain = absurd (omega arith)
plain_len_ge (byte ∷ rest) (suc n) within plain =
    let here : begins_three (byte ∷ rest) ≡ false = plain 0 (omega arith) in
    rw here (let more = plain_len_ge rest n (omega arith) (λ k lt. plain (suc k) (omega arith)) in omega arith)

not_false : (b : Bool) → not b ≡ false → b ≡ true
not_false true is = refl
not_false false is = cc

not_true : (b : Bool) → not b ≡ true → b ≡ false
not_true true is = cc
not_true false is = refl

-- what holds at the first places from one on, and at those behind them, holds at all
pub at_more : (holds : ℕ → Type 0) (at count more : ℕ) → ((k : ℕ) → k < count → holds (at + k)) → ((k : ℕ) → k < more → holds (at + count + k)) → (k : ℕ) → k < count + more → holds (at + k)
at_more holds at count more earlier later k lt = elim (cases_lt k count) [
  | inl before ↦ earlier k before
  | inr here ↦ let place : at + count + (k - count) ≡ at + k = omega arith in subst holds place (later (k - count) (omega arith))
]

-- what a search for another byte found
pub record FindsOther (bytes : List ℕ) (at byte found : ℕ) : Type 0 where
  pub within : found ≤ 16
  pub equal : (k : ℕ) → k < found → get_or bytes (at + k) 0 ≡ byte
  pub other : found < 16 → get_or bytes (at + found) 0 ≢ byte

pub finds_other : (bytes : List ℕ) (at byte found : ℕ) → at + 16 ≤ length bytes → found ≡ prefix_len (λ x. not (not (eqb x byte))) (chunk at 16 bytes) → FindsOther bytes at byte found
finds_other bytes at byte found room counted = record {
  within = run_in_chunk_le (λ x. not (eqb x byte)) bytes at 16 found 0 room counted;
  equal = λ k lt. eqb-true _ byte (not_false _ (run_in_chunk_fails (λ x. not (eqb x byte)) bytes at 16 found 0 room counted (at + k) (omega arith) (omega arith)));
  other = λ lt. eqb-false _ byte (not_true _ (run_in_chunk_stops (λ x. not (eqb x byte)) bytes at 16 found 0 room counted lt));
}

-- what a search for a run found
pub record FindsRun (bytes : List ℕ) (at found : ℕ) : Type 0 where
  pub within : found ≤ 16
  pub plain : (k : ℕ) → k < found → begins_three (drop (at + k) bytes) ≡ false
  pub run : found < 16 → begins_three (drop (at + found) bytes) ≡ true

-- where three neighbours differ, in sixteen lanes
abbrev pub far_in : List ℕ → ℕ → List ℕ
far_in bytes at = zip2 bit_or (zip2 bit_xor (chunk at 16 bytes) (chunk (at + 1) 16 bytes)) (zip2 bit_xor (chunk (at + 1) 16 bytes) (chunk (at + 2) 16 bytes))

pub length-far_in : (bytes : List ℕ) (at : ℕ) → at + 18 ≤ length bytes → length (far_in bytes at) ≡ 16
length-far_in bytes at room =
    let a = length-chunk at 16 bytes (omega arith) in
    let b = length-chunk (at + 1) 16 bytes (omega arith) in
    let c = length-chunk (at + 2) 16 bytes (omega arith) in
    let ab = length-zip2 bit_xor (chunk at 16 bytes) (chunk (at + 1) 16 bytes) (a ∙ sym b) in
    let bc = length-zip2 bit_xor (chunk (at + 1) 16 bytes) (chunk (at + 2) 16 bytes) (b ∙ sym c) in
    length-zip2 bit_or (zip2 bit_xor (chunk at 16 bytes) (chunk (at + 1) 16 bytes)) (zip2 bit_xor (chunk (at + 1) 16 bytes) (chunk (at + 2) 16 bytes)) (ab ∙ a ∙ sym b ∙ sym bc) ∙ ab ∙ a

-- a lane is 0 exactly where a run begins
lane_of_run : (bytes : List ℕ) (at k : ℕ) → at + 18 ≤ length bytes → k < 16 → eqb (get_or (far_in bytes at) k 0) 0 ≡ begins_three (drop (at + k) bytes)
lane_of_run bytes at k room inside =
    let first = chunk at 16 bytes in
    let second = chunk (at + 1) 16 bytes in
    let third = chunk (at + 2) 16 bytes in
    let a = length-chunk at 16 bytes (omega arith) in
    let b = length-chunk (at + 1) 16 bytes (omega arith) in
    let c = length-chunk (at + 2) 16 bytes (omega arith) in
    let ab = length-zip2 bit_xor first second (a ∙ sym b) in
    let bc = length-zip2 bit_xor second third (b ∙ sym c) in
    let x = get_or-chunk at 16 bytes k 0 inside in
    let y : get_or second k 0 ≡ get_or bytes (at + k + 1) 0 = get_or-chunk (at + 1) 16 bytes k 0 inside ∙ ap (λ i. get_or bytes i 0) (plus_one at k) in
    let z : get_or third k 0 ≡ get_or bytes (at + k + 2) 0 = get_or-chunk (at + 2) 16 bytes k 0 inside ∙ ap (λ i. get_or bytes i 0) (plus_two at k) in
    let here = get_or-zip2 bit_xor first second k 0 0 0 (omega arith) (omega arith) ∙ ap (λ v. bit_xor v (get_or second k 0)) x ∙ ap (bit_xor (get_or bytes (at + k) 0)) y in
    let next = get_or-zip2 bit_xor second third k 0 0 0 (omega arith) (omega arith) ∙ ap (λ v. bit_xor v (get_or third k 0)) y ∙ ap (bit_xor (get_or bytes (at + k + 1) 0)) z in
    ap (λ v. eqb v 0) (get_or-zip2 bit_or (zip2 bit_xor first second) (zip2 bit_xor second third) k 0 0 0 (omega arith) (omega arith)
    ∙ ap (λ v. bit_or v (get_or (zip2 bit_xor second third) k 0)) here ∙ ap (bit_or (bit_xor (get_or bytes (at + k) 0) (get_or bytes (at + k + 1) 0))) next)
    ∙ differs (get_or bytes (at + k) 0) (get_or bytes (at + k + 1) 0) (get_or bytes (at + k + 2) 0)
    ∙ sym (begins_three-drop bytes (at + k) (omega arith))
  where
    plus_one : (at k : ℕ) → at + 1 + k ≡ at + k + 1
    plus_one at k = omega arith

    plus_two : (at k : ℕ) → at + 2 + k ≡ at + k + 2
    plus_two at k = omega arith

pub finds_run : (bytes : List ℕ) (at found : ℕ) → at + 18 ≤ length bytes → found ≡ prefix_len (λ x. not (eqb x 0)) (far_in bytes at) → FindsRun bytes at found
finds_run bytes at found room counted =
    let far = far_in bytes at in
    let long = length-far_in bytes at room in
    let within : found ≤ 16 = omega (arith, prefix_len-le-length (λ x. not (eqb x 0)) far) in
    record {
      within = within;
      plain = λ k lt. sym (lane_of_run bytes at k room (omega arith)) ∙ not_true _ (prefix_len_passes (λ x. not (eqb x 0)) far k 0 (omega arith));
      run = λ lt. sym (lane_of_run bytes at found room lt) ∙ ap (λ k. eqb (get_or far k 0) 0) counted ∙ not_false _ (prefix_len_stops (λ x. not (eqb x 0)) far 0 (omega arith));
    }

-- a run that has so many bytes, and then another byte, the end or no room
run_len-drop : (bytes : List ℕ) (at : ℕ) → at < length bytes → run_len (drop at bytes) ≡ min 128 (1 + prefix_len (λ x. eqb x (get_or bytes at 0)) (drop (at + 1) bytes))
run_len-drop bytes at inside = ap run_len (drop_more bytes at 0 inside)

passes : (bytes : List ℕ) (at count : ℕ) → ((k : ℕ) → k < count → get_or bytes (at + k) 0 ≡ get_or bytes at 0) → (k : ℕ) → k + 1 < count → eqb (get_or (drop (at + 1) bytes) k 0) (get_or bytes at 0) ≡ true
passes bytes at count equal k lt = eq-eqb _ _ (get_or-drop (at + 1) bytes k 0 ∙ ap (λ i. get_or bytes i 0) (omega arith) ∙ equal (k + 1) lt)

pub run_len_ends : (bytes : List ℕ) (at count : ℕ) → at < length bytes → 1 ≤ count → count ≤ 128 → at + count ≤ length bytes
    → ((k : ℕ) → k < count → get_or bytes (at + k) 0 ≡ get_or bytes at 0) → (at + count < length bytes → get_or bytes (at + count) 0 ≢ get_or bytes at 0) → run_len (drop at bytes) ≡ count
run_len_ends bytes at count inside some few within equal ends =
    let byte = get_or bytes at 0 in
    let rest = drop (at + 1) bytes in
    let long = length-drop (at + 1) bytes in
    let stops : count - 1 < length rest → eqb (get_or rest (count - 1) 0) byte ≡ false = λ lt. ne_eqb _ byte (λ same. ends (omega arith) (ap (λ i. get_or bytes i 0) (back at count some) ∙ sym (get_or-drop (at + 1) bytes (count - 1) 0) ∙ same)) in
    let counted = prefix_len_is (λ x. eqb x byte) rest (count - 1) 0 (omega arith) (λ k lt. passes bytes at count equal k (omega arith)) stops in
    run_len-drop bytes at inside ∙ omega (arith, counted)
  where
    back : (at count : ℕ) → 1 ≤ count → at + count ≡ at + 1 + (count - 1)
    back at count some = omega arith

pub run_len_full : (bytes : List ℕ) (at : ℕ) → at + 128 ≤ length bytes → ((k : ℕ) → k < 128 → get_or bytes (at + k) 0 ≡ get_or bytes at 0) → run_len (drop at bytes) ≡ 128
run_len_full bytes at within equal =
    let byte = get_or bytes at 0 in
    let rest = drop (at + 1) bytes in
    let long = length-drop (at + 1) bytes in
    let enough : 127 ≤ prefix_len (λ x. eqb x byte) rest = elim (cases_lt (prefix_len (λ x. eqb x byte) rest) 127) [
      | inl few ↦ absurd (let stops = prefix_len_stops (λ x. eqb x byte) rest 0 (omega arith) in false≢true (sym stops ∙ passes bytes at 128 equal _ (omega arith)))
      | inr le ↦ le
    ] in
    run_len-drop bytes at (omega arith) ∙ omega (arith, enough)

-- a literal that has so many bytes, and then a run, the end or no room
plain_from : (bytes : List ℕ) (at count : ℕ) → ((k : ℕ) → k < count → begins_three (drop (at + k) bytes) ≡ false) → (k : ℕ) → k < count → begins_three (drop k (drop at bytes)) ≡ false
plain_from bytes at count plain k lt = ap begins_three (drop-drop k at bytes) ∙ plain k lt

pub literal_ends : (bytes : List ℕ) (at count : ℕ) → at < length bytes → count ≤ 127 → at + count ≤ length bytes
    → ((k : ℕ) → k < count → begins_three (drop (at + k) bytes) ≡ false) → (at + count < length bytes → begins_three (drop (at + count) bytes) ≡ true) → min 127 (plain_len (drop at bytes)) ≡ count
literal_ends bytes at count inside few within plain stops =
    let long = length-drop at bytes in
    let counted = plain_len_is (drop at bytes) count (omega arith) (plain_from bytes at count plain) (λ lt. ap begins_three (drop-drop count at bytes) ∙ stops (omega arith)) in
    omega (arith, counted)

pub literal_full : (bytes : List ℕ) (at : ℕ) → at + 127 ≤ length bytes → ((k : ℕ) → k < 127 → begins_three (drop (at + k) bytes) ≡ false) → min 127 (plain_len (drop at bytes)) ≡ 127
literal_full bytes at within plain =
    let long = length-drop at bytes in
    let enough = plain_len_ge (drop at bytes) 127 (omega arith) (plain_from bytes at 127 plain) in
    omega (arith, enough)
