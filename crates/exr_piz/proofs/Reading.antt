-- The values that a stored map marks, one after the other.
use Rattle.std.proofs.Common.{◌≡◌, ℕ, ◌+◌, ◌-◌, ◌*◌, ◌/◌, ◌%◌, ◌^◌, ◌<◌, ◌≤◌, Bool, false, cond, eqb, List, [], ◌∷◌, ◌++◌, length, take, get_or, set, refl, sym, ap, ◌∙◌, arith}
use Rattle.std.proofs.lemmas.List.{get_or_past}
use Rattle.std.proofs.lemmas.Bool.{ne_eqb, le-leb, lt-leb}
use Rattle.std.proofs.Math.Nat.{zero-div}
use Rattle.exr_piz.specs.Values.{passing_below, is_present, values_of}
use Rattle.exr_piz.proofs.Passing.{passing-none, passing-yes, passing-up_to, passing-more, kept_behind}

-- no value below the first byte's is marked
pub none_before : (first : ℕ) (bytes : List ℕ) (v : ℕ) → 1 ≤ v → v < 8 * first → is_present first bytes v ≡ false
none_before first bytes v some before =
    let early : v / 8 < first = omega arith in
    rw (ne_eqb v 0 (λ e. absurd (omega arith)), lt-leb first (v / 8) early) refl

-- the bit of a value from the first byte on
pub present_there : (first : ℕ) (bytes : List ℕ) (v : ℕ) → 1 ≤ v → 8 * first ≤ v → is_present first bytes v ≡ eqb (get_or bytes (v / 8 - first) 0 / 2 ^ (v % 8) % 2) 1
present_there first bytes v some there =
    let late : first ≤ v / 8 = omega arith in
    rw (ne_eqb v 0 (λ e. absurd (omega arith)), le-leb first (v / 8) late) refl

none_in_zero : (n : ℕ) → eqb (0 / n % 2) 1 ≡ false
none_in_zero n = rw (zero-div n) refl

-- no value past the bytes is marked
pub none_past : (first : ℕ) (bytes : List ℕ) (v : ℕ) → 1 ≤ v → 8 * (first + length bytes) ≤ v → is_present first bytes v ≡ false
none_past first bytes v some past =
    let there : 8 * first ≤ v = omega arith in
    present_there first bytes v some there
    ∙ ap (λ byte. eqb (byte / 2 ^ (v % 8) % 2) 1) (get_or_past bytes (v / 8 - first) 0 (omega arith))
    ∙ none_in_zero (2 ^ (v % 8))

-- before the first byte's values there is 0 alone
pub zero_alone : (first : ℕ) (bytes : List ℕ) (v : ℕ) → 1 ≤ v → v ≤ 1 + 8 * first → (v ≤ 1) → passing_below (is_present first bytes) v ≡ 0 ∷ []
zero_alone first bytes v some low one =
    ap (passing_below (is_present first bytes)) (let e : v ≡ 0 + 1 = omega arith in e)
    ∙ passing-yes (is_present first bytes) 0 refl
    ∙ ap (λ (vs : List ℕ). vs ++ 0 ∷ []) (passing-none (is_present first bytes))

pub zero_first : (first : ℕ) (bytes : List ℕ) (v : ℕ) → 1 ≤ v → (1 < v → v ≤ 8 * first) → passing_below (is_present first bytes) v ≡ 0 ∷ []
zero_first first bytes v some low =
    passing-up_to (is_present first bytes) 1 v some (λ u from below. none_before first bytes u from (let l = low (omega arith) in omega arith))
    ∙ zero_alone first bytes 1 (omega arith) (omega arith) (omega arith)

-- one value more
pub value_more : (first : ℕ) (bytes values : List ℕ) (count v bit : ℕ) → 1 ≤ v → 8 * first ≤ v → count < length values → bit ≡ get_or bytes (v / 8 - first) 0 / 2 ^ (v % 8) % 2
    → take count values ≡ passing_below (is_present first bytes) v → take (count + bit) (set values count v) ≡ passing_below (is_present first bytes) (v + 1)
value_more first bytes values count v bit some there within is so_far =
    let test = is_present first bytes in
    let few : bit < 2 = omega arith in
    kept_behind values (passing_below test v) count v bit within so_far few
    ∙ ap (λ (b : Bool). passing_below test v ++ cond b (v ∷ []) []) (ap (λ n. eqb n 1) is ∙ sym (present_there first bytes v some there))
    ∙ sym (passing-more test v)

-- all values are there
pub values_all : (first : ℕ) (bytes : List ℕ) (v : ℕ) → 1 ≤ v → v ≤ 65536 → 8 * (first + length bytes) ≤ v → passing_below (is_present first bytes) v ≡ values_of first bytes
unfolding values_of
values_all first bytes v some high past = sym (passing-up_to (is_present first bytes) v 65536 high (λ u from below. none_past first bytes u (omega arith) (omega arith)))
