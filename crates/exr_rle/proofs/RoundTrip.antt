-- What is packed unpacks to the same bytes.
use Rattle.std.proofs.Common.{◌≡◌, ℕ, zero, suc, ◌+◌, ◌-◌, ◌*◌, ◌/◌, ◌%◌, ◌<◌, ◌≤◌, Bool, true, false, cond, eqb, List, [], ◌∷◌, ◌++◌, length, get_or, take, drop, replicate, sum, Ok, inl, inr, refl, sym, ap, subst, ◌∙◌, arith}
use Rattle.std.specs.List.{prefix_len, AllByRecursion}
use Rattle.std.proofs.lemmas.Bool.{cases_lt, eqb-true, eqb-false}
use Rattle.std.proofs.lemmas.List.{length-replicate, length-drop, length-append, take-append-drop, get_or_append_left, get_or-append_right, get_or-append-add}
use Rattle.std.proofs.lemmas.List.Sums.{sum_by-cons}
use Rattle.exr_rle.specs.Token.{IsToken, token_bytes, expansion_of}
use Rattle.exr_rle.specs.Unpacked.{rle_of, raw_of, restored_at, restored_after}
use Rattle.exr_rle.specs.Packed.{evens_of, odds_of, differences_after, differences_of, run_len, begins_three, first_token_of, tokens_within, tokens_of, rle_pack_of}
use Rattle.exr_rle.proofs.Laws.{rle_of-spelling, raw_of-by_place, AreBytes}
use Rattle.exr_rle.proofs.Places.{length-evens_of, length-odds_of, get_or-evens_of, get_or-odds_of, length-differences_after}
use Rattle.exr_rle.proofs.Writer.{first_run, first_literal, length-literal, token_some, run_len-three, run_len-le, plain_len-some}

-- ---- the tokens are tokens, and stand for the bytes

same_prefix : (byte count : ℕ) (bytes : List ℕ) → count ≤ prefix_len (λ x. eqb x byte) bytes → replicate count byte ≡ take count bytes
same_prefix byte zero bytes le = refl
same_prefix byte (suc count) [] le = absurd (omega arith)
same_prefix byte (suc count) (x ∷ bytes) le = by_test (eqb x byte) refl le (same_prefix byte count bytes)
  where
    by_test : (b : Bool) → eqb x byte ≡ b → suc count ≤ cond b (1 + prefix_len (λ x. eqb x byte) bytes) 0 → (count ≤ prefix_len (λ x. eqb x byte) bytes → replicate count byte ≡ take count bytes) → byte ∷ replicate count byte ≡ x ∷ take count bytes
    by_test true is le later = ap (λ y. y ∷ replicate count byte) (sym (eqb-true x byte is)) ∙ ap (λ rest. x ∷ rest) (later (omega arith))
    by_test false is le later = absurd (omega arith)

run_bytes : (bytes : List ℕ) (count : ℕ) → count ≤ run_len bytes → replicate count (get_or bytes 0 0) ≡ take count bytes
run_bytes bytes zero le = refl
run_bytes [] (suc count) le = absurd (omega arith)
run_bytes (byte ∷ rest) (suc count) le = ap (λ rest. byte ∷ rest) (same_prefix byte count rest (omega arith))

token_front : (bytes : List ℕ) → token_bytes (first_token_of bytes) ≡ take (length (token_bytes (first_token_of bytes))) bytes
token_front bytes = by_run (begins_three bytes) refl
  where
    by_run : (b : Bool) → begins_three bytes ≡ b → token_bytes (first_token_of bytes) ≡ take (length (token_bytes (first_token_of bytes))) bytes
    by_run true is = rw (first_run bytes is) (run_bytes bytes (run_len bytes) (omega arith) ∙ ap (λ n. take n bytes) (sym (length-replicate (run_len bytes) (get_or bytes 0 0))))
    by_run false is = rw (first_literal bytes is) (ap (λ n. take n bytes) (sym (length-literal bytes)))

token_is : (bytes : List ℕ) → 0 < length bytes → IsToken (first_token_of bytes)
token_is bytes some = by_run (begins_three bytes) refl
  where
    by_run : (b : Bool) → begins_three bytes ≡ b → IsToken (first_token_of bytes)
    by_run true is = rw (first_run bytes is) (let three = run_len-three bytes is in let le = run_len-le bytes in (omega arith, omega arith))
    by_run false is = rw (first_literal bytes is) (let one = plain_len-some bytes some is in let long = length-literal bytes in (omega arith, omega arith))

tokens_are : (n : ℕ) (bytes : List ℕ) → AllByRecursion IsToken (tokens_within n bytes)
unfolding tokens_within
tokens_are zero bytes = tt
tokens_are (suc n) [] = tt
tokens_are (suc n) (byte ∷ rest) = (token_is (byte ∷ rest) (omega arith), tokens_are n (drop (length (token_bytes (first_token_of (byte ∷ rest)))) (byte ∷ rest)))

expansion-tokens_within : (n : ℕ) (bytes : List ℕ) → length bytes ≤ n → expansion_of (tokens_within n bytes) ≡ bytes
unfolding tokens_within
expansion-tokens_within zero [] le = refl
expansion-tokens_within zero (byte ∷ rest) le = absurd (omega arith)
expansion-tokens_within (suc n) [] le = refl
expansion-tokens_within (suc n) (byte ∷ rest) le =
    let bytes = byte ∷ rest in
    let long = length (token_bytes (first_token_of bytes)) in
    let some = token_some bytes (omega arith) in
    ap (λ later. token_bytes (first_token_of bytes) ++ later) (expansion-tokens_within n (drop long bytes) (omega (arith, length-drop long bytes)))
    ∙ ap (λ front. front ++ drop long bytes) (token_front bytes) ∙ take-append-drop long bytes

-- ---- sums of differences

restored-differences_after : (before : ℕ) (bytes : List ℕ) (k : ℕ) → before < 256 → AreBytes bytes → k < length bytes → restored_after before (differences_after before bytes) (suc k) ≡ get_or bytes k 0
restored-differences_after before [] k small are inside = absurd (omega arith)
restored-differences_after before (byte ∷ rest) zero small are inside =
    let byte_small : byte < 256 = are 0 in
    let d = (byte + 384 - before) % 256 in
    let one : sum (d ∷ []) ≡ d = sum_by-cons (λ x. x) d [] ∙ omega arith in
    omega arith
restored-differences_after before (byte ∷ rest) (suc k) small are inside =
    let byte_small : byte < 256 = are 0 in
    let later = restored-differences_after byte rest k byte_small (λ k. are (suc k)) (omega arith) in
    let d = (byte + 384 - before) % 256 in
    let front = take (suc k) (differences_after byte rest) in
    let cons : sum (d ∷ front) ≡ d + sum front = sum_by-cons (λ x. x) d front in
    omega (arith, later, cons) ∙ later

restored-differences_of : (bytes : List ℕ) (k : ℕ) → AreBytes bytes → k < length bytes → restored_at (differences_of bytes) k ≡ get_or bytes k 0
restored-differences_of [] k are inside = absurd (omega arith)
restored-differences_of (byte ∷ rest) zero are inside =
    let byte_small : byte < 256 = are 0 in
    let one : sum (byte ∷ []) ≡ byte = sum_by-cons (λ x. x) byte [] ∙ omega arith in
    omega arith
restored-differences_of (byte ∷ rest) (suc k) are inside =
    let byte_small : byte < 256 = are 0 in
    let later = restored-differences_after byte rest k byte_small (λ k. are (suc k)) (omega arith) in
    let front = take (suc k) (differences_after byte rest) in
    let cons : sum (byte ∷ front) ≡ byte + sum front = sum_by-cons (λ x. x) byte front in
    let two : take (suc k + 1) (byte ∷ differences_after byte rest) ≡ byte ∷ front = ap (λ n. take n (byte ∷ differences_after byte rest)) (plus_one k) in
    ap (λ taken. (sum taken + 128 * suc k) % 256) two ∙ omega (arith, cons) ∙ later
  where
    plus_one : (k : ℕ) → suc k + 1 ≡ suc (suc k)
    plus_one k = omega arith

-- ---- the round trip

halves_are : (raw : List ℕ) → AreBytes raw → AreBytes (evens_of raw ++ odds_of raw)
halves_are raw are k = elim (cases_lt k (length (evens_of raw))) [
  | inl lt ↦ subst (λ b. b < 256) (sym (get_or_append_left (evens_of raw) (odds_of raw) 0 k lt ∙ get_or-evens_of raw k)) (are (2 * k))
  | inr le ↦ subst (λ b. b < 256) (sym (get_or-append_right (evens_of raw) (odds_of raw) (length (evens_of raw)) k 0 refl le ∙ get_or-odds_of raw (k - length (evens_of raw)))) (are (2 * (k - length (evens_of raw)) + 1))
]

length-differences_of : (bytes : List ℕ) → length (differences_of bytes) ≡ length bytes
length-differences_of [] = refl
length-differences_of (byte ∷ rest) = ap suc (length-differences_after byte rest)

length-halved : (raw : List ℕ) → length (differences_of (evens_of raw ++ odds_of raw)) ≡ length raw
length-halved raw = length-differences_of (evens_of raw ++ odds_of raw) ∙ omega (arith, length-append (evens_of raw) (odds_of raw), length-evens_of raw, length-odds_of raw)

abbrev halves_of : List ℕ → List ℕ
halves_of raw = evens_of raw ++ odds_of raw

abbrev halved : List ℕ → List ℕ
halved raw = differences_of (halves_of raw)

even_place : (k : ℕ) → k % 2 ≡ 0 → k ≡ 2 * (k / 2)
even_place k even = omega arith

odd_place : (k : ℕ) → (k % 2 ≡ 0 → ⊥) → k ≡ 2 * (k / 2) + 1
odd_place k odd = omega arith

odd_within : (k n : ℕ) → (k % 2 ≡ 0 → ⊥) → k < n → {m : ℕ} → m ≡ (n + 1) / 2 → m + k / 2 < n
odd_within k n odd lt is = omega arith

raw_of-differences : (raw : List ℕ) → AreBytes raw → raw ≡ raw_of (halved raw)
raw_of-differences raw are = raw_of-by_place (halved raw) raw (sym (length-halved raw)) (λ k inside. by_parity k inside (eqb (k % 2) 0) refl)
  where
    at_half : (k : ℕ) → k < length raw → restored_at (halved raw) k ≡ get_or (halves_of raw) k 0
    at_half k inside = restored-differences_of (halves_of raw) k (halves_are raw are) (omega (arith, length-halved raw, length-differences_of (halves_of raw)))

    by_parity : (k : ℕ) → k < length raw → (b : Bool) → eqb (k % 2) 0 ≡ b → get_or raw k 0 ≡ cond b (restored_at (halved raw) (k / 2)) (restored_at (halved raw) ((length (halved raw) + 1) / 2 + k / 2))
    by_parity k inside true even =
        ap (λ i. get_or raw i 0) (even_place k (eqb-true (k % 2) 0 even)) ∙ sym (at_half (k / 2) (omega arith) ∙ get_or_append_left (evens_of raw) (odds_of raw) 0 (k / 2) (omega (arith, length-evens_of raw)) ∙ get_or-evens_of raw (k / 2))
    by_parity k inside false odd =
        let middle : (length (halved raw) + 1) / 2 ≡ length (evens_of raw) = ap (λ n. (n + 1) / 2) (length-halved raw) ∙ sym (length-evens_of raw) in
        let is_odd = eqb-false (k % 2) 0 odd in
        let place : (length (halved raw) + 1) / 2 + k / 2 ≡ length (evens_of raw) + k / 2 = ap (λ n. n + k / 2) middle in
        ap (λ i. get_or raw i 0) (odd_place k is_odd) ∙ sym (ap (restored_at (halved raw)) place ∙ at_half (length (evens_of raw) + k / 2) (odd_within k (length raw) is_odd inside (length-evens_of raw))
        ∙ get_or-append-add (evens_of raw) (odds_of raw) (k / 2) 0 ∙ get_or-odds_of raw (k / 2))

pub rle_of-rle_pack_of : (raw : List ℕ) → AreBytes raw → rle_of (rle_pack_of raw) (length raw) ≡ Ok raw
unfolding rle_pack_of
rle_of-rle_pack_of raw are =
    let bytes = differences_of (evens_of raw ++ odds_of raw) in
    rle_of-spelling (rle_pack_of raw) bytes (length raw) (record { tokens = tokens_of bytes; each = tokens_are (length bytes) bytes; spelled = refl; expanded = sym (expansion-tokens_within (length bytes) bytes (omega arith)) }) (length-halved raw)
    ∙ ap Ok (sym (raw_of-differences raw are))
