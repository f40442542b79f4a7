-- The writer's tokens, one at a place.
use Rattle.std.proofs.Common.{◌≡◌, ℕ, zero, suc, ◌+◌, ◌-◌, ◌<◌, ◌≤◌, Bool, true, false, ◌&&◌, cond, eqb, List, [], ◌∷◌, ◌++◌, length, get_or, take, drop, min, refl, sym, ap, ◌∙◌, arith}
use Rattle.std.specs.List.{prefix_len}
use Rattle.std.proofs.lemmas.Bool.{eqb-true, eq-eqb}
use Rattle.std.proofs.lemmas.List.{length-replicate, length-take-le, length-drop, drop-drop, drop_all, get_or-drop}
use Rattle.std.proofs.lemmas.List.Sums.{prefix_len-le-length}
use Rattle.exr_rle.specs.Token.{repeat, literal, token_bytes, token_spelling, spelling_of}
use Rattle.exr_rle.specs.Packed.{run_len, begins_three, plain_len, first_token_of, tokens_within, tokens_of}

pub plain_len-le-length : (bytes : List ℕ) → plain_len bytes ≤ length bytes
plain_len-le-length [] = omega arith
plain_len-le-length (byte ∷ rest) = by_run (begins_three (byte ∷ rest)) (plain_len-le-length rest)
  where
    by_run : (b : Bool) → plain_len rest ≤ length rest → cond b 0 (suc (plain_len rest)) ≤ suc (length rest)
    by_run true le = omega arith
    by_run false le = omega arith

pub plain_len-some : (bytes : List ℕ) → 0 < length bytes → begins_three bytes ≡ false → 1 ≤ plain_len bytes
plain_len-some [] some plain = absurd (omega arith)
plain_len-some (byte ∷ rest) some plain = rw plain (omega arith)

pub plain_len_stops : (bytes : List ℕ) → plain_len bytes < length bytes → begins_three (drop (plain_len bytes) bytes) ≡ true
plain_len_stops [] lt = absurd (omega arith)
plain_len_stops (byte ∷ rest) lt = by_run (begins_three (byte ∷ rest)) refl (plain_len_stops rest) lt
  where
    by_run : (b : Bool) → begins_three (byte ∷ rest) ≡ b → (plain_len rest < length rest → begins_three (drop (plain_len rest) rest) ≡ true) → cond b 0 (suc (plain_len rest)) < suc (length rest) → begins_three (drop (cond b 0 (suc (plain_len rest))) (byte ∷ rest)) ≡ true
    by_run true is later lt = is
    by_run false is later lt = later (omega arith)

both_true : (a b : Bool) → (a && b) ≡ true → (a ≡ true) × (b ≡ true)
both_true true b is = (refl, is)
both_true false b is = cc

pub run_len-three : (bytes : List ℕ) → begins_three bytes ≡ true → (3 ≤ run_len bytes) × (3 ≤ length bytes)
run_len-three [] is = cc
run_len-three (a ∷ []) is = cc
run_len-three (a ∷ b ∷ []) is = cc
run_len-three (a ∷ b ∷ c ∷ rest) is =
    let parts = both_true (eqb a b) (eqb b c) is in
    let ab : a ≡ b = eqb-true a b parts.0 in
    let bc : b ≡ c = eqb-true b c parts.1 in
    (three a b c rest (eq-eqb b a (sym ab)) (eq-eqb c a (sym (ab ∙ bc))), omega arith)
  where
    three : (a b c : ℕ) (rest : List ℕ) → eqb b a ≡ true → eqb c a ≡ true → 3 ≤ min 128 (1 + prefix_len (λ x. eqb x a) (b ∷ c ∷ rest))
    three a b c rest ba ca = rw ba (rw ca (omega arith))

pub run_len-le : (bytes : List ℕ) → (run_len bytes ≤ length bytes) × (run_len bytes ≤ 128)
run_len-le [] = (omega arith, omega arith)
run_len-le (byte ∷ rest) = (omega (arith, prefix_len-le-length (λ x. eqb x byte) rest), omega arith)

-- the first token, where a run stands and where none does
pub first_run : (bytes : List ℕ) → begins_three bytes ≡ true → first_token_of bytes ≡ repeat (get_or bytes 0 0) (run_len bytes)
first_run [] is = cc
first_run (byte ∷ rest) is = rw is refl

pub first_literal : (bytes : List ℕ) → begins_three bytes ≡ false → first_token_of bytes ≡ literal (take (min 127 (plain_len bytes)) bytes)
first_literal [] is = refl
first_literal (byte ∷ rest) is = rw is refl

pub length-literal : (bytes : List ℕ) → length (take (min 127 (plain_len bytes)) bytes) ≡ min 127 (plain_len bytes)
length-literal bytes = length-take-le (min 127 (plain_len bytes)) bytes (let le = plain_len-le-length bytes in omega arith)

pub token_some : (bytes : List ℕ) → 0 < length bytes → 1 ≤ length (token_bytes (first_token_of bytes))
token_some bytes some = by_run (begins_three bytes) refl
  where
    by_run : (b : Bool) → begins_three bytes ≡ b → 1 ≤ length (token_bytes (first_token_of bytes))
    by_run true is = let three = run_len-three bytes is in omega (arith, ap (λ t. length (token_bytes t)) (first_run bytes is), length-replicate (run_len bytes) (get_or bytes 0 0))
    by_run false is = let one = plain_len-some bytes some is in omega (arith, ap (λ t. length (token_bytes t)) (first_literal bytes is), length-literal bytes)

tokens_enough : (n m : ℕ) (bytes : List ℕ) → length bytes ≤ n → length bytes ≤ m → tokens_within n bytes ≡ tokens_within m bytes
unfolding tokens_within
tokens_enough zero zero bytes le le' = refl
tokens_enough zero (suc m) [] le le' = refl
tokens_enough zero (suc m) (byte ∷ rest) le le' = absurd (omega arith)
tokens_enough (suc n) zero [] le le' = refl
tokens_enough (suc n) zero (byte ∷ rest) le le' = absurd (omega arith)
tokens_enough (suc n) (suc m) [] le le' = refl
tokens_enough (suc n) (suc m) (byte ∷ rest) le le' =
    let bytes = byte ∷ rest in
    let token = first_token_of bytes in
    let some = token_some bytes (omega arith) in
    let long = length-drop (length (token_bytes token)) bytes in
    ap (λ tokens. token ∷ tokens) (tokens_enough n m (drop (length (token_bytes token)) bytes) (omega arith) (omega arith))

-- the first token and those of the rest
tokens_of-first : (bytes : List ℕ) → 0 < length bytes → tokens_of bytes ≡ first_token_of bytes ∷ tokens_of (drop (length (token_bytes (first_token_of bytes))) bytes)
unfolding tokens_within
tokens_of-first [] some = absurd (omega arith)
tokens_of-first (byte ∷ rest) some =
    let bytes = byte ∷ rest in
    let token = first_token_of bytes in
    let one = token_some bytes (omega arith) in
    let later = drop (length (token_bytes token)) bytes in
    let long = length-drop (length (token_bytes token)) bytes in
    ap (λ tokens. token ∷ tokens) (tokens_enough (length rest) (length later) later (omega arith) (omega arith))

pub spelling-end : (bytes : List ℕ) (at : ℕ) → length bytes ≤ at → spelling_of (tokens_of (drop at bytes)) ≡ []
unfolding tokens_within
spelling-end bytes at le = ap (λ rest. spelling_of (tokens_of rest)) (drop_all at bytes le)

pub spelling-run : (bytes : List ℕ) (at : ℕ) → at < length bytes → begins_three (drop at bytes) ≡ true
    → spelling_of (tokens_of (drop at bytes)) ≡ (run_len (drop at bytes) - 1) ∷ get_or bytes at 0 ∷ spelling_of (tokens_of (drop (at + run_len (drop at bytes)) bytes))
spelling-run bytes at inside is =
    let rest = drop at bytes in
    let count = run_len rest in
    let first = first_run rest is in
    let long : length (token_bytes (first_token_of rest)) ≡ count = ap (λ t. length (token_bytes t)) first ∙ length-replicate count (get_or rest 0 0) in
    let byte : get_or rest 0 0 ≡ get_or bytes at 0 = get_or-drop at bytes 0 0 ∙ ap (λ i. get_or bytes i 0) (plus_none at) in
    ap spelling_of (tokens_of-first rest (omega (arith, length-drop at bytes)))
    ∙ ap (λ t. token_spelling t ++ spelling_of (tokens_of (drop (length (token_bytes (first_token_of rest))) rest))) first
    ∙ ap (λ b. (count - 1) ∷ b ∷ spelling_of (tokens_of (drop (length (token_bytes (first_token_of rest))) rest))) byte
    ∙ ap (λ k. (count - 1) ∷ get_or bytes at 0 ∷ spelling_of (tokens_of (drop k rest))) long
    ∙ ap (λ later. (count - 1) ∷ get_or bytes at 0 ∷ spelling_of (tokens_of later)) (drop-drop count at bytes)
  where
    plus_none : (at : ℕ) → at + 0 ≡ at
    plus_none at = omega arith

pub spelling-literal : (bytes : List ℕ) (at : ℕ) → at < length bytes → begins_three (drop at bytes) ≡ false
    → spelling_of (tokens_of (drop at bytes)) ≡ (256 - min 127 (plain_len (drop at bytes))) ∷ (take (min 127 (plain_len (drop at bytes))) (drop at bytes) ++ spelling_of (tokens_of (drop (at + min 127 (plain_len (drop at bytes))) bytes)))
spelling-literal bytes at inside is =
    let rest = drop at bytes in
    let count = min 127 (plain_len rest) in
    let first = first_literal rest is in
    let long : length (token_bytes (first_token_of rest)) ≡ count = ap (λ t. length (token_bytes t)) first ∙ length-literal rest in
    ap spelling_of (tokens_of-first rest (omega (arith, length-drop at bytes)))
    ∙ ap (λ t. token_spelling t ++ spelling_of (tokens_of (drop (length (token_bytes (first_token_of rest))) rest))) first
    ∙ ap (λ k. (256 - k) ∷ (take count rest ++ spelling_of (tokens_of (drop (length (token_bytes (first_token_of rest))) rest)))) (length-literal rest)
    ∙ ap (λ k. (256 - count) ∷ (take count rest ++ spelling_of (tokens_of (drop k rest)))) long
    ∙ ap (λ later. (256 - count) ∷ (take count rest ++ spelling_of (tokens_of later))) (drop-drop count at bytes)
