-- What is unpacked is spelled so, and what is spelled so is unpacked.
use Rattle.std.proofs.Common.{◌≡◌, ℕ, zero, suc, ◌+◌, ◌-◌, ◌/◌, ◌%◌, ◌<◌, ◌≤◌, Bool, true, false, cond, eqb, List, [], ◌∷◌, ◌++◌, length, get_or, take, drop, replicate, Option, Some, None, Result, Ok, Err, inl, inr, refl, sym, ap, subst, ◌∙◌, arith}
use Rattle.std.specs.List.{range_with_len, AllByRecursion}
use Rattle.std.specs.Option.{option_map}
use Rattle.std.proofs.lemmas.Bool.{cases_lt, lt-ltb, le-ltb, eq-eqb, eqb-true, eqb-false}
use Rattle.std.proofs.lemmas.List.{take_at, drop_at, length-append, length-take-le, length-drop, get_or-drop, take-append-drop, ext_get_or, length-map, length-replicate}
use Rattle.std.proofs.lemmas.List.FromFn.{get_or-map-range_with_len, length-range_with_len}
use Rattle.exr_rle.specs.Token.{Token, repeat, literal, IsToken, token_spelling, token_bytes, spelling_of, expansion_of, IsRleSpelling}
use Rattle.exr_rle.specs.Unpacked.{bytes_spelled, counts, rle_of, raw_at, raw_of, raw_if_counted, restored_at, broken, Unpacks}
use Rattle.exr_rle.specs.declared.broken.RleBroken.{RleBroken}
use Rattle.exr_rle.proofs.Walk.{literal_whole, literal_begins, one_more, run_whole, literal_cut, splits_some}

-- tokens are read as they are spelled
pub bytes_spelled-tokens : (tokens : List Token) → AllByRecursion IsToken tokens → bytes_spelled 0 (spelling_of tokens) ≡ Some (expansion_of tokens)
unfolding bytes_spelled
bytes_spelled-tokens [] each = refl
bytes_spelled-tokens (repeat byte count ∷ tokens) each =
    let rest = spelling_of tokens in
    run_whole (count - 1) byte rest (lt-ltb (count - 1) 128 (omega (arith, each.0)))
    ∙ ap (option_map (λ bytes. replicate (count - 1 + 1) byte ++ bytes)) (bytes_spelled-tokens tokens each.1)
    ∙ ap (λ n. Some (replicate n byte ++ expansion_of tokens)) (omega (arith, each.0))
bytes_spelled-tokens (literal bytes ∷ tokens) each =
    let rest = spelling_of tokens in
    let count = 256 - length bytes in
    let long : suc (255 - count) ≡ length bytes = omega (arith, each.0) in
    literal_begins count (bytes ++ rest) (le-ltb count 128 (omega (arith, each.0))) (omega (arith, each.0))
    ∙ ap (λ n. bytes_spelled n (bytes ++ rest)) long
    ∙ literal_whole (length bytes) (bytes ++ rest) (omega (arith, length-append bytes rest))
    ∙ ap (λ front. option_map (λ later. front ++ later) (bytes_spelled 0 (drop (length bytes) (bytes ++ rest)))) (take_at bytes rest (length bytes) refl)
    ∙ ap (λ back. option_map (λ later. bytes ++ later) (bytes_spelled 0 back)) (drop_at bytes rest (length bytes) refl)
    ∙ ap (option_map (λ later. bytes ++ later)) (bytes_spelled-tokens tokens each.1)

pub bytes_spelled-spelling : (packed bytes : List ℕ) → IsRleSpelling packed bytes → bytes_spelled 0 packed ≡ Some bytes
bytes_spelled-spelling packed bytes is = ap (bytes_spelled 0) is.spelled ∙ bytes_spelled-tokens is.tokens is.each ∙ ap Some (sym is.expanded)

-- bytes, in contrast to numbers
abbrev pub AreBytes : List ℕ → Type 0
AreBytes packed = (k : ℕ) → get_or packed k 0 < 256

with_token : (token : Token) (packed bytes : List ℕ) → IsToken token → IsRleSpelling packed bytes → IsRleSpelling (token_spelling token ++ packed) (token_bytes token ++ bytes)
with_token token packed bytes is rest = record {
  tokens = token ∷ rest.tokens;
  each = (is, rest.each);
  spelled = ap (λ later. token_spelling token ++ later) rest.spelled;
  expanded = ap (λ later. token_bytes token ++ later) rest.expanded;
}

same_spelling : (p q b d : List ℕ) → q ≡ p → d ≡ b → IsRleSpelling p b → IsRleSpelling q d
same_spelling p q b d packed bytes is = record { tokens = is.tokens; each = is.each; spelled = packed ∙ is.spelled; expanded = bytes ∙ is.expanded }

spelling_within : (n : ℕ) (packed bytes : List ℕ) → length packed ≤ n → AreBytes packed → bytes_spelled 0 packed ≡ Some bytes → IsRleSpelling packed bytes
unfolding bytes_spelled
spelling_within n [] bytes le are is = record { tokens = []; each = tt; spelled = refl; expanded = cc }
spelling_within zero (count ∷ rest) bytes le are is = absurd (omega arith)
spelling_within (suc n) (count ∷ []) bytes le are is = cc
spelling_within (suc n) (count ∷ byte ∷ rest) bytes le are is =
    elim (cases_lt count 128) [
      | inl small ↦
          let split = splits_some (replicate (count + 1) byte) (bytes_spelled 0 rest) bytes (sym (run_whole count byte rest (lt-ltb count 128 small)) ∙ is) in
          let long : length (replicate (count + 1) byte) ≡ count + 1 = length-replicate (count + 1) byte in
          let later = spelling_within n rest (drop (length (replicate (count + 1) byte)) bytes) (omega arith) (λ k. are (suc (suc k))) split.rest in
          same_spelling _ _ _ _ (ap (λ c. c ∷ byte ∷ rest) (less_one count))
          (sym (take-append-drop (length (replicate (count + 1) byte)) bytes) ∙ ap (λ front. front ++ drop (length (replicate (count + 1) byte)) bytes) split.begins)
          (with_token (repeat byte (count + 1)) rest _ (omega arith, omega arith) later)
      | inr large ↦
          let more = byte ∷ rest in
          let given = 256 - count in
          let inside : count < 256 = are 0 in
          let begins : bytes_spelled 0 (count ∷ more) ≡ bytes_spelled given more = literal_begins count more (le-ltb count 128 large) inside ∙ ap (λ k. bytes_spelled k more) (one_more count inside) in
          elim (cases_lt (length more) given) [
            | inl cut ↦ absurd (let none : None ≡ Some bytes = sym (literal_cut given more cut) ∙ sym begins ∙ is in cc)
            | inr there ↦
                let front = take given more in
                let back = drop given more in
                let long : length front ≡ given = length-take-le given more there in
                let split = splits_some front (bytes_spelled 0 back) bytes (sym (literal_whole given more there) ∙ sym begins ∙ is) in
                let later = spelling_within n back (drop (length front) bytes) (omega (arith, length-drop given more)) (λ k. subst (λ b. b < 256) (sym (get_or-drop given more k 0)) (are (suc (given + k)))) split.rest in
                same_spelling _ _ _ _ (ap (λ c. c ∷ more) (count_of_front count (length front) inside long) ∙ ap (λ later. (256 - length front) ∷ later) (sym (take-append-drop given more)))
                (sym (take-append-drop (length front) bytes) ∙ ap (λ head. head ++ drop (length front) bytes) split.begins)
                (with_token (literal front) back _ (omega arith, omega arith) later)
          ]
    ]
  where
    less_one : (n : ℕ) → n ≡ n + 1 - 1
    less_one n = omega arith

    count_of_front : (count long : ℕ) → count < 256 → long ≡ 256 - count → count ≡ 256 - long
    count_of_front count long lt is = omega arith

pub spelling-bytes_spelled : (packed bytes : List ℕ) → AreBytes packed → bytes_spelled 0 packed ≡ Some bytes → IsRleSpelling packed bytes
spelling-bytes_spelled packed bytes are is = spelling_within (length packed) packed bytes (omega arith) are is

-- what is not counted is broken
pub rle_of-broken : (packed : List ℕ) (count : ℕ) → counts (bytes_spelled 0 packed) count ≡ false → rle_of packed count ≡ Err broken
unfolding rle_of
rle_of-broken packed count is = by_spelled (bytes_spelled 0 packed) is
  where
    by_spelled : (o : Option (List ℕ)) → counts o count ≡ false → raw_if_counted count o ≡ Err broken
    by_spelled None is = refl
    by_spelled (Some bytes) is = rw is refl

pub rle_of-spelled : (packed bytes : List ℕ) (count : ℕ) → bytes_spelled 0 packed ≡ Some bytes → length bytes ≡ count → rle_of packed count ≡ Ok (raw_of bytes)
unfolding rle_of
rle_of-spelled packed bytes count spelled counted = ap (raw_if_counted count) spelled ∙ rw (eq-eqb (length bytes) count counted) refl

abbrev answer : Bool → List ℕ → Result (List ℕ) RleBroken
answer b bytes = cond b (Ok (raw_of bytes)) (Err broken)

-- what was unpacked
pub unpacks_ok : (packed raw : List ℕ) (count : ℕ) → AreBytes packed → rle_of packed count ≡ Ok raw → Unpacks packed count raw
unfolding rle_of
unpacks_ok packed raw count are is = by_spelled (bytes_spelled 0 packed) refl is
  where
    by_count : (bytes : List ℕ) (b : Bool) → eqb (length bytes) count ≡ b → bytes_spelled 0 packed ≡ Some bytes → answer b bytes ≡ Ok raw → Unpacks packed count raw
    by_count bytes true counted spelled is = record { bytes = bytes; spelling = spelling-bytes_spelled packed bytes are spelled; counted = eqb-true (length bytes) count counted; restored = cc }
    by_count bytes false counted spelled is = cc

    by_spelled : (o : Option (List ℕ)) → bytes_spelled 0 packed ≡ o → raw_if_counted count o ≡ Ok raw → Unpacks packed count raw
    by_spelled None spelled is = cc
    by_spelled (Some bytes) spelled is = by_count bytes (eqb (length bytes) count) refl spelled is

-- raw data, place by place
pub raw_of-by_place : (bytes raw : List ℕ) → length raw ≡ length bytes → ((k : ℕ) → k < length raw → get_or raw k 0 ≡ raw_at bytes k) → raw ≡ raw_of bytes
raw_of-by_place bytes raw long each =
    ext_get_or 0 raw (raw_of bytes) (long ∙ sym (length-map (range_with_len 0 (length bytes)) (raw_at bytes) ∙ length-range_with_len 0 (length bytes)))
    (λ k inside. each k inside ∙ sym (get_or-map-range_with_len (raw_at bytes) 0 (length bytes) k k 0 (omega arith) (omega arith)))

-- restored halves, laid together
pub raw_of-laid : (bytes halves raw : List ℕ) → length halves ≡ length bytes → length raw ≡ length bytes → ((k : ℕ) → k < length halves → get_or halves k 0 ≡ restored_at bytes k)
    → ((k : ℕ) → k < length raw → get_or raw k 0 ≡ cond (eqb (k % 2) 0) (get_or halves (k / 2) 0) (get_or halves ((length halves + 1) / 2 + k / 2) 0)) → raw ≡ raw_of bytes
raw_of-laid bytes halves raw same long restored laid = raw_of-by_place bytes raw long (λ k inside. laid k inside ∙ by_parity k inside (eqb (k % 2) 0) refl)
  where
    by_parity : (k : ℕ) → k < length raw → (b : Bool) → eqb (k % 2) 0 ≡ b
        → cond b (get_or halves (k / 2) 0) (get_or halves ((length halves + 1) / 2 + k / 2) 0) ≡ cond b (restored_at bytes (k / 2)) (restored_at bytes ((length bytes + 1) / 2 + k / 2))
    by_parity k inside true even = restored (k / 2) (omega arith)
    by_parity k inside false odd = restored ((length halves + 1) / 2 + k / 2) (odd_within k (length halves) (eqb-false (k % 2) 0 odd) (omega arith)) ∙ ap (λ n. restored_at bytes ((n + 1) / 2 + k / 2)) same
      where
        odd_within : (k n : ℕ) → (k % 2 ≡ 0 → ⊥) → k < n → (n + 1) / 2 + k / 2 < n
        odd_within k n odd lt = omega arith

-- tokens for so many bytes have raw data
pub rle_of-spelling : (packed bytes : List ℕ) (count : ℕ) → IsRleSpelling packed bytes → length bytes ≡ count → rle_of packed count ≡ Ok (raw_of bytes)
rle_of-spelling packed bytes count is counted = rle_of-spelled packed bytes count (bytes_spelled-spelling packed bytes is) counted
