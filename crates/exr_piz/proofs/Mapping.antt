-- The map of words: its bytes, where they begin and end, and ranks by marks.
use Rattle.std.proofs.Common.{◌≡◌, ◌≢◌, ℕ, zero, suc, ◌+◌, ◌-◌, ◌*◌, ◌^◌, ◌<◌, ◌≤◌, inl, inr, Bool, true, false, not, ◌&&◌, ◌||◌, cond, eqb, List, [], ◌++◌, length, take, drop, get_or, map, min, reverse, refl, sym, ap, ◌∙◌, arith}
use Rattle.std.specs.Int.{w16, to_le_bytes}
use Rattle.std.specs.List.{prefix_len, suffix_len}
use Rattle.std.proofs.lemmas.Bool.{eq-eqb, ne_eqb, cases_lt}
use Rattle.std.proofs.lemmas.List.{get_or-reverse, length-reverse, get_or-take, get_or-drop, length-take, length-drop, get_or-map, length-map, get_or_default}
use Rattle.std.proofs.lemmas.List.FromFn.{length-map-range_with_len, get_or-map-range_with_len}
use Rattle.std.proofs.lemmas.List.Folds.{list_any_none}
use Rattle.std.proofs.lemmas.List.Sums.{prefix_len_is}
use Rattle.std.proofs.lemmas.Grind.{same_number_lists}
use Rattle.exr_piz.specs.Values.{passing_below, occurs, is_used, is_set, number_with, map_byte, map_bytes, first_byte_of, last_byte_of, stored_map_of, map_front_of, rank_of, greatest_rank_of}
use Rattle.exr_piz.specs.Marks.{is_counted, IsMapOf}
use Rattle.exr_piz.proofs.Passing.{passing-same, passing-up_to}
use Rattle.exr_piz.proofs.Numbers.{number_with-none, number_with-suc, number_with-same}

-- ---- zeros at the ends of a list

first_in : (xs : List ℕ) (n : ℕ) → n < length xs → ((k : ℕ) → k < n → get_or xs k 0 ≡ 0) → get_or xs n 0 ≢ 0 → prefix_len (λ b. eqb b 0) xs ≡ n
first_in xs n within zeros other =
    prefix_len_is (λ b. eqb b 0) xs n 0 (omega arith) (λ k low. eq-eqb (get_or xs k 0) 0 (zeros k low)) (λ _. ne_eqb (get_or xs n 0) 0 other)

all_in : (xs : List ℕ) → ((k : ℕ) → k < length xs → get_or xs k 0 ≡ 0) → prefix_len (λ b. eqb b 0) xs ≡ length xs
all_in xs zeros = prefix_len_is (λ b. eqb b 0) xs (length xs) 0 (omega arith) (λ k low. eq-eqb (get_or xs k 0) 0 (zeros k low)) (λ past. absurd (omega arith))

pub turned_at : (xs : List ℕ) (k m : ℕ) → k + m + 1 ≡ length xs → get_or (reverse xs) k 0 ≡ get_or xs m 0
turned_at xs k m place = get_or-reverse xs k 0 (omega arith) ∙ ap (λ j. get_or xs j 0) (let e : length xs - 1 - k ≡ m = omega arith in e)

last_in : (xs : List ℕ) (n m : ℕ) → n + m + 1 ≡ length xs → ((k : ℕ) → n < k → k < length xs → get_or xs k 0 ≡ 0) → get_or xs n 0 ≢ 0 → suffix_len (λ b. eqb b 0) xs ≡ m
last_in xs n m place zeros other =
    first_in (reverse xs) m (let e = length-reverse xs in omega arith)
    (λ k low. turned_at xs k (length xs - 1 - k) (omega arith) ∙ zeros (length xs - 1 - k) (omega arith) (omega arith))
    (λ z. other (sym (turned_at xs m n (omega arith)) ∙ z))

all_behind : (xs : List ℕ) → ((k : ℕ) → k < length xs → get_or xs k 0 ≡ 0) → suffix_len (λ b. eqb b 0) xs ≡ length xs
all_behind xs zeros =
    let size = length-reverse xs in
    all_in (reverse xs) (λ k low. turned_at xs k (length xs - 1 - k) (omega arith) ∙ zeros (length xs - 1 - k) (omega arith)) ∙ size

-- ---- the bytes of the map

pub map_at : (words : List ℕ) (n b : ℕ) → b < n → get_or (map_bytes words n) b 0 ≡ map_byte words b
unfolding map_bytes
map_at words n b within = get_or-map-range_with_len (map_byte words) 0 n b b 0 within (omega arith)

pub length-map_bytes : (words : List ℕ) (n : ℕ) → length (map_bytes words n) ≡ n
unfolding map_bytes
length-map_bytes words n = length-map-range_with_len (map_byte words) 0 n

pub first_is : (words : List ℕ) (n : ℕ) → n ≤ 8191 → ((b : ℕ) → b < n → map_byte words b ≡ 0) → map_byte words n ≢ 0 → first_byte_of words ≡ n
unfolding first_byte_of
first_is words n within zeros other =
    let size = length-map_bytes words 8192 in
    ap (min 8191) (first_in (map_bytes words 8192) n (omega arith) (λ b low. map_at words 8192 b (omega arith) ∙ zeros b low) (λ z. other (sym (map_at words 8192 n (omega arith)) ∙ z)))
    ∙ (let e : min 8191 n ≡ n = omega arith in e)

pub last_is : (words : List ℕ) (n : ℕ) → n ≤ 8191 → ((b : ℕ) → n < b → map_byte words b ≡ 0) → map_byte words n ≢ 0 → last_byte_of words ≡ n
unfolding last_byte_of
last_is words n within zeros other =
    let size = length-map_bytes words 8192 in
    ap (λ m. 8191 - min 8191 m) (last_in (map_bytes words 8192) n (8191 - n) (omega arith) (λ b high low. map_at words 8192 b (omega arith) ∙ zeros b high) (λ z. other (sym (map_at words 8192 n (omega arith)) ∙ z)))
    ∙ (let e : 8191 - min 8191 (8191 - n) ≡ n = omega arith in e)

first_none : (words : List ℕ) → ((b : ℕ) → map_byte words b ≡ 0) → first_byte_of words ≡ 8191
unfolding first_byte_of
first_none words zeros =
    let size = length-map_bytes words 8192 in
    ap (min 8191) (all_in (map_bytes words 8192) (λ b low. map_at words 8192 b (omega arith) ∙ zeros b) ∙ size)

last_none : (words : List ℕ) → ((b : ℕ) → map_byte words b ≡ 0) → last_byte_of words ≡ 0
unfolding last_byte_of
last_none words zeros =
    let size = length-map_bytes words 8192 in
    ap (λ m. 8191 - min 8191 m) (all_behind (map_bytes words 8192) (λ b low. map_at words 8192 b (omega arith) ∙ zeros b) ∙ size)

map_none : (words : List ℕ) → first_byte_of words ≡ 8191 → last_byte_of words ≡ 0 → stored_map_of words ≡ []
unfolding stored_map_of
map_none words first last = ap (λ n. take (last_byte_of words + 1 - n) (drop n (map_bytes words 8192))) first ∙ ap (λ n. take (n + 1 - 8191) (drop 8191 (map_bytes words 8192))) last

pub front_none : (words : List ℕ) → ((b : ℕ) → map_byte words b ≡ 0) → map_front_of words ≡ to_le_bytes w16 8191 ++ to_le_bytes w16 0 ++ []
unfolding map_front_of
front_none words zeros =
    let first = first_none words zeros in
    let last = last_none words zeros in
    ap (λ (bytes : List ℕ). to_le_bytes w16 (first_byte_of words) ++ to_le_bytes w16 (last_byte_of words) ++ bytes) (map_none words first last)
    ∙ ap (λ n. to_le_bytes w16 n ++ to_le_bytes w16 (last_byte_of words) ++ []) first
    ∙ ap (λ n. to_le_bytes w16 8191 ++ to_le_bytes w16 n ++ []) last

-- some bytes of the map that are given, where its other bytes are zero
stored_some : (words bytes : List ℕ) (first end : ℕ) → IsMapOf words bytes → first < end → end ≤ length bytes → length bytes ≤ 8192 → first_byte_of words ≡ first → last_byte_of words ≡ end - 1 → stored_map_of words ≡ take (end - first) (drop first bytes)
unfolding stored_map_of
stored_some words bytes first end is some within few f l =
    let whole = map_bytes words 8192 in
    let size = length-map_bytes words 8192 in
    ap (λ n. take (last_byte_of words + 1 - n) (drop n whole)) f
    ∙ ap (λ n. take (n + 1 - first) (drop first whole)) l
    ∙ ap (λ n. take n (drop first whole)) (let e : end - 1 + 1 - first ≡ end - first = omega arith in e)
    ∙ same_number_lists (take (end - first) (drop first whole)) (take (end - first) (drop first bytes))
    (let a = length-take (end - first) (drop first whole) in let b = length-take (end - first) (drop first bytes) in let c = length-drop first whole in let d = length-drop first bytes in omega arith)
    (λ k low.
    let in_part : k < end - first = let a = length-take (end - first) (drop first whole) in omega arith in
    get_or-take (end - first) (drop first whole) k 0 in_part ∙ get_or-drop first whole k 0 ∙ map_at words 8192 (first + k) (omega arith)
    ∙ sym (get_or-take (end - first) (drop first bytes) k 0 in_part ∙ get_or-drop first bytes k 0 ∙ is.bytes_are (first + k) (omega arith)))

pub front_some : (words bytes : List ℕ) (first end : ℕ) → IsMapOf words bytes → first < end → end ≤ length bytes → length bytes ≤ 8192
    → ((b : ℕ) → b < first → get_or bytes b 0 ≡ 0) → get_or bytes first 0 ≢ 0 → ((b : ℕ) → end ≤ b → get_or bytes b 0 ≡ 0) → get_or bytes (end - 1) 0 ≢ 0
    → map_front_of words ≡ to_le_bytes w16 first ++ to_le_bytes w16 (end - 1) ++ take (end - first) (drop first bytes)
unfolding map_front_of
front_some words bytes first end is some within few before at_first behind at_last =
    let f = first_is words first (omega arith) (λ b low. sym (is.bytes_are b (omega arith)) ∙ before b low) (λ z. at_first (is.bytes_are first (omega arith) ∙ z)) in
    let l = last_is words (end - 1) (omega arith) (λ b high. zero_behind b (omega arith)) (λ z. at_last (is.bytes_are (end - 1) (omega arith) ∙ z)) in
    ap (λ (part : List ℕ). to_le_bytes w16 (first_byte_of words) ++ to_le_bytes w16 (last_byte_of words) ++ part) (stored_some words bytes first end is some within few f l)
    ∙ ap (λ n. to_le_bytes w16 n ++ to_le_bytes w16 (last_byte_of words) ++ take (end - first) (drop first bytes)) f
    ∙ ap (λ n. to_le_bytes w16 first ++ to_le_bytes w16 n ++ take (end - first) (drop first bytes)) l
  where
    zero_behind : (b : ℕ) → end ≤ b → map_byte words b ≡ 0
    zero_behind b past = elim (cases_lt b (length bytes)) [
      | inl here ↦ sym (is.bytes_are b here) ∙ behind b past
      | inr there ↦ is.zeros b there
    ]

-- ---- bytes and ranks by marks

-- each value's mark is its bit, and all words have one
pub record AreMarksOf (words marks : List ℕ) : Type 0 where
  pub marks_are : (v : ℕ) → v < length marks → get_or marks v 0 ≡ cond (is_set words v) 1 0
  pub within : (k : ℕ) → k < length words → get_or words k 0 < length marks

pub not_occurs : (words : List ℕ) (v : ℕ) → ((k : ℕ) → k < length words → get_or words k 0 < v) → occurs words v ≡ false
not_occurs words v below = list_any_none (λ w. eqb w v) words (λ k d within. ne_eqb (get_or words k d) v (λ e. let same = get_or_default words k d 0 within in let low = below k within in absurd (omega arith)))

both_false : (a b : Bool) → b ≡ false → (a && b) ≡ false
both_false true b is = is
both_false false b is = refl

none_set : (words marks : List ℕ) (v : ℕ) → AreMarksOf words marks → length marks ≤ v → is_set words v ≡ false
none_set words marks v are past = both_false (not (eqb v 0)) (occurs words v) (not_occurs words v (λ k within. let w = are.within k within in omega arith))

number_zero : (test : ℕ → Bool) (n : ℕ) → ((i : ℕ) → test i ≡ false) → number_with test n ≡ 0
number_zero test zero none = number_with-none test
number_zero test (suc n) none = number_with-suc test n ∙ ap (λ (b : Bool). number_with test n + cond b (2 ^ n) 0) (none n) ∙ (let before = number_zero test n none in omega arith)

mark_test : (b : Bool) → eqb (cond b 1 0) 1 ≡ b
mark_test true = refl
mark_test false = refl

pub map_of_marks : (words marks bytes : List ℕ) → AreMarksOf words marks → length marks ≡ 8 * length bytes → ((b : ℕ) → b < length bytes → get_or bytes b 0 ≡ number_with (λ i. eqb (get_or marks (8 * b + i) 0) 1) 8) → IsMapOf words bytes
map_of_marks words marks bytes are size made = record {
  bytes_are = λ b within. made b within ∙ number_with-same (λ i. eqb (get_or marks (8 * b + i) 0) 1) (λ i. is_set words (8 * b + i)) 8 (λ i low. ap (λ n. eqb n 1) (are.marks_are (8 * b + i) (omega arith)) ∙ mark_test (is_set words (8 * b + i)));
  zeros = λ b past. number_zero (λ i. is_set words (8 * b + i)) 8 (λ i. none_set words marks (8 * b + i) are (omega arith));
}

pub used_by_bit : (zero_value occurring : Bool) → (zero_value || (not zero_value && occurring)) ≡ (zero_value || occurring)
used_by_bit true occurring = refl
used_by_bit false occurring = refl

pub counted_used : (words marks : List ℕ) (v : ℕ) → AreMarksOf words marks → v < length marks → is_counted marks v ≡ is_used words v
counted_used words marks v are within = ap (λ n. eqb v 0 || eqb n 1) (are.marks_are v within) ∙ ap (λ (b : Bool). eqb v 0 || b) (mark_test (is_set words v)) ∙ used_by_bit (eqb v 0) (occurs words v)

pub rank_by_marks : (words marks : List ℕ) (v : ℕ) → AreMarksOf words marks → v ≤ length marks → length (passing_below (is_counted marks) v) ≡ rank_of words v
unfolding rank_of
rank_by_marks words marks v are within = ap length (passing-same (is_counted marks) (is_used words) v (λ u low. counted_used words marks u are (omega arith)))

pub greatest_by_marks : (words marks : List ℕ) (rank : ℕ) → AreMarksOf words marks → 0 < length marks → length marks ≤ 65536 → rank + 1 ≡ length (passing_below (is_counted marks) (length marks)) → rank ≡ greatest_rank_of words
unfolding greatest_rank_of
greatest_by_marks words marks rank are some few is =
    let same = passing-same (is_counted marks) (is_used words) (length marks) (λ u low. counted_used words marks u are low) in
    let all = passing-up_to (is_used words) (length marks) 65536 few (λ v past _. none_used v past) in
    let e = ap length (same ∙ sym all) in
    omega arith
  where
    none_used : (v : ℕ) → length marks ≤ v → is_used words v ≡ false
    none_used v past = ap (λ (b : Bool). b || occurs words v) (ne_eqb v 0 (λ e. absurd (omega arith))) ∙ not_occurs words v (λ k within. let w = are.within k within in omega arith)

pub renumbered : (words marks ranks now : List ℕ) → AreMarksOf words marks → length ranks ≡ length marks → ((v : ℕ) → v < length ranks → get_or ranks v 0 ≡ length (passing_below (is_counted marks) v)) → now ≡ map (λ w. get_or ranks w 0) words → now ≡ map (rank_of words) words
renumbered words marks ranks now are size made is =
    is ∙ same_number_lists (map (λ w. get_or ranks w 0) words) (map (rank_of words) words) (length-map words (λ w. get_or ranks w 0) ∙ sym (length-map words (rank_of words)))
    (λ k within.
    let low : k < length words = let e = length-map words (λ w. get_or ranks w 0) in omega arith in
    let w = get_or words k 0 in
    let there = are.within k low in
    get_or-map (λ w. get_or ranks w 0) words k 0 0 low ∙ made w (omega arith) ∙ rank_by_marks words marks w are (omega arith) ∙ sym (get_or-map (rank_of words) words k 0 0 low))
