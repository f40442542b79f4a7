-- Words and their bytes.
use Rattle.std.proofs.Common.{◌≡◌, ℕ, ◌+◌, ◌-◌, ◌*◌, ◌/◌, ◌<◌, ◌≤◌, List, [], ◌∷◌, ◌++◌, length, take, drop, get_or, set, map, refl, sym, ap, ap₂, ◌∙◌, arith, append-nil, append_assoc}
use Rattle.std.specs.Int.{w16, to_le_bytes, from_le_bytes}
use Rattle.std.specs.List.{flat_map}
use Rattle.std.proofs.lemmas.List.{take_more, take_more_set, take_all, take_at, take-map, take-append-drop, drop_more, drop_at, drop-map, map-append, length-append, length-drop, length-map, length-set, length-take-le}
use Rattle.std.proofs.lemmas.List.FromFn.{fill_by_all}
use Rattle.std.proofs.lemmas.Grind.{flat_map-append}
use Rattle.std.proofs.lemmas.Nat.{from_le_bytes-to_le_bytes_2}
use Rattle.exr_piz.specs.Words.{words_from, bytes_from}

pub words_all : (bytes words : List ℕ) → length bytes ≡ 2 * length words → ((j : ℕ) → j < length words → get_or words j 0 ≡ from_le_bytes w16 (take 2 (drop (2 * j) bytes))) → words ≡ words_from bytes
unfolding words_from
words_all bytes words size made =
    let half : length words ≡ length bytes / 2 = omega arith in
    fill_by_all (λ k. from_le_bytes w16 (take 2 (drop (2 * k) bytes))) words (length bytes / 2) 0 half (λ k within. made k (omega arith))

pub bytes_none : bytes_from [] ≡ []
unfolding bytes_from
bytes_none = refl

pub bytes_push : (words : List ℕ) (w : ℕ) → bytes_from (words ++ w ∷ []) ≡ bytes_from words ++ to_le_bytes w16 w
unfolding bytes_from
bytes_push words w = flat_map-append (to_le_bytes w16) words (w ∷ []) ∙ ap (λ (bs : List ℕ). flat_map (to_le_bytes w16) words ++ bs) (append-nil (to_le_bytes w16 w))

two_written : (bytes : List ℕ) (at a b : ℕ) → at + 1 < length bytes → take (at + 2) (set (set bytes at a) (at + 1) b) ≡ take at bytes ++ (a ∷ b ∷ [])
two_written bytes at a b within =
    ap (λ n. take n (set (set bytes at a) (at + 1) b)) (let e : at + 2 ≡ at + 1 + 1 = omega arith in e)
    ∙ take_more_set (set bytes at a) (at + 1) b (let e = length-set bytes at a in omega arith)
    ∙ ap (λ (bs : List ℕ). bs ++ b ∷ []) (take_more_set bytes at a (omega arith))
    ∙ append_assoc (take at bytes) (a ∷ []) (b ∷ [])

pub bytes_more : (f : ℕ → ℕ) (words bytes two : List ℕ) (k : ℕ) → k < length words → length bytes ≡ 2 * length words → two ≡ to_le_bytes w16 (f (get_or words k 0)) → take (2 * k) bytes ≡ bytes_from (map f (take k words))
    → take (2 * (k + 1)) (set (set bytes (2 * k) (get_or two 0 0)) (2 * k + 1) (get_or two 1 0)) ≡ bytes_from (map f (take (k + 1) words))
bytes_more f words bytes two k within size is so_far =
    let w = get_or words k 0 in
    ap (λ n. take n (set (set bytes (2 * k) (get_or two 0 0)) (2 * k + 1) (get_or two 1 0))) (let e : 2 * (k + 1) ≡ 2 * k + 2 = omega arith in e)
    ∙ two_written bytes (2 * k) (get_or two 0 0) (get_or two 1 0) (omega arith)
    ∙ ap (λ (bs : List ℕ). bs ++ (get_or two 0 0 ∷ get_or two 1 0 ∷ [])) so_far
    ∙ ap (λ (t : List ℕ). bytes_from (map f (take k words)) ++ (get_or t 0 0 ∷ get_or t 1 0 ∷ [])) is
    ∙ sym (ap (λ (ws : List ℕ). bytes_from (map f ws)) (take_more words k 0 within) ∙ ap bytes_from (map-append f (take k words) (w ∷ [])) ∙ bytes_push (map f (take k words)) (f w))

pub bytes_all : (f : ℕ → ℕ) (words bytes : List ℕ) (k : ℕ) → length words ≤ k → length bytes ≡ 2 * length words → take (2 * k) bytes ≡ bytes_from (map f (take k words)) → bytes ≡ bytes_from (map f words)
bytes_all f words bytes k all size so_far = sym (take_all (2 * k) bytes (omega arith)) ∙ so_far ∙ ap (λ (ws : List ℕ). bytes_from (map f ws)) (take_all k words all)

-- ---- the bytes of some of the words

bytes_append : (a b : List ℕ) → bytes_from (a ++ b) ≡ bytes_from a ++ bytes_from b
unfolding bytes_from
bytes_append a b = flat_map-append (to_le_bytes w16) a b

bytes_cons : (w : ℕ) (ws : List ℕ) → bytes_from (w ∷ ws) ≡ to_le_bytes w16 w ++ bytes_from ws
unfolding bytes_from
bytes_cons w ws = refl

pub length-bytes_from : (words : List ℕ) → length (bytes_from words) ≡ 2 * length words
length-bytes_from [] = ap length bytes_none
length-bytes_from (w ∷ ws) =
    let two : length (to_le_bytes w16 w) ≡ 2 = refl in
    let parts = ap length (bytes_cons w ws) ∙ length-append (to_le_bytes w16 w) (bytes_from ws) in
    let others = length-bytes_from ws in
    omega arith

front_size : (words : List ℕ) (k : ℕ) → k ≤ length words → length (bytes_from (take k words)) ≡ 2 * k
front_size words k within = length-bytes_from (take k words) ∙ ap (λ n. 2 * n) (length-take-le k words within)

cut_in_two : (words : List ℕ) (k : ℕ) → bytes_from words ≡ bytes_from (take k words) ++ bytes_from (drop k words)
cut_in_two words k = ap bytes_from (sym (take-append-drop k words)) ∙ bytes_append (take k words) (drop k words)

bytes_front : (words : List ℕ) (k : ℕ) → k ≤ length words → take (2 * k) (bytes_from words) ≡ bytes_from (take k words)
bytes_front words k within = ap (take (2 * k)) (cut_in_two words k) ∙ take_at (bytes_from (take k words)) (bytes_from (drop k words)) (2 * k) (front_size words k within)

bytes_rest : (words : List ℕ) (k : ℕ) → k ≤ length words → drop (2 * k) (bytes_from words) ≡ bytes_from (drop k words)
bytes_rest words k within = ap (drop (2 * k)) (cut_in_two words k) ∙ drop_at (bytes_from (take k words)) (bytes_from (drop k words)) (2 * k) (front_size words k within)

-- the bytes of a row of words, which are cut out of the words or out of all bytes
pub row_bytes : (f : ℕ → ℕ) (words : List ℕ) (first count from size : ℕ) → from ≡ 2 * first → size ≡ 2 * count → first + count ≤ length words
    → bytes_from (map f (take count (drop first words))) ≡ take size (drop from (bytes_from (map f words)))
row_bytes f words first count from size place wide within =
    let all = map f words in
    let long : length all ≡ length words = length-map words f in
    let rest : length (drop first all) ≡ length words - first = length-drop first all ∙ ap (λ n. n - first) long in
    sym (
    ap₂ (λ (n k : ℕ). take n (drop k (bytes_from all))) wide place
    ∙ ap (take (2 * count)) (bytes_rest all first (omega arith))
    ∙ bytes_front (drop first all) count (omega arith)
    ∙ ap (λ (ws : List ℕ). bytes_from (take count ws)) (drop-map f first words)
    ∙ ap bytes_from (take-map f count (drop first words))
    )

-- a row of bytes that is written over others, in words
pub row_taken : (words new row : List ℕ) (to first count size : ℕ) → to ≡ 2 * first → size ≡ 2 * count → first + count ≤ length words → bytes_from new ≡ row
    → bytes_from (take first words ++ (new ++ drop count (drop first words))) ≡ take to (bytes_from words) ++ (row ++ drop size (drop to (bytes_from words)))
row_taken words new row to first count size place wide within is =
    let rest : length (drop first words) ≡ length words - first = length-drop first words in
    bytes_append (take first words) (new ++ drop count (drop first words))
    ∙ ap (λ (bs : List ℕ). bytes_from (take first words) ++ bs) (bytes_append new (drop count (drop first words)))
    ∙ ap₂ (λ (front back : List ℕ). front ++ (bytes_from new ++ back)) (sym (bytes_front words first (omega arith))) (sym (ap (drop (2 * count)) (bytes_rest words first (omega arith)) ∙ bytes_rest (drop first words) count (omega arith)))
    ∙ ap (λ (bs : List ℕ). take (2 * first) (bytes_from words) ++ (bs ++ drop (2 * count) (drop (2 * first) (bytes_from words)))) is
    ∙ ap₂ (λ (p n : ℕ). take p (bytes_from words) ++ (row ++ drop n (drop p (bytes_from words)))) (sym place) (sym wide)

word_there : (words : List ℕ) (k : ℕ) → k < length words → take 2 (drop (2 * k) (bytes_from words)) ≡ to_le_bytes w16 (get_or words k 0)
word_there words k within =
    let w = get_or words k 0 in
    ap (take 2) (bytes_rest words k (omega arith) ∙ ap bytes_from (drop_more words k 0 within) ∙ bytes_cons w (drop (k + 1) words))
    ∙ take_at (to_le_bytes w16 w) (bytes_from (drop (k + 1) words)) 2 refl

pub words_of_bytes : (words : List ℕ) → ((k : ℕ) → get_or words k 0 < 65536) → words ≡ words_from (bytes_from words)
words_of_bytes words small =
    words_all (bytes_from words) words (length-bytes_from words)
    (λ j within. sym (ap (from_le_bytes w16) (word_there words j within) ∙ from_le_bytes-to_le_bytes_2 (get_or words j 0) (small j)))
