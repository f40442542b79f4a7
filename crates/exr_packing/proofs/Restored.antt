-- What was packed is read again: the head, the table, and the tokens.
use Rattle.std.proofs.Common.{◌≡◌, ℕ, zero, suc, ◌+◌, ◌-◌, ◌*◌, ◌/◌, ◌^◌, ◌<◌, ◌≤◌, Bool, true, false, ltb, List, [], ◌∷◌, ◌++◌, length, take, drop, get_or, replicate, Some, Ok, refl, sym, ap, ◌∙◌, ap₂, subst, arith, append_assoc, append-nil}
use Rattle.std.specs.List.{AllByRecursion}
use Rattle.std.proofs.lemmas.Bool.{le-ltb, cond_both}
use Rattle.std.proofs.lemmas.List.{length-append, length-drop, length-replicate, take_at, drop_at, take-append-drop, get_or-drop}
use Rattle.std.proofs.lemmas.Nat.{from_le_bytes-to_le_bytes_4}
use Rattle.exr_base.specs.Bits.{bits_of_bytes, bytes_of}
use Rattle.exr_base.proofs.BitLists.{length-bits_of_bytes}
use Rattle.exr_codes.specs.Codes.{IsComplete}
use Rattle.exr_codes.specs.Tables.{table_of}
use Rattle.exr_encoder.specs.Spelling.{table_bits}
use Rattle.exr_encoder.proofs.Filled.{bits_of_bytes-bytes_of}
use Rattle.exr_encoder.proofs.Spelled.{read_again as table_read_again, table_size}
use Rattle.exr_huffman.specs.Tokens.{Token, word, more, run_entry, words_from, words_of}
use Rattle.exr_huffman.specs.Blocks.{Block, Data, block_of, number_at, data_words_of, huffman_words_of}
use Rattle.exr_huffman.proofs.Progress.{words_from-append, last_from}
use Rattle.exr_huffman.proofs.Unpacking.{block_is, with_data}
use Rattle.exr_huffman.specs.Joined.{IsToken, AreTokens, tokens_bits, BeginsWith, AreWords}
use Rattle.exr_huffman.proofs.Bounds.{size_of, size_is}
use Rattle.exr_huffman.proofs.Joined.{only, word_in_front}
use Rattle.exr_packing.specs.Packed.{least_of, greatest_of, lengths_of, equals_at, run_tokens, packed_tokens, head_of, block_with, pack_of}
use Rattle.exr_packing.proofs.Weighing.{ordered, lengths_complete, words_coded, run_coded, length-lengths_of, greatest_at}
use Rattle.exr_packing.proofs.Runs.{equals_at-most, equals_in_front, packed-nothing, packed-word, tokens_size, cost_most}

-- ---- the tokens of words give the words

no_words : (before : ℕ) → words_from before [] ≡ []
unfolding words_from
no_words before = refl

word_words : (before w : ℕ) (tokens : List Token) → words_from before (word w ∷ tokens) ≡ w ∷ words_from w tokens
unfolding words_from
word_words before w tokens = refl

more_words : (before count : ℕ) (tokens : List Token) → words_from before (more count ∷ tokens) ≡ replicate count before ++ words_from before tokens
unfolding words_from
more_words before count tokens = refl

copies_words : (before n w : ℕ) → words_from before (replicate n (word w)) ≡ replicate n w
copies_words before zero w = no_words before
copies_words before (suc n) w = word_words before w (replicate n (word w)) ∙ ap (λ (ws : List ℕ). w ∷ ws) (copies_words w n w)

copies_last : (before n w : ℕ) → 0 < n → last_from before (replicate n (word w)) ≡ w
copies_last before zero w some = absurd (omega arith)
copies_last before (suc zero) w some = refl
copies_last before (suc (suc n)) w some = copies_last w (suc n) w (omega arith)

run_words : (least : ℕ) (lengths : List ℕ) (before w count : ℕ) → words_from before (run_tokens least lengths w count) ≡ w ∷ replicate count w
unfolding run_tokens
run_words least lengths before w count =
    cond_both (ltb (get_or lengths (w - least) 0 + get_or lengths (run_entry lengths) 0 + 8) (get_or lengths (w - least) 0 * count)) (word w ∷ more count ∷ []) (replicate (count + 1) (word w)) (λ (ts : List Token). words_from before ts ≡ w ∷ replicate count w)
    (λ e. word_words before w (more count ∷ []) ∙ ap (λ (ws : List ℕ). w ∷ ws) (more_words w count [] ∙ ap (λ (ws : List ℕ). replicate count w ++ ws) (no_words w) ∙ append-nil (replicate count w)))
    (λ e. copies_words before (count + 1) w ∙ ap (λ n. replicate n w) (let one : count + 1 ≡ suc count = omega arith in one))

run_last : (least : ℕ) (lengths : List ℕ) (before w count : ℕ) → last_from before (run_tokens least lengths w count) ≡ w
unfolding run_tokens
run_last least lengths before w count =
    cond_both (ltb (get_or lengths (w - least) 0 + get_or lengths (run_entry lengths) 0 + 8) (get_or lengths (w - least) 0 * count)) (word w ∷ more count ∷ []) (replicate (count + 1) (word w)) (λ (ts : List Token). last_from before ts ≡ w)
    (λ e. refl)
    (λ e. copies_last before (count + 1) w (omega arith))

packed_words_within : (n least : ℕ) (lengths : List ℕ) (before : ℕ) (words : List ℕ) → length words ≤ n → words_from before (packed_tokens least lengths words) ≡ words
packed_words_within n least lengths before [] few = ap (words_from before) (packed-nothing least lengths) ∙ no_words before
packed_words_within zero least lengths before (w ∷ words) few = absurd (omega arith)
packed_words_within (suc n) least lengths before (w ∷ words) few =
    let count = equals_at w words in
    let rest = drop count words in
    let tokens = run_tokens least lengths w count in
    ap (words_from before) (packed-word least lengths w words) ∙ words_from-append before tokens (packed_tokens least lengths rest)
    ∙ ap₂ ◌++◌ (run_words least lengths before w count) (packed_words_within n least lengths (last_from before tokens) rest (omega (arith, length-drop count words)))
    ∙ ap (λ (ws : List ℕ). w ∷ ws) (ap (λ (ws : List ℕ). ws ++ rest) (sym (equals_in_front w words)) ∙ take-append-drop count words)

pub packed_words : (least : ℕ) (lengths words : List ℕ) → words_of (packed_tokens least lengths words) ≡ words
packed_words least lengths words = packed_words_within (length words) least lengths 0 words (omega arith)

-- ---- each token has its codes and gives words

abbrev IsGiving : ℕ → List ℕ → Token → Type 0
IsGiving least lengths t = IsToken least lengths t × (0 < size_of t)

abbrev AreGiving : ℕ → List ℕ → List Token → Type 0
AreGiving least lengths tokens = AllByRecursion (IsGiving least lengths) tokens

are_tokens : (least : ℕ) (lengths : List ℕ) (tokens : List Token) → AreGiving least lengths tokens → AreTokens least lengths tokens
are_tokens least lengths [] are = tt
are_tokens least lengths (t ∷ tokens) are = (are.0.0, are_tokens least lengths tokens are.1)

tokens-append : (least : ℕ) (lengths : List ℕ) (xs ys : List Token) → AreGiving least lengths xs → AreGiving least lengths ys → AreGiving least lengths (xs ++ ys)
tokens-append least lengths [] ys are_xs are_ys = are_ys
tokens-append least lengths (t ∷ xs) ys are_xs are_ys = (are_xs.0, tokens-append least lengths xs ys are_xs.1 are_ys)

tokens-behind : (least : ℕ) (lengths : List ℕ) (xs ys : List Token) → AreGiving least lengths (xs ++ ys) → AreGiving least lengths ys
tokens-behind least lengths [] ys are = are
tokens-behind least lengths (t ∷ xs) ys are = tokens-behind least lengths xs ys are.1

some_words : (least : ℕ) (lengths : List ℕ) (before : ℕ) (tokens : List Token) → AreGiving least lengths tokens → 0 < length tokens → 0 < length (words_from before tokens)
some_words least lengths before [] are some = absurd (omega arith)
some_words least lengths before (t ∷ tokens) are some = omega (arith, size_is before t tokens, are.0.1)

copies_tokens : (least : ℕ) (lengths : List ℕ) (n w : ℕ) → IsToken least lengths (word w) → AreGiving least lengths (replicate n (word w))
copies_tokens least lengths zero w is = tt
copies_tokens least lengths (suc n) w is = ((is, omega arith), copies_tokens least lengths n w is)

fewer_bits : (len run count : ℕ) → ltb (len + run + 8) (len * count) ≡ true → 0 < count
fewer_bits len run zero e = absurd (let nothing : len * zero ≤ len + run + 8 = omega arith in let clash : true ≡ false = sym e ∙ le-ltb (len + run + 8) (len * zero) nothing in cc)
fewer_bits len run (suc count) e = omega arith

run_are_tokens : (least : ℕ) (lengths : List ℕ) (w count : ℕ) → IsToken least lengths (word w) → 0 < get_or lengths (run_entry lengths) 0 → count ≤ 255 → AreGiving least lengths (run_tokens least lengths w count)
unfolding run_tokens
run_are_tokens least lengths w count is run few =
    cond_both (ltb (get_or lengths (w - least) 0 + get_or lengths (run_entry lengths) 0 + 8) (get_or lengths (w - least) 0 * count)) (word w ∷ more count ∷ []) (replicate (count + 1) (word w)) (AreGiving least lengths)
    (λ e. ((is, omega arith), (((omega arith, run), fewer_bits (get_or lengths (w - least) 0) (get_or lengths (run_entry lengths) 0) count e), tt)))
    (λ e. copies_tokens least lengths (count + 1) w is)

packed_are_tokens : (n least : ℕ) (lengths words : List ℕ) → 0 < get_or lengths (run_entry lengths) 0 → ((k : ℕ) → k < length words → IsToken least lengths (word (get_or words k 0))) → length words ≤ n → AreGiving least lengths (packed_tokens least lengths words)
packed_are_tokens n least lengths [] run all few = subst (AreGiving least lengths) (sym (packed-nothing least lengths)) tt
packed_are_tokens zero least lengths (w ∷ words) run all few = absurd (omega arith)
packed_are_tokens (suc n) least lengths (w ∷ words) run all few =
    let count = equals_at w words in
    let rest = drop count words in
    let len = length-drop count words in
    let later : (k : ℕ) → k < length rest → IsToken least lengths (word (get_or rest k 0)) = λ k within. subst (λ v. IsToken least lengths (word v)) (sym (get_or-drop count words k 0)) (all (suc (count + k)) (omega arith)) in
    subst (AreGiving least lengths) (sym (packed-word least lengths w words)) (tokens-append least lengths (run_tokens least lengths w count) (packed_tokens least lengths rest) (run_are_tokens least lengths w count (all 0 (omega arith)) run (equals_at-most w words).0) (packed_are_tokens n least lengths rest run later (omega arith)))

starts_with : (least : ℕ) (lengths : List ℕ) (w count : ℕ) → (tail : List Token) × (run_tokens least lengths w count ≡ word w ∷ tail)
unfolding run_tokens
starts_with least lengths w count =
    cond_both (ltb (get_or lengths (w - least) 0 + get_or lengths (run_entry lengths) 0 + 8) (get_or lengths (w - least) 0 * count)) (word w ∷ more count ∷ []) (replicate (count + 1) (word w)) (λ (ts : List Token). (tail : List Token) × (ts ≡ word w ∷ tail))
    (λ e. (more count ∷ [], refl))
    (λ e. (replicate count (word w), ap (λ n. replicate n (word w)) (let one : count + 1 ≡ suc count = omega arith in one)))

first_word : (least : ℕ) (lengths words : List ℕ) → 0 < length words → (w : ℕ) × (tokens : List Token) × (packed_tokens least lengths words ≡ word w ∷ tokens)
first_word least lengths [] some = absurd (omega arith)
first_word least lengths (w ∷ words) some =
    let count = equals_at w words in
    let later = packed_tokens least lengths (drop count words) in
    let first = starts_with least lengths w count in
    (w, first.0 ++ later, packed-word least lengths w words ∙ ap (λ (ts : List Token). ts ++ later) first.1)

-- the data bits of words are read as the words
words_read : (least : ℕ) (lengths words : List ℕ) → IsComplete lengths → 0 < length words → AreGiving least lengths (packed_tokens least lengths words) → data_words_of least lengths (length words) (tokens_bits least lengths (packed_tokens least lengths words)) ≡ Ok words
words_read least lengths words complete some are =
    let tokens = packed_tokens least lengths words in
    let first = first_word least lengths words some in
    let d : Data = record { least = least; lengths = lengths; bits = tokens_bits least lengths tokens } in
    let whole : BeginsWith d tokens [] = record { each = are_tokens least lengths tokens are; joined = sym (append-nil (tokens_bits least lengths tokens)) } in
    let given : words ≡ words_of tokens = sym (packed_words least lengths words) in
    let shorter : (front behind : List Token) → tokens ≡ front ++ behind → 0 < length behind → length (words_of front) < length words = λ front behind is last. (
    let later = words_from (last_from 0 front) behind in
    let all : words ≡ words_of front ++ later = given ∙ ap words_of is ∙ words_from-append 0 front behind in
    let more_words = some_words least lengths (last_from 0 front) behind (tokens-behind least lengths front behind (subst (AreGiving least lengths) is are)) last in
    omega (arith, ap length all, length-append (words_of front) later, more_words)
    ) in
    let held : AreWords d (length words) words = record { tokens = tokens; spelled = whole; given = given; counted = refl; no_shorter = shorter } in
    only d complete (length words) some (Ok words) (word_in_front d complete (length words) some first.0 first.1 [] (subst (λ (ts : List Token). BeginsWith d ts []) first.2 whole), held)

-- ---- the head

head_numbers : (a b c d : ℕ) (rest : List ℕ) → a < 2 ^ 32 → b < 2 ^ 32 → c < 2 ^ 32 → d < 2 ^ 32
    → (a ≡ number_at (head_of a b c d ++ rest) 0) × (b ≡ number_at (head_of a b c d ++ rest) 1) × (c ≡ number_at (head_of a b c d ++ rest) 2) × (d ≡ number_at (head_of a b c d ++ rest) 3)
unfolding head_of
head_numbers a b c d rest sa sb sc sd = (sym (from_le_bytes-to_le_bytes_4 a sa), sym (from_le_bytes-to_le_bytes_4 b sb), sym (from_le_bytes-to_le_bytes_4 c sc), sym (from_le_bytes-to_le_bytes_4 d sd))

pub length-head_of : (a b c d : ℕ) → length (head_of a b c d) ≡ 20
unfolding head_of
length-head_of a b c d = refl

block_read : (least greatest : ℕ) (table : List ℕ) (bits : List Bool) → least ≤ greatest → greatest ≤ 65536 → length table < 2 ^ 32 → length bits < 2 ^ 32
    → block_of (block_with least greatest table bits) ≡ Ok (record { least = least; greatest = greatest; table = table; bits = length bits; behind = bytes_of bits })
unfolding block_with
block_read least greatest table bits ordered range small few =
    let head = head_of least greatest (length table) (length bits) in
    let rest = table ++ bytes_of bits in
    let is = head_numbers least greatest (length table) (length bits) rest (omega arith) (omega arith) small few in
    let joined : head ++ table ++ bytes_of bits ≡ head ++ rest = append_assoc head table (bytes_of bits) in
    let size = length-head_of least greatest (length table) (length bits) in
    let behind : drop 20 (head ++ rest) ≡ rest = drop_at head rest 20 size in
    ap block_of joined
    ∙ block_is (head ++ rest) table (bytes_of bits) least greatest (length table) (length bits) (rw (length-append, size) (omega arith)) is.0 is.1 is.2 is.3 ordered range (rw (length-append, length-append, size) (omega arith)) (sym (ap (take (length table)) behind ∙ take_at table (bytes_of bits) (length table) refl)) (sym (ap (drop (length table)) behind ∙ drop_at table (bytes_of bits) (length table) refl))

-- ---- the whole block

block_restored : (least greatest : ℕ) (lengths : List ℕ) (bits : List Bool) (words : List ℕ) → IsComplete lengths → least ≤ greatest → greatest ≤ 65536 → length lengths ≡ greatest - least + 1 → length (bytes_of (table_bits lengths)) < 2 ^ 32 → length bits < 2 ^ 32
    → data_words_of least lengths (length words) bits ≡ Ok words → huffman_words_of (block_with least greatest (bytes_of (table_bits lengths)) bits) (length words) ≡ Ok words
block_restored least greatest lengths bits words complete ordered range size small few read =
    let table = bytes_of (table_bits lengths) in
    let block : Block = record { least = least; greatest = greatest; table = table; bits = length bits; behind = bytes_of bits } in
    let spelled = bits_of_bytes-bytes_of bits in
    let filled : 8 * length (bytes_of bits) ≡ length bits + spelled.0 = sym (length-bits_of_bytes (bytes_of bits)) ∙ ap length spelled.2 ∙ length-append bits (replicate spelled.0 false) ∙ ap (λ n. length bits + n) (length-replicate spelled.0 false) in
    let there : (length bits + 7) / 8 ≤ length (bytes_of bits) = omega (arith, spelled.1) in
    let front : take (length bits) (bits_of_bytes (bytes_of bits)) ≡ bits = ap (take (length bits)) spelled.2 ∙ take_at bits (replicate spelled.0 false) (length bits) refl in
    let table_read : table_of (greatest - least + 1) table ≡ Some lengths = ap (λ n. table_of n table) (sym size) ∙ table_read_again lengths complete in
    with_data (block_with least greatest table bits) (length words) block (block_read least greatest table bits ordered range small few) lengths table_read there
    ∙ ap (data_words_of least lengths (length words)) front ∙ read

pub restored : (words : List ℕ) → 0 < length words → length words ≤ 2 ^ 25 → greatest_of words ≤ 65535 → huffman_words_of (pack_of words) (length words) ≡ Ok words
unfolding pack_of
restored words some most range =
    let least = least_of words in
    let lengths = lengths_of words in
    let known = lengths_complete words some most in
    let coded = words_coded words some most in
    let run = run_coded words some most in
    let size = length-lengths_of words some most in
    let tokens = packed_tokens least lengths words in
    let are : AreGiving least lengths tokens = packed_are_tokens (length words) least lengths words run (λ k within. (let is = coded k within in (is.0, omega (arith, size, greatest_at words k within), is.1))) (omega arith) in
    block_restored least (greatest_of words + 1) lengths (tokens_bits least lengths tokens) words known.0 (omega (arith, ordered words some)) (omega arith) (omega (arith, size, ordered words some)) (omega (arith, table_size lengths, size)) (omega (arith, tokens_size least lengths words, cost_most 51 least lengths words known.1, most)) (words_read least lengths words known.0 some are)
