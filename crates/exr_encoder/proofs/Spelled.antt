-- Writing a table item by item, and reading it again.
use Rattle.std.proofs.Common.{◌≡◌, ◌≢◌, ℕ, zero, suc, ◌+◌, ◌-◌, ◌*◌, ◌^◌, ◌<◌, ◌≤◌, Bool, true, false, cond, eqb, leb, List, [], ◌∷◌, ◌++◌, length, take, drop, get_or, replicate, Some, refl, sym, ap, ◌∙◌, inl, inr, arith, append_assoc, append-nil, mod-eq_of_lt}
use Rattle.std.specs.List.{prefix_len}
use Rattle.std.proofs.lemmas.List.{length-append, length-take, length-drop, length-replicate, take_at, drop_at, take-append-drop, drop_all, drop_more, drop-drop, same_lists, get_or-take, get_or-drop, get_or-replicate}
use Rattle.std.proofs.lemmas.List.Sums.{prefix_len-le-length, prefix_len_passes, prefix_len_is}
use Rattle.std.proofs.lemmas.Bool.{cases_lt, cases_eq, cond_both, eq-eqb, ne_eqb, le-ltb, le-leb, lt-leb, eqb-true}
use Rattle.exr_base.specs.Bits.{number_of, bits_of, bytes_of}
use Rattle.exr_base.proofs.BitLists.{length-bits_of, length-bits_of_bytes, number_of-bits_of}
use Rattle.exr_codes.specs.Tables.{item_at, lengths_of_number, run_at, lengths_at, is_full}
use Rattle.exr_codes.specs.Codes.{weight_of, IsComplete}
use Rattle.std.specs.List.{sum_by}
use Rattle.exr_codes.proofs.Reading.{behind, lengths_at-zero, lengths_at-item, table_read, filling_none}
use Rattle.exr_encoder.proofs.Filled.{bits_of_bytes-bytes_of, number_of-zeros}
use Rattle.exr_encoder.specs.Spelling.{zeros_bits, zeros_at, table_bits_within, table_bits, IsReadAgain}

-- ---- how many entries without a code stand in front

pub zeros_at-most : (lengths : List ℕ) → (zeros_at lengths ≤ 261) × (zeros_at lengths ≤ length lengths)
unfolding zeros_at
zeros_at-most lengths = (omega arith, omega (arith, prefix_len-le-length (λ len. eqb len 0) lengths))

pub zeros_at-some : (lengths : List ℕ) → 0 < zeros_at (zero ∷ lengths)
unfolding zeros_at
zeros_at-some lengths = omega arith

-- the zeros in front are zeros
zeros_in_front : (lengths : List ℕ) → take (zeros_at lengths) lengths ≡ replicate (zeros_at lengths) 0
unfolding zeros_at
zeros_in_front lengths =
    let n = zeros_at lengths in
    let most = zeros_at-most lengths in
    let len : length (take n lengths) ≡ n = rw length-take (omega arith) in
    same_lists (take n lengths) (replicate n 0) (rw length-replicate len) (λ k d within.
    let below : k < n = omega arith in
    let zero_at : get_or lengths k d ≡ 0 = eqb-true (get_or lengths k d) 0 (prefix_len_passes (λ l. eqb l 0) lengths k d (omega arith)) in
    get_or-take n lengths k d below ∙ zero_at ∙ sym (get_or-replicate n k 0 d below))

-- what a loop that counts them has found
pub zeros_counted : (lengths : List ℕ) (count : ℕ) → count ≤ length lengths → count ≤ 261 → ((k : ℕ) → k < count → get_or lengths k 0 ≡ 0) → (count < 261 → count < length lengths → get_or lengths count 0 ≢ 0) → zeros_at lengths ≡ count
unfolding zeros_at
zeros_counted lengths count within few zeros stops = elim (cases_lt count 261) [
  | inl less ↦
      let e : prefix_len (λ len. eqb len 0) lengths ≡ count = prefix_len_is (λ len. eqb len 0) lengths count 0 within (λ k below. eq-eqb (get_or lengths k 0) 0 (zeros k below)) (λ inside. ne_eqb (get_or lengths count 0) 0 (stops less inside)) in
      rw e (omega arith)
  | inr all ↦ omega (arith, counted_all lengths count within zeros)
]
  where
    counted_all : (lengths : List ℕ) (count : ℕ) → count ≤ length lengths → ((k : ℕ) → k < count → get_or lengths k 0 ≡ 0) → count ≤ prefix_len (λ len. eqb len 0) lengths
    counted_all lengths zero within zeros = omega arith
    counted_all [] (suc count) within zeros = absurd (omega arith)
    counted_all (l ∷ lengths) (suc count) within zeros =
        let first : l ≡ 0 = zeros 0 (omega arith) in
        rw (eq-eqb l 0 first) (omega (arith, counted_all lengths count (omega arith) (λ k below. zeros (suc k) (omega arith))))

-- ---- a table, item by item

within_zeros : (n : ℕ) (lengths : List ℕ) → table_bits_within (suc n) (zero ∷ lengths) ≡ zeros_bits (zeros_at (zero ∷ lengths)) ++ table_bits_within n (drop (zeros_at (zero ∷ lengths)) (zero ∷ lengths))
unfolding table_bits_within
within_zeros n lengths = refl

within_length : (n len : ℕ) (lengths : List ℕ) → table_bits_within (suc n) (suc len ∷ lengths) ≡ bits_of 6 (suc len) ++ table_bits_within n lengths
unfolding table_bits_within
within_length n len lengths = refl

within_nothing : (n : ℕ) → table_bits_within n [] ≡ []
unfolding table_bits_within
within_nothing zero = refl
within_nothing (suc n) = refl

within_enough : (n m : ℕ) (lengths : List ℕ) → length lengths ≤ n → n ≤ m → table_bits_within m lengths ≡ table_bits_within n lengths
within_enough n m [] enough le = within_nothing m ∙ sym (within_nothing n)
within_enough zero m (l ∷ lengths) enough le = absurd (omega arith)
within_enough (suc n) zero (l ∷ lengths) enough le = absurd (omega arith)
within_enough (suc n) (suc m) (zero ∷ lengths) enough le =
    let count = zeros_at (zero ∷ lengths) in
    within_zeros m lengths ∙ ap (λ (back : List Bool). zeros_bits count ++ back) (within_enough n m (drop count (zero ∷ lengths)) (omega (arith, length-drop count (zero ∷ lengths), zeros_at-some lengths)) (omega arith)) ∙ sym (within_zeros n lengths)
within_enough (suc n) (suc m) (suc len ∷ lengths) enough le =
    within_length m len lengths ∙ ap (λ (back : List Bool). bits_of 6 (suc len) ++ back) (within_enough n m lengths (omega arith) (omega arith)) ∙ sym (within_length n len lengths)

pub table_bits-nothing : table_bits [] ≡ []
unfolding table_bits
table_bits-nothing = within_nothing 0

pub table_bits-zeros : (lengths : List ℕ) (l : ℕ) → l ≡ 0 → table_bits (l ∷ lengths) ≡ zeros_bits (zeros_at (l ∷ lengths)) ++ table_bits (drop (zeros_at (l ∷ lengths)) (l ∷ lengths))
unfolding table_bits
table_bits-zeros lengths zero none =
    let count = zeros_at (zero ∷ lengths) in
    let rest = drop count (zero ∷ lengths) in
    within_zeros (length lengths) lengths ∙ ap (λ (back : List Bool). zeros_bits count ++ back) (within_enough (length rest) (length lengths) rest (omega arith) (omega (arith, length-drop count (zero ∷ lengths), zeros_at-some lengths)))
table_bits-zeros lengths (suc l) none = absurd (omega arith)

pub table_bits-length : (lengths : List ℕ) (l : ℕ) → l ≢ 0 → table_bits (l ∷ lengths) ≡ bits_of 6 l ++ table_bits lengths
unfolding table_bits
table_bits-length lengths zero some = absurd (some refl)
table_bits-length lengths (suc l) some = within_length (length lengths) l lengths

-- the same from a place on
pub table_bits_at-zeros : (lengths : List ℕ) (at : ℕ) → at < length lengths → get_or lengths at 0 ≡ 0 → table_bits (drop at lengths) ≡ zeros_bits (zeros_at (drop at lengths)) ++ table_bits (drop (at + zeros_at (drop at lengths)) lengths)
table_bits_at-zeros lengths at within none =
    let cut = drop_more lengths at 0 within in
    rw (← drop-drop (zeros_at (drop at lengths)) at lengths, cut) (table_bits-zeros (drop (at + 1) lengths) (get_or lengths at 0) none)

pub table_bits_at-length : (lengths : List ℕ) (at : ℕ) → at < length lengths → get_or lengths at 0 ≢ 0 → table_bits (drop at lengths) ≡ bits_of 6 (get_or lengths at 0) ++ table_bits (drop (at + 1) lengths)
table_bits_at-length lengths at within some = ap table_bits (drop_more lengths at 0 within) ∙ table_bits-length (drop (at + 1) lengths) (get_or lengths at 0) some

pub written_all : (lengths : List ℕ) (at : ℕ) (writer : List Bool) → length lengths ≤ at → writer ++ table_bits (drop at lengths) ≡ table_bits lengths → writer ≡ table_bits lengths
written_all lengths at writer all so_far = sym (append-nil writer) ∙ ap (λ (back : List Bool). writer ++ back) (sym (ap table_bits (drop_all at lengths all) ∙ table_bits-nothing)) ∙ so_far

-- ---- what a counting loop has found, from a place on

pub counted_from : (lengths : List ℕ) (at count : ℕ) → at < length lengths → count ≤ length lengths - at → count ≤ 261 → ((k : ℕ) → k < count → get_or lengths (at + k) 0 ≡ 0) → (count < 261 → count < length lengths - at → get_or lengths (at + count) 0 ≢ 0) → count ≡ zeros_at (drop at lengths)
counted_from lengths at count inside within few zeros stops =
    let len = length-drop at lengths in
    sym (zeros_counted (drop at lengths) count (omega arith) few (λ k below. get_or-drop at lengths k 0 ∙ zeros k below) (λ less more. rw (get_or-drop at lengths count 0) (stops less (omega arith))))

pub zeros_from-some : (lengths : List ℕ) (at : ℕ) → at < length lengths → get_or lengths at 0 ≡ 0 → 0 < zeros_at (drop at lengths)
zeros_from-some lengths at within none =
    let cut : drop at lengths ≡ 0 ∷ drop (at + 1) lengths = drop_more lengths at 0 within ∙ ap (λ l. l ∷ drop (at + 1) lengths) none in
    rw cut (zeros_at-some (drop (at + 1) lengths))

-- the entries that are passed over have no code
pub zeros_from-none : (lengths : List ℕ) (at k : ℕ) → k < zeros_at (drop at lengths) → get_or lengths (at + k) 0 ≡ 0
zeros_from-none lengths at k below =
    let n = zeros_at (drop at lengths) in
    sym (get_or-drop at lengths k 0) ∙ sym (get_or-take n (drop at lengths) k 0 below) ∙ ap (λ (ls : List ℕ). get_or ls k 0) (zeros_in_front (drop at lengths)) ∙ get_or-replicate n k 0 0 below

-- ---- the bits of a run

pub zeros_bits-one : (count : ℕ) → count ≡ 1 → zeros_bits count ≡ bits_of 6 0
unfolding zeros_bits
zeros_bits-one count one = rw (eq-eqb count 1 one) refl

pub zeros_bits-few : (count : ℕ) → count ≢ 1 → count ≤ 5 → zeros_bits count ≡ bits_of 6 (57 + count)
unfolding zeros_bits
zeros_bits-few count other few = rw (ne_eqb count 1 other, le-leb count 5 few) refl

pub zeros_bits-many : (count : ℕ) → 5 < count → zeros_bits count ≡ bits_of 6 63 ++ bits_of 8 (count - 6)
unfolding zeros_bits
zeros_bits-many count many = rw (ne_eqb count 1 (λ e. omega arith), lt-leb count 5 many) refl

-- ---- reading what is written

number_of_front : (n number : ℕ) (rest : List Bool) → number < 2 ^ n → number_of (take n (bits_of n number ++ rest)) ≡ number
number_of_front n number rest small = ap number_of (take_at (bits_of n number) rest n (length-bits_of n number)) ∙ number_of-bits_of n number ∙ mod-eq_of_lt small

item_read : (number : ℕ) (rest : List Bool) → number < 64 → item_at (bits_of 6 number ++ rest) ≡ lengths_of_number number rest
unfolding item_at
item_read number rest small =
    let long : 6 ≤ length (bits_of 6 number ++ rest) = rw (length-append, length-bits_of 6 number) (omega arith) in
    rw (le-ltb (length (bits_of 6 number ++ rest)) 6 long, number_of_front 6 number rest small, drop_at (bits_of 6 number) rest 6 (length-bits_of 6 number)) refl

pub length_read : (len : ℕ) (rest : List Bool) → len ≤ 58 → item_at (bits_of 6 len ++ rest) ≡ Some (len ∷ [], rest)
length_read len rest small = item_read len rest (omega arith) ∙ rw (le-leb len 58 small) refl

run_read : (count : ℕ) (rest : List Bool) → 5 < count → count ≤ 261 → run_at (bits_of 8 (count - 6) ++ rest) ≡ Some (replicate count 0, rest)
run_read count rest many few =
    let n = count - 6 in
    let long : 8 ≤ length (bits_of 8 n ++ rest) = rw (length-append, length-bits_of 8 n) (omega arith) in
    let back : n + 6 ≡ count = omega arith in
    rw (le-ltb (length (bits_of 8 n ++ rest)) 8 long, number_of_front 8 n rest (omega arith), drop_at (bits_of 8 n) rest 8 (length-bits_of 8 n)) (ap (λ k. Some (replicate k 0, rest)) back)

pub zeros_read : (count : ℕ) (rest : List Bool) → 0 < count → count ≤ 261 → item_at (zeros_bits count ++ rest) ≡ Some (replicate count 0, rest)
zeros_read count rest some few = elim (cases_eq count 1) [
  | inl one ↦ rw (zeros_bits-one count one) (length_read 0 rest (omega arith) ∙ ap (λ k. Some (replicate k 0, rest)) (sym one))
  | inr other ↦ elim (cases_lt 5 count) [
    | inr small ↦
        let back : 57 + count - 57 ≡ count = omega arith in
        rw (zeros_bits-few count other small) (item_read (57 + count) rest (omega arith) ∙ rw (lt-leb (57 + count) 58 (omega arith), le-leb (57 + count) 62 (omega arith)) (ap (λ k. Some (replicate k 0, rest)) back))
    | inl many ↦
        rw (zeros_bits-many count many, append_assoc (bits_of 6 63) (bits_of 8 (count - 6)) rest) (item_read 63 (bits_of 8 (count - 6) ++ rest) (omega arith) ∙ run_read count rest many few)
  ]
]

-- the bits of a table are read as the table, whatever follows
pub table_bits_read : (n : ℕ) (lengths : List ℕ) (rest : List Bool) → length lengths ≤ n → ((k : ℕ) → get_or lengths k 0 ≤ 58) → lengths_at (length lengths) (table_bits lengths ++ rest) ≡ Some (lengths, rest)
table_bits_read n [] rest few short = ap (λ (bits : List Bool). lengths_at 0 (bits ++ rest)) table_bits-nothing ∙ lengths_at-zero rest
table_bits_read zero (l ∷ lengths) rest few short = absurd (omega arith)
table_bits_read (suc n) (l ∷ lengths) rest few short = elim (cases_eq l 0) [
  | inl none ↦
      let all = l ∷ lengths in
      let count = zeros_at all in
      let most = zeros_at-most all in
      let some : 0 < count = rw none (zeros_at-some lengths) in
      let tail = drop count all in
      let size : length all - length (replicate count 0) ≡ length tail = rw (length-replicate, length-drop) refl in
      let front : replicate count 0 ++ tail ≡ all = ap (λ (xs : List ℕ). xs ++ tail) (sym (zeros_in_front all)) ∙ take-append-drop count all in
      let bits : table_bits all ++ rest ≡ zeros_bits count ++ (table_bits tail ++ rest) = ap (λ (xs : List Bool). xs ++ rest) (table_bits-zeros lengths l none) ∙ append_assoc (zeros_bits count) (table_bits tail) rest in
      let read = lengths_at-item (length all) (zeros_bits count ++ (table_bits tail ++ rest)) (replicate count 0) (table_bits tail ++ rest) (omega arith) (zeros_read count (table_bits tail ++ rest) some most.0) (rw length-replicate most.1) in
      let others = table_bits_read n tail rest (omega (arith, length-drop count all)) (λ k. rw (get_or-drop count all k 0) (short (count + k))) in
      rw bits (read ∙ ap (λ m. behind (replicate count 0) (lengths_at m (table_bits tail ++ rest))) size ∙ ap (behind (replicate count 0)) others ∙ ap (λ (xs : List ℕ). Some (xs, rest)) front)
  | inr some ↦
      let all = l ∷ lengths in
      let bits : table_bits all ++ rest ≡ bits_of 6 l ++ (table_bits lengths ++ rest) = ap (λ (xs : List Bool). xs ++ rest) (table_bits-length lengths l some) ∙ append_assoc (bits_of 6 l) (table_bits lengths) rest in
      let read = lengths_at-item (length all) (bits_of 6 l ++ (table_bits lengths ++ rest)) (l ∷ []) (table_bits lengths ++ rest) (omega arith) (length_read l (table_bits lengths ++ rest) (short 0)) (omega arith) in
      let others = table_bits_read n lengths rest (omega arith) (λ k. short (suc k)) in
      let size : length all - 1 ≡ length lengths = omega arith in
      rw bits (read ∙ ap (λ m. behind (l ∷ []) (lengths_at m (table_bits lengths ++ rest))) size ∙ ap (behind (l ∷ [])) others)
]

full_from : (lengths : List ℕ) → IsComplete lengths → is_full lengths ≡ true
unfolding is_full
full_from lengths complete = eq-eqb (sum_by weight_of lengths) (2 ^ 58) complete.full

-- the bytes of a complete table are read as the table
pub read_again : (lengths : List ℕ) → IsComplete lengths → IsReadAgain lengths
read_again lengths complete =
    let bits = table_bits lengths in
    let fill = bits_of_bytes-bytes_of bits in
    let zeros = replicate fill.0 false in
    let read = table_bits_read (length lengths) lengths zeros (omega arith) complete.short in
    table_read (length lengths) (bytes_of bits) lengths zeros (ap (lengths_at (length lengths)) fill.2 ∙ read) (filling_none zeros (rw length-replicate fill.1) (number_of-zeros fill.0)) (full_from lengths complete)

-- ---- how many bytes a table has at most

zeros_bits-size : (count : ℕ) → length (zeros_bits count) ≤ 14
unfolding zeros_bits
zeros_bits-size count =
    cond_both (eqb count 1) (bits_of 6 0) (cond (leb count 5) (bits_of 6 (57 + count)) (bits_of 6 63 ++ bits_of 8 (count - 6))) (λ (bits : List Bool). length bits ≤ 14)
    (λ e. omega (arith, length-bits_of 6 0))
    (λ e. cond_both (leb count 5) (bits_of 6 (57 + count)) (bits_of 6 63 ++ bits_of 8 (count - 6)) (λ (bits : List Bool). length bits ≤ 14)
    (λ f. omega (arith, length-bits_of 6 (57 + count)))
    (λ f. omega (arith, length-append (bits_of 6 63) (bits_of 8 (count - 6)), length-bits_of 6 63, length-bits_of 8 (count - 6))))

within_size : (n : ℕ) (lengths : List ℕ) → length (table_bits_within n lengths) ≤ 14 * n
within_size n [] = rw (within_nothing n) (omega arith)
within_size zero (l ∷ lengths) = unfold table_bits_within in omega arith
within_size (suc n) (zero ∷ lengths) =
    let count = zeros_at (zero ∷ lengths) in
    let rest = table_bits_within n (drop count (zero ∷ lengths)) in
    omega (arith, ap length (within_zeros n lengths), length-append (zeros_bits count) rest, zeros_bits-size count, within_size n (drop count (zero ∷ lengths)))
within_size (suc n) (suc len ∷ lengths) =
    omega (arith, ap length (within_length n len lengths), length-append (bits_of 6 (suc len)) (table_bits_within n lengths), length-bits_of 6 (suc len), within_size n lengths)

pub table_size : (lengths : List ℕ) → length (bytes_of (table_bits lengths)) ≤ 2 * length lengths + 1
unfolding table_bits
table_size lengths =
    let bits = table_bits_within (length lengths) lengths in
    let spelled = bits_of_bytes-bytes_of bits in
    omega (arith, within_size (length lengths) lengths, length-bits_of_bytes (bytes_of bits), ap length spelled.2, length-append bits (replicate spelled.0 false), length-replicate spelled.0 false, spelled.1)
