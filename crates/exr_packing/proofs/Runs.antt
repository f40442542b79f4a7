-- Words that are equal, and the tokens and bits that they become.
use Rattle.std.proofs.Common.{◌≡◌, ◌≢◌, ℕ, zero, suc, ◌+◌, ◌-◌, ◌*◌, ◌^◌, ◌<◌, ◌≤◌, Bool, eqb, List, [], ◌∷◌, ◌++◌, length, take, drop, get_or, replicate, refl, sym, ap, ◌∙◌, ap₂, inl, inr, arith, append_assoc, append-nil}
use Rattle.std.specs.List.{prefix_len, sum_by}
use Rattle.std.proofs.Math.Nat.{mul-le-mul_left}
use Rattle.std.proofs.lemmas.Bool.{cases_lt, cases_eq, eq-eqb, ne_eqb, eqb-true, lt-ltb, le-ltb}
use Rattle.std.proofs.lemmas.List.{length-append, length-take, length-drop, length-replicate, same_lists, get_or-take, get_or-drop, get_or-replicate, drop_more, drop-drop}
use Rattle.std.proofs.lemmas.List.Concat.{flat_map-append}
use Rattle.std.proofs.lemmas.List.Sums.{prefix_len-le-length, prefix_len_passes, prefix_len_is, sum_by-cons, sum_by-drop_more, sum_by-take-drop}
use Rattle.exr_base.specs.Bits.{bits_of}
use Rattle.exr_base.proofs.BitLists.{length-bits_of}
use Rattle.exr_codes.specs.Codes.{IsComplete, code_of, code_number}
use Rattle.exr_codes.proofs.Intervals.{code_number_below}
use Rattle.exr_encoder.specs.Writing.{times_bits}
use Rattle.exr_huffman.specs.Tokens.{Token, word, run_entry, token_bits}
use Rattle.exr_huffman.specs.Joined.{tokens_bits}
use Rattle.exr_packing.specs.Packed.{equals_at, run_tokens, packed_within, packed_tokens}
use Rattle.exr_packing.specs.Costs.{cost_of}

-- ---- how many words in front are equal to one

pub equals_at-most : (w : ℕ) (words : List ℕ) → (equals_at w words ≤ 255) × (equals_at w words ≤ length words)
unfolding equals_at
equals_at-most w words = (omega arith, omega (arith, prefix_len-le-length (λ v. eqb v w) words))

pub equals_in_front : (w : ℕ) (words : List ℕ) → take (equals_at w words) words ≡ replicate (equals_at w words) w
unfolding equals_at
equals_in_front w words =
    let n = equals_at w words in
    let most = equals_at-most w words in
    let len : length (take n words) ≡ n = rw length-take (omega arith) in
    same_lists (take n words) (replicate n w) (rw length-replicate len) (λ k d within.
    let below : k < n = omega arith in
    let same : get_or words k d ≡ w = eqb-true (get_or words k d) w (prefix_len_passes (λ v. eqb v w) words k d (omega arith)) in
    get_or-take n words k d below ∙ same ∙ sym (get_or-replicate n k w d below))

equal_behind : (w : ℕ) (words : List ℕ) (k : ℕ) → k < equals_at w words → get_or words k 0 ≡ w
equal_behind w words k below =
    let n = equals_at w words in
    sym (get_or-take n words k 0 below) ∙ ap (λ (ws : List ℕ). get_or ws k 0) (equals_in_front w words) ∙ get_or-replicate n k w 0 below

equals_two : (w : ℕ) (words : List ℕ) → 2 ≤ length words → get_or words 0 0 ≡ w → get_or words 1 0 ≡ w → 1 < equals_at w words
unfolding equals_at
equals_two w [] long first second = absurd (omega arith)
equals_two w (a ∷ []) long first second = absurd (omega arith)
equals_two w (a ∷ b ∷ words) long first second = rw (eq-eqb a w first, eq-eqb b w second) (omega arith)

-- the same of words after a place
pub equals_near : (words : List ℕ) (at k : ℕ) → k < equals_at (get_or words at 0) (drop (at + 1) words) → get_or words (at + 1 + k) 0 ≡ get_or words at 0
equals_near words at k below = sym (get_or-drop (at + 1) words k 0) ∙ equal_behind (get_or words at 0) (drop (at + 1) words) k below

pub two_equal : (words : List ℕ) (at : ℕ) → at + 2 < length words → get_or words (at + 1) 0 ≡ get_or words at 0 → get_or words (at + 2) 0 ≡ get_or words at 0 → 1 < equals_at (get_or words at 0) (drop (at + 1) words)
two_equal words at within first second =
    let near = λ (k place : ℕ) (is : at + 1 + k ≡ place). get_or-drop (at + 1) words k 0 ∙ ap (λ i. get_or words i 0) is in
    equals_two (get_or words at 0) (drop (at + 1) words) (omega (arith, length-drop (at + 1) words)) (near 0 (at + 1) (omega arith) ∙ first) (near 1 (at + 2) (omega arith) ∙ second)

equals_counted : (w : ℕ) (words : List ℕ) (count : ℕ) → count ≤ length words → count ≤ 255 → ((k : ℕ) → k < count → get_or words k 0 ≡ w) → (count < 255 → count < length words → get_or words count 0 ≢ w) → equals_at w words ≡ count
unfolding equals_at
equals_counted w words count within few equal stops = elim (cases_lt count 255) [
  | inl less ↦
      let e : prefix_len (λ v. eqb v w) words ≡ count = prefix_len_is (λ v. eqb v w) words count 0 within (λ k below. eq-eqb (get_or words k 0) w (equal k below)) (λ inside. ne_eqb (get_or words count 0) w (stops less inside)) in
      rw e (omega arith)
  | inr all ↦ omega (arith, counted_all words count within equal)
]
  where
    counted_all : (words : List ℕ) (count : ℕ) → count ≤ length words → ((k : ℕ) → k < count → get_or words k 0 ≡ w) → count ≤ prefix_len (λ v. eqb v w) words
    counted_all words zero within equal = omega arith
    counted_all [] (suc count) within equal = absurd (omega arith)
    counted_all (v ∷ words) (suc count) within equal =
        let first : v ≡ w = equal 0 (omega arith) in
        rw (eq-eqb v w first) (omega (arith, counted_all words count (omega arith) (λ k below. equal (suc k) (omega arith))))

-- what a counting loop has found
pub counted_behind : (w : ℕ) (words : List ℕ) (count : ℕ) → count ≤ length words → count ≤ 255 → ((k : ℕ) → k < count → get_or words k 0 ≡ w) → (count < 255 → count < length words → get_or words count 0 ≢ w) → count ≡ equals_at w words
counted_behind w words count within few equal stops = sym (equals_counted w words count within few equal stops)

-- ---- the tokens of words, step by step

within_word : (n least : ℕ) (lengths : List ℕ) (w : ℕ) (words : List ℕ) → packed_within (suc n) least lengths (w ∷ words) ≡ run_tokens least lengths w (equals_at w words) ++ packed_within n least lengths (drop (equals_at w words) words)
unfolding packed_within
within_word n least lengths w words = refl

within_nothing : (n least : ℕ) (lengths : List ℕ) → packed_within n least lengths [] ≡ []
unfolding packed_within
within_nothing zero least lengths = refl
within_nothing (suc n) least lengths = refl

within_enough : (n m least : ℕ) (lengths words : List ℕ) → length words ≤ n → n ≤ m → packed_within m least lengths words ≡ packed_within n least lengths words
within_enough n m least lengths [] enough le = within_nothing m least lengths ∙ sym (within_nothing n least lengths)
within_enough zero m least lengths (w ∷ words) enough le = absurd (omega arith)
within_enough (suc n) zero least lengths (w ∷ words) enough le = absurd (omega arith)
within_enough (suc n) (suc m) least lengths (w ∷ words) enough le =
    let count = equals_at w words in
    within_word m least lengths w words ∙ ap (λ (back : List Token). run_tokens least lengths w count ++ back) (within_enough n m least lengths (drop count words) (omega (arith, length-drop count words)) (omega arith)) ∙ sym (within_word n least lengths w words)

pub packed-nothing : (least : ℕ) (lengths : List ℕ) → packed_tokens least lengths [] ≡ []
unfolding packed_tokens
packed-nothing least lengths = within_nothing 0 least lengths

pub packed-word : (least : ℕ) (lengths : List ℕ) (w : ℕ) (words : List ℕ) → packed_tokens least lengths (w ∷ words) ≡ run_tokens least lengths w (equals_at w words) ++ packed_tokens least lengths (drop (equals_at w words) words)
unfolding packed_tokens
packed-word least lengths w words =
    let count = equals_at w words in
    let rest = drop count words in
    within_word (length words) least lengths w words ∙ ap (λ (back : List Token). run_tokens least lengths w count ++ back) (within_enough (length rest) (length words) least lengths rest (omega arith) (omega (arith, length-drop count words)))

-- the same from a place on
pub packed_at : (least : ℕ) (lengths words : List ℕ) (at count : ℕ) → at < length words → count ≡ equals_at (get_or words at 0) (drop (at + 1) words)
    → packed_tokens least lengths (drop at words) ≡ run_tokens least lengths (get_or words at 0) count ++ packed_tokens least lengths (drop (at + (count + 1)) words)
packed_at least lengths words at count within is =
    let w = get_or words at 0 in
    let behind = drop (at + 1) words in
    let next : drop (equals_at w behind) behind ≡ drop (at + (count + 1)) words = drop-drop (equals_at w behind) (at + 1) words ∙ ap (λ n. drop n words) (omega arith) in
    ap (packed_tokens least lengths) (drop_more words at 0 within) ∙ packed-word least lengths w behind
    ∙ ap₂ (λ n (rest : List ℕ). run_tokens least lengths w n ++ packed_tokens least lengths rest) (sym is) next

-- ---- a word by itself, where at most one equal word comes after it

run_alone : (least : ℕ) (lengths : List ℕ) (w count : ℕ) → count ≤ 1 → run_tokens least lengths w count ≡ replicate (count + 1) (word w)
unfolding run_tokens
run_alone least lengths w count few =
    let len = get_or lengths (w - least) 0 in
    let all : len * count ≤ len * 1 = mul-le-mul_left len few in
    rw (le-ltb (len + get_or lengths (run_entry lengths) 0 + 8) (len * count) (omega (arith, all))) refl

equals_more : (w : ℕ) (rest : List ℕ) → equals_at w (w ∷ rest) ≤ 1 → equals_at w rest ≡ 0
unfolding equals_at
equals_more w rest =
    rw (eq-eqb w w refl) (λ few. omega (arith, few))

equals_first : (w v : ℕ) (rest : List ℕ) → 0 < equals_at w (v ∷ rest) → v ≡ w
equals_first w v rest some = equal_behind w (v ∷ rest) 0 some

pub packed-alone : (least : ℕ) (lengths : List ℕ) (w : ℕ) (words : List ℕ) → equals_at w words ≤ 1 → packed_tokens least lengths (w ∷ words) ≡ run_tokens least lengths w 0 ++ packed_tokens least lengths words
packed-alone least lengths w words few = elim (cases_eq (equals_at w words) 0) [
  | inl none ↦ packed-word least lengths w words ∙ ap (λ n. run_tokens least lengths w n ++ packed_tokens least lengths (drop n words)) none
  | inr other ↦ one words few (let e : equals_at w words ≡ 1 = omega arith in e)
]
  where
    one : (words : List ℕ) → equals_at w words ≤ 1 → equals_at w words ≡ 1 → packed_tokens least lengths (w ∷ words) ≡ run_tokens least lengths w 0 ++ packed_tokens least lengths words
    one [] few is = absurd (omega (arith, (equals_at-most w []).1))
    one (v ∷ rest) few is =
        let same : v ≡ w = equals_first w v rest (omega arith) in
        let later = packed_tokens least lengths rest in
        let few_w : equals_at w (w ∷ rest) ≤ 1 = rw same at few in
        let none : equals_at v rest ≡ 0 = ap (λ u. equals_at u rest) same ∙ equals_more w rest few_w in
        packed-word least lengths w (v ∷ rest) ∙ ap (λ n. run_tokens least lengths w n ++ packed_tokens least lengths (drop n (v ∷ rest))) is
        ∙ ap (λ (front : List Token). front ++ later) (run_alone least lengths w 1 (omega arith))
        ∙ ap (λ (back : List Token). word w ∷ back) (ap (λ (front : List Token). front ++ later) (sym (run_alone least lengths w 0 (omega arith))) ∙ sym (packed-word least lengths v rest ∙ ap (λ n. run_tokens least lengths v n ++ packed_tokens least lengths (drop n rest)) none ∙ ap (λ u. run_tokens least lengths u 0 ++ later) same))
        ∙ ap (λ (front : List Token). front ++ packed_tokens least lengths (v ∷ rest)) (sym (run_alone least lengths w 0 (omega arith)))

-- what is written at a place: the word there alone where at most one equal word comes after it, else with the equal ones
pub packed_step : (least : ℕ) (lengths words : List ℕ) (at count : ℕ) → at < length words
    → (1 < equals_at (get_or words at 0) (drop (at + 1) words) → count ≡ equals_at (get_or words at 0) (drop (at + 1) words)) → (equals_at (get_or words at 0) (drop (at + 1) words) ≤ 1 → count ≡ 0)
    → packed_tokens least lengths (drop at words) ≡ run_tokens least lengths (get_or words at 0) count ++ packed_tokens least lengths (drop (at + (count + 1)) words)
packed_step least lengths words at count within many few =
    let w = get_or words at 0 in
    let behind = drop (at + 1) words in
    elim (cases_lt 1 (equals_at w behind)) [
      | inl more ↦ packed_at least lengths words at count within (many more)
      | inr alone ↦ ap (packed_tokens least lengths) (drop_more words at 0 within) ∙ packed-alone least lengths w behind alone ∙ sym (ap (λ n. run_tokens least lengths w n ++ packed_tokens least lengths (drop (at + (n + 1)) words)) (few alone))
    ]

-- ---- bits

pub tokens_bits-append : (least : ℕ) (lengths : List ℕ) (xs ys : List Token) → tokens_bits least lengths (xs ++ ys) ≡ tokens_bits least lengths xs ++ tokens_bits least lengths ys
tokens_bits-append least lengths xs ys = flat_map-append (token_bits least lengths) xs ys

times_none : (bits : List Bool) → times_bits 0 bits ≡ []
unfolding times_bits
times_none bits = refl

times_suc : (n : ℕ) (bits : List Bool) → times_bits (suc n) bits ≡ bits ++ times_bits n bits
unfolding times_bits
times_suc n bits = refl

words_bits : (least : ℕ) (lengths : List ℕ) (w n : ℕ) → tokens_bits least lengths (replicate n (word w)) ≡ times_bits n (code_of lengths (w - least))
words_bits least lengths w zero = sym (times_none (code_of lengths (w - least)))
words_bits least lengths w (suc n) = ap (λ (back : List Bool). code_of lengths (w - least) ++ back) (words_bits least lengths w n) ∙ sym (times_suc n (code_of lengths (w - least)))

pub written_as_run : (least : ℕ) (lengths : List ℕ) (w count : ℕ) → get_or lengths (w - least) 0 + get_or lengths (run_entry lengths) 0 + 8 < get_or lengths (w - least) 0 * count
    → tokens_bits least lengths (run_tokens least lengths w count) ≡ code_of lengths (w - least) ++ code_of lengths (run_entry lengths) ++ bits_of 8 count
unfolding run_tokens
written_as_run least lengths w count fewer =
    let len = get_or lengths (w - least) 0 in
    let code = code_of lengths (w - least) in
    let run = code_of lengths (run_entry lengths) in
    rw (lt-ltb (len + get_or lengths (run_entry lengths) 0 + 8) (len * count) fewer) (ap (λ (back : List Bool). code ++ back) (append-nil (run ++ bits_of 8 count)) ∙ sym (append_assoc code run (bits_of 8 count)))

pub written_as_words : (least : ℕ) (lengths : List ℕ) (w count : ℕ) → get_or lengths (w - least) 0 * count ≤ get_or lengths (w - least) 0 + get_or lengths (run_entry lengths) 0 + 8
    → tokens_bits least lengths (run_tokens least lengths w count) ≡ times_bits (count + 1) (code_of lengths (w - least))
unfolding run_tokens
written_as_words least lengths w count more_bits =
    let len = get_or lengths (w - least) 0 in
    rw (le-ltb (len + get_or lengths (run_entry lengths) 0 + 8) (len * count) more_bits) (words_bits least lengths w (count + 1))

pub written_alone : (least : ℕ) (lengths : List ℕ) (w count : ℕ) → count ≡ 0 → tokens_bits least lengths (run_tokens least lengths w count) ≡ code_of lengths (w - least)
written_alone least lengths w count none =
    let code = code_of lengths (w - least) in
    ap (λ n. tokens_bits least lengths (run_tokens least lengths w n)) none ∙ written_as_words least lengths w 0 (omega arith) ∙ times_suc 0 code ∙ ap (λ (back : List Bool). code ++ back) (times_none code) ∙ append-nil code

-- ---- what the codes take

sum_equal : (f : ℕ → ℕ) (n w : ℕ) → sum_by f (replicate n w) ≡ f w * n
sum_equal f zero w = omega arith
sum_equal f (suc n) w = sum_by-cons f w (replicate n w) ∙ omega (arith, sum_equal f n w)

pub cost_at : (least : ℕ) (lengths words : List ℕ) (at count : ℕ) → at < length words → count ≡ equals_at (get_or words at 0) (drop (at + 1) words)
    → cost_of least lengths (drop at words) ≡ get_or lengths (get_or words at 0 - least) 0 * (count + 1) + cost_of least lengths (drop (at + (count + 1)) words)
unfolding cost_of
cost_at least lengths words at count within is =
    let w = get_or words at 0 in
    let f = λ (v : ℕ). get_or lengths (v - least) 0 in
    let behind = drop (at + 1) words in
    let next : drop (equals_at w behind) behind ≡ drop (at + (count + 1)) words = drop-drop (equals_at w behind) (at + 1) words ∙ ap (λ n. drop n words) (omega arith) in
    let front : sum_by f (take (equals_at w behind) behind) ≡ f w * count = ap (sum_by f) (equals_in_front w behind) ∙ sum_equal f (equals_at w behind) w ∙ ap (λ n. f w * n) (sym is) in
    let split : sum_by f (take (equals_at w behind) behind) + sum_by f (drop (equals_at w behind) behind) ≡ sum_by f behind = sum_by-take-drop f behind (equals_at w behind) in
    let rest : sum_by f (drop (equals_at w behind) behind) ≡ sum_by f (drop (at + (count + 1)) words) = ap (sum_by f) next in
    omega (arith, sum_by-drop_more f words at 0 within, front, split, rest)

pub count_within : (words : List ℕ) (at count : ℕ) → at < length words → count ≡ equals_at (get_or words at 0) (drop (at + 1) words) → (at + (count + 1) ≤ length words) × (count ≤ 255)
count_within words at count within is =
    let most = equals_at-most (get_or words at 0) (drop (at + 1) words) in
    let len = length-drop (at + 1) words in
    (omega arith, omega arith)

cost_alone : (least : ℕ) (lengths words : List ℕ) (at : ℕ) → at < length words → cost_of least lengths (drop at words) ≡ get_or lengths (get_or words at 0 - least) 0 * (0 + 1) + cost_of least lengths (drop (at + (0 + 1)) words)
unfolding cost_of
cost_alone least lengths words at within = omega (arith, sum_by-drop_more (λ (v : ℕ). get_or lengths (v - least) 0) words at 0 within)

-- the same of what is written at a place
pub cost_step : (least : ℕ) (lengths words : List ℕ) (at count : ℕ) → at < length words
    → (1 < equals_at (get_or words at 0) (drop (at + 1) words) → count ≡ equals_at (get_or words at 0) (drop (at + 1) words)) → (equals_at (get_or words at 0) (drop (at + 1) words) ≤ 1 → count ≡ 0)
    → cost_of least lengths (drop at words) ≡ get_or lengths (get_or words at 0 - least) 0 * (count + 1) + cost_of least lengths (drop (at + (count + 1)) words)
cost_step least lengths words at count within many few = elim (cases_lt 1 (equals_at (get_or words at 0) (drop (at + 1) words))) [
  | inl more ↦ cost_at least lengths words at count within (many more)
  | inr alone ↦ cost_alone least lengths words at within ∙ sym (ap (λ n. get_or lengths (get_or words at 0 - least) 0 * (n + 1) + cost_of least lengths (drop (at + (n + 1)) words)) (few alone))
]

pub step_within : (words : List ℕ) (at count : ℕ) → at < length words
    → (1 < equals_at (get_or words at 0) (drop (at + 1) words) → count ≡ equals_at (get_or words at 0) (drop (at + 1) words)) → (equals_at (get_or words at 0) (drop (at + 1) words) ≤ 1 → count ≡ 0)
    → (at + (count + 1) ≤ length words) × (count ≤ 255)
step_within words at count within many few = elim (cases_lt 1 (equals_at (get_or words at 0) (drop (at + 1) words))) [
  | inl more ↦ count_within words at count within (many more)
  | inr alone ↦ (omega (arith, few alone), omega (arith, few alone))
]

-- ---- the data bits are no more than the codes

length-code_of : (lengths : List ℕ) (k : ℕ) → length (code_of lengths k) ≡ get_or lengths k 0
unfolding code_of
length-code_of lengths k = length-bits_of (get_or lengths k 0) (code_number lengths k)

times_size : (n : ℕ) (bits : List Bool) → length (times_bits n bits) ≡ length bits * n
times_size zero bits = ap length (times_none bits) ∙ omega arith
times_size (suc n) bits = ap length (times_suc n bits) ∙ length-append bits (times_bits n bits) ∙ omega (arith, times_size n bits)

run_size : (least : ℕ) (lengths : List ℕ) (w count : ℕ) → length (tokens_bits least lengths (run_tokens least lengths w count)) ≤ get_or lengths (w - least) 0 * (count + 1)
run_size least lengths w count =
    let len = get_or lengths (w - least) 0 in
    let code = code_of lengths (w - least) in
    let run = code_of lengths (run_entry lengths) in
    let size = length-code_of lengths (w - least) in
    elim (cases_lt (len + get_or lengths (run_entry lengths) 0 + 8) (len * count)) [
      | inl fewer ↦ omega (arith, ap length (written_as_run least lengths w count fewer), length-append (code ++ run) (bits_of 8 count), length-append code run, length-bits_of 8 count, size, length-code_of lengths (run_entry lengths))
      | inr more_bits ↦
          let whole : length (times_bits (count + 1) code) ≡ len * (count + 1) = times_size (count + 1) code ∙ ap (λ n. n * (count + 1)) size in
          omega (arith, ap length (written_as_words least lengths w count more_bits), whole)
    ]

size_within : (n least : ℕ) (lengths words : List ℕ) → length words ≤ n → length (tokens_bits least lengths (packed_tokens least lengths words)) ≤ cost_of least lengths words
size_within n least lengths [] few = rw (packed-nothing least lengths) (omega arith)
size_within zero least lengths (w ∷ words) few = absurd (omega arith)
size_within (suc n) least lengths (w ∷ words) few =
    let count = equals_at w words in
    let rest = drop count words in
    let len = get_or lengths (w - least) 0 in
    let tokens = run_tokens least lengths w count in
    let joined : tokens_bits least lengths (packed_tokens least lengths (w ∷ words)) ≡ tokens_bits least lengths tokens ++ tokens_bits least lengths (packed_tokens least lengths rest) = ap (tokens_bits least lengths) (packed-word least lengths w words) ∙ tokens_bits-append least lengths tokens (packed_tokens least lengths rest) in
    let cost : cost_of least lengths (w ∷ words) ≡ len * (count + 1) + cost_of least lengths (drop (0 + (count + 1)) (w ∷ words)) = cost_at least lengths (w ∷ words) 0 count (omega arith) refl in
    let next : drop (0 + (count + 1)) (w ∷ words) ≡ rest = ap (λ n. drop n (w ∷ words)) (let one : 0 + (count + 1) ≡ suc count = omega arith in one) in
    omega (arith, ap length joined, length-append (tokens_bits least lengths tokens) (tokens_bits least lengths (packed_tokens least lengths rest)), cost, ap (cost_of least lengths) next, run_size least lengths w count, size_within n least lengths rest (omega (arith, length-drop count words)))

pub tokens_size : (least : ℕ) (lengths words : List ℕ) → length (tokens_bits least lengths (packed_tokens least lengths words)) ≤ cost_of least lengths words
tokens_size least lengths words = size_within (length words) least lengths words (omega arith)

most_within : (most : ℕ) (f : ℕ → ℕ) (words : List ℕ) → ((v : ℕ) → f v ≤ most) → sum_by f words ≤ most * length words
most_within most f [] le = omega arith
most_within most f (w ∷ words) le = omega (arith, sum_by-cons f w words, le w, most_within most f words le)

pub cost_most : (most least : ℕ) (lengths words : List ℕ) → ((k : ℕ) → get_or lengths k 0 ≤ most) → cost_of least lengths words ≤ most * length words
unfolding cost_of
cost_most most least lengths words le = most_within most (λ v. get_or lengths (v - least) 0) words (λ v. le (v - least))

-- ---- codes as they are written

pub code_bits : (lengths : List ℕ) (k len number : ℕ) → len ≡ get_or lengths k 0 → number ≡ code_number lengths k → bits_of len number ≡ code_of lengths k
unfolding code_of
code_bits lengths k len number len_is number_is = ap₂ bits_of len_is number_is

pub code_fits : (lengths : List ℕ) (k len number : ℕ) → IsComplete lengths → 0 < get_or lengths k 0 → len ≡ get_or lengths k 0 → number ≡ code_number lengths k → number < 2 ^ len
code_fits lengths k len number complete some len_is number_is = rw (len_is, number_is) (code_number_below lengths complete k some)

pub three_behind : (front a b c : List Bool) → front ++ a ++ b ++ c ≡ front ++ (a ++ b ++ c)
three_behind front a b c = append_assoc (front ++ a) b c ∙ append_assoc front a (b ++ c) ∙ ap (λ (back : List Bool). front ++ back) (sym (append_assoc a b c))
