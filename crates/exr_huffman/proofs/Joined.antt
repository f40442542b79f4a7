-- What the reader from left to right finds is what joined tokens say, and nothing else is.
use Rattle.std.proofs.Common.{◌≡◌, ℕ, zero, suc, ◌+◌, ◌-◌, ◌<◌, ◌≤◌, ◌⊎◌, Bool, true, false, cond, eqb, ltb, ◌&&◌, List, [], ◌∷◌, ◌++◌, length, take, drop, get_or, Option, Some, None, Result, Ok, Err, refl, sym, ap, ◌∙◌, subst, inl, inr, arith, append_assoc, append-nil, mod-eq_of_lt}
use Rattle.std.proofs.lemmas.List.{length-append, length-drop, take_at, drop_at, take-append-drop, get_or_past, nil_from_length}
use Rattle.std.proofs.lemmas.List.Concat.{flat_map-append}
use Rattle.std.proofs.Math.Seq.{take-append-add}
use Rattle.std.proofs.lemmas.Bool.{eq-eqb, ne_eqb, le-ltb, eqb-true, eqb-false, ltb-false, ltb-true, and_parts, and_left, and_right, cond_both, cases_lt, false_from_ne_true, true≢false}
use Rattle.exr_base.specs.Bits.{number_of, bits_of}
use Rattle.exr_base.proofs.BitLists.{length-bits_of, number_of-bits_of, number_of-take_below}
use Rattle.exr_codes.proofs.BitFronts.{bits_of-front}
use Rattle.exr_codes.specs.Codes.{IsComplete, entry_at, code_of, code_number}
use Rattle.exr_codes.specs.Tables.{◌>>=◌}
use Rattle.exr_codes.proofs.Intervals.{entry_at_begins, code_begins_joined, entry_at_joined}
use Rattle.exr_huffman.specs.Tokens.{Token, word, more, token_at, token_of, run_token, run_entry, token_and, token_bits, tokens_within, tokens_of, words_from, words_of}
use Rattle.exr_huffman.specs.Blocks.{Data, is_run, judged, data_words_of}
use Rattle.exr_huffman.specs.Joined.{IsToken, AreTokens, tokens_bits, BeginsWith, BeginsWithRun, AreWords, HasTooMany, HasTooFew, Holds}
use Rattle.exr_huffman.specs.declared.fault.HufFault.{HufFault}
use Rattle.exr_huffman.specs.declared.fault.HufFault.TheVariants.{Short, BadRange, BadTable, RunFirst, TooMany, TooFew}
use Rattle.exr_huffman.proofs.Progress.{token_at_nothing, tokens_of-some, tokens_of-none, words_from-append, judged_few, judged_many, judged_ok, run_first, word_first}

-- ---- a token that is read is spelled there

abbrev IsJoined : ℕ → List ℕ → List Bool → Option (Token × List Bool) → Type 0
IsJoined least lengths bits (Some read) = IsToken least lengths read.0 × (bits ≡ token_bits least lengths read.0 ++ read.1)
IsJoined least lengths bits None = Unit {0}

word_joined : (least : ℕ) (lengths : List ℕ) (entry : ℕ) (bits rest : List Bool) → entry < run_entry lengths → 0 < get_or lengths entry 0 → bits ≡ code_of lengths entry ++ rest → IsJoined least lengths bits (Some (word (least + entry), rest))
word_joined least lengths entry bits rest within coded joined =
    let same : (least + entry) - least ≡ entry = omega arith in
    rw same ((omega arith, within, coded), joined)

run_joined : (least : ℕ) (lengths : List ℕ) (bits rest : List Bool) → 0 < get_or lengths (run_entry lengths) 0 → bits ≡ code_of lengths (run_entry lengths) ++ rest → IsJoined least lengths bits (run_token rest)
run_joined least lengths bits rest coded joined =
    cond_both (ltb (length rest) 8) None (Some (more (number_of (take 8 rest)), drop 8 rest)) (IsJoined least lengths bits) (λ f. tt) (λ f.
    let long : 8 ≤ length rest = ltb-false (length rest) 8 f in
    let count : bits_of 8 (number_of (take 8 rest)) ≡ take 8 rest = bits_of-front 8 rest long in
    ((number_of-take_below 8 rest, coded), joined ∙ ap (λ (xs : List Bool). code_of lengths (run_entry lengths) ++ xs) (sym (take-append-drop 8 rest) ∙ ap (λ (xs : List Bool). xs ++ drop 8 rest) (sym count)) ∙ sym (append_assoc (code_of lengths (run_entry lengths)) (bits_of 8 (number_of (take 8 rest))) (drop 8 rest))))

token_of_joined : (least : ℕ) (lengths : List ℕ) (entry : ℕ) (bits rest : List Bool) → entry < length lengths → 0 < get_or lengths entry 0 → bits ≡ code_of lengths entry ++ rest → IsJoined least lengths bits (token_of least lengths entry rest)
token_of_joined least lengths entry bits rest within coded joined =
    cond_both (eqb entry (run_entry lengths)) (run_token rest) (Some (word (least + entry), rest)) (IsJoined least lengths bits)
    (λ e. let same : entry ≡ run_entry lengths = eqb-true entry (run_entry lengths) e in
    run_joined least lengths bits rest (subst (λ k. 0 < get_or lengths k 0) same coded) (subst (λ k. bits ≡ code_of lengths k ++ rest) same joined))
    (λ e. word_joined least lengths entry bits rest (omega (arith, eqb-false entry (run_entry lengths) e)) coded joined)

at_entry_joined : (least : ℕ) (lengths : List ℕ) (bits : List Bool) (found : Option ℕ) → entry_at lengths bits ≡ found → IsJoined least lengths bits (found >>= (λ entry. token_of least lengths entry (drop (get_or lengths entry 0) bits)))
at_entry_joined least lengths bits None e = tt
at_entry_joined least lengths bits (Some entry) e =
    let is = entry_at_joined lengths bits entry e in
    token_of_joined least lengths entry bits (drop (get_or lengths entry 0) bits) is.0 is.1 is.2

token_at_joined : (least : ℕ) (lengths : List ℕ) (bits : List Bool) → IsJoined least lengths bits (token_at least lengths bits)
unfolding token_at
token_at_joined least lengths bits = at_entry_joined least lengths bits (entry_at lengths bits) refl

-- the tokens that are read are spelled in front of the bits left over
abbrev AreJoined : ℕ → List ℕ → List Bool → List Token × List Bool → Type 0
AreJoined least lengths bits read = AreTokens least lengths read.0 × (bits ≡ tokens_bits least lengths read.0 ++ read.1)

none_joined : (least : ℕ) (lengths : List ℕ) (bits : List Bool) → AreJoined least lengths bits ([], bits)
none_joined least lengths bits = (tt, refl)

and_joined : (n least : ℕ) (lengths : List ℕ) (bits : List Bool) → ((rest : List Bool) → AreJoined least lengths rest (tokens_within n least lengths rest)) → (read : Option (Token × List Bool)) → IsJoined least lengths bits read → AreJoined least lengths bits (token_and read (tokens_within n least lengths) bits)
and_joined n least lengths bits others None first = (tt, refl)
and_joined n least lengths bits others (Some (t, rest)) first =
    let later = others rest in
    let tokens = (tokens_within n least lengths rest).0 in
    let left = (tokens_within n least lengths rest).1 in
    ((first.0, later.0), first.1 ∙ ap (λ (xs : List Bool). token_bits least lengths t ++ xs) later.1 ∙ sym (append_assoc (token_bits least lengths t) (tokens_bits least lengths tokens) left))

within_joined : (n least : ℕ) (lengths : List ℕ) (bits : List Bool) → AreJoined least lengths bits (tokens_within n least lengths bits)
unfolding tokens_within
within_joined zero least lengths bits = none_joined least lengths bits
within_joined (suc n) least lengths bits = and_joined n least lengths bits (λ rest. within_joined n least lengths rest) (token_at least lengths bits) (token_at_joined least lengths bits)

tokens_joined : (least : ℕ) (lengths : List ℕ) (bits : List Bool) → AreJoined least lengths bits (tokens_of least lengths bits)
unfolding tokens_of
tokens_joined least lengths bits = within_joined (length bits) least lengths bits

-- ---- a token that is spelled is read

length-code_of : (lengths : List ℕ) (k : ℕ) → length (code_of lengths k) ≡ get_or lengths k 0
unfolding code_of
length-code_of lengths k = length-bits_of (get_or lengths k 0) (code_number lengths k)

is_there : (lengths : List ℕ) (k : ℕ) → 0 < get_or lengths k 0 → k < length lengths
is_there lengths k coded = elim (cases_lt k (length lengths)) [ inl lt ↦ lt | inr past ↦ absurd (omega (arith, get_or_past lengths k 0 past)) ]

code_read : (lengths : List ℕ) (k : ℕ) (rest : List Bool) → IsComplete lengths → 0 < get_or lengths k 0 → entry_at lengths (code_of lengths k ++ rest) ≡ Some k
code_read lengths k rest complete coded = entry_at_begins lengths complete (code_of lengths k ++ rest) k (is_there lengths k coded) (code_begins_joined lengths k rest complete coded)

word_read : (least : ℕ) (lengths : List ℕ) (w : ℕ) (rest : List Bool) → IsComplete lengths → IsToken least lengths (word w) → token_at least lengths (token_bits least lengths (word w) ++ rest) ≡ Some (word w, rest)
unfolding token_at
word_read least lengths w rest complete is =
    let k = w - least in
    let back : least + k ≡ w = omega (arith, is.0) in
    rw (code_read lengths k rest complete is.2, drop_at (code_of lengths k) rest (get_or lengths k 0) (length-code_of lengths k), ne_eqb k (run_entry lengths) (λ e. omega (arith, is.1))) (ap (λ n. Some (word n, rest)) back)

more_read : (least : ℕ) (lengths : List ℕ) (count : ℕ) (rest : List Bool) → IsComplete lengths → IsToken least lengths (more count) → token_at least lengths (token_bits least lengths (more count) ++ rest) ≡ Some (more count, rest)
unfolding token_at
more_read least lengths count rest complete is =
    let k = run_entry lengths in
    let behind = bits_of 8 count ++ rest in
    let long : 8 ≤ length behind = rw (length-append, length-bits_of 8 count) (omega arith) in
    let value : number_of (take 8 behind) ≡ count = ap number_of (take_at (bits_of 8 count) rest 8 (length-bits_of 8 count)) ∙ number_of-bits_of 8 count ∙ mod-eq_of_lt is.0 in
    rw (append_assoc (code_of lengths k) (bits_of 8 count) rest, code_read lengths k behind complete is.1, drop_at (code_of lengths k) behind (get_or lengths k 0) (length-code_of lengths k), eq-eqb k k refl, le-ltb (length behind) 8 long, value, drop_at (bits_of 8 count) rest 8 (length-bits_of 8 count)) refl

token_read : (least : ℕ) (lengths : List ℕ) (t : Token) (rest : List Bool) → IsComplete lengths → IsToken least lengths t → token_at least lengths (token_bits least lengths t ++ rest) ≡ Some (t, rest)
token_read least lengths (word w) rest complete is = word_read least lengths w rest complete is
token_read least lengths (more count) rest complete is = more_read least lengths count rest complete is

-- tokens that are spelled are read first
spelled_first : (least : ℕ) (lengths : List ℕ) → IsComplete lengths → (tokens : List Token) (left : List Bool) → AreTokens least lengths tokens → tokens_of least lengths (tokens_bits least lengths tokens ++ left) ≡ (tokens ++ (tokens_of least lengths left).0, (tokens_of least lengths left).1)
spelled_first least lengths complete [] left are = refl
spelled_first least lengths complete (t ∷ tokens) left are =
    let behind = tokens_bits least lengths tokens ++ left in
    ap (tokens_of least lengths) (append_assoc (token_bits least lengths t) (tokens_bits least lengths tokens) left)
    ∙ tokens_of-some least lengths (token_bits least lengths t ++ behind) t behind (token_read least lengths t behind complete are.0)
    ∙ ap (λ (read : List Token × List Bool). (t ∷ read.0, read.1)) (spelled_first least lengths complete tokens left are.1)

token_has_bits : (least : ℕ) (lengths : List ℕ) (t : Token) → IsToken least lengths t → 0 < length (token_bits least lengths t)
token_has_bits least lengths (word w) is = omega (arith, length-code_of lengths (w - least), is.2)
token_has_bits least lengths (more count) is = rw (length-append, length-bits_of 8 count) (omega arith)

-- ---- parts of a list of tokens

are_front : (least : ℕ) (lengths : List ℕ) (xs ys : List Token) → AreTokens least lengths (xs ++ ys) → AreTokens least lengths xs
are_front least lengths [] ys are = tt
are_front least lengths (t ∷ xs) ys are = (are.0, are_front least lengths xs ys are.1)

are_behind : (least : ℕ) (lengths : List ℕ) (xs ys : List Token) → AreTokens least lengths (xs ++ ys) → AreTokens least lengths ys
are_behind least lengths [] ys are = are
are_behind least lengths (t ∷ xs) ys are = are_behind least lengths xs ys are.1

some_bits : (least : ℕ) (lengths : List ℕ) (tokens : List Token) → AreTokens least lengths tokens → 0 < length tokens → 0 < length (tokens_bits least lengths tokens)
some_bits least lengths [] are some = absurd (omega arith)
some_bits least lengths (t ∷ tokens) are some = rw length-append (omega (arith, token_has_bits least lengths t are.0))

-- words are those of tokens in front and of those behind
front_words : (xs ys : List Token) → length (words_of xs) ≤ length (words_of (xs ++ ys))
front_words xs ys = rw (words_from-append 0 xs ys, length-append) (omega arith)

without_last : (front behind : List Token) → 0 < length behind → take (length (front ++ behind) - 1) (front ++ behind) ≡ front ++ take (length behind - 1) behind
without_last front behind some =
    let size : length (front ++ behind) - 1 ≡ length front + (length behind - 1) = rw length-append (omega arith) in
    ap (λ n. take n (front ++ behind)) size ∙ take-append-add front behind (length behind - 1)

shorter_words : (front behind : List Token) → 0 < length behind → length (words_of front) ≤ length (words_of (take (length (front ++ behind) - 1) (front ++ behind)))
shorter_words front behind some = rw (without_last front behind some) (front_words front (take (length behind - 1) behind))

some_tokens : (tokens : List Token) → 0 < length (words_of tokens) → 0 < length tokens
unfolding words_from
some_tokens [] some = absurd (omega arith)
some_tokens (t ∷ tokens) some = omega arith

-- the third of three tests fails where the first two do not
last_false : (size wanted over earlier : ℕ) → size ≡ wanted → over ≡ 0 → (eqb size wanted && eqb over 0 && ltb earlier wanted) ≡ false → ltb earlier wanted ≡ false
last_false size wanted over earlier same none wrong = rw (eq-eqb size wanted same, eq-eqb over 0 none) at wrong

-- ---- what data bits hold

module _ (d : Data) (complete : IsComplete d.lengths) (wanted : ℕ) (some : 0 < wanted) where
  read : List Token × List Bool
  read = tokens_of d.least d.lengths d.bits

  begins_read : BeginsWith d read.0 read.1
  unfolding read
  begins_read = let joined = tokens_joined d.least d.lengths d.bits in record { each = joined.0; joined = joined.1 }

  read_first : (tokens : List Token) (left : List Bool) → BeginsWith d tokens left → read ≡ (tokens ++ (tokens_of d.least d.lengths left).0, (tokens_of d.least d.lengths left).1)
  unfolding read
  read_first tokens left b = ap (tokens_of d.least d.lengths) b.joined ∙ spelled_first d.least d.lengths complete tokens left b.each

  run_found : BeginsWithRun d → is_run d.lengths (entry_at d.lengths d.bits) ≡ true
  run_found b =
      let k = run_entry d.lengths in
      let entry : entry_at d.lengths d.bits ≡ Some k = ap (entry_at d.lengths) b.joined ∙ code_read d.lengths k b.left complete b.coded in
      rw entry (eq-eqb k k refl)

  run_from : (found : Option ℕ) → entry_at d.lengths d.bits ≡ found → is_run d.lengths found ≡ true → BeginsWithRun d
  run_from None e f = absurd cc
  run_from (Some k) e f =
      let same = eqb-true k (run_entry d.lengths) f in
      let is = entry_at_joined d.lengths d.bits k e in
      record {
        coded = subst (λ i. 0 < get_or d.lengths i 0) same is.1;
        left = drop (get_or d.lengths k 0) d.bits;
        joined = subst (λ i. d.bits ≡ code_of d.lengths i ++ drop (get_or d.lengths k 0) d.bits) same is.2;
      }

  -- a word in front is no run
  pub word_in_front : (w : ℕ) (tokens : List Token) (left : List Bool) → BeginsWith d (word w ∷ tokens) left → ¬ BeginsWithRun d
  word_in_front w tokens left b run =
      let k = w - d.least in
      let behind = tokens_bits d.least d.lengths tokens ++ left in
      let entry : entry_at d.lengths d.bits ≡ Some k = ap (entry_at d.lengths) (b.joined ∙ append_assoc (code_of d.lengths k) (tokens_bits d.least d.lengths tokens) left) ∙ code_read d.lengths k behind complete b.each.0.2 in
      let first : eqb k (run_entry d.lengths) ≡ true = rw entry at run_found run in
      omega (arith, b.each.0.1, eqb-true k (run_entry d.lengths) first)

  no_run_found : (¬ BeginsWithRun d) → is_run d.lengths (entry_at d.lengths d.bits) ≡ false
  no_run_found none = false_from_ne_true (is_run d.lengths (entry_at d.lengths d.bits)) (λ e. none (run_from (entry_at d.lengths d.bits) refl e))

  -- ---- nothing else is found

  only_words : (words : List ℕ) → (¬ BeginsWithRun d) → AreWords d wanted words → data_words_of d.least d.lengths wanted d.bits ≡ Ok words
  unfolding read
  only_words words none are =
      let tokens = are.tokens in
      let nothing = tokens_of-none d.least d.lengths [] (token_at_nothing d.least d.lengths) in
      let whole : tokens_of d.least d.lengths d.bits ≡ (tokens, []) = read_first tokens [] are.spelled ∙ ap (λ (r : List Token × List Bool). (tokens ++ r.0, r.1)) nothing ∙ ap (λ (ts : List Token). (ts, [])) (append-nil tokens) in
      let just : length (words_of tokens) ≡ wanted = ap length (sym are.given) ∙ are.counted in
      let n = length tokens - 1 in
      let last : 0 < length (drop n tokens) = rw length-drop (omega (arith, some_tokens tokens (omega (arith, just, some)))) in
      let earlier = are.no_shorter (take n tokens) (drop n tokens) (sym (take-append-drop n tokens)) last in
      word_first d.least d.lengths wanted d.bits (no_run_found none) ∙ ap (judged wanted) whole ∙ judged_ok wanted (tokens, []) just refl earlier ∙ ap Ok (sym are.given)

  too_many_wrong : (tokens others : List Token) (left behind : List Bool) → left ≡ tokens_bits d.least d.lengths others ++ behind → (wanted < length (words_of tokens)) ⊎ ((length (words_of tokens) ≡ wanted) × (0 < length left))
      → (eqb (length (words_of (tokens ++ others))) wanted && eqb (length behind) 0 && ltb (length (words_of (take (length (tokens ++ others) - 1) (tokens ++ others)))) wanted) ≡ false
  too_many_wrong tokens others left behind joined (inl passes) =
      let other = ne_eqb (length (words_of (tokens ++ others))) wanted (λ e. omega (arith, front_words tokens others)) in
      and_left (eqb (length (words_of (tokens ++ others))) wanted && eqb (length behind) 0) (ltb (length (words_of (take (length (tokens ++ others) - 1) (tokens ++ others)))) wanted) (and_left (eqb (length (words_of (tokens ++ others))) wanted) (eqb (length behind) 0) other)
  too_many_wrong tokens [] left behind joined (inr (just, bits)) =
      let over : eqb (length behind) 0 ≡ false = ne_eqb (length behind) 0 (λ e. omega (arith, ap length joined)) in
      and_left (eqb (length (words_of (tokens ++ []))) wanted && eqb (length behind) 0) (ltb (length (words_of (take (length (tokens ++ []) - 1) (tokens ++ [])))) wanted) (and_right (eqb (length (words_of (tokens ++ []))) wanted) (eqb (length behind) 0) over)
  too_many_wrong tokens (t ∷ others) left behind joined (inr (just, bits)) =
      let all = tokens ++ t ∷ others in
      let enough = le-ltb (length (words_of (take (length all - 1) all))) wanted (omega (arith, shorter_words tokens (t ∷ others) (omega arith), just)) in
      and_right (eqb (length (words_of all)) wanted && eqb (length behind) 0) (ltb (length (words_of (take (length all - 1) all))) wanted) enough

  only_many : (¬ BeginsWithRun d) → HasTooMany d wanted → data_words_of d.least d.lengths wanted d.bits ≡ Err TooMany
  unfolding read
  only_many none has =
      let tokens = has.tokens in
      let later = tokens_of d.least d.lengths has.left in
      let joined = tokens_joined d.least d.lengths has.left in
      let wrong = too_many_wrong tokens later.0 has.left later.1 joined.1 has.many in
      let many : wanted ≤ length (words_of (tokens ++ later.0)) = elim has.many [
        | inl passes ↦ omega (arith, front_words tokens later.0)
        | inr (just, bits) ↦ omega (arith, front_words tokens later.0)
      ] in
      word_first d.least d.lengths wanted d.bits (no_run_found none) ∙ ap (judged wanted) (read_first tokens has.left has.begun) ∙ judged_many wanted (tokens ++ later.0, later.1) many wrong

  only_few : (¬ BeginsWithRun d) → HasTooFew d wanted → data_words_of d.least d.lengths wanted d.bits ≡ Err TooFew
  unfolding read
  only_few none few = word_first d.least d.lengths wanted d.bits (no_run_found none) ∙ judged_few wanted read (few read.0 read.1 begins_read)

  pub only : (outcome : Result (List ℕ) HufFault) → Holds d wanted outcome → data_words_of d.least d.lengths wanted d.bits ≡ outcome
  only (Ok words) holds = only_words words holds.0 holds.1
  only (Err RunFirst) holds = run_first d.least d.lengths wanted d.bits (run_found holds)
  only (Err TooMany) holds = only_many holds.0 holds.1
  only (Err TooFew) holds = only_few holds.0 holds.1
  only (Err Short) holds = absurd holds
  only (Err BadRange) holds = absurd holds
  only (Err BadTable) holds = absurd holds

  -- ---- and it is what is read

  few_holds : length (words_of read.0) < wanted → HasTooFew d wanted
  few_holds few tokens left b =
      let whole = ap (λ (r : List Token × List Bool). length (words_of r.0)) (read_first tokens left b) in
      omega (arith, whole, front_words tokens (tokens_of d.least d.lengths left).0)

  words_hold : length (words_of read.0) ≡ wanted → length read.1 ≡ 0 → length (words_of (take (length read.0 - 1) read.0)) < wanted → AreWords d wanted (words_of read.0)
  words_hold just none earlier = record {
    tokens = read.0;
    spelled = subst (BeginsWith d read.0) (nil_from_length read.1 none) begins_read;
    given = refl;
    counted = just;
    no_shorter = λ front behind is last. omega (arith, earlier, shorter_words front behind last, ap (λ (ts : List Token). length (words_of (take (length ts - 1) ts))) is);
  }

  many_holds : wanted ≤ length (words_of read.0) → (eqb (length (words_of read.0)) wanted && eqb (length read.1) 0 && ltb (length (words_of (take (length read.0 - 1) read.0))) wanted) ≡ false → HasTooMany d wanted
  many_holds many wrong =
      let tokens = read.0 in
      let n = length tokens - 1 in
      let front = take n tokens in
      let behind = drop n tokens in
      let cut : front ++ behind ≡ tokens = take-append-drop n tokens in
      elim (cases_lt wanted (length (words_of tokens))) [
        | inl passes ↦ record { tokens = tokens; left = read.1; begun = begins_read; many = inl passes }
        | inr no_more ↦ elim (cases_lt 0 (length read.1)) [
          | inl over ↦ record { tokens = tokens; left = read.1; begun = begins_read; many = inr (omega arith, over) }
          | inr whole ↦
              let late : ltb (length (words_of front)) wanted ≡ false = last_false (length (words_of tokens)) wanted (length read.1) (length (words_of front)) (omega arith) (omega arith) wrong in
              let enough = ltb-false (length (words_of front)) wanted late in
              let fewer : length (words_of front) ≤ length (words_of tokens) = subst (λ (ts : List Token). length (words_of front) ≤ length (words_of ts)) cut (front_words front behind) in
              let are : AreTokens d.least d.lengths (front ++ behind) = subst (AreTokens d.least d.lengths) (sym cut) begins_read.each in
              let last : 0 < length behind = rw length-drop (omega (arith, some_tokens tokens (omega (arith, some, many)))) in
              let bits = tokens_bits d.least d.lengths behind ++ read.1 in
              let split : tokens_bits d.least d.lengths tokens ≡ tokens_bits d.least d.lengths front ++ tokens_bits d.least d.lengths behind = ap (tokens_bits d.least d.lengths) (sym cut) ∙ flat_map-append (token_bits d.least d.lengths) front behind in
              record {
                tokens = front;
                left = bits;
                begun = record {
                  each = are_front d.least d.lengths front behind are;
                  joined = begins_read.joined ∙ ap (λ (xs : List Bool). xs ++ read.1) split ∙ append_assoc (tokens_bits d.least d.lengths front) (tokens_bits d.least d.lengths behind) read.1;
                };
                many = inr (omega arith, rw length-append (omega (arith, some_bits d.least d.lengths behind (are_behind d.least d.lengths front behind are) last)));
              }
        ]
      ]

  read_holds : (¬ BeginsWithRun d) → Holds d wanted (judged wanted read)
  unfolding judged read
  read_holds none =
      let tokens = read.0 in
      let words = words_of tokens in
      let n = length tokens - 1 in
      let earlier = words_of (take n tokens) in
      cond_both (ltb (length words) wanted) (Err TooFew) (cond (eqb (length words) wanted && eqb (length read.1) 0 && ltb (length earlier) wanted) (Ok words) (Err TooMany)) (Holds d wanted)
      (λ e. (none, few_holds (ltb-true (length words) wanted e)))
      (λ e. cond_both (eqb (length words) wanted && eqb (length read.1) 0 && ltb (length earlier) wanted) (Ok words) (Err TooMany) (Holds d wanted)
      (λ f. let p = and_parts (eqb (length words) wanted && eqb (length read.1) 0) (ltb (length earlier) wanted) f in
      let q = and_parts (eqb (length words) wanted) (eqb (length read.1) 0) p.0 in
      (none, words_hold (eqb-true (length words) wanted q.0) (eqb-true (length read.1) 0 q.1) (ltb-true (length earlier) wanted p.1)))
      (λ f. (none, many_holds (ltb-false (length words) wanted e) f)))

  pub holds : Holds d wanted (data_words_of d.least d.lengths wanted d.bits)
  unfolding data_words_of read
  holds =
      let first = is_run d.lengths (entry_at d.lengths d.bits) in
      cond_both first (Err RunFirst) (judged wanted read) (Holds d wanted)
      (λ e. run_from (entry_at d.lengths d.bits) refl e)
      (λ e. read_holds (λ b. true≢false (sym (run_found b) ∙ e)))
