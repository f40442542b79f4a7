-- Reading tokens one by one, each behind those that were read before.
use Rattle.std.proofs.Common.{◌≡◌, ℕ, zero, suc, ◌+◌, ◌-◌, ◌<◌, ◌≤◌, Bool, true, false, eqb, ltb, ◌&&◌, List, [], ◌∷◌, ◌++◌, length, take, drop, get_or, replicate, Option, Some, None, Ok, Err, refl, sym, ap, ◌∙◌, ap₂, subst, arith, append_assoc, append-nil}
use Rattle.std.proofs.lemmas.List.{length-append, length-drop, length-replicate, take_at, nil_from_length}
use Rattle.std.proofs.Math.Seq.{take-append-add}
use Rattle.std.proofs.lemmas.Bool.{eq-eqb, ne_eqb, lt-ltb, le-ltb, and_left, and_right, cond_both}
use Rattle.exr_base.specs.Bits.{number_of}
use Rattle.exr_codes.specs.Codes.{entry_at}
use Rattle.exr_codes.specs.Tables.{◌>>=◌}
use Rattle.exr_codes.proofs.Intervals.{entry_at_is, entry_at_nothing}
use Rattle.exr_huffman.specs.Tokens.{Token, word, more, token_at, token_of, run_token, run_entry, tokens_within, tokens_of, words_from, words_of}
use Rattle.exr_huffman.specs.Blocks.{is_run, judged, data_words_of}
use Rattle.exr_huffman.specs.Reading.{Progress}
pub use Rattle.exr_huffman.specs.Reading.{last_from}
use Rattle.exr_huffman.specs.declared.fault.HufFault.TheVariants.{RunFirst, TooMany, TooFew}

-- ---- a token is not empty

abbrev IsShorter : List Bool → Option (Token × List Bool) → Type 0
IsShorter bits (Some read) = length read.1 < length bits
IsShorter bits None = Unit {0}

token_of_shorter : (least : ℕ) (lengths : List ℕ) (entry : ℕ) (bits rest : List Bool) → length rest < length bits → IsShorter bits (token_of least lengths entry rest)
token_of_shorter least lengths entry bits rest less =
    cond_both (eqb entry (run_entry lengths)) (run_token rest) (Some (word (least + entry), rest)) (IsShorter bits)
    (λ e. cond_both (ltb (length rest) 8) None (Some (more (number_of (take 8 rest)), drop 8 rest)) (IsShorter bits) (λ f. tt) (λ f. omega (arith, length-drop 8 rest)))
    (λ e. less)

at_entry_shorter : (least : ℕ) (lengths : List ℕ) (bits : List Bool) (found : Option ℕ) → entry_at lengths bits ≡ found → IsShorter bits (found >>= (λ entry. token_of least lengths entry (drop (get_or lengths entry 0) bits)))
at_entry_shorter least lengths bits None e = tt
at_entry_shorter least lengths bits (Some entry) e =
    let is = entry_at_is lengths bits entry e in
    token_of_shorter least lengths entry bits (drop (get_or lengths entry 0) bits) (omega (arith, length-drop (get_or lengths entry 0) bits, is))

token_at_shorter : (least : ℕ) (lengths : List ℕ) (bits : List Bool) → IsShorter bits (token_at least lengths bits)
unfolding token_at
token_at_shorter least lengths bits = at_entry_shorter least lengths bits (entry_at lengths bits) refl

token_shorter : (least : ℕ) (lengths : List ℕ) (bits : List Bool) (t : Token) (rest : List Bool) → token_at least lengths bits ≡ Some (t, rest) → length rest < length bits
token_shorter least lengths bits t rest e = subst (IsShorter bits) e (token_at_shorter least lengths bits)

pub token_at_nothing : (least : ℕ) (lengths : List ℕ) → token_at least lengths [] ≡ None
unfolding token_at
token_at_nothing least lengths = rw (entry_at_nothing lengths) refl

-- ---- the longest list of whole tokens, token by token

within_some : (n least : ℕ) (lengths : List ℕ) (bits : List Bool) (t : Token) (rest : List Bool) → token_at least lengths bits ≡ Some (t, rest) → tokens_within (suc n) least lengths bits ≡ (t ∷ (tokens_within n least lengths rest).0, (tokens_within n least lengths rest).1)
unfolding tokens_within
within_some n least lengths bits t rest e = rw e refl

within_none : (n least : ℕ) (lengths : List ℕ) (bits : List Bool) → token_at least lengths bits ≡ None → tokens_within n least lengths bits ≡ ([], bits)
unfolding tokens_within
within_none zero least lengths bits e = refl
within_none (suc n) least lengths bits e = rw e refl

within_enough_at : (n m least : ℕ) (lengths : List ℕ) (bits : List Bool) → ((rest : List Bool) → length rest ≤ n → tokens_within m least lengths rest ≡ tokens_within n least lengths rest) → length bits ≤ suc n → (read : Option (Token × List Bool)) → token_at least lengths bits ≡ read → tokens_within (suc m) least lengths bits ≡ tokens_within (suc n) least lengths bits
within_enough_at n m least lengths bits before enough None e = within_none (suc m) least lengths bits e ∙ sym (within_none (suc n) least lengths bits e)
within_enough_at n m least lengths bits before enough (Some (t, rest)) e =
    let same = before rest (omega (arith, token_shorter least lengths bits t rest e)) in
    within_some m least lengths bits t rest e ∙ ap (λ (read : List Token × List Bool). (t ∷ read.0, read.1)) same ∙ sym (within_some n least lengths bits t rest e)

within_enough : (n m least : ℕ) (lengths : List ℕ) (bits : List Bool) → length bits ≤ n → n ≤ m → tokens_within m least lengths bits ≡ tokens_within n least lengths bits
within_enough zero m least lengths bits enough le =
    let none : bits ≡ [] = nil_from_length bits (omega arith) in
    let cut : token_at least lengths bits ≡ None = rw none (token_at_nothing least lengths) in
    within_none m least lengths bits cut ∙ sym (within_none 0 least lengths bits cut)
within_enough (suc n) zero least lengths bits enough le = absurd (omega arith)
within_enough (suc n) (suc m) least lengths bits enough le =
    within_enough_at n m least lengths bits (λ rest few. within_enough n m least lengths rest few (omega arith)) enough (token_at least lengths bits) refl

pub tokens_of-some : (least : ℕ) (lengths : List ℕ) (bits : List Bool) (t : Token) (rest : List Bool) → token_at least lengths bits ≡ Some (t, rest) → tokens_of least lengths bits ≡ (t ∷ (tokens_of least lengths rest).0, (tokens_of least lengths rest).1)
unfolding tokens_of
tokens_of-some least lengths [] t rest e = absurd (omega (arith, token_shorter least lengths [] t rest e))
tokens_of-some least lengths (b ∷ bits) t rest e =
    within_some (length bits) least lengths (b ∷ bits) t rest e ∙ ap (λ (read : List Token × List Bool). (t ∷ read.0, read.1)) (within_enough (length rest) (length bits) least lengths rest (omega arith) (omega (arith, token_shorter least lengths (b ∷ bits) t rest e)))

pub tokens_of-none : (least : ℕ) (lengths : List ℕ) (bits : List Bool) → token_at least lengths bits ≡ None → tokens_of least lengths bits ≡ ([], bits)
unfolding tokens_of
tokens_of-none least lengths bits e = within_none (length bits) least lengths bits e

-- ---- the words of tokens behind others

pub words_from-append : (before : ℕ) (xs ys : List Token) → words_from before (xs ++ ys) ≡ words_from before xs ++ words_from (last_from before xs) ys
unfolding words_from
words_from-append before [] ys = refl
words_from-append before (word w ∷ xs) ys = ap (λ (ws : List ℕ). w ∷ ws) (words_from-append w xs ys)
words_from-append before (more count ∷ xs) ys = ap (λ (ws : List ℕ). replicate count before ++ ws) (words_from-append before xs ys) ∙ sym (append_assoc (replicate count before) (words_from before xs) (words_from (last_from before xs) ys))

pub last_from-append : (before : ℕ) (xs ys : List Token) → last_from before (xs ++ ys) ≡ last_from (last_from before xs) ys
last_from-append before [] ys = refl
last_from-append before (word w ∷ xs) ys = last_from-append w xs ys
last_from-append before (more count ∷ xs) ys = last_from-append before xs ys

-- ---- how far the reading has come

pub begun : (least : ℕ) (lengths : List ℕ) (wanted : ℕ) (all : List Bool) → 0 < wanted → Progress least lengths wanted all all [] 0
unfolding words_from
begun least lengths wanted all some = record { done = []; tokens = refl; spelled = refl; last = refl; earlier = some }

pub goes_on : (least : ℕ) (lengths : List ℕ) (wanted : ℕ) (all rest : List Bool) (words : List ℕ) (before : ℕ) (t : Token) (behind : List Bool)
    → Progress least lengths wanted all rest words before → length words < wanted → token_at least lengths rest ≡ Some (t, behind)
    → Progress least lengths wanted all behind (words ++ words_from before (t ∷ [])) (last_from before (t ∷ []))
goes_on least lengths wanted all rest words before t behind p fewer token =
    let x = tokens_of least lengths behind in
    let front : take (length (p.done ++ t ∷ []) - 1) (p.done ++ t ∷ []) ≡ p.done = take_at p.done (t ∷ []) (length (p.done ++ t ∷ []) - 1) (omega (arith, length-append p.done (t ∷ []))) in
    record {
      done = p.done ++ t ∷ [];
      tokens = p.tokens ∙ ap (λ (read : List Token × List Bool). (p.done ++ read.0, read.1)) (tokens_of-some least lengths rest t behind token) ∙ ap (λ (ts : List Token). (ts, x.1)) (sym (append_assoc p.done (t ∷ []) x.0));
      spelled = words_from-append 0 p.done (t ∷ []) ∙ ap₂ (λ (ws : List ℕ) b. ws ++ words_from b (t ∷ [])) p.spelled p.last;
      last = last_from-append 0 p.done (t ∷ []) ∙ ap (λ b. last_from b (t ∷ [])) p.last;
      earlier = rw (front, p.spelled) fewer;
    }

-- ---- how the reading ends

pub judged_few : (wanted : ℕ) (read : List Token × List Bool) → length (words_of read.0) < wanted → judged wanted read ≡ Err TooFew
unfolding judged
judged_few wanted read few = rw (lt-ltb (length (words_of read.0)) wanted few) refl

pub judged_many : (wanted : ℕ) (read : List Token × List Bool) → wanted ≤ length (words_of read.0) → (eqb (length (words_of read.0)) wanted && eqb (length read.1) 0 && ltb (length (words_of (take (length read.0 - 1) read.0))) wanted) ≡ false → judged wanted read ≡ Err TooMany
unfolding judged
judged_many wanted read many wrong = rw (le-ltb (length (words_of read.0)) wanted many, wrong) refl

pub judged_ok : (wanted : ℕ) (read : List Token × List Bool) → length (words_of read.0) ≡ wanted → length read.1 ≡ 0 → length (words_of (take (length read.0 - 1) read.0)) < wanted → judged wanted read ≡ Ok (words_of read.0)
unfolding judged
judged_ok wanted read just none earlier =
    rw (le-ltb (length (words_of read.0)) wanted (omega arith), eq-eqb (length (words_of read.0)) wanted just, eq-eqb (length read.1) 0 none, lt-ltb (length (words_of (take (length read.0 - 1) read.0))) wanted earlier) refl

pub run_first : (least : ℕ) (lengths : List ℕ) (wanted : ℕ) (all : List Bool) → is_run lengths (entry_at lengths all) ≡ true → data_words_of least lengths wanted all ≡ Err RunFirst
unfolding data_words_of
run_first least lengths wanted all first = rw first refl

pub word_first : (least : ℕ) (lengths : List ℕ) (wanted : ℕ) (all : List Bool) → is_run lengths (entry_at lengths all) ≡ false → data_words_of least lengths wanted all ≡ judged wanted (tokens_of least lengths all)
unfolding data_words_of
word_first least lengths wanted all first = rw first refl

module _ (least : ℕ) (lengths : List ℕ) (wanted : ℕ) (all rest : List Bool) (words : List ℕ) (before : ℕ) (p : Progress least lengths wanted all rest words before) (first : is_run lengths (entry_at lengths all) ≡ false) where
  -- no whole token is left
  read_all : token_at least lengths rest ≡ None → tokens_of least lengths all ≡ (p.done, rest)
  read_all cut = p.tokens ∙ ap (λ (read : List Token × List Bool). (p.done ++ read.0, read.1)) (tokens_of-none least lengths rest cut) ∙ ap (λ (ts : List Token). (ts, rest)) (append-nil p.done)

  pub ends_few : token_at least lengths rest ≡ None → length words < wanted → data_words_of least lengths wanted all ≡ Err TooFew
  ends_few cut few = word_first least lengths wanted all first ∙ ap (judged wanted) (read_all cut) ∙ judged_few wanted (p.done, rest) (rw p.spelled few)

  pub ends_ok : token_at least lengths rest ≡ None → length rest ≡ 0 → length words ≡ wanted → data_words_of least lengths wanted all ≡ Ok words
  ends_ok cut none just = word_first least lengths wanted all first ∙ ap (judged wanted) (read_all cut) ∙ judged_ok wanted (p.done, rest) (rw p.spelled just) none p.earlier ∙ ap (λ (ws : List ℕ). Ok ws) p.spelled

  bits_left : token_at least lengths rest ≡ None → 0 < length rest → wanted ≤ length words → data_words_of least lengths wanted all ≡ Err TooMany
  bits_left cut some many =
      word_first least lengths wanted all first ∙ ap (judged wanted) (read_all cut)
      ∙ judged_many wanted (p.done, rest) (rw p.spelled many) (and_left (eqb (length (words_of p.done)) wanted && eqb (length rest) 0) (ltb (length (words_of (take (length p.done - 1) p.done))) wanted) (and_right (eqb (length (words_of p.done)) wanted) (eqb (length rest) 0) (ne_eqb (length rest) 0 (λ e. omega arith))))

  -- the words of all tokens begin with those that were read
  whole_words : (ts : List Token) → words_of (p.done ++ ts) ≡ words ++ words_from before ts
  whole_words ts = words_from-append 0 p.done ts ∙ ap₂ (λ (ws : List ℕ) b. ws ++ words_from b ts) p.spelled p.last

  token_left : (t : Token) (behind : List Bool) → token_at least lengths rest ≡ Some (t, behind) → wanted ≤ length words → data_words_of least lengths wanted all ≡ Err TooMany
  token_left t behind token many =
      let x = tokens_of least lengths behind in
      let all_tokens = p.done ++ t ∷ x.0 in
      let read : tokens_of least lengths all ≡ (all_tokens, x.1) = p.tokens ∙ ap (λ (r : List Token × List Bool). (p.done ++ r.0, r.1)) (tokens_of-some least lengths rest t behind token) in
      let size : length all_tokens - 1 ≡ length p.done + length x.0 = rw length-append (omega arith) in
      let fewer : take (length all_tokens - 1) all_tokens ≡ p.done ++ take (length x.0) (t ∷ x.0) = ap (λ n. take n all_tokens) size ∙ take-append-add p.done (t ∷ x.0) (length x.0) in
      let enough : wanted ≤ length (words_of (take (length all_tokens - 1) all_tokens)) = rw (fewer, whole_words (take (length x.0) (t ∷ x.0)), length-append) (omega arith) in
      let total : wanted ≤ length (words_of all_tokens) = rw (whole_words (t ∷ x.0), length-append) (omega arith) in
      word_first least lengths wanted all first ∙ ap (judged wanted) read
      ∙ judged_many wanted (all_tokens, x.1) total (and_right (eqb (length (words_of all_tokens)) wanted && eqb (length x.1) 0) (ltb (length (words_of (take (length all_tokens - 1) all_tokens))) wanted) (le-ltb (length (words_of (take (length all_tokens - 1) all_tokens))) wanted enough))

  left_at : (found : Option (Token × List Bool)) → token_at least lengths rest ≡ found → 0 < length rest → wanted ≤ length words → data_words_of least lengths wanted all ≡ Err TooMany
  left_at None cut some many = bits_left cut some many
  left_at (Some (t, behind)) token some many = token_left t behind token many

  -- all words are there, and bits are left
  pub ends_many : 0 < length rest → wanted ≤ length words → data_words_of least lengths wanted all ≡ Err TooMany
  ends_many some many = left_at (token_at least lengths rest) refl some many

  -- a run passes the number of words
  pub run_passes : (count : ℕ) (behind : List Bool) → token_at least lengths rest ≡ Some (more count, behind) → wanted < length words + count → data_words_of least lengths wanted all ≡ Err TooMany
  unfolding words_from
  run_passes count behind token passes =
      let x = tokens_of least lengths behind in
      let all_tokens = p.done ++ more count ∷ x.0 in
      let read : tokens_of least lengths all ≡ (all_tokens, x.1) = p.tokens ∙ ap (λ (r : List Token × List Bool). (p.done ++ r.0, r.1)) (tokens_of-some least lengths rest (more count) behind token) in
      let total : wanted < length (words_of all_tokens) = rw (whole_words (more count ∷ x.0), length-append, length-append, length-replicate) (omega arith) in
      word_first least lengths wanted all first ∙ ap (judged wanted) read
      ∙ judged_many wanted (all_tokens, x.1) (omega arith) (and_left (eqb (length (words_of all_tokens)) wanted && eqb (length x.1) 0) (ltb (length (words_of (take (length all_tokens - 1) all_tokens))) wanted) (and_left (eqb (length (words_of all_tokens)) wanted) (eqb (length x.1) 0) (ne_eqb (length (words_of all_tokens)) wanted (λ e. omega arith))))

-- ---- the same, word by word and run by run

pub goes_on_word : (least : ℕ) (lengths : List ℕ) (wanted : ℕ) (all rest : List Bool) (words : List ℕ) (before w : ℕ) (behind : List Bool)
    → Progress least lengths wanted all rest words before → length words < wanted → token_at least lengths rest ≡ Some (word w, behind) → Progress least lengths wanted all behind (words ++ w ∷ []) w
unfolding words_from
goes_on_word least lengths wanted all rest words before w behind p fewer token = goes_on least lengths wanted all rest words before (word w) behind p fewer token

pub goes_on_run : (least : ℕ) (lengths : List ℕ) (wanted : ℕ) (all rest : List Bool) (words : List ℕ) (before count : ℕ) (behind : List Bool)
    → Progress least lengths wanted all rest words before → length words < wanted → token_at least lengths rest ≡ Some (more count, behind) → Progress least lengths wanted all behind (words ++ replicate count before) before
unfolding words_from
goes_on_run least lengths wanted all rest words before count behind p fewer token =
    subst (λ (ws : List ℕ). Progress least lengths wanted all behind (words ++ ws) before) (append-nil (replicate count before)) (goes_on least lengths wanted all rest words before (more count) behind p fewer token)

-- no bits hold no token
pub token_at_none : (least : ℕ) (lengths : List ℕ) (bits : List Bool) → length bits ≡ 0 → token_at least lengths bits ≡ None
token_at_none least lengths bits none = let e : bits ≡ [] = nil_from_length bits none in rw e (token_at_nothing least lengths)
