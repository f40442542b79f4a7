-- How many words bits can spell: a code and eight bits behind it stand for 255 words at most.
use Rattle.std.proofs.Common.{◌≡◌, ℕ, zero, suc, ◌+◌, ◌*◌, ◌<◌, ◌≤◌, Bool, false, eqb, ltb, List, [], ◌∷◌, length, take, drop, get_or, Option, Some, None, Err, refl, ◌∙◌, arith}
use Rattle.std.proofs.lemmas.List.{length-append, length-drop, length-replicate}
use Rattle.std.proofs.lemmas.Bool.{cond_both, ltb-false}
use Rattle.exr_base.specs.Bits.{number_of}
use Rattle.exr_base.proofs.BitLists.{number_of-take_below}
use Rattle.exr_codes.specs.Codes.{entry_at}
use Rattle.exr_codes.specs.Tables.{◌>>=◌}
use Rattle.exr_codes.proofs.Intervals.{entry_at_is}
use Rattle.exr_huffman.specs.Tokens.{Token, word, more, token_at, token_of, run_token, run_entry, token_and, tokens_within, tokens_of, words_from}
use Rattle.exr_huffman.specs.Blocks.{is_run, data_words_of}
use Rattle.exr_huffman.specs.declared.fault.HufFault.TheVariants.{TooFew}
use Rattle.exr_huffman.specs.Reading.{last_from}
use Rattle.exr_huffman.proofs.Progress.{word_first, judged_few}

-- how many words a token gives
abbrev pub size_of : Token → ℕ
size_of (word w) = 1
size_of (more count) = count

-- its words take bits
abbrev IsPaid : List Bool → Option (Token × List Bool) → Type 0
IsPaid bits (Some read) = 3 * size_of read.0 + 85 * length read.1 ≤ 85 * length bits
IsPaid bits None = Unit {0}

token_of_paid : (least : ℕ) (lengths : List ℕ) (entry : ℕ) (bits rest : List Bool) → length rest < length bits → IsPaid bits (token_of least lengths entry rest)
token_of_paid least lengths entry bits rest less =
    cond_both (eqb entry (run_entry lengths)) (run_token rest) (Some (word (least + entry), rest)) (IsPaid bits)
    (λ e. cond_both (ltb (length rest) 8) None (Some (more (number_of (take 8 rest)), drop 8 rest)) (IsPaid bits) (λ f. tt) (λ f.
    let long : 8 ≤ length rest = ltb-false (length rest) 8 f in
    omega (arith, length-drop 8 rest, number_of-take_below 8 rest)))
    (λ e. omega arith)

at_entry_paid : (least : ℕ) (lengths : List ℕ) (bits : List Bool) (found : Option ℕ) → entry_at lengths bits ≡ found → IsPaid bits (found >>= (λ entry. token_of least lengths entry (drop (get_or lengths entry 0) bits)))
at_entry_paid least lengths bits None e = tt
at_entry_paid least lengths bits (Some entry) e =
    let is = entry_at_is lengths bits entry e in
    token_of_paid least lengths entry bits (drop (get_or lengths entry 0) bits) (omega (arith, length-drop (get_or lengths entry 0) bits, is))

token_at_paid : (least : ℕ) (lengths : List ℕ) (bits : List Bool) → IsPaid bits (token_at least lengths bits)
unfolding token_at
token_at_paid least lengths bits = at_entry_paid least lengths bits (entry_at lengths bits) refl

pub size_is : (before : ℕ) (t : Token) (tokens : List Token) → length (words_from before (t ∷ tokens)) ≡ size_of t + length (words_from (last_from before (t ∷ [])) tokens)
unfolding words_from
size_is before (word w) tokens = omega arith
size_is before (more count) tokens = rw (length-append, length-replicate) refl

no_size : (before : ℕ) → length (words_from before []) ≡ 0
unfolding words_from
no_size before = refl

paid_at : (n least : ℕ) (lengths : List ℕ) (before : ℕ) (bits : List Bool) → ((b : ℕ) (rest : List Bool) → 3 * length (words_from b (tokens_within n least lengths rest).0) ≤ 85 * length rest) → (read : Option (Token × List Bool)) → IsPaid bits read → 3 * length (words_from before (token_and read (tokens_within n least lengths) bits).0) ≤ 85 * length bits
paid_at n least lengths before bits others None paid = omega (arith, no_size before)
paid_at n least lengths before bits others (Some (t, rest)) paid = omega (arith, size_is before t (tokens_within n least lengths rest).0, others (last_from before (t ∷ [])) rest)

all_paid : (n least : ℕ) (lengths : List ℕ) (before : ℕ) (bits : List Bool) → 3 * length (words_from before (tokens_within n least lengths bits).0) ≤ 85 * length bits
unfolding tokens_within
all_paid zero least lengths before bits = omega (arith, no_size before)
all_paid (suc n) least lengths before bits = paid_at n least lengths before bits (λ b rest. all_paid n least lengths b rest) (token_at least lengths bits) (token_at_paid least lengths bits)

-- more words are wanted than the bits can spell
pub too_few : (least : ℕ) (lengths : List ℕ) (wanted : ℕ) (bits : List Bool) → is_run lengths (entry_at lengths bits) ≡ false → 85 * length bits < 3 * wanted → data_words_of least lengths wanted bits ≡ Err TooFew
unfolding tokens_of
too_few least lengths wanted bits first many =
    word_first least lengths wanted bits first ∙ judged_few wanted (tokens_of least lengths bits) (omega (arith, all_paid (length bits) least lengths 0 bits))
