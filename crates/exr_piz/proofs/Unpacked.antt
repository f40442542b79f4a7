-- What packed data stands for, by what was read of it so far.
use Rattle.std.proofs.Common.{◌≡◌, ℕ, ◌-◌, ◌*◌, ◌/◌, ◌<◌, ◌≤◌, Bool, true, false, ◌&&◌, cond, eqb, ltb, List, length, take, Result, Ok, Err, refl, sym, ap, ◌∙◌, arith, lit<}
use Rattle.std.proofs.lemmas.Bool.{eqb-true}
use Rattle.exr_base.specs.declared.shape.Box2i.{Box2i}
use Rattle.exr_base.specs.declared.channel.Channel.{Channel}
use Rattle.exr_base.specs.declared.refusal.Refusal.{Refusal}
use Rattle.exr_base.specs.declared.refusal.Refusal.TheVariants as refusal
use Rattle.exr_base.specs.Refusal.{Refuses, ◌>>=◌}
use Rattle.exr_base.specs.Shape.{raw_size_of}
use Rattle.exr_base.proofs.RawSize.{by_channels}
use Rattle.exr_huffman.specs.declared.fault.HufFault.{HufFault}
use Rattle.exr_huffman.specs.declared.fault.HufFault.TheVariants.{RunFirst, TooFew, TooMany}
use Rattle.exr_huffman.specs.Blocks.{data_of, is_run, judged, data_words_of, huffman_words_of}
use Rattle.exr_huffman.specs.Tokens.{Token, tokens_of, words_from}
use Rattle.exr_codes.specs.Codes.{entry_at}
use Rattle.exr_piz.specs.declared.fault.PizFault.{PizFault}
use Rattle.exr_piz.specs.Stored.{Parts, parts_of}
use Rattle.exr_piz.specs.Values.{values_of, is_present}
use Rattle.exr_piz.specs.Piz.{or_huffman, restored_from, piz_of}
use Rattle.exr_piz.proofs.Passing.{length-passing, rank-below}
use Rattle.exr_piz.proofs.Turning.{words_twice}

-- ---- a Huffman block gives as many words as were wanted

bind_ok : {A B F : Type 0} (r : Result A F) (f : A → Result B F) (y : B) → (r >>= f) ≡ Ok y → (x : A) × (f x ≡ Ok y)
bind_ok (Ok x) f y is = (x, is)
bind_ok (Err e) f y is = absurd (cc)

picked : (few right none short : Bool) (words found : List ℕ) → cond few (Err TooFew) (cond (right && none && short) (Ok words) (Err TooMany)) ≡ Ok found → (right ≡ true) × (words ≡ found)
picked true right none short words found is = absurd (cc)
picked false true true true words found is = (refl, cc)
picked false true true false words found is = absurd (cc)
picked false true false short words found is = absurd (cc)
picked false false none short words found is = absurd (cc)

when_ok : (run : Bool) (e : HufFault) (r : Result (List ℕ) HufFault) (found : List ℕ) → cond run (Err e) r ≡ Ok found → r ≡ Ok found
when_ok true e r found is = absurd (cc)
when_ok false e r found is = is

judged_size : (wanted : ℕ) (bits : List Bool) (tokens : List Token) (found : List ℕ) → judged wanted (tokens, bits) ≡ Ok found → length found ≡ wanted
unfolding judged
judged_size wanted bits tokens found is =
    let words = words_from 0 tokens in
    let p = picked (ltb (length words) wanted) (eqb (length words) wanted) (eqb (length bits) 0) (ltb (length (words_from 0 (take (length tokens - 1) tokens))) wanted) words found is in
    ap length (sym p.1) ∙ eqb-true (length words) wanted p.0

data_size : (least : ℕ) (lengths : List ℕ) (wanted : ℕ) (bits : List Bool) (found : List ℕ) → data_words_of least lengths wanted bits ≡ Ok found → length found ≡ wanted
unfolding data_words_of
data_size least lengths wanted bits found is =
    let read = tokens_of least lengths bits in
    judged_size wanted read.1 read.0 found (when_ok (is_run lengths (entry_at lengths bits)) RunFirst (judged wanted read) found is)

pub found_size : (packed : List ℕ) (wanted : ℕ) (found : List ℕ) → huffman_words_of packed wanted ≡ Ok found → length found ≡ wanted
unfolding huffman_words_of
found_size packed wanted found is =
    let d = bind_ok (data_of packed) (λ d. data_words_of d.least d.lengths wanted d.bits) found is in
    data_size d.0.least d.0.lengths wanted d.0.bits found d.1

huffman_ok : (r : Result (List ℕ) HufFault) (found : List ℕ) → or_huffman r ≡ Ok found → r ≡ Ok found
huffman_ok (Ok words) found is = cc
huffman_ok (Err e) found is = absurd (cc)

-- ---- sizes

pub even_size : (channels : List Channel) (region : Box2i) → 2 * (raw_size_of channels region / 2) ≡ raw_size_of channels region
even_size channels region =
    let bytes = by_channels region channels in
    let words = words_twice region channels in
    omega arith

pub words_size : (channels : List Channel) (region : Box2i) (block found : List ℕ) (n : ℕ) → n ≡ raw_size_of channels region → or_huffman (huffman_words_of block (n / 2)) ≡ Ok found → 2 * length found ≡ raw_size_of channels region
words_size channels region block found n size is =
    let e = found_size block (n / 2) found (huffman_ok (huffman_words_of block (n / 2)) found is) in
    let even = even_size channels region in
    omega arith

pub values_few : (first : ℕ) (bytes : List ℕ) → length (values_of first bytes) ≤ 65536
unfolding values_of
values_few first bytes = length-passing (is_present first bytes) 65536

pub values_some : (first : ℕ) (bytes : List ℕ) → 0 < length (values_of first bytes)
unfolding values_of
values_some first bytes = let e = rank-below (is_present first bytes) 0 65536 (lit< tt) refl in omega arith

-- ---- what comes of the parts

pub refused_parts : (channels : List Channel) (region : Box2i) (packed : List ℕ) (e : Refusal PizFault) → Refuses e (parts_of packed) → Refuses e (piz_of channels region packed)
unfolding piz_of
refused_parts channels region packed (refusal.Fault f) is = rw is refl
refused_parts channels region packed refusal.NoMemory is = tt

pub refused_words : (channels : List Channel) (region : Box2i) (packed : List ℕ) (parts : Parts) (n : ℕ) (e : Refusal PizFault) → parts_of packed ≡ Ok parts → n ≡ raw_size_of channels region → Refuses e (or_huffman (huffman_words_of parts.block (n / 2))) → Refuses e (piz_of channels region packed)
unfolding piz_of
refused_words channels region packed parts n (refusal.Fault f) read size is =
    rw read (ap (λ r. r >>= (λ (words : List ℕ). Ok (restored_from channels region (values_of parts.first parts.map) words))) (ap (λ m. or_huffman (huffman_words_of parts.block (m / 2))) (sym size) ∙ is))
refused_words channels region packed parts n refusal.NoMemory read size is = tt

pub restored_words : (channels : List Channel) (region : Box2i) (packed words : List ℕ) (parts : Parts) (n : ℕ) → parts_of packed ≡ Ok parts → n ≡ raw_size_of channels region → or_huffman (huffman_words_of parts.block (n / 2)) ≡ Ok words
    → piz_of channels region packed ≡ Ok (restored_from channels region (values_of parts.first parts.map) words)
unfolding piz_of
restored_words channels region packed words parts n read size is =
    rw read (ap (λ r. r >>= (λ (ws : List ℕ). Ok (restored_from channels region (values_of parts.first parts.map) ws))) (ap (λ m. or_huffman (huffman_words_of parts.block (m / 2))) (sym size) ∙ is))
