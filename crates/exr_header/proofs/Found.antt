-- A head that is read is spelled so.
use Rattle.std.proofs.Common.{◌≡◌, ℕ, zero, suc, ◌+◌, ◌≤◌, Bool, true, false, cond, eqb, List, [], ◌∷◌, ◌++◌, length, get_or, take, Result, Ok, Err, refl, sym, ap, subst, ◌∙◌, append_assoc, arith}
use Rattle.std.specs.Int.{w32, to_le_bytes}
use Rattle.std.specs.Str.{bytes_eq}
use Rattle.std.proofs.lemmas.Bool.{eqb-true}
use Rattle.std.proofs.lemmas.Bool.Decides.{nat_tests}
use Rattle.std.proofs.lemmas.Slice.Eq.{bytes_eq-Decides}
use Rattle.std.proofs.lemmas.List.{length-append, append-nil, nil_from_length, take_at}
use Rattle.exr_base.specs.Cursor.{Position, left_of}
use Rattle.std.specs.Prelude.{IfOk}
use Rattle.exr_base.specs.Refusal.{◌>>=◌, Gives}
use Rattle.exr_base.specs.declared.refusal.Refusal.{Refusal}
use Rattle.exr_attributes.specs.declared.fault.HeaderFault.{HeaderFault}
use Rattle.exr_attributes.specs.declared.fault.HeaderFault.TheVariants.{BadMagic, BadVersion, Missing, Limit}
use Rattle.exr_attributes.specs.declared.fault.Field.TheVariants as field
use Rattle.exr_attributes.specs.declared.fault.Bound.TheVariants as bound
use Rattle.exr_attributes.specs.declared.attribute.Entry.{Entry}
use Rattle.exr_attributes.specs.Spelling.{header_spelling, IsBytes, AreAttributes}
use Rattle.exr_attributes.specs.Reading.{moved, bytes_at, number_at, header_at}
use Rattle.exr_attributes.proofs.Texts.{bind_ok}
use Rattle.exr_attributes.proofs.Takes.{Taken, ok_is, passed, went_in, Taken-then, bytes_take, one_byte, number_takes, IsBytes-after, header_takes}
use Rattle.exr_judge.specs.declared.header.Header.{Header}
use Rattle.exr_header.specs.Head.{Head, magic, is_version, has_bit, word_at, version_at, part_read, ended_parts, last_at, parts_at, single_at, many_at, head_at, head_of, parts_spelling, closing, spelling_under}
use Rattle.exr_header.specs.Spells.{AreHeaders, AreJudged, Spells, head_read}
use Rattle.exr_header.proofs.Judged.{part_by_word, is_part}
use Rattle.exr_header.proofs.Spelled.{parts_spelling-cons, head_again}

-- ---- the version word

word_takes : (p : Position) (y : ℕ × Position) → IsBytes p.whole → word_at p ≡ Ok y → Taken (to_le_bytes w32 y.0) p y.1 × (is_version y.0 ≡ true)
unfolding word_at
word_takes p y h e =
    let a = bind_ok (number_at p) (λ word. cond (is_version word.0) (Ok word) (Err (BadVersion word.0))) y e in
    let g = passed (is_version a.0.0) (BadVersion a.0.0) a.0 y a.2 in
    let t = number_takes p a.0 h a.1 in
    subst (λ (z : ℕ × Position). Taken (to_le_bytes w32 z.0) p z.1 × (is_version z.0 ≡ true)) g.1 (t.0, g.0)

version_takes : (p : Position) (y : ℕ × Position) → IsBytes p.whole → version_at p ≡ Ok y → Taken (magic ++ to_le_bytes w32 y.0) p y.1 × (is_version y.0 ≡ true)
unfolding version_at
version_takes p y h e =
    let a = bind_ok (bytes_at 4 p) (λ first. cond (bytes_eq first.0 magic) (word_at first.1) (Err BadMagic)) y e in
    let g = went_in (bytes_eq a.0.0 magic) BadMagic (word_at a.0.1) y a.2 in
    let same : a.0.0 ≡ magic = (bytes_eq-Decides a.0.0 magic).0 g.0 in
    let first : Taken magic p a.0.1 = subst (λ (l : List ℕ). Taken l p a.0.1) same (bytes_take 4 p a.0 a.1).0 in
    let second = word_takes a.0.1 y (IsBytes-after magic p a.0.1 first h) g.1 in
    (Taken-then magic (to_le_bytes w32 y.0) p a.0.1 y.1 first second.0, second.1)

-- ---- the headers

attributes_kept : (word : ℕ) (before : List Header) (es : List Entry) (h : Header) → part_read word before es ≡ Ok h → h.attributes ≡ es
attributes_kept word before es h e =
    (is_part (has_bit 4096 word) (has_bit 2048 word) (has_bit 512 word) before es h (sym (part_by_word word before es) ∙ e)).attributes

-- a header was taken, and its part passed
pub record TookPart (word : ℕ) (before : List Header) (p q : Position) (h : Header) : Type 0 where
  pub taken : Taken (header_spelling h.attributes) p q
  pub attributes : AreAttributes h.attributes
  pub passes : part_read word before h.attributes ≡ Ok h

part_takes : (word : ℕ) (before : List Header) (p : Position) (es : List Entry × Position) (h : Header) → IsBytes p.whole → header_at p ≡ Ok es → part_read word before es.0 ≡ Ok h → TookPart word before p es.1 h
part_takes word before p es h bytes read passes =
    let t = header_takes p es bytes read in
    let same : h.attributes ≡ es.0 = attributes_kept word before es.0 h passes in
    let all : AreAttributes es.0 = record { lawful = t.lawful; sizes = t.sizes } in
    record {
      taken = subst (λ (l : List Entry). Taken (header_spelling l) p es.1) (sym same) t.taken;
      attributes = subst AreAttributes (sym same) all;
      passes = ap (part_read word before) same ∙ passes;
    }

-- what was read of many parts behind others
pub record TookParts (word n : ℕ) (before : List Header) (p : Position) (y : List Header × Position) : Type 0 where
  pub hs : List Header
  pub all : y.0 ≡ before ++ hs
  pub few : length hs ≤ n
  pub taken : Taken (parts_spelling hs ++ 0 ∷ []) p y.1
  pub headers : AreHeaders hs
  pub judged : AreJudged word before hs
  pub some : 1 ≤ length before + n → 1 ≤ length y.0

abbrev pub Parts : Type 0
Parts = List Header × Position

no_more : (word n : ℕ) (before : List Header) (p q : Position) → Taken (0 ∷ []) p q → (1 ≤ length before + n → 1 ≤ length before) → TookParts word n before p (before, q)
no_more word n before p q t some = record { hs = []; all = sym (append-nil before); few = omega arith; taken = t; headers = tt; judged = tt; some = some }

last_takes : (word : ℕ) (before : List Header) (p : Position) (y : Parts) → last_at before p ≡ Ok y → TookParts word 0 before p y
unfolding last_at
last_takes word before p y e =
    let a = bind_ok (bytes_at 1 p) (λ byte. cond (eqb (get_or byte.0 0 0) 0) (Ok (before, byte.1)) (Err (Limit bound.Parts))) y e in
    let made : Parts = (before, a.0.1) in
    let g = passed (eqb (get_or a.0.0 0 0) 0) (Limit bound.Parts) made y a.2 in
    let t = bytes_take 1 p a.0 a.1 in
    let zero_there : a.0.0 ≡ 0 ∷ [] = one_byte a.0.0 t.1 ∙ ap (λ (k : ℕ). k ∷ []) (eqb-true _ _ g.0) in
    subst (TookParts word 0 before p) g.1 (no_more word 0 before p a.0.1 (subst (λ (l : List ℕ). Taken l p a.0.1) zero_there t.0) (λ some. omega (arith, some)))

nonzero : (m : ℕ) → eqb m 0 ≡ false → 1 ≤ m
nonzero m h = grind (arith, nat_tests)

ended_takes : (word n : ℕ) (before : List Header) (p q : Position) (y : Parts) (none : Bool) → eqb (length before) 0 ≡ none → Taken (0 ∷ []) p q
    → (cond none (Err (Missing 0 field.Channels)) (Ok before) >>= λ parts. Ok (parts, q)) ≡ Ok y → TookParts word n before p y
ended_takes word n before p q y true is t e = absurd cc
ended_takes word n before p q y false is t e =
    let made : Parts = (before, q) in
    let some : 1 ≤ length before = nonzero (length before) is in
    subst (TookParts word n before p) (ok_is made y e) (no_more word n before p q t (λ _. some))

parts_take_at : (n word : ℕ) (before : List Header) (p : Position) (es : List Entry × Position) (y : Parts) (again : (before : List Header) (p : Position) (y : Parts) → IsBytes p.whole → parts_at n word before p ≡ Ok y → TookParts word n before p y) (empty : Bool)
    → IsBytes p.whole → header_at p ≡ Ok es → eqb (length es.0) 0 ≡ empty
    → cond empty (ended_parts before es.1) (part_read word before es.0 >>= λ part. parts_at n word (before ++ part ∷ []) es.1) ≡ Ok y → TookParts word (suc n) before p y
parts_take_at n word before p es y again true h read is e =
    let nothing : es.0 ≡ [] = nil_from_length es.0 (eqb-true _ _ is) in
    let t : Taken (0 ∷ []) p es.1 = subst (λ (l : List Entry). Taken (header_spelling l) p es.1) nothing (header_takes p es h read).taken in
    ended_takes word (suc n) before p es.1 y (eqb (length before) 0) refl t e
parts_take_at n word before p es y again false h read is e =
    let a = bind_ok (part_read word before es.0) (λ part. parts_at n word (before ++ part ∷ []) es.1) y e in
    let part = part_takes word before p es a.0 h read a.1 in
    let others = again (before ++ a.0 ∷ []) es.1 y (IsBytes-after (header_spelling a.0.attributes) p es.1 part.taken h) a.2 in
    let short = others.few in
    record {
      hs = a.0 ∷ others.hs;
      all = others.all ∙ append_assoc before (a.0 ∷ []) others.hs;
      few = omega (arith, short);
      taken = subst (λ (l : List ℕ). Taken l p y.1) (sym (parts_spelling-cons a.0 others.hs (0 ∷ []))) (Taken-then (header_spelling a.0.attributes) (parts_spelling others.hs ++ 0 ∷ []) p es.1 y.1 part.taken others.taken);
      headers = (part.attributes, others.headers);
      judged = (part.passes, others.judged);
      some = λ _. others.some (omega (arith, length-append before (a.0 ∷ [])));
    }

parts_take : (n word : ℕ) (before : List Header) (p : Position) (y : Parts) → IsBytes p.whole → parts_at n word before p ≡ Ok y → TookParts word n before p y
unfolding parts_at
parts_take zero word before p y h e = last_takes word before p y e
parts_take (suc n) word before p y h e =
    let a = bind_ok (header_at p) (λ entries. cond (eqb (length entries.0) 0) (ended_parts before entries.1) (part_read word before entries.0 >>= λ part. parts_at n word (before ++ part ∷ []) entries.1)) y e in
    parts_take_at n word before p a.0 y (parts_take n word) (eqb (length a.0.0) 0) h a.1 refl a.2

-- ---- the head

-- what was read of a head behind its version word
pub record TookRest (word : ℕ) (multi : Bool) (p : Position) (y : Head × Position) : Type 0 where
  pub flag : multi ≡ y.0.multi
  pub taken : Taken (parts_spelling y.0.parts ++ closing y.0.multi) p y.1
  pub headers : AreHeaders y.0.parts
  pub judged : AreJudged word [] y.0.parts
  pub some : 1 ≤ length y.0.parts
  pub one : y.0.multi ≡ false → length y.0.parts ≡ 1
  pub few : length y.0.parts ≤ 1024

abbrev pub Read : Type 0
Read = Head × Position

many_takes : (word : ℕ) (p : Position) (y : Read) → IsBytes p.whole → many_at word p ≡ Ok y → TookRest word true p y
unfolding many_at
many_takes word p y h e =
    let a = bind_ok (parts_at 1024 word [] p) (λ parts. Ok (record { multi = true; parts = parts.0 }, parts.1)) y e in
    let t = parts_take 1024 word [] p a.0 h a.1 in
    let made : Read = (record { multi = true; parts = a.0.0 }, a.0.1) in
    let same : t.hs ≡ a.0.0 = sym t.all in
    let short = t.few in
    let took : TookRest word true p made = record {
      flag = refl;
      taken = subst (λ (l : List Header). Taken (parts_spelling l ++ 0 ∷ []) p a.0.1) same t.taken;
      headers = subst AreHeaders same t.headers;
      judged = subst (AreJudged word []) same t.judged;
      some = t.some (omega arith);
      one = λ f. absurd cc;
      few = subst (λ (l : List Header). length l ≤ 1024) same short;
    } in
    subst (TookRest word true p) (ok_is made y a.2) took

single_takes : (word : ℕ) (p : Position) (y : Read) → IsBytes p.whole → single_at word p ≡ Ok y → TookRest word false p y
unfolding single_at
single_takes word p y h e =
    let a = bind_ok (header_at p) (λ entries. part_read word [] entries.0 >>= λ part. Ok (record { multi = false; parts = part ∷ [] }, entries.1)) y e in
    let b = bind_ok (part_read word [] a.0.0) (λ part. Ok (record { multi = false; parts = part ∷ [] }, a.0.1)) y a.2 in
    let part = part_takes word [] p a.0 b.0 h a.1 b.1 in
    let made : Read = (record { multi = false; parts = b.0 ∷ [] }, a.0.1) in
    let alone : parts_spelling (b.0 ∷ []) ++ [] ≡ header_spelling b.0.attributes = parts_spelling-cons b.0 [] [] ∙ append-nil (header_spelling b.0.attributes) in
    let took : TookRest word false p made = record {
      flag = refl;
      taken = subst (λ (l : List ℕ). Taken l p a.0.1) (sym alone) part.taken;
      headers = (part.attributes, tt);
      judged = (part.passes, tt);
      some = omega arith;
      one = λ _. refl;
      few = omega arith;
    } in
    subst (TookRest word false p) (ok_is made y b.2) took

rest_takes : (word : ℕ) (multi : Bool) (p : Position) (y : Read) → IsBytes p.whole → cond multi (many_at word p) (single_at word p) ≡ Ok y → TookRest word multi p y
rest_takes word true p y h e = many_takes word p y h e
rest_takes word false p y h e = single_takes word p y h e

-- a head that was read from the front
pub record TookHead (p : Position) (y : Read) : Type 0 where
  pub word : ℕ
  pub version : is_version word ≡ true
  pub taken : Taken (spelling_under word y.0) p y.1
  pub rest : TookRest word (has_bit 4096 word) (moved 8 p) y

pub head_takes : (p : Position) (y : Read) → IsBytes p.whole → head_at p ≡ Ok y → TookHead p y
unfolding head_at
head_takes p y h e =
    let a = bind_ok (version_at p) (λ word. cond (has_bit 4096 word.0) (many_at word.0 word.1) (single_at word.0 word.1)) y e in
    let front : List ℕ = magic ++ to_le_bytes w32 a.0.0 in
    let first = version_takes p a.0 h a.1 in
    let rest = rest_takes a.0.0 (has_bit 4096 a.0.0) a.0.1 y (IsBytes-after front p a.0.1 first.0 h) a.2 in
    record {
      word = a.0.0;
      version = first.1;
      taken = Taken-then front (parts_spelling y.0.parts ++ closing y.0.multi) p a.0.1 y.1 first.0 rest.taken;
      rest = subst (λ (q : Position). TookRest a.0.0 (has_bit 4096 a.0.0) q y) first.0.after rest;
    }

abbrev pub front_of_all : List ℕ → Position
front_of_all bytes = record { whole = bytes; at = 0 }

pub head_found : (bytes : List ℕ) (h : Head) (q : Position) → IsBytes bytes → head_at (front_of_all bytes) ≡ Ok (h, q) → Spells (take q.at bytes) h
head_found bytes h q are e =
    let t = head_takes (front_of_all bytes) (h, q) are e in
    let text = spelling_under t.word h in
    let len : q.at ≡ length text = ap (λ (x : Position). x.at) t.taken.after ∙ omega arith in
    let here : take q.at bytes ≡ text =
    ap (λ (k : ℕ). take k bytes) len ∙ ap (take (length text)) t.taken.here ∙ take_at text (left_of q) (length text) refl in
    let room = t.taken.room (omega arith) in
    record {
      word = t.word;
      here = here;
      version = t.version;
      multi = t.rest.flag;
      headers = t.rest.headers;
      judged = t.rest.judged;
      some = t.rest.some;
      one = t.rest.one;
      few = t.rest.few;
      short = omega (arith, room, ap length here);
    }

pub head_of_found : (bytes : List ℕ) (h : Head) (n : ℕ) → IsBytes bytes → head_of bytes ≡ Ok (h, n) → Spells (take n bytes) h
unfolding head_of
head_of_found bytes h n are e =
    let a = bind_ok (head_at (front_of_all bytes)) (λ head. Ok (head.0, head.1.at)) (h, n) e in
    let made : Head × ℕ = (a.0.0, a.0.1.at) in
    subst (λ (x : Head × ℕ). Spells (take x.1 bytes) x.0) (ok_is made (h, n) a.2) (head_found bytes a.0.0 a.0.1 are a.1)

-- ---- the same, as a call says it

pub found_so : {X : Type 0} (view : X → Head × ℕ) (bytes : List ℕ) (r : Result X (Refusal HeaderFault)) → IsBytes bytes → Gives view r (head_of bytes) → IfOk r (λ x. Spells (take (view x).1 bytes) (view x).0)
found_so view bytes (Ok x) are g = head_of_found bytes (view x).0 (view x).1 are g
found_so view bytes (Err e) are g = tt

pub read_so : {X : Type 0} (view : X → Head × ℕ) (bytes front rest : List ℕ) (h : Head) (r : Result X (Refusal HeaderFault)) → Gives view r (head_of bytes) → bytes ≡ front ++ rest → Spells front h → Gives view r (head_read h (length front))
read_so view bytes front rest h r g e spelled =
    subst (Gives view r) (ap head_of e ∙ head_again front rest h spelled) g
