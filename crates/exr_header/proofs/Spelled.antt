-- A head that is spelled is read, whatever follows.
use Rattle.std.proofs.Common.{◌≡◌, ℕ, zero, suc, ◌+◌, ◌^◌, ◌<◌, ◌≤◌, ◌/◌, ◌%◌, Bool, true, false, cond, ◌&&◌, eqb, ltb, List, [], ◌∷◌, ◌++◌, length, Result, Ok, Err, refl, sym, ap, subst, ◌∙◌, append_assoc, arith}
use Rattle.std.specs.Prelude.{IfOk}
use Rattle.std.specs.Int.{w32, to_le_bytes}
use Rattle.std.proofs.lemmas.Bool.{ltb-true}
use Rattle.std.proofs.lemmas.Bool.Decides.{nat_tests}
use Rattle.std.proofs.lemmas.List.{length-append, append-nil, nil_from_length}
use Rattle.std.proofs.lemmas.List.Concat.{flat_map-cons}
use Rattle.exr_base.specs.Cursor.{Position}
use Rattle.exr_attributes.specs.declared.fault.HeaderFault.{HeaderFault}
use Rattle.exr_attributes.specs.Spelling.{header_spelling}
use Rattle.exr_attributes.specs.Reading.{moved}
use Rattle.exr_attributes.proofs.Again.{Stands, moved-moved, front_of, back_of, bytes_again, number_again, header_again}
use Rattle.exr_attributes.proofs.Takes.{ok_is}
use Rattle.exr_judge.specs.declared.header.Header.{Header}
use Rattle.exr_header.specs.Head.{Head, magic, is_version, word_at, version_at, last_at, parts_at, single_at, many_at, head_at, head_of, parts_spelling, closing, head_spelling}
use Rattle.exr_header.specs.Spells.{AreHeaders, AreJudged, Spells, head_read, IsRead}
use Rattle.exr_header.proofs.Judged.{has_entries}

-- ---- the version word

both_true : (a b : Bool) → (a && b) ≡ true → (a ≡ true) × (b ≡ true)
both_true true b e = (refl, e)
both_true false b e = absurd cc

pub version_small : (word : ℕ) → is_version word ≡ true → word < 2 ^ 32
version_small word e =
    let b = both_true (eqb (word % 512) 2) (ltb (word / 512) 16) e in
    let small : word / 512 < 16 = ltb-true _ _ b.1 in
    omega arith

pub version_again : (word : ℕ) (rest : List ℕ) (p : Position) → is_version word ≡ true → Stands (magic ++ to_le_bytes w32 word) rest p → version_at p ≡ Ok (word, moved 8 p)
unfolding version_at word_at
version_again word rest p version s =
    let first = bytes_again magic (to_le_bytes w32 word ++ rest) p (front_of magic (to_le_bytes w32 word) rest p s) in
    let second = number_again word rest (moved 4 p) (version_small word version) (back_of magic (to_le_bytes w32 word) rest p s) in
    rw (first, second, version) (ap (λ (q : Position). Ok (word, q)) (moved-moved 4 4 p))

-- ---- the headers

pub parts_spelling-cons : (h : Header) (hs : List Header) (end : List ℕ) → parts_spelling (h ∷ hs) ++ end ≡ header_spelling h.attributes ++ (parts_spelling hs ++ end)
parts_spelling-cons h hs end =
    ap (λ (t : List ℕ). t ++ end) (flat_map-cons (λ (p : Header). header_spelling p.attributes) h hs) ∙ append_assoc (header_spelling h.attributes) (parts_spelling hs) end

some_there : (m : ℕ) → 1 ≤ m → eqb m 0 ≡ false
some_there m h = grind (arith, nat_tests)

pub parts_again : (n word : ℕ) (before hs : List Header) (rest : List ℕ) (p : Position) → length hs ≤ n → 1 ≤ length before + length hs → AreJudged word before hs → AreHeaders hs → Stands (parts_spelling hs ++ 0 ∷ []) rest p
    → parts_at n word before p ≡ Ok (before ++ hs, moved (length (parts_spelling hs ++ 0 ∷ [])) p)
unfolding parts_at last_at
parts_again zero word before [] rest p few some judged headers s =
    rw (bytes_again (0 ∷ []) rest p s) (ap (λ (l : List Header). Ok (l, moved 1 p)) (sym (append-nil before)))
parts_again zero word before (h ∷ hs) rest p few some judged headers s = absurd (omega (arith, few))
parts_again (suc n) word before [] rest p few some judged headers s =
    let there : eqb (length before) 0 ≡ false = some_there (length before) (omega (arith, some)) in
    rw (header_again [] rest p tt tt s, there) (ap (λ (l : List Header). Ok (l, moved 1 p)) (sym (append-nil before)))
parts_again (suc n) word before (h ∷ hs) rest p few some judged headers s =
    let end = parts_spelling hs ++ 0 ∷ [] in
    let spelled = parts_spelling-cons h hs (0 ∷ []) in
    let t : Stands (header_spelling h.attributes ++ end) rest p = subst (λ (l : List ℕ). Stands l rest p) spelled s in
    let q : Position = moved (length (header_spelling h.attributes)) p in
    let first = header_again h.attributes (end ++ rest) p headers.0.lawful headers.0.sizes (front_of (header_spelling h.attributes) end rest p t) in
    let full = has_entries word before h.attributes h judged.0 in
    let short : length hs ≤ n = omega (arith, few) in
    let more : 1 ≤ length (before ++ h ∷ []) + length hs = omega (arith, length-append before (h ∷ [])) in
    let others = parts_again n word (before ++ h ∷ []) hs rest q short more judged.1 headers.1 (back_of (header_spelling h.attributes) end rest p t) in
    let places : moved (length end) q ≡ moved (length (parts_spelling (h ∷ hs) ++ 0 ∷ [])) p =
    moved-moved (length (header_spelling h.attributes)) (length end) p ∙ ap (λ (k : ℕ). moved k p) (sym (length-append (header_spelling h.attributes) end) ∙ ap length (sym spelled)) in
    rw (first, full, judged.0, others) (ap (λ (x : Position). Ok ((before ++ h ∷ []) ++ hs, x)) places ∙ ap (λ (l : List Header). Ok (l, moved (length (parts_spelling (h ∷ hs) ++ 0 ∷ [])) p)) (append_assoc before (h ∷ []) hs))

single_again : (word : ℕ) (parts : List Header) (rest : List ℕ) (p : Position) → length parts ≡ 1 → AreJudged word [] parts → AreHeaders parts → Stands (parts_spelling parts ++ []) rest p
    → single_at word p ≡ Ok (record { multi = false; parts = parts }, moved (length (parts_spelling parts ++ [])) p)
unfolding single_at
single_again word [] rest p one judged headers s = absurd (omega (arith, one))
single_again word (h ∷ []) rest p one judged headers s =
    let spelled = parts_spelling-cons h [] [] in
    let alone : parts_spelling (h ∷ []) ++ [] ≡ header_spelling h.attributes = spelled ∙ append-nil (header_spelling h.attributes) in
    let t : Stands (header_spelling h.attributes) rest p = subst (λ (l : List ℕ). Stands l rest p) alone s in
    let first = header_again h.attributes rest p headers.0.lawful headers.0.sizes t in
    rw (first, judged.0) (ap (λ (l : List ℕ). Ok (record { multi = false; parts = h ∷ [] }, moved (length l) p)) (sym alone))
single_again word (h ∷ k ∷ hs) rest p one judged headers s = absurd (omega (arith, one))

-- ---- the head

abbrev head_then : Bool → List Header → Position → Result (Head × Position) HeaderFault
head_then multi parts q = Ok (record { multi = multi; parts = parts }, q)

parts_of_head : (word : ℕ) (multi : Bool) (parts : List Header) (rest : List ℕ) (p : Position) → (multi ≡ false → length parts ≡ 1) → 1 ≤ length parts → length parts ≤ 1024 → AreJudged word [] parts → AreHeaders parts → Stands (parts_spelling parts ++ closing multi) rest p
    → cond multi (many_at word p) (single_at word p) ≡ head_then multi parts (moved (length (parts_spelling parts ++ closing multi)) p)
unfolding many_at
parts_of_head word true parts rest p one some few judged headers s =
    rw (parts_again 1024 word [] parts rest p few (omega (arith, some)) judged headers s) refl
parts_of_head word false parts rest p one some few judged headers s =
    single_again word parts rest p (one refl) judged headers s

pub head_at_again : (bytes rest : List ℕ) (h : Head) (p : Position) → Spells bytes h → Stands bytes rest p → head_at p ≡ head_then h.multi h.parts (moved (length bytes) p)
unfolding head_at
head_at_again bytes rest h p spelled s =
    let word = spelled.word in
    let front = magic ++ to_le_bytes w32 word in
    let end = parts_spelling h.parts ++ closing h.multi in
    let t : Stands (front ++ end) rest p = subst (λ (l : List ℕ). Stands l rest p) spelled.here s in
    let first = version_again word (end ++ rest) p spelled.version (front_of front end rest p t) in
    let others = parts_of_head word h.multi h.parts rest (moved 8 p) spelled.one spelled.some spelled.few spelled.judged spelled.headers (back_of front end rest p t) in
    let places : moved (length end) (moved 8 p) ≡ moved (length bytes) p =
    moved-moved 8 (length end) p ∙ ap (λ (k : ℕ). moved k p) (sym (length-append front end) ∙ ap length (sym spelled.here)) in
    rw (first, spelled.multi, others) (ap (λ (q : Position). head_then h.multi h.parts q) places)

pub head_again : (bytes rest : List ℕ) (h : Head) → Spells bytes h → head_of (bytes ++ rest) ≡ Ok (h, length bytes)
unfolding head_of
head_again bytes rest h spelled =
    let p : Position = record { whole = bytes ++ rest; at = 0 } in
    rw (head_at_again bytes rest h p spelled (record { here = refl; room = omega (arith, spelled.short) })) (ap (λ (k : ℕ). Ok (h, k)) (omega arith))

-- ---- no spelling begins another, and none spells two heads

abbrev pub Answer : Type 0
Answer = Head × ℕ

one_answer : (bytes : List ℕ) (x y : Answer) → head_of bytes ≡ Ok x → head_of bytes ≡ Ok y → x ≡ y
one_answer bytes x y e f = ok_is x y (sym e ∙ f)

whole_again : (bytes : List ℕ) (h : Head) → Spells bytes h → head_of bytes ≡ Ok (h, length bytes)
whole_again bytes h spelled =
    subst (λ (l : List ℕ). head_of l ≡ Ok (h, length bytes)) (append-nil bytes) (head_again bytes [] h spelled)

pub nothing_behind : (bytes rest : List ℕ) (g h : Head) → Spells bytes g → Spells (bytes ++ rest) h → rest ≡ []
nothing_behind bytes rest g h short long =
    let same = one_answer (bytes ++ rest) (g, length bytes) (h, length (bytes ++ rest)) (head_again bytes rest g short) (whole_again (bytes ++ rest) h long) in
    let lengths : length bytes ≡ length (bytes ++ rest) = ap (λ (x : Answer). x.1) same in
    nil_from_length rest (omega (arith, lengths, length-append bytes rest))

pub same_head : (bytes : List ℕ) (g h : Head) → Spells bytes g → Spells bytes h → g ≡ h
same_head bytes g h a b =
    ap (λ (x : Answer). x.0) (one_answer bytes (g, length bytes) (h, length bytes) (whole_again bytes g a) (whole_again bytes h b))

-- ---- the same, as a call says it

pub read_again : {X E : Type 0} (view : X → List ℕ) (g h : Head) (r : Result X E) → g ≡ h → IfOk r (λ x. view x ≡ head_spelling g) → Spells (head_spelling h) h → IfOk r (λ x. IsRead (view x) h)
read_again view g h (Ok x) e is spelled =
    λ rest. subst (λ (bytes : List ℕ). head_of (bytes ++ rest) ≡ head_read h (length bytes)) (sym (is ∙ ap head_spelling e)) (head_again (head_spelling h) rest h spelled)
read_again view g h (Err f) e is spelled = tt
