-- What is spelled so is read again, whatever follows.
use Rattle.std.proofs.Common.{◌≡◌, ℕ, zero, suc, ◌+◌, ◌^◌, ◌<◌, ◌≤◌, true, false, eqb, leb, ltb, List, [], ◌∷◌, ◌++◌, length, drop, Some, None, Ok, refl, sym, ap, subst, ◌∙◌, add_assoc, append_assoc, arith}
use Rattle.std.specs.List.{list_any}
use Rattle.std.specs.Int.{w32, to_le_bytes}
use Rattle.std.proofs.lemmas.Bool.{lt-ltb, le-leb}
use Rattle.std.proofs.lemmas.Bool.Decides.{nat_tests}
use Rattle.std.proofs.lemmas.List.{take_at, drop_at, drop-drop, length-append, append-nil}
use Rattle.std.proofs.lemmas.List.Concat.{flat_map-cons}
use Rattle.std.proofs.lemmas.Nat.{from_le_bytes-to_le_bytes_4}
use Rattle.exr_base.specs.Cursor.{Position, left_of}
use Rattle.exr_base.specs.Name.{IsName}
use Rattle.exr_base.proofs.Logic.{neither}
use Rattle.exr_attributes.specs.declared.attribute.Attribute.{Attribute}
use Rattle.exr_attributes.specs.declared.attribute.Entry.{Entry}
use Rattle.exr_attributes.specs.Entry.{is_named, has_name, AreEntries}
use Rattle.exr_attributes.specs.Spelling.{ended, attribute_spelling, entry_spelling, entries_spelling, header_spelling, HasSize, AreSized}
use Rattle.exr_attributes.specs.Reading.{moved, room_of, bytes_at, byte_at, number_at, text_from, text_at, kind_at, value_at, entry_at, next_at, entries_at, header_at}
use Rattle.exr_attributes.proofs.Entries.{has_name-push, bytes_eq-comm}

-- a text stands at a place, with something behind it, and ends within the front
pub record Stands (text rest : List ℕ) (p : Position) : Type 0 where
  pub here : left_of p ≡ text ++ rest
  pub room : p.at + length text ≤ 2 ^ 24

pub moved-moved : (a b : ℕ) (p : Position) → moved b (moved a p) ≡ moved (a + b) p
moved-moved a b p = ap (λ (k : ℕ). record { whole = p.whole; at = k }) (add_assoc p.at a b)

pub front_of : (a b rest : List ℕ) (p : Position) → Stands (a ++ b) rest p → Stands a (b ++ rest) p
front_of a b rest p s =
    record { here = s.here ∙ append_assoc a b rest; room = omega (arith, s.room, length-append a b) }

pub back_of : (a b rest : List ℕ) (p : Position) → Stands (a ++ b) rest p → Stands b rest (moved (length a) p)
back_of a b rest p s = record {
  here = sym (drop-drop (length a) p.at p.whole) ∙ ap (drop (length a)) (s.here ∙ append_assoc a b rest) ∙ drop_at a (b ++ rest) (length a) refl;
  room = omega (arith, s.room, length-append a b);
}

pub bytes_again : (text rest : List ℕ) (p : Position) → Stands text rest p → bytes_at (length text) p ≡ Ok (text, moved (length text) p)
unfolding bytes_at
bytes_again text rest p s =
    let len : length (left_of p) ≡ length text + length rest = ap length s.here ∙ length-append text rest in
    let room : p.at + length text ≤ 2 ^ 24 = s.room in
    let fits : leb (length text) (room_of p) ≡ true = le-leb _ _ (omega arith) in
    rw (fits, s.here, take_at text rest (length text) refl) refl

pub byte_again : (b : ℕ) (rest : List ℕ) (p : Position) → Stands (b ∷ []) rest p → byte_at p ≡ Ok (b, moved 1 p)
unfolding byte_at
byte_again b rest p s = rw (bytes_again (b ∷ []) rest p s) refl

pub number_again : (n : ℕ) (rest : List ℕ) (p : Position) → n < 2 ^ 32 → Stands (to_le_bytes w32 n) rest p → number_at p ≡ Ok (n, moved 4 p)
unfolding number_at
number_again n rest p lt s =
    rw (bytes_again (to_le_bytes w32 n) rest p s) (ap (λ (k : ℕ). Ok (k, moved 4 p)) (from_le_bytes-to_le_bytes_4 n lt))

pub text_again : (start most : ℕ) (text rest : List ℕ) (p : Position) → list_any (λ b. eqb b 0) text ≡ false → length text < most → Stands (ended text) rest p
    → text_from start most p ≡ Ok (text, moved (length text + 1) p)
unfolding text_from
text_again start zero text rest p zero_free lt s = absurd (omega arith)
text_again start (suc most) [] rest p zero_free lt s = rw (byte_again 0 rest p s) refl
text_again start (suc most) (b ∷ bs) rest p zero_free lt s =
    let n = neither (eqb b 0) (list_any (λ b. eqb b 0) bs) zero_free in
    let first = byte_again b (ended bs ++ rest) p (front_of (b ∷ []) (ended bs) rest p s) in
    let short : length bs < most = omega (arith, lt) in
    let others = text_again start most bs rest (moved 1 p) n.1 short (back_of (b ∷ []) (ended bs) rest p s) in
    let places : 1 + (length bs + 1) ≡ length (b ∷ bs) + 1 = omega arith in
    rw (first, n.0, others) (ap (λ (q : Position). Ok (b ∷ bs, q)) (moved-moved 1 (length bs + 1) p ∙ ap (λ (k : ℕ). moved k p) places))

-- a name is a text that is not empty
pub record IsFull (text : List ℕ) : Type 0 where
  pub full : eqb (length text) 0 ≡ false
  pub short : length text < 256
  pub zero_free : list_any (λ b. eqb b 0) text ≡ false

pub full_from_name : (text : List ℕ) → IsName text → IsFull text
full_from_name text h = record {
  full = grind (arith, nat_tests);
  short = grind (arith, nat_tests);
  zero_free = grind (arith, nat_tests);
}

length-ended : (text : List ℕ) → length (ended text) ≡ length text + 1
length-ended text = length-append text (0 ∷ [])

pub name_again : (text rest : List ℕ) (p : Position) → IsFull text → Stands (ended text) rest p → text_at p ≡ Ok (text, moved (length (ended text)) p)
unfolding text_at
name_again text rest p f s =
    text_again p.at 256 text rest p f.zero_free f.short s ∙ ap (λ (k : ℕ). Ok (text, moved k p)) (sym (length-ended text))

pub kind_again : (text rest : List ℕ) (p : Position) → IsFull text → Stands (ended text) rest p → kind_at p ≡ Ok (text, moved (length (ended text)) p)
unfolding kind_at
kind_again text rest p f s = rw (name_again text rest p f s, f.full) refl

abbrev sized : List ℕ → List ℕ
sized value = to_le_bytes w32 (length value) ++ value

pub value_again : (value rest : List ℕ) (p : Position) → length value < 2 ^ 31 → Stands (sized value) rest p → value_at p ≡ Ok (value, moved (length (sized value)) p)
unfolding value_at
value_again value rest p lt s =
    let size = number_again (length value) (value ++ rest) p (omega arith) (front_of (to_le_bytes w32 (length value)) value rest p s) in
    let small : ltb (length value) (2 ^ 31) ≡ true = lt-ltb _ _ lt in
    let bytes = bytes_again value rest (moved 4 p) (back_of (to_le_bytes w32 (length value)) value rest p s) in
    let places : 4 + length value ≡ length (sized value) = omega (arith, length-append (to_le_bytes w32 (length value)) value) in
    rw (size, small, bytes) (ap (λ (q : Position). Ok (value, q)) (moved-moved 4 (length value) p ∙ ap (λ (k : ℕ). moved k p) places))

pub entry_again : (name : List ℕ) (a : Attribute) (rest : List ℕ) (p : Position) → IsFull a.kind → length a.value < 2 ^ 31 → Stands (attribute_spelling a) rest p
    → entry_at name p ≡ Ok (record { name = name; attribute = a }, moved (length (attribute_spelling a)) p)
unfolding entry_at
entry_again name a rest p kind lt s =
    let first = kind_again a.kind (sized a.value ++ rest) p kind (front_of (ended a.kind) (sized a.value) rest p s) in
    let second = value_again a.value rest (moved (length (ended a.kind)) p) lt (back_of (ended a.kind) (sized a.value) rest p s) in
    let places : moved (length (sized a.value)) (moved (length (ended a.kind)) p) ≡ moved (length (attribute_spelling a)) p =
    moved-moved (length (ended a.kind)) (length (sized a.value)) p ∙ ap (λ (k : ℕ). moved k p) (sym (length-append (ended a.kind) (sized a.value))) in
    rw (first, second) (ap (λ (q : Position). Ok (record { name = name; attribute = a }, q)) places)

pub next_again : (e : Entry) (rest : List ℕ) (p : Position) → IsFull e.name → IsFull e.attribute.kind → HasSize e → Stands (entry_spelling e) rest p
    → next_at p ≡ Ok (Some e, moved (length (entry_spelling e)) p)
unfolding next_at
next_again e rest p name kind lt s =
    let a = attribute_spelling e.attribute in
    let first = name_again e.name (a ++ rest) p name (front_of (ended e.name) a rest p s) in
    let second = entry_again e.name e.attribute rest (moved (length (ended e.name)) p) kind lt (back_of (ended e.name) a rest p s) in
    let places : moved (length a) (moved (length (ended e.name)) p) ≡ moved (length (entry_spelling e)) p =
    moved-moved (length (ended e.name)) (length a) p ∙ ap (λ (k : ℕ). moved k p) (sym (length-append (ended e.name) a)) in
    rw (first, name.full, second) (ap (λ (q : Position). Ok (Some e, q)) places)

pub closed_again : (rest : List ℕ) (p : Position) → Stands (0 ∷ []) rest p → next_at p ≡ Ok (None, moved 1 p)
unfolding next_at text_at
closed_again rest p s = rw (text_again p.at 256 [] rest p refl (omega arith) s) refl

-- entries that have no name of earlier ones
abbrev pub Avoids : List Entry → List Entry → Type 0
Avoids before [] = Unit {0}
Avoids before (e ∷ es) = (has_name e.name before ≡ false) × Avoids before es

Avoids-nil : (es : List Entry) → Avoids [] es
Avoids-nil [] = tt
Avoids-nil (e ∷ es) = (refl, Avoids-nil es)

Avoids-push : (before : List Entry) (e : Entry) (es : List Entry) → Avoids before es → has_name e.name es ≡ false → Avoids (before ++ e ∷ []) es
Avoids-push before e [] h new = tt
Avoids-push before e (x ∷ xs) h new =
    let n = neither (is_named e.name x) (has_name e.name xs) new in
    (has_name-push x.name before e ∙ rw (h.0, bytes_eq-comm x.name e.name, n.0) refl, Avoids-push before e xs h.1 n.1)

pub header_spelling-cons : (e : Entry) (es : List Entry) → header_spelling (e ∷ es) ≡ entry_spelling e ++ header_spelling es
header_spelling-cons e es =
    ap (λ (t : List ℕ). t ++ 0 ∷ []) (flat_map-cons entry_spelling e es) ∙ append_assoc (entry_spelling e) (entries_spelling es) (0 ∷ [])

pub entries_again : (n : ℕ) (before es : List Entry) (rest : List ℕ) (p : Position) → length es < n → Avoids before es → AreEntries es → AreSized es → Stands (header_spelling es) rest p
    → entries_at n before p ≡ Ok (before ++ es, moved (length (header_spelling es)) p)
unfolding entries_at
entries_again zero before es rest p lt new lawful sizes s = absurd (omega arith)
entries_again (suc n) before [] rest p lt new lawful sizes s =
    rw (closed_again rest p s) (ap (λ (l : List Entry). Ok (l, moved 1 p)) (sym (append-nil before)))
entries_again (suc n) before (e ∷ es) rest p lt new lawful sizes s =
    let spelled = header_spelling-cons e es in
    let t : Stands (entry_spelling e ++ header_spelling es) rest p = subst (λ (l : List ℕ). Stands l rest p) spelled s in
    let first = next_again e (header_spelling es ++ rest) p (full_from_name e.name lawful.0) (full_from_name e.attribute.kind lawful.1) sizes.0 (front_of (entry_spelling e) (header_spelling es) rest p t) in
    let short : length es < n = omega (arith, lt) in
    let others = entries_again n (before ++ e ∷ []) es rest (moved (length (entry_spelling e)) p) short (Avoids-push before e es new.1 lawful.2) lawful.3 sizes.1 (back_of (entry_spelling e) (header_spelling es) rest p t) in
    let places : moved (length (header_spelling es)) (moved (length (entry_spelling e)) p) ≡ moved (length (header_spelling (e ∷ es))) p =
    moved-moved (length (entry_spelling e)) (length (header_spelling es)) p ∙ ap (λ (k : ℕ). moved k p) (sym (length-append (entry_spelling e) (header_spelling es)) ∙ ap length (sym spelled)) in
    rw (first, new.0, others) (ap (λ (q : Position). Ok ((before ++ e ∷ []) ++ es, q)) places ∙ ap (λ (l : List Entry). Ok (l, moved (length (header_spelling (e ∷ es))) p)) (append_assoc before (e ∷ []) es))

shorter : (es : List Entry) → length es < length (header_spelling es)
shorter [] = omega arith
shorter (e ∷ es) =
    let spelled = ap length (header_spelling-cons e es) in
    omega (arith, shorter es, spelled, length-append (entry_spelling e) (header_spelling es), length-append (ended e.name) (attribute_spelling e.attribute), length-ended e.name)

pub header_again : (es : List Entry) (rest : List ℕ) (p : Position) → AreEntries es → AreSized es → Stands (header_spelling es) rest p → header_at p ≡ Ok (es, moved (length (header_spelling es)) p)
unfolding header_at
header_again es rest p lawful sizes s =
    entries_again (2 ^ 24) [] es rest p (omega (arith, shorter es, s.room)) (Avoids-nil es) lawful sizes s
