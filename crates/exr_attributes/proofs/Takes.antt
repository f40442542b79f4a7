-- What is read is spelled so.
use Rattle.std.proofs.Common.{◌≡◌, ℕ, zero, suc, ◌+◌, ◌^◌, ◌<◌, ◌≤◌, Bool, true, false, cond, eqb, leb, ltb, List, [], ◌∷◌, ◌++◌, length, get_or, take, Option, Some, None, Result, Ok, Err, refl, sym, ap, subst, inl, inr, ◌∙◌, append_assoc, arith}
use Rattle.std.specs.Int.{w32, to_le_bytes, from_le_bytes}
use Rattle.std.proofs.lemmas.Bool.{cases_lt, ltb-true, leb-true, eqb-true}
use Rattle.std.proofs.lemmas.List.{take-append-drop, drop-drop, length-append, length-take-le, append-nil, nil_from_length, get_or-drop, get_or_append_left, get_or_past}
use Rattle.std.proofs.lemmas.Nat.{le_bytes_4}
use Rattle.exr_base.specs.Cursor.{Position, left_of}
use Rattle.exr_base.specs.Refusal.{◌>>=◌}
use Rattle.exr_attributes.specs.declared.fault.HeaderFault.{HeaderFault}
use Rattle.exr_attributes.specs.declared.attribute.Entry.{Entry}
use Rattle.exr_base.specs.Name.{IsName}
use Rattle.exr_attributes.specs.Entry.{has_name, AreEntries}
use Rattle.exr_attributes.specs.Spelling.{ended, attribute_spelling, entry_spelling, header_spelling, HasSize, AreSized, IsBytes}
use Rattle.exr_attributes.specs.Reading.{moved, room_of, past_of, bytes_at, byte_at, number_at, text_from, text_at, kind_at, value_at, entry_at, next_at, joined, entries_at, header_at}
use Rattle.exr_attributes.specs.declared.fault.HeaderFault.TheVariants.{BadName, BadSize, Twice}
use Rattle.exr_attributes.proofs.Entries.{AreEntries-push}
use Rattle.exr_attributes.proofs.Again.{moved-moved, header_spelling-cons}
use Rattle.exr_attributes.proofs.Texts.{bind_ok, text_is_name}

-- a text was taken from a place on, and reading goes on at another
pub record Taken (text : List ℕ) (p q : Position) : Type 0 where
  pub here : left_of p ≡ text ++ left_of q
  pub after : q ≡ moved (length text) p
  pub room : p.at ≤ 2 ^ 24 → p.at + length text ≤ 2 ^ 24

abbrev done : {A : Type 0} → A → Result A HeaderFault
done x = Ok x

pub ok_is : {A : Type 0} (x y : A) → done x ≡ done y → x ≡ y
ok_is x y e = cc

-- a test that passed
pub passed : {A : Type 0} (b : Bool) (d : HeaderFault) (x y : A) → cond b (Ok x) (Err d) ≡ Ok y → (b ≡ true) × (x ≡ y)
passed true d x y e = (refl, ok_is x y e)
passed false d x y e = absurd cc

-- a test that did not stop
pub went_on : {A : Type 0} (b : Bool) (d : HeaderFault) (r : Result A HeaderFault) (y : A) → cond b (Err d) r ≡ Ok y → (b ≡ false) × (r ≡ Ok y)
went_on true d r y e = absurd cc
went_on false d r y e = (refl, e)

pub Taken-then : (a b : List ℕ) (p q r : Position) → Taken a p q → Taken b q r → Taken (a ++ b) p r
Taken-then a b p q r s t =
    let places : q.at ≡ p.at + length a = ap (λ (x : Position). x.at) s.after in
    record {
      here = s.here ∙ ap (λ (l : List ℕ). a ++ l) t.here ∙ sym (append_assoc a b (left_of r));
      after = t.after ∙ ap (moved (length b)) s.after ∙ moved-moved (length a) (length b) p ∙ ap (λ (k : ℕ). moved k p) (sym (length-append a b));
      room = λ low. let first = s.room low in let second = t.room (omega (arith, places, first)) in omega (arith, second, places, length-append a b);
    }

pub bytes_take : (n : ℕ) (p : Position) (y : List ℕ × Position) → bytes_at n p ≡ Ok y → Taken y.0 p y.1 × (length y.0 ≡ n)
unfolding bytes_at
bytes_take n p y e =
    let g = passed (leb n (room_of p)) (past_of p) (take n (left_of p), moved n p) y e in
    let fits : n ≤ room_of p = leb-true _ _ g.0 in
    let len : length (take n (left_of p)) ≡ n = length-take-le n (left_of p) (omega arith) in
    let t : Taken (take n (left_of p)) p (moved n p) = record {
      here = sym (take-append-drop n (left_of p)) ∙ ap (λ (l : List ℕ). take n (left_of p) ++ l) (drop-drop n p.at p.whole);
      after = ap (λ (k : ℕ). moved k p) (sym len);
      room = λ low. omega (arith, len);
    } in
    subst (λ (z : List ℕ × Position). Taken z.0 p z.1 × (length z.0 ≡ n)) g.1 (t, len)

pub one_byte : (l : List ℕ) → length l ≡ 1 → l ≡ get_or l 0 0 ∷ []
one_byte [] e = absurd (omega (arith, e))
one_byte (b ∷ []) e = refl
one_byte (b ∷ c ∷ l) e = absurd (omega (arith, e))

pub byte_takes : (p : Position) (y : ℕ × Position) → byte_at p ≡ Ok y → Taken (y.0 ∷ []) p y.1
unfolding byte_at
byte_takes p y e =
    let b = bind_ok (bytes_at 1 p) (λ next. Ok (get_or next.0 0 0, next.1)) y e in
    let t = bytes_take 1 p b.0 b.1 in
    subst (λ (z : ℕ × Position). Taken (z.0 ∷ []) p z.1) (ok_is (get_or b.0.0 0 0, b.0.1) y b.2) (subst (λ (l : List ℕ). Taken l p b.0.1) (one_byte b.0.0 t.1) t.0)

IsBytes-taken : (a : List ℕ) (p q : Position) → IsBytes p.whole → Taken a p q → IsBytes a
IsBytes-taken a p q h t i =
    elim (cases_lt i (length a)) [
      | inl lt ↦ subst (λ (x : ℕ). x < 256) (ap (λ (l : List ℕ). get_or l i 0) t.here ∙ get_or_append_left a (left_of q) 0 i lt) (rw get_or-drop (h (p.at + i)))
      | inr le ↦ rw (get_or_past a i 0 le) (omega arith)
    ]

pub number_takes : (p : Position) (y : ℕ × Position) → IsBytes p.whole → number_at p ≡ Ok y → Taken (to_le_bytes w32 y.0) p y.1 × (y.0 < 2 ^ 32)
unfolding number_at
number_takes p y h e =
    let b = bind_ok (bytes_at 4 p) (λ next. Ok (from_le_bytes w32 next.0, next.1)) y e in
    let t = bytes_take 4 p b.0 b.1 in
    let fits = IsBytes-taken b.0.0 p b.0.1 h t.0 in
    let back : to_le_bytes w32 (from_le_bytes w32 b.0.0) ≡ b.0.0 = le_bytes_4 b.0.0 (from_le_bytes w32 b.0.0) t.1 fits refl in
    let small : from_le_bytes w32 b.0.0 < 2 ^ 32 = omega (arith, fits 0, fits 1, fits 2, fits 3) in
    subst (λ (z : ℕ × Position). Taken (to_le_bytes w32 z.0) p z.1 × (z.0 < 2 ^ 32)) (ok_is (from_le_bytes w32 b.0.0, b.0.1) y b.2) (subst (λ (l : List ℕ). Taken l p b.0.1) (sym back) t.0, small)

-- ---- texts

text_takes_at : (start most b : ℕ) (p q : Position) (y : List ℕ × Position) (first : Taken (b ∷ []) p q) (again : (y : List ℕ × Position) → text_from start most q ≡ Ok y → Taken (ended y.0) q y.1) (zero_there : Bool) → eqb b 0 ≡ zero_there
    → cond zero_there (Ok ([], q)) (text_from start most q >>= λ others. Ok (b ∷ others.0, others.1)) ≡ Ok y → Taken (ended y.0) p y.1
text_takes_at start most b p q y first again true is e =
    let made : List ℕ × Position = ([], q) in
    subst (λ (z : List ℕ × Position). Taken (ended z.0) p z.1) (ok_is made y e) (subst (λ (k : ℕ). Taken (k ∷ []) p q) (eqb-true b 0 is) first)
text_takes_at start most b p q y first again false is e =
    let others = bind_ok (text_from start most q) (λ others. Ok (b ∷ others.0, others.1)) y e in
    let made : List ℕ × Position = (b ∷ others.0.0, others.0.1) in
    let both : Taken (ended (b ∷ others.0.0)) p others.0.1 = Taken-then (b ∷ []) (ended others.0.0) p q others.0.1 first (again others.0 others.1) in
    subst (λ (z : List ℕ × Position). Taken (ended z.0) p z.1) (ok_is made y others.2) both

pub text_takes : (start most : ℕ) (p : Position) (y : List ℕ × Position) → text_from start most p ≡ Ok y → Taken (ended y.0) p y.1
unfolding text_from
text_takes start zero p y e = absurd cc
text_takes start (suc most) p y e =
    let byte = bind_ok (byte_at p) (λ byte. cond (eqb byte.0 0) (Ok ([], byte.1)) (text_from start most byte.1 >>= λ others. Ok (byte.0 ∷ others.0, others.1))) y e in
    text_takes_at start most byte.0.0 p byte.0.1 y (byte_takes p byte.0 byte.1) (text_takes start most byte.0.1) (eqb byte.0.0 0) refl byte.2

pub name_takes : (p : Position) (y : List ℕ × Position) → text_at p ≡ Ok y → Taken (ended y.0) p y.1
unfolding text_at
name_takes p y e = text_takes p.at 256 p y e

pub kind_takes : (p : Position) (y : List ℕ × Position) → kind_at p ≡ Ok y → Taken (ended y.0) p y.1 × IsName y.0
unfolding kind_at
kind_takes p y e =
    let a = bind_ok (text_at p) (λ kind. cond (eqb (length kind.0) 0) (Err (BadName p.at)) (Ok kind)) y e in
    let g = went_on (eqb (length a.0.0) 0) (BadName p.at) (Ok a.0) y a.2 in
    subst (λ (z : List ℕ × Position). Taken (ended z.0) p z.1 × IsName z.0) (ok_is a.0 y g.1) (name_takes p a.0 a.1, text_is_name p a.0 a.1 g.0)

-- ---- values

-- a test that let reading go on
pub went_in : {A : Type 0} (b : Bool) (d : HeaderFault) (r : Result A HeaderFault) (y : A) → cond b r (Err d) ≡ Ok y → (b ≡ true) × (r ≡ Ok y)
went_in true d r y e = (refl, e)
went_in false d r y e = absurd cc

pub IsBytes-after : (text : List ℕ) (p q : Position) → Taken text p q → IsBytes p.whole → IsBytes q.whole
IsBytes-after text p q t h = subst (λ (x : Position). IsBytes x.whole) (sym t.after) h

pub value_takes : (p : Position) (y : List ℕ × Position) → IsBytes p.whole → value_at p ≡ Ok y → Taken (to_le_bytes w32 (length y.0) ++ y.0) p y.1 × (length y.0 < 2 ^ 31)
unfolding value_at
value_takes p y h e =
    let a = bind_ok (number_at p) (λ size. cond (ltb size.0 (2 ^ 31)) (bytes_at size.0 size.1) (Err (BadSize p.at))) y e in
    let g = went_in (ltb a.0.0 (2 ^ 31)) (BadSize p.at) (bytes_at a.0.0 a.0.1) y a.2 in
    let size = number_takes p a.0 h a.1 in
    let bytes = bytes_take a.0.0 a.0.1 y g.1 in
    let first : Taken (to_le_bytes w32 (length y.0)) p a.0.1 = subst (λ (k : ℕ). Taken (to_le_bytes w32 k) p a.0.1) (sym bytes.1) size.0 in
    let small : a.0.0 < 2 ^ 31 = ltb-true _ _ g.0 in
    (Taken-then (to_le_bytes w32 (length y.0)) y.0 p a.0.1 y.1 first bytes.0, omega (arith, small, bytes.1))

-- ---- entries

pub record TookEntry (name : List ℕ) (p : Position) (y : Entry × Position) : Type 0 where
  pub taken : Taken (attribute_spelling y.0.attribute) p y.1
  pub named : y.0.name ≡ name
  pub kind : IsName y.0.attribute.kind
  pub size : HasSize y.0

pub entry_takes : (name : List ℕ) (p : Position) (y : Entry × Position) → IsBytes p.whole → entry_at name p ≡ Ok y → TookEntry name p y
unfolding entry_at
entry_takes name p y h e =
    let a = bind_ok (kind_at p) (λ kind. value_at kind.1 >>= λ value. Ok (record { name = name; attribute = record { kind = kind.0; value = value.0 } }, value.1)) y e in
    let b = bind_ok (value_at a.0.1) (λ value. Ok (record { name = name; attribute = record { kind = a.0.0; value = value.0 } }, value.1)) y a.2 in
    let kind = kind_takes p a.0 a.1 in
    let value = value_takes a.0.1 b.0 (IsBytes-after (ended a.0.0) p a.0.1 kind.0 h) b.1 in
    let made : Entry × Position = (record { name = name; attribute = record { kind = a.0.0; value = b.0.0 } }, b.0.1) in
    let took : TookEntry name p made = record {
      taken = Taken-then (ended a.0.0) (to_le_bytes w32 (length b.0.0) ++ b.0.0) p a.0.1 b.0.1 kind.0 value.0;
      named = refl;
      kind = kind.1;
      size = value.1;
    } in
    subst (TookEntry name p) (ok_is made y b.2) took

-- an entry that is spelled, or the zero that closes a header
abbrev pub TookNext : Position → Option Entry → Position → Type 0
TookNext p None q = Taken (0 ∷ []) p q
TookNext p (Some e) q = Taken (entry_spelling e) p q × IsName e.name × IsName e.attribute.kind × HasSize e

next_takes_at : (p : Position) (name : List ℕ × Position) (y : Option Entry × Position) (full : Bool) → IsBytes p.whole → text_at p ≡ Ok name → eqb (length name.0) 0 ≡ full
    → cond full (Ok (None, name.1)) (entry_at name.0 name.1 >>= λ entry. Ok (Some entry.0, entry.1)) ≡ Ok y → TookNext p y.0 y.1
next_takes_at p name y true h t is e =
    let made : Option Entry × Position = (None, name.1) in
    let nothing : name.0 ≡ [] = nil_from_length name.0 (eqb-true _ _ is) in
    subst (λ (z : Option Entry × Position). TookNext p z.0 z.1) (ok_is made y e) (subst (λ (l : List ℕ). Taken (ended l) p name.1) nothing (name_takes p name t))
next_takes_at p name y false h t is e =
    let a = bind_ok (entry_at name.0 name.1) (λ entry. Ok (Some entry.0, entry.1)) y e in
    let first = name_takes p name t in
    let took = entry_takes name.0 name.1 a.0 (IsBytes-after (ended name.0) p name.1 first h) a.1 in
    let named : Taken (ended a.0.0.name) p name.1 = subst (λ (l : List ℕ). Taken (ended l) p name.1) (sym took.named) first in
    let is_named : IsName a.0.0.name = subst IsName (sym took.named) (text_is_name p name t is) in
    let made : Option Entry × Position = (Some a.0.0, a.0.1) in
    subst (λ (z : Option Entry × Position). TookNext p z.0 z.1) (ok_is made y a.2)
    (Taken-then (ended a.0.0.name) (attribute_spelling a.0.0.attribute) p name.1 a.0.1 named took.taken, is_named, took.kind, took.size)

pub next_takes : (p : Position) (y : Option Entry × Position) → IsBytes p.whole → next_at p ≡ Ok y → TookNext p y.0 y.1
unfolding next_at
next_takes p y h e =
    let a = bind_ok (text_at p) (λ name. cond (eqb (length name.0) 0) (Ok (None, name.1)) (entry_at name.0 name.1 >>= λ entry. Ok (Some entry.0, entry.1))) y e in
    next_takes_at p a.0 y (eqb (length a.0.0) 0) h a.1 refl a.2

-- what was read of a header behind other entries
pub record TookEntries (before : List Entry) (p : Position) (y : List Entry × Position) : Type 0 where
  pub es : List Entry
  pub all : y.0 ≡ before ++ es
  pub taken : Taken (header_spelling es) p y.1
  pub sizes : AreSized es
  pub lawful : AreEntries before → AreEntries y.0

entries_take_at : (n start : ℕ) (before : List Entry) (p q : Position) (o : Option Entry) (y : List Entry × Position) (again : (before : List Entry) (p : Position) (y : List Entry × Position) → IsBytes p.whole → entries_at n before p ≡ Ok y → TookEntries before p y)
    → IsBytes p.whole → TookNext p o q → joined (entries_at n) before start o q ≡ Ok y → TookEntries before p y
entries_take_at n start before p q None y again h took e =
    let made : List Entry × Position = (before, q) in
    let t : TookEntries before p made = record { es = []; all = sym (append-nil before); taken = took; sizes = tt; lawful = λ l. l } in
    subst (TookEntries before p) (ok_is made y e) t
entries_take_at n start before p q (Some x) y again h took e =
    let g = went_on (has_name x.name before) (Twice start) (entries_at n (before ++ x ∷ []) q) y e in
    let others = again (before ++ x ∷ []) q y (IsBytes-after (entry_spelling x) p q took.0 h) g.1 in
    record {
      es = x ∷ others.es;
      all = others.all ∙ append_assoc before (x ∷ []) others.es;
      taken = subst (λ (l : List ℕ). Taken l p y.1) (sym (header_spelling-cons x others.es)) (Taken-then (entry_spelling x) (header_spelling others.es) p q y.1 took.0 others.taken);
      sizes = (took.3, others.sizes);
      lawful = λ l. others.lawful (AreEntries-push before x l took.1 took.2 g.0);
    }

pub entries_take : (n : ℕ) (before : List Entry) (p : Position) (y : List Entry × Position) → IsBytes p.whole → entries_at n before p ≡ Ok y → TookEntries before p y
unfolding entries_at
entries_take zero before p y h e = absurd cc
entries_take (suc n) before p y h e =
    let a = bind_ok (next_at p) (λ next. joined (entries_at n) before p.at next.0 next.1) y e in
    entries_take_at n p.at before p a.0.1 a.0.0 y (entries_take n) h (next_takes p a.0 h a.1) a.2

-- a header that was read
pub record TookHeader (p : Position) (y : List Entry × Position) : Type 0 where
  pub taken : Taken (header_spelling y.0) p y.1
  pub sizes : AreSized y.0
  pub lawful : AreEntries y.0

pub header_takes : (p : Position) (y : List Entry × Position) → IsBytes p.whole → header_at p ≡ Ok y → TookHeader p y
unfolding header_at
header_takes p y h e =
    let t = entries_take (2 ^ 24) [] p y h e in
    record {
      taken = subst (λ (l : List Entry). Taken (header_spelling l) p y.1) (sym t.all) t.taken;
      sizes = subst AreSized (sym t.all) t.sizes;
      lawful = t.lawful tt;
    }
