-- What is read of an input is read of it with anything behind it, unless it ends too soon.
use Rattle.std.proofs.Common.{◌≡◌, ℕ, zero, suc, ◌+◌, ◌^◌, ◌<◌, ◌≤◌, Bool, true, false, cond, eqb, leb, ltb, List, [], ◌∷◌, ◌++◌, length, get_or, take, Option, Some, None, Result, Ok, Err, refl, sym, ap, ◌⊎◌, inl, inr, ◌∙◌, length-append, length-drop, arith}
use Rattle.std.specs.Int.{w32, from_le_bytes}
use Rattle.std.proofs.lemmas.Bool.{cases_lt, leb-true, leb-false, le-leb, lt-leb}
use Rattle.std.proofs.lemmas.List.{drop-append-le, take-append-le}
use Rattle.exr_base.specs.Cursor.{Position, left_of}
use Rattle.exr_base.specs.Refusal.{◌>>=◌}
use Rattle.exr_attributes.specs.declared.fault.HeaderFault.{HeaderFault}
use Rattle.exr_attributes.specs.declared.fault.HeaderFault.TheVariants.{Truncated, BadName, BadSize, Twice, Limit}
use Rattle.exr_attributes.specs.declared.fault.Bound.TheVariants.{HeadBytes}
use Rattle.exr_attributes.specs.declared.attribute.Entry.{Entry}
use Rattle.exr_attributes.specs.Entry.{has_name}
use Rattle.exr_attributes.specs.Reading.{moved, room_of, past_of, bytes_at, byte_at, number_at, text_from, text_at, kind_at, value_at, entry_at, next_at, joined, entries_at, header_at}

-- a place in an input that a head can reach
pub record IsIn (input : List ℕ) (p : Position) : Type 0 where
  pub same : p.whole ≡ input
  pub within : p.at ≤ length input
  pub front : p.at ≤ 2 ^ 24

-- the same place in a longer input
abbrev pub longer : List ℕ → Position → Position
longer rest p = record { whole = p.whole ++ rest; at = p.at }

-- the fault of an input that ends too soon
pub record IsShort (input : List ℕ) (e : HeaderFault) : Type 0 where
  pub short : length input ≤ 2 ^ 24
  pub fault : e ≡ Truncated (length input)

-- what is read of an input, and what is read in its place where more follows: the same, unless the input ends too soon
abbrev pub Settled : {A : Type 0} → List ℕ → Result (A × Position) HeaderFault → (List ℕ → Result (A × Position) HeaderFault) → Type 0
Settled input (Ok x) there = IsIn input x.1 × ((rest : List ℕ) → there rest ≡ Ok (x.0, longer rest x.1))
Settled input (Err e) there = IsShort input e ⊎ ((rest : List ℕ) → there rest ≡ Err e)

settled_same : {A : Type 0} (input : List ℕ) (r : Result (A × Position) HeaderFault) (there elsewhere : List ℕ → Result (A × Position) HeaderFault)
    → Settled input r there → ((rest : List ℕ) → elsewhere rest ≡ there rest) → Settled input r elsewhere
settled_same input (Ok x) there elsewhere s e = (s.0, λ rest. e rest ∙ s.1 rest)
settled_same input (Err d) there elsewhere (inl short) e = inl short
settled_same input (Err d) there elsewhere (inr same) e = inr (λ rest. e rest ∙ same rest)

-- one reading and then the next
pub settled_then : {A B : Type 0} (input : List ℕ) (r : Result (A × Position) HeaderFault) (there : List ℕ → Result (A × Position) HeaderFault) (f : A × Position → Result (B × Position) HeaderFault)
    → Settled input r there → ((x : A × Position) → IsIn input x.1 → Settled input (f x) (λ rest. f (x.0, longer rest x.1)))
    → Settled input (r >>= f) (λ rest. there rest >>= f)
settled_then input (Ok x) there f s h =
    settled_same input (f x) (λ rest. f (x.0, longer rest x.1)) (λ rest. there rest >>= f) (h x s.0) (λ rest. ap (λ z. z >>= f) (s.1 rest))
settled_then input (Err d) there f (inl short) h = inl short
settled_then input (Err d) there f (inr same) h = inr (λ rest. ap (λ z. z >>= f) (same rest))

-- what is told without reading, and then a reading
pub settled_told : {A B : Type 0} (input : List ℕ) (r : Result A HeaderFault) (f : A → Result (B × Position) HeaderFault) (there : List ℕ → A → Result (B × Position) HeaderFault)
    → ((x : A) → Settled input (f x) (λ rest. there rest x)) → Settled input (r >>= f) (λ rest. r >>= there rest)
settled_told input (Ok x) f there h = h x
settled_told input (Err d) f there h = inr (λ _. refl)

pub settled_if : {A : Type 0} (input : List ℕ) (b : Bool) (r s : Result (A × Position) HeaderFault) (there elsewhere : List ℕ → Result (A × Position) HeaderFault)
    → Settled input r there → Settled input s elsewhere → Settled input (cond b r s) (λ rest. cond b (there rest) (elsewhere rest))
settled_if input true r s there elsewhere t e = t
settled_if input false r s there elsewhere t e = e

-- ---- bytes

left-longer : (input rest : List ℕ) (p : Position) → IsIn input p → left_of (longer rest p) ≡ left_of p ++ rest
left-longer input rest p i = drop-append-le p.at p.whole rest (omega (arith, i.within, ap length i.same))

length-left : (input : List ℕ) (p : Position) → IsIn input p → p.at + length (left_of p) ≡ length input
length-left input p i = omega (arith, i.within, ap length i.same, length-drop p.at p.whole)

length-longer : (input rest : List ℕ) (p : Position) → IsIn input p → length (left_of (longer rest p)) ≡ length (left_of p) + length rest
length-longer input rest p i = ap length (left-longer input rest p i) ∙ length-append (left_of p) rest

past_short : (input : List ℕ) (p : Position) → IsIn input p → length input ≤ 2 ^ 24 → IsShort input (past_of p)
past_short input p i le =
    let len = length-left input p i in
    let t : leb (p.at + length (left_of p)) (2 ^ 24) ≡ true = le-leb _ _ (omega (arith, len, le)) in
    record { short = le; fault = rw t (ap Truncated len) }

past_long : (p : Position) → 2 ^ 24 < p.at + length (left_of p) → past_of p ≡ Limit HeadBytes
past_long p lt =
    let t : leb (p.at + length (left_of p)) (2 ^ 24) ≡ false = lt-leb _ _ lt in
    rw t refl

-- past the limit in an input is past it in a longer one
past_stays : (input rest : List ℕ) (p : Position) → IsIn input p → 2 ^ 24 < length input → past_of (longer rest p) ≡ past_of p
past_stays input rest p i lt =
    let len = length-left input p i in
    let more = length-longer input rest p i in
    past_long (longer rest p) (omega (arith, len, more, lt)) ∙ sym (past_long p (omega (arith, len, lt)))

-- wanting a byte past those of a head
pub past_settled : (A : Type 0) (input : List ℕ) (p : Position) → IsIn input p → Settled {A = A} input (Err (past_of p)) (λ rest. Err (past_of (longer rest p)))
past_settled A input p i =
    elim (cases_lt (2 ^ 24) (length input)) [
      | inl lt ↦ inr (λ rest. ap Err (past_stays input rest p i lt))
      | inr le ↦ inl (past_short input p i le)
    ]

bytes_settled_at : (n : ℕ) (input : List ℕ) (p : Position) (fits : Bool) → IsIn input p → leb n (room_of p) ≡ fits
    → Settled input (cond fits (Ok (take n (left_of p), moved n p)) (Err (past_of p))) (λ rest. cond (leb n (room_of (longer rest p))) (Ok (take n (left_of (longer rest p)), moved n (longer rest p))) (Err (past_of (longer rest p))))
bytes_settled_at n input p true i e =
    let le : n ≤ room_of p = leb-true _ _ e in
    let len = length-left input p i in
    let there : IsIn input (moved n p) = record { same = i.same; within = omega (arith, le, len); front = omega (arith, le, i.front) } in (
      there,
      λ rest.
          let more = length-longer input rest p i in
          let t : leb n (room_of (longer rest p)) ≡ true = le-leb _ _ (omega (arith, le, more)) in
          let taken : take n (left_of (longer rest p)) ≡ take n (left_of p) = ap (take n) (left-longer input rest p i) ∙ take-append-le n (left_of p) rest (omega (arith, le)) in
          rw t (ap (λ (l : List ℕ). Ok (l, longer rest (moved n p))) taken),
    )
bytes_settled_at n input p false i e =
    let wants : room_of p < n = leb-false _ _ e in
    let len = length-left input p i in
    elim (cases_lt (2 ^ 24) (length input)) [
      | inl lt ↦ inr (λ rest.
          let more = length-longer input rest p i in
          let t : leb n (room_of (longer rest p)) ≡ false = lt-leb _ _ (omega (arith, wants, len, more, lt)) in
          rw t (ap Err (past_stays input rest p i lt)))
      | inr le ↦ inl (past_short input p i le)
    ]

pub bytes_settled : (n : ℕ) (input : List ℕ) (p : Position) → IsIn input p → Settled input (bytes_at n p) (λ rest. bytes_at n (longer rest p))
unfolding bytes_at
bytes_settled n input p i = bytes_settled_at n input p (leb n (room_of p)) i refl

byte_settled : (input : List ℕ) (p : Position) → IsIn input p → Settled input (byte_at p) (λ rest. byte_at (longer rest p))
unfolding byte_at
byte_settled input p i =
    settled_then input (bytes_at 1 p) (λ rest. bytes_at 1 (longer rest p)) (λ next. Ok (get_or next.0 0 0, next.1)) (bytes_settled 1 input p i) (λ x j. (j, λ _. refl))

pub number_settled : (input : List ℕ) (p : Position) → IsIn input p → Settled input (number_at p) (λ rest. number_at (longer rest p))
unfolding number_at
number_settled input p i =
    settled_then input (bytes_at 4 p) (λ rest. bytes_at 4 (longer rest p)) (λ next. Ok (from_le_bytes w32 next.0, next.1)) (bytes_settled 4 input p i) (λ x j. (j, λ _. refl))

-- ---- texts, values and entries

text_from_settled : (start most : ℕ) (input : List ℕ) (p : Position) → IsIn input p → Settled input (text_from start most p) (λ rest. text_from start most (longer rest p))
unfolding text_from
text_from_settled start zero input p i = inr (λ _. refl)
text_from_settled start (suc most) input p i =
    settled_then input (byte_at p) (λ rest. byte_at (longer rest p)) (λ byte. cond (eqb byte.0 0) (Ok ([], byte.1)) (text_from start most byte.1 >>= λ others. Ok (byte.0 ∷ others.0, others.1))) (byte_settled input p i)
    (λ byte j. settled_if input (eqb byte.0 0) (Ok ([], byte.1)) (text_from start most byte.1 >>= λ others. Ok (byte.0 ∷ others.0, others.1)) (λ rest. Ok ([], longer rest byte.1)) (λ rest. text_from start most (longer rest byte.1) >>= λ others. Ok (byte.0 ∷ others.0, others.1))
    (j, λ _. refl)
    (settled_then input (text_from start most byte.1) (λ rest. text_from start most (longer rest byte.1)) (λ others. Ok (byte.0 ∷ others.0, others.1)) (text_from_settled start most input byte.1 j) (λ others k. (k, λ _. refl))))

text_settled : (input : List ℕ) (p : Position) → IsIn input p → Settled input (text_at p) (λ rest. text_at (longer rest p))
unfolding text_at
text_settled input p i = text_from_settled p.at 256 input p i

kind_settled : (input : List ℕ) (p : Position) → IsIn input p → Settled input (kind_at p) (λ rest. kind_at (longer rest p))
unfolding kind_at
kind_settled input p i =
    settled_then input (text_at p) (λ rest. text_at (longer rest p)) (λ kind. cond (eqb (length kind.0) 0) (Err (BadName p.at)) (Ok kind)) (text_settled input p i)
    (λ kind j. settled_if input (eqb (length kind.0) 0) (Err (BadName p.at)) (Ok kind) (λ _. Err (BadName p.at)) (λ rest. Ok (kind.0, longer rest kind.1)) (inr (λ _. refl)) (j, λ _. refl))

value_settled : (input : List ℕ) (p : Position) → IsIn input p → Settled input (value_at p) (λ rest. value_at (longer rest p))
unfolding value_at
value_settled input p i =
    settled_then input (number_at p) (λ rest. number_at (longer rest p)) (λ size. cond (ltb size.0 (2 ^ 31)) (bytes_at size.0 size.1) (Err (BadSize p.at))) (number_settled input p i)
    (λ size j. settled_if input (ltb size.0 (2 ^ 31)) (bytes_at size.0 size.1) (Err (BadSize p.at)) (λ rest. bytes_at size.0 (longer rest size.1)) (λ _. Err (BadSize p.at)) (bytes_settled size.0 input size.1 j) (inr (λ _. refl)))

entry_settled : (name : List ℕ) (input : List ℕ) (p : Position) → IsIn input p → Settled input (entry_at name p) (λ rest. entry_at name (longer rest p))
unfolding entry_at
entry_settled name input p i =
    settled_then input (kind_at p) (λ rest. kind_at (longer rest p)) (λ kind. value_at kind.1 >>= λ value. Ok (record { name = name; attribute = record { kind = kind.0; value = value.0 } }, value.1)) (kind_settled input p i)
    (λ kind j. settled_then input (value_at kind.1) (λ rest. value_at (longer rest kind.1)) (λ value. Ok (record { name = name; attribute = record { kind = kind.0; value = value.0 } }, value.1)) (value_settled input kind.1 j) (λ value k. (k, λ _. refl)))

next_settled : (input : List ℕ) (p : Position) → IsIn input p → Settled input (next_at p) (λ rest. next_at (longer rest p))
unfolding next_at
next_settled input p i =
    settled_then input (text_at p) (λ rest. text_at (longer rest p)) (λ name. cond (eqb (length name.0) 0) (Ok (None, name.1)) (entry_at name.0 name.1 >>= λ entry. Ok (Some entry.0, entry.1))) (text_settled input p i)
    (λ name j. settled_if input (eqb (length name.0) 0) (Ok (None, name.1)) (entry_at name.0 name.1 >>= λ entry. Ok (Some entry.0, entry.1)) (λ rest. Ok (None, longer rest name.1)) (λ rest. entry_at name.0 (longer rest name.1) >>= λ entry. Ok (Some entry.0, entry.1))
    (j, λ _. refl)
    (settled_then input (entry_at name.0 name.1) (λ rest. entry_at name.0 (longer rest name.1)) (λ entry. Ok (Some entry.0, entry.1)) (entry_settled name.0 input name.1 j) (λ entry k. (k, λ _. refl))))

joined_settled : (reading_on : List Entry → Position → Result (List Entry × Position) HeaderFault) (before : List Entry) (start : ℕ) (input : List ℕ) (next : Option Entry) (p : Position) → IsIn input p
    → ((before : List Entry) (q : Position) → IsIn input q → Settled input (reading_on before q) (λ rest. reading_on before (longer rest q)))
    → Settled input (joined reading_on before start next p) (λ rest. joined reading_on before start next (longer rest p))
joined_settled reading_on before start input None p i again = (i, λ _. refl)
joined_settled reading_on before start input (Some e) p i again =
    settled_if input (has_name e.name before) (Err (Twice start)) (reading_on (before ++ e ∷ []) p) (λ _. Err (Twice start)) (λ rest. reading_on (before ++ e ∷ []) (longer rest p)) (inr (λ _. refl)) (again (before ++ e ∷ []) p i)

entries_settled : (n : ℕ) (before : List Entry) (input : List ℕ) (p : Position) → IsIn input p → Settled input (entries_at n before p) (λ rest. entries_at n before (longer rest p))
unfolding entries_at
entries_settled zero before input p i = past_settled (List Entry) input p i
entries_settled (suc n) before input p i =
    settled_then input (next_at p) (λ rest. next_at (longer rest p)) (λ next. joined (entries_at n) before p.at next.0 next.1) (next_settled input p i)
    (λ next j. joined_settled (entries_at n) before p.at input next.0 next.1 j (λ before q k. entries_settled n before input q k))

pub header_settled : (input : List ℕ) (p : Position) → IsIn input p → Settled input (header_at p) (λ rest. header_at (longer rest p))
unfolding header_at
header_settled input p i = entries_settled (2 ^ 24) [] input p i
