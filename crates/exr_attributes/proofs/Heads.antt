-- Entries read one after the other, as a loop does, and the ordered set of their names.
use Rattle.std.proofs.Common.{◌≡◌, ℕ, suc, ◌+◌, ◌-◌, ◌^◌, ◌<◌, ◌≤◌, Bool, true, false, cond, ◌||◌, List, [], ◌∷◌, ◌++◌, Option, Some, None, Result, Ok, Err, refl, sym, ap, ◌∙◌, arith}
use Rattle.std.specs.Prelude.{not}
use Rattle.std.specs.Str.{bytes_eq}
use Rattle.std.specs.Cmp.Lexicographic.{slice_cmp}
use Rattle.std.specs.Ordering.{nat_cmp, is_eq}
use Rattle.std.proofs.lemmas.Cmp.{same_from_slice_cmp}
use Rattle.std.proofs.lemmas.Bool.Decides.{nat_tests}
use Rattle.exr_base.specs.Cursor.{Position}
use Rattle.exr_base.specs.Refusal.{Refuses}
use Rattle.exr_base.specs.declared.refusal.Refusal.{Refusal}
use Rattle.exr_base.specs.declared.refusal.Refusal.TheVariants as refusal
use Rattle.exr_attributes.specs.declared.fault.HeaderFault.{HeaderFault}
use Rattle.exr_attributes.specs.declared.fault.HeaderFault.TheVariants.{Twice}
use Rattle.exr_attributes.specs.declared.attribute.Entry.{Entry}
use Rattle.exr_attributes.specs.Entry.{is_named, has_name}
use Rattle.exr_attributes.specs.Reading.{next_at, entries_at, header_at, past_of}
use Rattle.exr_attributes.proofs.Entries.{bytes_eq-comm, has_name-push}

-- the order of names tells them apart as their bytes do
pub is_eq-slice_cmp : (k q : List ℕ) → is_eq (slice_cmp nat_cmp k q) ≡ bytes_eq k q
is_eq-slice_cmp k q = same_from_slice_cmp nat_cmp is_eq bytes_eq refl (λ _ _. refl) (λ _ _. refl) (λ x y xs ys o h. grind (arith, nat_tests)) k q (slice_cmp nat_cmp k q) refl

or_cond : (a b : Bool) → cond b true a ≡ (a || b)
or_cond true true = refl
or_cond true false = refl
or_cond false true = refl
or_cond false false = refl

pub known_more : (q key : List ℕ) (es : List Entry) (e : Entry) (before after : Bool) → key ≡ e.name → before ≡ has_name q es → after ≡ cond (is_eq (slice_cmp nat_cmp key q)) true before → after ≡ has_name q (es ++ e ∷ [])
known_more q key es e before after k b a =
    a ∙ rw (is_eq-slice_cmp, bytes_eq-comm key q, b, k) (or_cond (has_name q es) (is_named q e)) ∙ sym (has_name-push q es e)

-- an entry or the end, and where reading goes on
abbrev pub came : Position → Option Entry → Result (Option Entry × Position) HeaderFault
came q o = Ok (o, q)

pub goes_on : (i : ℕ) (es : List Entry) (p q : Position) (e : Entry) (total : Result (List Entry × Position) HeaderFault) → i < 2 ^ 24 → next_at p ≡ Ok (Some e, q) → has_name e.name es ≡ false
    → entries_at (2 ^ 24 - i) es p ≡ total → entries_at (2 ^ 24 - (i + 1)) (es ++ e ∷ []) q ≡ total
unfolding entries_at
goes_on i es p q e total lt h new so_far =
    let k : 2 ^ 24 - i ≡ suc (2 ^ 24 - (i + 1)) = omega arith in
    let one : entries_at (2 ^ 24 - i) es p ≡ entries_at (2 ^ 24 - (i + 1)) (es ++ e ∷ []) q = rw (k, h, new) refl in
    sym one ∙ so_far

pub repeats : (i : ℕ) (es : List Entry) (p q : Position) (e : Entry) (total : Result (List Entry × Position) HeaderFault) → i < 2 ^ 24 → next_at p ≡ Ok (Some e, q) → has_name e.name es ≡ true
    → entries_at (2 ^ 24 - i) es p ≡ total → total ≡ Err (Twice p.at)
unfolding entries_at
repeats i es p q e total lt h old so_far =
    let k : 2 ^ 24 - i ≡ suc (2 ^ 24 - (i + 1)) = omega arith in
    let one : entries_at (2 ^ 24 - i) es p ≡ Err (Twice p.at) = rw (k, h, old) refl in
    sym so_far ∙ one

pub closes : (i : ℕ) (es : List Entry) (p q : Position) (total : Result (List Entry × Position) HeaderFault) → i < 2 ^ 24 → next_at p ≡ Ok (None, q)
    → entries_at (2 ^ 24 - i) es p ≡ total → total ≡ Ok (es, q)
unfolding entries_at
closes i es p q total lt h so_far =
    let k : 2 ^ 24 - i ≡ suc (2 ^ 24 - (i + 1)) = omega arith in
    let one : entries_at (2 ^ 24 - i) es p ≡ Ok (es, q) = rw (k, h) refl in
    sym so_far ∙ one

pub fails : (i : ℕ) (es : List Entry) (p : Position) (e : Refusal HeaderFault) (total : Result (List Entry × Position) HeaderFault) → i < 2 ^ 24 → Refuses e (next_at p)
    → entries_at (2 ^ 24 - i) es p ≡ total → Refuses e total
unfolding entries_at
fails i es p refusal.NoMemory total lt h so_far = tt
fails i es p (refusal.Fault f) total lt h so_far =
    let k : 2 ^ 24 - i ≡ suc (2 ^ 24 - (i + 1)) = omega arith in
    let one : entries_at (2 ^ 24 - i) es p ≡ Err f = rw (k, h) refl in
    sym so_far ∙ one

pub runs_out : (i : ℕ) (es : List Entry) (p : Position) (total : Result (List Entry × Position) HeaderFault) → 2 ^ 24 ≤ i
    → entries_at (2 ^ 24 - i) es p ≡ total → total ≡ Err (past_of p)
unfolding entries_at
runs_out i es p total le so_far =
    let k : 2 ^ 24 - i ≡ 0 = omega arith in
    let one : entries_at (2 ^ 24 - i) es p ≡ Err (past_of p) = rw k refl in
    sym so_far ∙ one

pub begins : (p : Position) → entries_at (2 ^ 24 - 0) [] p ≡ header_at p
unfolding header_at
begins p = refl

-- an insert that found the name
pub was_there : (e : Entry) (es : List Entry) (key : List ℕ) (added before : Bool) → key ≡ e.name → added ≡ not before → added ≡ false → before ≡ has_name key es → has_name e.name es ≡ true
was_there e es key added true k a f b = ap (λ (n : List ℕ). has_name n es) (sym k) ∙ sym b
was_there e es key added false k a f b = absurd (grind (arith, nat_tests))

-- an insert that did not
pub was_new : (e : Entry) (es : List Entry) (key : List ℕ) (added before : Bool) → key ≡ e.name → added ≡ not before → added ≡ true → before ≡ has_name key es → has_name e.name es ≡ false
was_new e es key added false k a f b = ap (λ (n : List ℕ). has_name n es) (sym k) ∙ sym b
was_new e es key added true k a f b = absurd (grind (arith, nat_tests))

abbrev pub ended_with : Position → List Entry → Result (List Entry × Position) HeaderFault
ended_with q es = Ok (es, q)

abbrev pub twice_at : ℕ → Result (List Entry × Position) HeaderFault
twice_at place = Err (Twice place)

abbrev pub stopped : HeaderFault → Result (List Entry × Position) HeaderFault
stopped e = Err e
