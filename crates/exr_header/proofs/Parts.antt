-- Headers of many parts read one after the other, as a loop does.
use Rattle.std.proofs.Common.{◌≡◌, ◌≢◌, ℕ, suc, ◌+◌, ◌-◌, ◌<◌, ◌≤◌, true, false, eqb, List, [], ◌∷◌, ◌++◌, All, length, reverse, Result, Ok, Err, sum_by, refl, sym, ap, subst, ◌∙◌, arith}
use Rattle.std.proofs.lemmas.Bool.Decides.{nat_tests}
use Rattle.std.specs.Prelude.{IfOk}
use Rattle.std.proofs.lemmas.List.Elements.{All-same}
use Rattle.std.proofs.lemmas.List.{reverse-append}
use Rattle.std.proofs.lemmas.List.Sums.{sum_by-append}
use Rattle.exr_base.specs.Cursor.{Position}
use Rattle.exr_base.specs.Refusal.{◌>>=◌, Refuses, Gives}
use Rattle.exr_base.specs.declared.refusal.Refusal.{Refusal}
use Rattle.exr_base.specs.declared.refusal.Refusal.TheVariants as refusal
use Rattle.exr_attributes.specs.declared.fault.HeaderFault.{HeaderFault}
use Rattle.exr_attributes.specs.declared.attribute.Entry.{Entry}
use Rattle.exr_attributes.specs.Reading.{Reads, header_at}
use Rattle.exr_attributes.specs.Spelling.{AreAttributes}
use Rattle.exr_judge.specs.declared.header.Header.{Header}
use Rattle.exr_judge.specs.Picture.{chunk_count_of}
use Rattle.exr_judge.specs.declared.kind.Flags.{Flags}
use Rattle.exr_header.specs.Spells.{AreHeaders}
use Rattle.exr_header.specs.Head.{some_parts, part_read, last_at, parts_at, Given, part_given, parts_given}

pub goes_on : (n i word : ℕ) (before : List Header) (p q : Position) (es : List Entry) (h : Header) (total : Result (List Header × Position) HeaderFault) → i < n → header_at p ≡ Ok (es, q) → eqb (length es) 0 ≡ false → part_read word before es ≡ Ok h
    → parts_at (n - i) word before p ≡ total → parts_at (n - (i + 1)) word (before ++ h ∷ []) q ≡ total
unfolding parts_at
goes_on n i word before p q es h total lt read full part so_far =
    let k : n - i ≡ suc (n - (i + 1)) = omega arith in
    let one : parts_at (n - i) word before p ≡ parts_at (n - (i + 1)) word (before ++ h ∷ []) q = rw (k, read, full, part) refl in
    sym one ∙ so_far

-- what a call answered about the parts, where they end
ended_by : {X : Type 0} (view : X → List Header) (r : Result X (Refusal HeaderFault)) (defined : Result (List Header) HeaderFault) (q : Position) → Gives view r defined → Reads view r q (defined >>= λ parts. Ok (parts, q))
ended_by view (Ok x) defined q g = rw g refl
ended_by view (Err refusal.NoMemory) defined q g = tt
ended_by view (Err (refusal.Fault f)) defined q g = rw g refl

pub ends : {X : Type 0} (view : X → List Header) (r : Result X (Refusal HeaderFault)) (n i word : ℕ) (before : List Header) (p q : Position) (es : List Entry) (total : Result (List Header × Position) HeaderFault) → i < n → header_at p ≡ Ok (es, q) → eqb (length es) 0 ≡ true
    → Gives view r (some_parts before) → parts_at (n - i) word before p ≡ total → Reads view r q total
unfolding parts_at
ends view r n i word before p q es total lt read empty g so_far =
    let k : n - i ≡ suc (n - (i + 1)) = omega arith in
    let one : parts_at (n - i) word before p ≡ (some_parts before >>= λ parts. Ok (parts, q)) = rw (k, read, empty) refl in
    subst (Reads view r q) (sym one ∙ so_far) (ended_by view r (some_parts before) q g)

pub fails_header : (n i word : ℕ) (before : List Header) (p : Position) (e : Refusal HeaderFault) (total : Result (List Header × Position) HeaderFault) → i < n → Refuses e (header_at p)
    → parts_at (n - i) word before p ≡ total → Refuses e total
unfolding parts_at
fails_header n i word before p refusal.NoMemory total lt h so_far = tt
fails_header n i word before p (refusal.Fault f) total lt h so_far =
    let k : n - i ≡ suc (n - (i + 1)) = omega arith in
    let one : parts_at (n - i) word before p ≡ Err f = rw (k, h) refl in
    sym so_far ∙ one

pub fails_part : (n i word : ℕ) (before : List Header) (p q : Position) (es : List Entry) (e : Refusal HeaderFault) (total : Result (List Header × Position) HeaderFault) → i < n → header_at p ≡ Ok (es, q) → eqb (length es) 0 ≡ false → Refuses e (part_read word before es)
    → parts_at (n - i) word before p ≡ total → Refuses e total
unfolding parts_at
fails_part n i word before p q es refusal.NoMemory total lt read full h so_far = tt
fails_part n i word before p q es (refusal.Fault f) total lt read full h so_far =
    let k : n - i ≡ suc (n - (i + 1)) = omega arith in
    let one : parts_at (n - i) word before p ≡ Err f = rw (k, read, full, h) refl in
    sym so_far ∙ one

pub is_last : (n i word : ℕ) (before : List Header) (p : Position) (total : Result (List Header × Position) HeaderFault) → n ≤ i → parts_at (n - i) word before p ≡ total → last_at before p ≡ total
unfolding parts_at
is_last n i word before p total le so_far =
    let k : n - i ≡ 0 = omega arith in
    let one : parts_at (n - i) word before p ≡ last_at before p = rw k refl in
    sym one ∙ so_far

pub counted_more : (before : List Header) (h : Header) (chunks more : ℕ) → chunks ≡ sum_by chunk_count_of before → more ≡ chunk_count_of h → chunks + more ≡ sum_by chunk_count_of (before ++ h ∷ [])
counted_more before h chunks more c m = omega (arith, c, m, sum_by-append chunk_count_of before (h ∷ []))

pub is_zero : (n m : ℕ) → n ≡ m → n ≡ 0 → eqb m 0 ≡ true
is_zero n m e z = grind (arith, nat_tests)

pub is_not_zero : (n m : ℕ) → n ≡ m → n ≢ 0 → eqb m 0 ≡ false
is_not_zero n m e z = grind (arith, nat_tests)

-- ---- given parts, the first of which stands last

turned : (old new : List Given) (x : Given) → old ≡ new ++ x ∷ [] → reverse old ≡ x ∷ reverse new
turned old new x e = ap reverse e ∙ reverse-append new (x ∷ [])

pub given_goes_on : (flags : Flags) (before : List Header) (old new : List Given) (x : Given) (h : Header) (total : Result (List Header) HeaderFault) → old ≡ new ++ x ∷ [] → part_given flags before x ≡ Ok h
    → parts_given flags before (reverse old) ≡ total → parts_given flags (before ++ h ∷ []) (reverse new) ≡ total
unfolding parts_given
given_goes_on flags before old new x h total e part so_far =
    let one : parts_given flags before (x ∷ reverse new) ≡ parts_given flags (before ++ h ∷ []) (reverse new) = rw part refl in
    sym one ∙ ap (parts_given flags before) (sym (turned old new x e)) ∙ so_far

pub given_fails : (flags : Flags) (before : List Header) (old new : List Given) (x : Given) (fault : Refusal HeaderFault) (total : Result (List Header) HeaderFault) → old ≡ new ++ x ∷ [] → Refuses fault (part_given flags before x)
    → parts_given flags before (reverse old) ≡ total → Refuses fault total
unfolding parts_given
given_fails flags before old new x refusal.NoMemory total e part so_far = tt
given_fails flags before old new x (refusal.Fault f) total e part so_far =
    let one : parts_given flags before (x ∷ reverse new) ≡ Err f = rw part refl in
    sym so_far ∙ ap (parts_given flags before) (turned old new x e) ∙ one

pub given_ends : (flags : Flags) (before : List Header) (old : List Given) (total : Result (List Header) HeaderFault) → length old ≡ 0 → parts_given flags before (reverse old) ≡ total → total ≡ Ok before
unfolding parts_given
given_ends flags before [] total none so_far = sym so_far
given_ends flags before (x ∷ old) total none so_far = absurd (omega (arith, none))

-- what holds of each part holds of each of the same parts
pub all_same : {X : Type 0} (P : Header → Type 0) (view : X → List Header) (r : Result X (Refusal HeaderFault)) (parts : List Header) → IfOk r (λ x. view x ≡ parts) → All P parts → IfOk r (λ x. All P (view x))
all_same P view (Ok x) parts e h = All-same P (view x) parts e h
all_same P view (Err f) parts e h = tt

pub AreHeaders-push : (hs : List Header) (h : Header) → AreHeaders hs → AreAttributes h.attributes → AreHeaders (hs ++ h ∷ [])
AreHeaders-push [] h all one = (one, tt)
AreHeaders-push (x ∷ xs) h all one = (all.0, AreHeaders-push xs h all.1 one)

pub pushed_alone : (old new : List Header) (h : Header) → old ≡ [] → new ≡ old ++ h ∷ [] → new ≡ h ∷ []
pushed_alone old new h none e = e ∙ rw none refl
