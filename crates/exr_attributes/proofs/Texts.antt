-- A text read byte by byte: what was read so far, before what reading on gives.
use Rattle.std.proofs.Common.{◌≡◌, ◌≢◌, ℕ, zero, suc, ◌+◌, ◌-◌, ◌<◌, ◌≤◌, Bool, true, false, cond, eqb, List, [], ◌∷◌, ◌++◌, Result, Ok, Err, Some, None, length, ltb, leb, refl, sym, ap, subst, ◌∙◌, append_assoc, arith}
use Rattle.std.proofs.lemmas.List.{append-nil}
use Rattle.std.proofs.lemmas.Bool.Decides.{nat_tests}
use Rattle.exr_base.specs.Cursor.{Position}
use Rattle.std.specs.List.{list_any}
use Rattle.exr_base.specs.Name.{name_of, IsName}
use Rattle.exr_base.specs.Refusal.{◌>>=◌, Refuses}
use Rattle.exr_base.specs.declared.refusal.Refusal.{Refusal}
use Rattle.exr_base.specs.declared.refusal.Refusal.TheVariants as refusal
use Rattle.exr_attributes.specs.declared.fault.HeaderFault.{HeaderFault}
use Rattle.exr_attributes.specs.declared.fault.HeaderFault.TheVariants.{BadName}
use Rattle.exr_attributes.specs.Reading.{byte_at, text_from, text_at}

-- a text before another
abbrev pub behind : List ℕ → Result (List ℕ × Position) HeaderFault → Result (List ℕ × Position) HeaderFault
behind front (Ok x) = Ok (front ++ x.0, x.1)
behind front (Err e) = Err e

behind-nil : (r : Result (List ℕ × Position) HeaderFault) → behind [] r ≡ r
behind-nil (Ok x) = refl
behind-nil (Err e) = refl

regroup : (front : List ℕ) (b : ℕ) (r : Result (List ℕ × Position) HeaderFault)
    → behind front (r >>= λ others. Ok (b ∷ others.0, others.1)) ≡ behind (front ++ b ∷ []) r
regroup front b (Ok x) = ap (λ (t : List ℕ). Ok (t, x.1)) (sym (append_assoc front (b ∷ []) x.0))
regroup front b (Err e) = refl

is_nonzero : (b : ℕ) → b ≢ 0 → eqb b 0 ≡ false
is_nonzero b h = grind (arith, nat_tests)

pub begins : (start : ℕ) (p : Position) → start ≡ p.at → behind [] (text_from start 256 p) ≡ text_at p
unfolding text_at
begins start p e = behind-nil (text_from start 256 p) ∙ ap (λ (s : ℕ). text_from s 256 p) e

pub goes_on : (front : List ℕ) (start i : ℕ) (p q : Position) (b : ℕ) (total : Result (List ℕ × Position) HeaderFault) → i < 256 → byte_at p ≡ Ok (b, q) → b ≢ 0
    → behind front (text_from start (256 - i) p) ≡ total → behind (front ++ b ∷ []) (text_from start (256 - (i + 1)) q) ≡ total
unfolding text_from
goes_on front start i p q b total lt h nonzero so_far =
    let k : 256 - i ≡ suc (256 - (i + 1)) = omega arith in
    let z = is_nonzero b nonzero in
    let one : behind front (text_from start (256 - i) p) ≡ behind (front ++ b ∷ []) (text_from start (256 - (i + 1)) q) = rw (k, h, z) (regroup front b (text_from start (256 - (i + 1)) q)) in
    sym one ∙ so_far

pub ends : (front : List ℕ) (start i : ℕ) (p q : Position) (b : ℕ) (total : Result (List ℕ × Position) HeaderFault) → i < 256 → byte_at p ≡ Ok (b, q) → b ≡ 0
    → behind front (text_from start (256 - i) p) ≡ total → total ≡ Ok (front, q)
unfolding text_from
ends front start i p q b total lt h is_zero so_far =
    let k : 256 - i ≡ suc (256 - (i + 1)) = omega arith in
    let one : behind front (text_from start (256 - i) p) ≡ Ok (front, q) = rw (k, h, is_zero) (ap (λ (t : List ℕ). Ok (t, q)) (append-nil front)) in
    sym so_far ∙ one

pub fails : (front : List ℕ) (start i : ℕ) (p : Position) (e : Refusal HeaderFault) (total : Result (List ℕ × Position) HeaderFault) → i < 256 → Refuses e (byte_at p)
    → behind front (text_from start (256 - i) p) ≡ total → Refuses e total
unfolding text_from
fails front start i p refusal.NoMemory total lt h so_far = tt
fails front start i p (refusal.Fault f) total lt h so_far =
    let k : 256 - i ≡ suc (256 - (i + 1)) = omega arith in
    let one : behind front (text_from start (256 - i) p) ≡ Err f = rw (k, h) refl in
    sym so_far ∙ one

pub too_long : (front : List ℕ) (start i : ℕ) (p : Position) (total : Result (List ℕ × Position) HeaderFault) → 256 ≤ i
    → behind front (text_from start (256 - i) p) ≡ total → total ≡ Err (BadName start)
unfolding text_from
too_long front start i p total le so_far =
    let k : 256 - i ≡ 0 = omega arith in
    let one : behind front (text_from start (256 - i) p) ≡ Err (BadName start) = rw k refl in
    sym so_far ∙ one

-- ---- what a text is: no zero, and at most 255 bytes

pub record IsText (most : ℕ) (text : List ℕ) : Type 0 where
  pub short : length text < most
  pub zero_free : list_any (λ b. eqb b 0) text ≡ false

pub bind_ok : {A B : Type 0} (r : Result A HeaderFault) (f : A → Result B HeaderFault) (y : B) → (r >>= f) ≡ Ok y → (x : A) × (r ≡ Ok x) × (f x ≡ Ok y)
bind_ok (Ok x) f y e = (x, refl, e)
bind_ok (Err d) f y e = absurd cc

first_of : Result (List ℕ × Position) HeaderFault → List ℕ
first_of (Ok x) = x.0
first_of (Err d) = []

text_is_at : (start most b : ℕ) (q : Position) (y : List ℕ × Position) (again : (y : List ℕ × Position) → text_from start most q ≡ Ok y → IsText most y.0) (ended : Bool) → eqb b 0 ≡ ended
    → cond ended (Ok ([], q)) (text_from start most q >>= λ others. Ok (b ∷ others.0, others.1)) ≡ Ok y → IsText (suc most) y.0
unfolding first_of
text_is_at start most b q y again true is e =
    let k : [] ≡ y.0 = ap first_of e in
    subst (IsText (suc most)) k (record { short = omega arith; zero_free = refl })
text_is_at start most b q y again false is e =
    let others = bind_ok (text_from start most q) (λ others. Ok (b ∷ others.0, others.1)) y e in
    let t = again others.0 others.1 in
    let k : b ∷ others.0.0 ≡ y.0 = ap first_of others.2 in
    let short : length others.0.0 < most = t.short in
    subst (IsText (suc most)) k (record { short = omega arith; zero_free = rw (is, t.zero_free) refl })

pub text_is : (start most : ℕ) (p : Position) (y : List ℕ × Position) → text_from start most p ≡ Ok y → IsText most y.0
unfolding text_from
text_is start zero p y e = absurd cc
text_is start (suc most) p y e =
    let byte = bind_ok (byte_at p) (λ byte. cond (eqb byte.0 0) (Ok ([], byte.1)) (text_from start most byte.1 >>= λ others. Ok (byte.0 ∷ others.0, others.1))) y e in
    text_is_at start most byte.0.0 byte.0.1 y (text_is start most byte.0.1) (eqb byte.0.0 0) refl byte.2

name_of-text : (text : List ℕ) → IsText 256 text → name_of text ≡ cond (eqb (length text) 0) None (Some text)
name_of-text [] t = refl
name_of-text (b ∷ bs) t =
    let z : eqb (length (b ∷ bs)) 0 ≡ false = grind (arith, nat_tests) in
    let low : ltb 0 (length (b ∷ bs)) ≡ true = grind (arith, nat_tests) in
    let short : length (b ∷ bs) < 256 = t.short in
    let high : leb (length (b ∷ bs)) 255 ≡ true = grind (arith, nat_tests) in
    rw (low, high, t.zero_free, z) refl

no_name : (text : List ℕ) → IsText 256 text → None ≡ name_of text → eqb (length text) 0 ≡ true
no_name [] t e = refl
no_name (b ∷ bs) t e =
    let z : eqb (length (b ∷ bs)) 0 ≡ false = grind (arith, nat_tests) in
    let k : None ≡ Some (b ∷ bs) = e ∙ name_of-text (b ∷ bs) t ∙ rw z refl in
    absurd cc

pub empty_text : (p q : Position) (text : List ℕ) → text_at p ≡ Ok (text, q) → None ≡ name_of text → eqb (length text) 0 ≡ true
unfolding text_at
empty_text p q text e n = no_name text (text_is p.at 256 p (text, q) e) n

-- a name that could not be read
abbrev pub stopped : HeaderFault → Result (List ℕ × Position) HeaderFault
stopped e = Err e

full_is_name : (text : List ℕ) → IsText 256 text → eqb (length text) 0 ≡ false → IsName text
full_is_name [] t e = absurd cc
full_is_name (b ∷ bs) t e =
    let low : ltb 0 (length (b ∷ bs)) ≡ true = grind (arith, nat_tests) in
    let short : length (b ∷ bs) < 256 = t.short in
    let high : leb (length (b ∷ bs)) 255 ≡ true = grind (arith, nat_tests) in
    rw (low, high, t.zero_free) refl

pub text_is_name : (p : Position) (y : List ℕ × Position) → text_at p ≡ Ok y → eqb (length y.0) 0 ≡ false → IsName y.0
unfolding text_at
text_is_name p y e full = full_is_name y.0 (text_is p.at 256 p y e) full
