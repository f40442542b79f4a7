-- Slices by number and by name, through the runs and the planes that list them.
use Rattle.std.proofs.Common.{◌≡◌, Bor, ◌+◌, ◌-◌, ◌^◌, ◌<◌, ◌≤◌, ℕ, zero, suc, Bool, true, false, cond, not, List, [], ◌∷◌, ◌++◌, length, take, drop, get_or, Option, Some, None, Ok, Err, refl, sym, ap, ◌∙◌, inl, inr, arith, eqb, ltb}
use Rattle.std.specs.Option.{option_copied}
use Rattle.std.specs.List.{flat_map, position, position_or_len, slice_get}
use Rattle.std.proofs.lemmas.Bool.{lt-ltb, le-ltb, cases_lt}
use Rattle.std.proofs.lemmas.Bool.Decides.{nat_tests}
use Rattle.std.proofs.lemmas.List.{at_drop_more, at_drop_all, take_more, length-take-le, take-append-drop}
use Rattle.std.proofs.lemmas.List.Concat.{flat_map-append}
use Rattle.std.proofs.lemmas.List.Folds.{prefix_len-append}
use Rattle.std.proofs.lemmas.List.Sums.{prefix_len-le-length}
use Rattle.exr_base.specs.Refusal.{◌>>=◌}
use Rattle.exr_layout.specs.declared.planes.Slice.{Slice}
use Rattle.exr_layout.specs.declared.planes.Run.{Run}
use Rattle.exr_layout.specs.declared.planes.Plane.{Plane}
use Rattle.exr_layout.specs.declared.fault.LayoutFault.TheVariants.{TwiceChannel}
use Rattle.std.proofs.lemmas.Option.{slice_get_read}
use Rattle.exr_layout.proofs.Counted.{planes_within}
use Rattle.exr_layout.specs.Validation.{slices_of_runs, slices_of_plane, slices_of, has_name, names_validated, refused_at}

-- ---- what is left begins with a run, or with a plane

pub runs_rest : (runs : List Run) (i : ℕ) (r : Run) → i < length runs → r ≡ get_or runs i r → slices_of_runs (drop i runs) ≡ r.slices.items ++ slices_of_runs (drop (i + 1) runs)
runs_rest runs i r lt is = at_drop_more slices_of_runs runs i r lt ∙ ap (λ (x : Run). x.slices.items ++ slices_of_runs (drop (i + 1) runs)) (sym is)

pub planes_rest : (planes : List Plane) (i : ℕ) (p : Plane) → i < length planes → p ≡ get_or planes i p → slices_of (drop i planes) ≡ slices_of_plane p ++ slices_of (drop (i + 1) planes)
planes_rest planes i p lt is =
    at_drop_more slices_of planes i p lt
    ∙ flat_map-append (λ (r : Run). r.slices.items) (get_or planes i p).runs.items (flat_map (λ (p : Plane). p.runs.items) (drop (i + 1) planes))
    ∙ ap (λ (x : Plane). slices_of_plane x ++ slices_of (drop (i + 1) planes)) (sym is)

-- ---- by number

pub get_left : {X : Type 0} (xs ys : List X) (n : ℕ) → n < length xs → slice_get (xs ++ ys) n ≡ slice_get xs n
get_left [] ys n h = absurd (omega arith)
get_left (x ∷ xs) ys zero h = refl
get_left (x ∷ xs) ys (suc n) h = get_left xs ys n (omega arith)

pub get_right : {X : Type 0} (xs ys : List X) (n : ℕ) → length xs ≤ n → slice_get (xs ++ ys) n ≡ slice_get ys (n - length xs)
get_right [] ys n h = ap (slice_get ys) (omega arith)
get_right (x ∷ xs) ys zero h = absurd (omega arith)
get_right (x ∷ xs) ys (suc n) h = get_right xs ys n (omega arith) ∙ ap (slice_get ys) (omega arith)

pub get_here : {X : Type 0} (all rest xs ys : List X) (number left : ℕ) → slice_get all number ≡ slice_get rest left → rest ≡ xs ++ ys → left < length xs → slice_get all number ≡ slice_get xs left
get_here {X = X} all rest xs ys number left so split h = so ∙ ap (λ (l : List X). slice_get l left) split ∙ get_left xs ys left h

pub get_behind : {X : Type 0} (all rest xs ys : List X) (number left : ℕ) → slice_get all number ≡ slice_get rest left → rest ≡ xs ++ ys → length xs ≤ left → slice_get all number ≡ slice_get ys (left - length xs)
get_behind {X = X} all rest xs ys number left so split h = so ∙ ap (λ (l : List X). slice_get l left) split ∙ get_right xs ys left h

-- ---- by name

eqb_lt : (a b : ℕ) → a < b → eqb a b ≡ false
eqb_lt a b h = grind (arith, nat_tests)

eqb_same : (a b : ℕ) → a ≡ b → eqb a b ≡ true
eqb_same a b h = grind (arith, nat_tests)

pub place_here : {X : Type 0} (p : X → Bool) (all rest xs ys : List X) (before : ℕ) → position_or_len p all ≡ before + position_or_len p rest → rest ≡ xs ++ ys → position_or_len p xs < length xs → position_or_len p all ≡ before + position_or_len p xs
place_here p all rest xs ys before so split h =
    let e = prefix_len-append (λ x. not (p x)) xs ys in
    let t : eqb (position_or_len p xs) (length xs) ≡ false = eqb_lt (position_or_len p xs) (length xs) h in
    so ∙ ap (λ l. before + position_or_len p l) split ∙ ap (λ k. before + k) (e ∙ ap (λ b. cond b (length xs + position_or_len p ys) (position_or_len p xs)) t)

pub place_behind : {X : Type 0} (p : X → Bool) (all rest xs ys : List X) (before : ℕ) → position_or_len p all ≡ before + position_or_len p rest → rest ≡ xs ++ ys → length xs ≤ position_or_len p xs → position_or_len p all ≡ (before + position_or_len p xs) + position_or_len p ys
place_behind p all rest xs ys before so split h =
    let e = prefix_len-append (λ x. not (p x)) xs ys in
    let m = prefix_len-le-length (λ x. not (p x)) xs in
    let t : eqb (position_or_len p xs) (length xs) ≡ true = eqb_same (position_or_len p xs) (length xs) (omega arith) in
    let f : position_or_len p (xs ++ ys) ≡ length xs + position_or_len p ys = e ∙ ap (λ b. cond b (length xs + position_or_len p ys) (position_or_len p xs)) t in
    let g : position_or_len p all ≡ before + position_or_len p (xs ++ ys) = so ∙ ap (λ l. before + position_or_len p l) split in
    omega arith

-- the first place among the first so many, where it is one of these
taken : {X : Type 0} (p : X → Bool) (xs : List X) (n : ℕ) → n ≤ length xs → position p (take n xs) ≡ cond (ltb (position_or_len p xs) n) (Some (position_or_len p xs)) None
taken p xs n h =
    let whole = take-append-drop n xs in
    let len = length-take-le n xs h in
    let e : position_or_len p xs ≡ cond (eqb (position_or_len p (take n xs)) (length (take n xs))) (length (take n xs) + position_or_len p (drop n xs)) (position_or_len p (take n xs)) = ap (position_or_len p) (sym whole) ∙ prefix_len-append (λ x. not (p x)) (take n xs) (drop n xs) in
    let m = prefix_len-le-length (λ x. not (p x)) (take n xs) in
    elim (cases_lt (position_or_len p (take n xs)) n) [
      | inl here ↦
          let t : eqb (position_or_len p (take n xs)) (length (take n xs)) ≡ false = eqb_lt (position_or_len p (take n xs)) (length (take n xs)) (omega arith) in
          let f : position_or_len p xs ≡ position_or_len p (take n xs) = e ∙ ap (λ b. cond b (length (take n xs) + position_or_len p (drop n xs)) (position_or_len p (take n xs))) t in
          let l : ltb (position_or_len p (take n xs)) (length (take n xs)) ≡ true = lt-ltb (position_or_len p (take n xs)) (length (take n xs)) (omega arith) in
          let r : ltb (position_or_len p xs) n ≡ true = lt-ltb (position_or_len p xs) n (omega arith) in
          ap (λ b. cond b (Some (position_or_len p (take n xs))) None) l ∙ ap Some (sym f) ∙ sym (ap (λ b. cond b (Some (position_or_len p xs)) None) r)
      | inr past ↦
          let t : eqb (position_or_len p (take n xs)) (length (take n xs)) ≡ true = eqb_same (position_or_len p (take n xs)) (length (take n xs)) (omega arith) in
          let f : position_or_len p xs ≡ length (take n xs) + position_or_len p (drop n xs) = e ∙ ap (λ b. cond b (length (take n xs) + position_or_len p (drop n xs)) (position_or_len p (take n xs))) t in
          let l : ltb (position_or_len p (take n xs)) (length (take n xs)) ≡ false = le-ltb (position_or_len p (take n xs)) (length (take n xs)) (omega arith) in
          let r : ltb (position_or_len p xs) n ≡ false = le-ltb (position_or_len p xs) n (omega arith) in
          ap (λ b. cond b (Some (position_or_len p (take n xs))) None) l ∙ sym (ap (λ b. cond b (Some (position_or_len p xs)) None) r)
    ]

-- ---- the names in a loop

names_at : (all : List Slice) (n : ℕ) (s : Slice) → slice_get all n ≡ Some s → (n < length all) × (s ≡ get_or all n s)
names_at [] n s h = absurd (cc)
names_at (x ∷ xs) zero s h = (omega arith, cc)
names_at (x ∷ xs) (suc n) s h = let r = names_at xs n s h in (omega (arith, r.0), r.1)

names_step : (all : List Slice) (n : ℕ) (s : Slice) → n < length all → s ≡ get_or all n s
    → names_validated (take n all) (drop n all)
    ≡ (refused_at (λ first. TwiceChannel first n) (cond (ltb (position_or_len (has_name s.channel) all) n) (Some (position_or_len (has_name s.channel) all)) None)
    >>= λ _. names_validated (take (n + 1) all) (drop (n + 1) all))
unfolding names_validated
names_step all n s lt is =
    let more : take (n + 1) all ≡ take n all ++ s ∷ [] = take_more all n s lt ∙ ap (λ (x : Slice). take n all ++ x ∷ []) (sym is) in
    let len : length (take n all) ≡ n = length-take-le n all (omega arith) in
    let look = taken (has_name s.channel) all n (omega arith) in
    at_drop_more (names_validated (take n all)) all n s lt ∙ ap (λ (x : Slice). names_validated (take n all) (x ∷ drop (n + 1) all)) (sym is)
    ∙ ap (λ (k : ℕ). refused_at (λ first. TwiceChannel first k) (position (has_name s.channel) (take n all)) >>= λ _. names_validated (take n all ++ s ∷ []) (drop (n + 1) all)) len
    ∙ ap (λ (o : Option ℕ). refused_at (λ first. TwiceChannel first n) o >>= λ _. names_validated (take n all ++ s ∷ []) (drop (n + 1) all)) look
    ∙ ap (λ (l : List Slice). refused_at (λ first. TwiceChannel first n) (cond (ltb (position_or_len (has_name s.channel) all) n) (Some (position_or_len (has_name s.channel) all)) None) >>= λ _. names_validated l (drop (n + 1) all)) (sym more)

pub names_err : (all : List Slice) (n first : ℕ) (s : Slice) → slice_get all n ≡ Some s → first ≡ position_or_len (has_name s.channel) all → first < n
    → names_validated [] all ≡ names_validated (take n all) (drop n all) → Err (TwiceChannel first n) ≡ names_validated [] all
names_err all n first s at is h so =
    let r = names_at all n s at in
    let t : ltb (position_or_len (has_name s.channel) all) n ≡ true = lt-ltb (position_or_len (has_name s.channel) all) n (omega arith) in
    sym (so ∙ names_step all n s r.0 r.1 ∙ ap (λ (b : Bool). refused_at (λ k. TwiceChannel k n) (cond b (Some (position_or_len (has_name s.channel) all)) None) >>= λ _. names_validated (take (n + 1) all) (drop (n + 1) all)) t ∙ ap (λ (k : ℕ). Err (TwiceChannel k n)) (sym is))

pub names_ok : (all : List Slice) (n first : ℕ) (s : Slice) → slice_get all n ≡ Some s → first ≡ position_or_len (has_name s.channel) all → n ≤ first
    → names_validated [] all ≡ names_validated (take n all) (drop n all) → names_validated [] all ≡ names_validated (take (n + 1) all) (drop (n + 1) all)
names_ok all n first s at is h so =
    let r = names_at all n s at in
    let t : ltb (position_or_len (has_name s.channel) all) n ≡ false = le-ltb (position_or_len (has_name s.channel) all) n (omega arith) in
    so ∙ names_step all n s r.0 r.1 ∙ ap (λ (b : Bool). refused_at (λ k. TwiceChannel k n) (cond b (Some (position_or_len (has_name s.channel) all)) None) >>= λ _. names_validated (take (n + 1) all) (drop (n + 1) all)) t

pub names_within : (all : List Slice) (n : ℕ) (s : Slice) → slice_get all n ≡ Some s → n < length all
names_within all n s at = (names_at all n s at).0

past : {X : Type 0} (all : List X) (n : ℕ) → slice_get all n ≡ None → length all ≤ n
past [] n h = omega arith
past (x ∷ xs) zero h = absurd (cc)
past (x ∷ xs) (suc n) h = let r = past xs n h in omega arith

pub names_all : (all : List Slice) (n : ℕ) → slice_get all n ≡ None → names_validated [] all ≡ names_validated (take n all) (drop n all) → Ok tt ≡ names_validated [] all
unfolding names_validated
names_all all n at so = sym (so ∙ at_drop_all (names_validated (take n all)) all n (past all n at))

-- ---- a place in a list by `position`

pub place_found : {X : Type 0} (p : X → Bool) (xs : List X) (k : ℕ) → position p xs ≡ Some k → k ≡ position_or_len p xs
place_found p xs k h =
    elim (cases_lt (position_or_len p xs) (length xs)) [
      | inl here ↦ let t = lt-ltb (position_or_len p xs) (length xs) here in
          let u : position p xs ≡ Some (position_or_len p xs) = ap (λ b. cond b (Some (position_or_len p xs)) None) t in cc
      | inr past ↦ absurd (let t = le-ltb (position_or_len p xs) (length xs) past in
          let u : position p xs ≡ None = ap (λ b. cond b (Some (position_or_len p xs)) None) t in cc)
    ]

pub place_missing : {X : Type 0} (p : X → Bool) (xs : List X) → position p xs ≡ None → length xs ≡ position_or_len p xs
place_missing p xs h =
    elim (cases_lt (position_or_len p xs) (length xs)) [
      | inl here ↦ absurd (let t = lt-ltb (position_or_len p xs) (length xs) here in
          let u : position p xs ≡ Some (position_or_len p xs) = ap (λ b. cond b (Some (position_or_len p xs)) None) t in cc)
      | inr past ↦ let m = prefix_len-le-length (λ x. not (p x)) xs in omega arith
    ]

pub place_within : {X : Type 0} (p : X → Bool) (xs : List X) → position_or_len p xs ≤ length xs
place_within p xs = prefix_len-le-length (λ x. not (p x)) xs

-- ---- steps of the loops, where the runs of a plane were read as a slice

pub few_in_plane : (planes : List Plane) (i : ℕ) (p : Plane) (runs : List Run) → i < length planes → p ≡ get_or planes i p → runs ≡ p.runs.items → length (slices_of planes) ≤ 1024 → length (slices_of_runs runs) ≤ 1024
few_in_plane planes i p runs lt is value few =
    let a = planes_within planes i p lt is in
    let b : length (slices_of_runs runs) ≡ length (slices_of_plane p) = ap (λ (x : List Run). length (slices_of_runs x)) value in
    omega arith

pub slice_found : (planes : List Plane) (i number left count : ℕ) (p : Plane) (runs : List Run) (o : Option Slice) → i < length planes → p ≡ get_or planes i p → runs ≡ p.runs.items
    → slice_get (slices_of planes) number ≡ slice_get (slices_of (drop i planes)) left → count ≡ length (slices_of_runs runs) → left < count → o ≡ slice_get (slices_of_runs runs) left → o ≡ slice_get (slices_of planes) number
slice_found planes i number left count p runs o lt is value inv counted here at =
    let b : length (slices_of_runs runs) ≡ length (slices_of_plane p) = ap (λ (x : List Run). length (slices_of_runs x)) value in
    at ∙ ap (λ (x : List Run). slice_get (slices_of_runs x) left) value
    ∙ sym (get_here (slices_of planes) (slices_of (drop i planes)) (slices_of_plane p) (slices_of (drop (i + 1) planes)) number left inv (planes_rest planes i p lt is) (omega arith))

pub slice_behind : (planes : List Plane) (i number left count : ℕ) (p : Plane) (runs : List Run) → i < length planes → p ≡ get_or planes i p → runs ≡ p.runs.items
    → slice_get (slices_of planes) number ≡ slice_get (slices_of (drop i planes)) left → count ≡ length (slices_of_runs runs) → count ≤ left → slice_get (slices_of planes) number ≡ slice_get (slices_of (drop (i + 1) planes)) (left - count)
slice_behind planes i number left count p runs lt is value inv counted here =
    let b : length (slices_of_runs runs) ≡ length (slices_of_plane p) = ap (λ (x : List Run). length (slices_of_runs x)) value in
    let e : count ≡ length (slices_of_plane p) = omega arith in
    get_behind (slices_of planes) (slices_of (drop i planes)) (slices_of_plane p) (slices_of (drop (i + 1) planes)) number left inv (planes_rest planes i p lt is) (omega arith)
    ∙ ap (λ k. slice_get (slices_of (drop (i + 1) planes)) (left - k)) (sym e)

pub run_found : (runs : List Run) (i number left : ℕ) (r : Run) (s : Slice) → i < length runs → r ≡ get_or runs i r
    → slice_get (slices_of_runs runs) number ≡ slice_get (slices_of_runs (drop i runs)) left → left < length r.slices.items → s ≡ get_or r.slices.items left s → Some s ≡ slice_get (slices_of_runs runs) number
run_found runs i number left r s lt is inv here at =
    sym (get_here (slices_of_runs runs) (slices_of_runs (drop i runs)) r.slices.items (slices_of_runs (drop (i + 1) runs)) number left inv (runs_rest runs i r lt is) here
    ∙ slice_get_read r.slices.items (length r.slices.items) left s refl here at)

pub run_behind : (runs : List Run) (i number left : ℕ) (r : Run) → i < length runs → r ≡ get_or runs i r
    → slice_get (slices_of_runs runs) number ≡ slice_get (slices_of_runs (drop i runs)) left → length r.slices.items ≤ left → slice_get (slices_of_runs runs) number ≡ slice_get (slices_of_runs (drop (i + 1) runs)) (left - length r.slices.items)
run_behind runs i number left r lt is inv here =
    get_behind (slices_of_runs runs) (slices_of_runs (drop i runs)) r.slices.items (slices_of_runs (drop (i + 1) runs)) number left inv (runs_rest runs i r lt is) here

pub place_small : {X : Type 0} (p : X → Bool) (all rest xs ys : List X) (before place : ℕ) → position_or_len p all ≡ before + position_or_len p rest → rest ≡ xs ++ ys → place ≡ position_or_len p xs → length all ≤ 1024 → before + place < 2 ^ 64
place_small p all rest xs ys before place inv split at few =
    elim (cases_lt (position_or_len p xs) (length xs)) [
      | inl here ↦ let e = place_here p all rest xs ys before inv split here in let w = place_within p all in omega arith
      | inr past ↦ let e = place_behind p all rest xs ys before inv split past in let w = place_within p all in omega arith
    ]

pub place_ends : {X : Type 0} (p : X → Bool) (all rest xs ys : List X) (before place : ℕ) → position_or_len p all ≡ before + position_or_len p rest → rest ≡ xs ++ ys → place ≡ position_or_len p xs → place < length xs → before + place ≡ position_or_len p all
place_ends p all rest xs ys before place inv split at here =
    let e = place_here p all rest xs ys before inv split (omega arith) in omega arith

pub place_goes_on : {X : Type 0} (p : X → Bool) (all rest xs ys : List X) (before place : ℕ) → position_or_len p all ≡ before + position_or_len p rest → rest ≡ xs ++ ys → place ≡ position_or_len p xs → length xs ≤ place → position_or_len p all ≡ before + place + position_or_len p ys
place_goes_on p all rest xs ys before place inv split at here =
    let e = place_behind p all rest xs ys before inv split (omega arith) in omega arith

pub none_copied : {X : Type 0} (o : Option (Bor X)) → ((x : Bor X) → o ≡ Some x → ⊥) → option_copied o ≡ None
none_copied None h = refl
none_copied (Some x) h = absurd (h x refl)
