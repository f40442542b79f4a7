-- Reading the items of a list one after the other, as a loop does.
use Rattle.std.proofs.Common.{◌≡◌, ◌+◌, ◌<◌, ◌≤◌, ℕ, zero, suc, true, false, nat_le, List, [], ◌∷◌, ◌++◌, length, get_or, take, Option, Some, None, refl, sym, ap, ◌∙◌, arith, add-one, option_map}
use Rattle.std.proofs.lemmas.Bool.Decides.{nat_tests}
use Rattle.std.proofs.lemmas.List.{take_all}
use Rattle.exr_asked.specs.declared.choices.Wanted.{Wanted}
use Rattle.exr_words.specs.Parts.{◌>>=◌, all_of}
use Rattle.exr_words.specs.Channels.{items_of, wanted_of, channels_of}

joined : {B : Type 0} (a : Option B) (b longer : Option (List B)) (ys : List B) (y : B) → ((ws : List B) → b ≡ Some ws → longer ≡ Some (ws ++ y ∷ []))
    → (a >>= λ w. option_map (λ ws. w ∷ ws) b) ≡ Some ys → (a >>= λ w. option_map (λ ws. w ∷ ws) longer) ≡ Some (ys ++ y ∷ [])
joined None b longer ys y more e = cc
joined (Some w) None longer ys y more e = cc
joined (Some w) (Some ws) longer ys y more e =
    let h : longer ≡ Some (ws ++ y ∷ []) = more ws refl in
    let same : w ∷ ws ≡ ys = cc in
    rw h (ap (λ all. Some (all ++ y ∷ [])) same)

all_suc : {A B : Type 0} (read : A → Option B) (xs : List A) (ys : List B) (i : ℕ) (x : A) (y : B) → i < length xs → x ≡ get_or xs i x → read x ≡ Some y → all_of read (take i xs) ≡ Some ys → all_of read (take (suc i) xs) ≡ Some (ys ++ y ∷ [])
all_suc read [] ys i x y lt is e so_far = absurd (omega arith)
all_suc read (z ∷ xs) ys zero x y lt is e so_far =
    let none : [] ≡ ys = cc in
    let here : read z ≡ Some y = ap read (sym is) ∙ e in
    rw here (ap (λ all. Some (all ++ y ∷ [])) none)
all_suc read (z ∷ xs) ys (suc i) x y lt is e so_far =
    joined (read z) (all_of read (take i xs)) (all_of read (take (suc i) xs)) ys y (λ ws so_far. all_suc read xs ws i x y (omega arith) is e so_far) so_far

-- one more item
pub all_more : {A B : Type 0} (read : A → Option B) (xs : List A) (ys : List B) (i : ℕ) (x : A) (y : B) → i < length xs → x ≡ get_or xs i x → read x ≡ Some y → all_of read (take i xs) ≡ Some ys → all_of read (take (i + 1) xs) ≡ Some (ys ++ y ∷ [])
all_more read xs ys i x y lt is e so_far = rw add-one (all_suc read xs ys i x y lt is e so_far)

nothing_joined : {B : Type 0} (a : Option B) → (a >>= λ w. option_map (λ (ws : List B). w ∷ ws) None) ≡ None
nothing_joined None = refl
nothing_joined (Some w) = refl

all_none : {A B : Type 0} (read : A → Option B) (xs : List A) (i : ℕ) (x : A) → i < length xs → x ≡ get_or xs i x → read x ≡ None → all_of read xs ≡ None
all_none read [] i x lt is e = absurd (omega arith)
all_none read (z ∷ xs) zero x lt is e =
    let here : read z ≡ None = ap read (sym is) ∙ e in
    rw here refl
all_none read (z ∷ xs) (suc i) x lt is e =
    ap (λ all. read z >>= λ w. option_map (λ ws. w ∷ ws) all) (all_none read xs i x (omega arith) is e) ∙ nothing_joined (read z)

-- an item that is none
pub unread : (text : List ℕ) (i : ℕ) (item : List ℕ) → i < length (items_of text) → item ≡ get_or (items_of text) i item → wanted_of item ≡ None → channels_of text ≡ None
unread text i item lt is e = grind (arith, nat_tests, all_none wanted_of (items_of text) i item lt is e)

-- an item too many
pub too_many : (text : List ℕ) (i : ℕ) → i < length (items_of text) → 1024 ≤ i → channels_of text ≡ None
too_many text i lt many =
    let long : nat_le (length (items_of text)) 1024 ≡ false = grind (arith, nat_tests) in
    rw long refl

-- the end of the items
pub all_read : (text : List ℕ) (n : ℕ) (ys : List Wanted) → n ≡ length (items_of text) → n ≤ 1024 → all_of wanted_of (take n (items_of text)) ≡ Some ys → channels_of text ≡ Some ys
all_read text n ys whole few so_far =
    let short : nat_le (length (items_of text)) 1024 ≡ true = grind (arith, nat_tests) in
    let e : take n (items_of text) ≡ items_of text = take_all n (items_of text) (omega arith) in
    rw short (ap (all_of wanted_of) (sym e) ∙ so_far)
