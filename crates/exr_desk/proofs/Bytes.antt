-- Chunks one after another, their offsets, and files that are cut short.
use Rattle.std.proofs.Common.{◌≡◌, inl, inr, ℕ, suc, ◌+◌, ◌-◌, ◌<◌, ◌≤◌, min, List, [], ◌∷◌, ◌++◌, length, get_or, take, drop, refl, sym, ap, ◌∙◌, add-zero, append_assoc, arith, length-append, length-drop}
use Rattle.std.proofs.lemmas.Bool.{cases_lt}
use Rattle.std.specs.Int.{w64, to_le_bytes}
use Rattle.std.proofs.lemmas.List.{append-nil, length-take, drop_more, drop_all, take_all, take_min, take-append-le, drop-append-le, get_or_append_left, get_or-append_right, get_or-take, get_or-drop}
use Rattle.exr_outside.specs.Sink.{replaced}
use Rattle.exr_desk.specs.File.{joined, offsets_from, filled, IsMixture}

pub joined-append : (xs ys : List (List ℕ)) → joined (xs ++ ys) ≡ joined xs ++ joined ys
joined-append [] ys = refl
joined-append (x ∷ xs) ys = ap (λ (l : List ℕ). x ++ l) (joined-append xs ys) ∙ sym (append_assoc x (joined xs) (joined ys))

pub joined-push : (xs : List (List ℕ)) (x : List ℕ) → joined (xs ++ x ∷ []) ≡ joined xs ++ x
joined-push xs x = joined-append xs (x ∷ []) ∙ ap (λ (l : List ℕ). joined xs ++ l) (append-nil x)

pub length-offsets_from : (offset : ℕ) (xs : List (List ℕ)) → length (offsets_from offset xs) ≡ length xs
unfolding offsets_from
length-offsets_from offset [] = refl
length-offsets_from offset (x ∷ xs) = ap suc (length-offsets_from (offset + length x) xs)

-- one chunk more begins behind the others
pub offsets_from-push : (offset : ℕ) (xs : List (List ℕ)) (x : List ℕ) → offsets_from offset (xs ++ x ∷ []) ≡ offsets_from offset xs ++ (offset + length (joined xs)) ∷ []
unfolding offsets_from
offsets_from-push offset [] x = ap (λ (n : ℕ). n ∷ []) (sym (add-zero offset))
offsets_from-push offset (y ∷ xs) x =
    let more : offset + length y + length (joined xs) ≡ offset + length (y ++ joined xs) = omega (arith, length-append y (joined xs)) in
    ap (λ (l : List ℕ). offset ∷ l) (offsets_from-push (offset + length y) xs x)
    ∙ ap (λ (n : ℕ). offset ∷ (offsets_from (offset + length y) xs ++ n ∷ [])) more

pub no_offsets : (offset : ℕ) → offsets_from offset [] ≡ []
unfolding offsets_from
no_offsets offset = refl

-- one number more is filled in
pub filled-next : (entries turns numbers bytes : List ℕ) (i : ℕ) → i < length turns → length numbers ≡ length turns
    → filled entries (drop i turns) (drop i numbers) bytes
    ≡ filled entries (drop (i + 1) turns) (drop (i + 1) numbers) (replaced (get_or entries (get_or turns i 0) 0) (to_le_bytes w64 (get_or numbers i 0)) bytes)
unfolding filled
filled-next entries turns numbers bytes i below same =
    let turn : drop i turns ≡ get_or turns i 0 ∷ drop (i + 1) turns = drop_more turns i 0 below in
    let number : drop i numbers ≡ get_or numbers i 0 ∷ drop (i + 1) numbers = drop_more numbers i 0 (omega (arith, below, same)) in
    ap (λ (l : List ℕ). filled entries l (drop i numbers) bytes) turn
    ∙ ap (λ (l : List ℕ). filled entries (get_or turns i 0 ∷ drop (i + 1) turns) l bytes) number

-- no number is left to be filled in
pub filled-end : (entries turns numbers bytes : List ℕ) (i : ℕ) → length turns ≤ i → filled entries (drop i turns) (drop i numbers) bytes ≡ bytes
unfolding filled
filled-end entries turns numbers bytes i all = ap (λ (l : List ℕ). filled entries l (drop i numbers) bytes) (drop_all i turns all)

-- a first part of a list is one of a longer list
pub take-longer : (xs ys : List ℕ) (k : ℕ) → take k xs ≡ take (min k (length xs)) (xs ++ ys)
take-longer xs ys k =
    let short : min k (length xs) ≤ length xs = omega arith in
    sym (take_min k xs) ∙ sym (take-append-le (min k (length xs)) xs ys short)

-- a first part of what follows a list
pub take-behind : (xs ys : List ℕ) (k : ℕ) → xs ++ take k ys ≡ take (length xs + k) (xs ++ ys)
take-behind [] ys k =
    let same : k ≡ 0 + k = omega arith in
    ap (λ (n : ℕ). take n ys) same
take-behind (x ∷ xs) ys k =
    let more : suc (length xs + k) ≡ suc (length xs) + k = omega arith in
    ap (λ (l : List ℕ). x ∷ l) (take-behind xs ys k) ∙ ap (λ (n : ℕ). take n (x ∷ (xs ++ ys))) more

-- a list and itself
pub mixture_of_one : (one other : List ℕ) → IsMixture one other one
mixture_of_one one other = record { size = refl; each = λ k. inl refl }

-- the front of one list and the rest of another
pub mixture : (one other : List ℕ) (k : ℕ) → length other ≡ length one → IsMixture one other (take k other ++ drop (length (take k other)) one)
mixture one other k same =
    let front = take k other in
    let size : length (take k other) ≡ min k (length other) = length-take k other in
    record {
      size = omega (arith, size, length-append front (drop (length front) one), length-drop (length front) one);
      each = λ i. elim (cases_lt i (length front)) [
        | inl below ↦ inr (get_or_append_left front (drop (length front) one) 0 i below ∙ get_or-take k other i 0 (omega (arith, size, below)))
        | inr above ↦
            let there : length front + (i - length front) ≡ i = omega arith in
            inl (get_or-append_right front (drop (length front) one) (length front) i 0 refl above
            ∙ get_or-drop (length front) one (i - length front) 0
            ∙ ap (λ (n : ℕ). get_or one n 0) there)
      ];
    }

-- bytes put in the place of the first ones of a front, which more bytes follow
pub replaced-front : (front rest bytes : List ℕ) → length bytes ≤ length front → replaced 0 bytes (front ++ rest) ≡ (bytes ++ drop (length bytes) front) ++ rest
replaced-front front rest bytes fits =
    let same : 0 + length bytes ≡ length bytes = omega arith in
    ap (λ (n : ℕ). bytes ++ drop n (front ++ rest)) same
    ∙ ap (λ (l : List ℕ). bytes ++ l) (drop-append-le (length bytes) front rest fits)
    ∙ sym (append_assoc bytes (drop (length bytes) front) rest)

-- a list put in the place of one as long
pub written_back : (len : ℕ) (new old : List ℕ) → len ≡ length old → length new ≡ length old → take len (new ++ drop (length new) old) ≡ new
written_back len new old all same =
    let nothing : drop (length new) old ≡ [] = drop_all (length new) old (omega (arith, same)) in
    ap (λ (l : List ℕ). take len (new ++ l)) nothing ∙ ap (take len) (append-nil new) ∙ take_all len new (omega (arith, all, same))
