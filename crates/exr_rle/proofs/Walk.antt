-- One token at the front of packed data, as a walk over the data takes it.
use Rattle.std.proofs.Common.{◌≡◌, ℕ, zero, suc, ◌+◌, ◌-◌, ◌<◌, ◌≤◌, Bool, true, false, cond, eqb, ltb, List, [], ◌∷◌, ◌++◌, length, get_or, take, drop, replicate, Option, Some, None, unwrap_or, IsTrue, tests, ◌⊎◌, inl, inr, refl, sym, ap, subst, ◌∙◌, arith, rules}
use Rattle.std.proofs.Math.Seq.{take-add}
use Rattle.std.proofs.lemmas.Bool.{le-ltb, lt-ltb}
use Rattle.std.specs.Option.{option_map}
use Rattle.std.proofs.lemmas.List.{length-replicate, length-append, length-take-le, length-drop, take_at, drop_at, drop-drop, drop_all, get_or-drop}
use Rattle.std.proofs.lemmas.Bool.{cases_lt}
use Rattle.std.proofs.lemmas.Bool.Decides.{nat_tests}
use Rattle.exr_rle.specs.Unpacked.{bytes_spelled, counts}

option_map-map : {A B C : Type 0} (g : B → C) (f : A → B) (o : Option A) → option_map g (option_map f o) ≡ option_map (λ x. g (f x)) o
option_map-map g f None = refl
option_map-map g f (Some x) = refl

option_map-same : {A : Type 0} (o : Option A) → o ≡ option_map (λ (x : A). x) o
option_map-same None = refl
option_map-same (Some x) = refl

-- bytes of a literal that are all there
pub literal_whole : (n : ℕ) (bytes : List ℕ) → n ≤ length bytes → bytes_spelled n bytes ≡ option_map (λ rest. take n bytes ++ rest) (bytes_spelled 0 (drop n bytes))
unfolding bytes_spelled
literal_whole zero bytes le = option_map-same (bytes_spelled 0 bytes)
literal_whole (suc n) [] le = absurd (omega arith)
literal_whole (suc n) (byte ∷ bytes) le =
    ap (option_map (λ rest. byte ∷ rest)) (literal_whole n bytes (omega arith)) ∙ option_map-map (λ rest. byte ∷ rest) (λ rest. take n bytes ++ rest) (bytes_spelled 0 (drop n bytes))

-- bytes of a literal that are not all there
pub literal_cut : (n : ℕ) (bytes : List ℕ) → length bytes < n → bytes_spelled n bytes ≡ None
unfolding bytes_spelled
literal_cut zero bytes lt = absurd (omega arith)
literal_cut (suc n) [] lt = refl
literal_cut (suc n) (byte ∷ bytes) lt = ap (option_map (λ rest. byte ∷ rest)) (literal_cut n bytes (omega arith))

-- the bytes that the first token stands for, and how many bytes it takes
abbrev pub front_of : List ℕ → List ℕ
front_of packed = cond (ltb (get_or packed 0 0) 128) (replicate (get_or packed 0 0 + 1) (get_or packed 1 0)) (take (256 - get_or packed 0 0) (drop 1 packed))

abbrev pub taken_of : List ℕ → ℕ
taken_of packed = cond (ltb (get_or packed 0 0) 128) 2 (257 - get_or packed 0 0)

-- at a count below 128
pub run_whole : (count byte : ℕ) (rest : List ℕ) → ltb count 128 ≡ true → bytes_spelled 0 (count ∷ byte ∷ rest) ≡ option_map (λ bytes. replicate (count + 1) byte ++ bytes) (bytes_spelled 0 rest)
unfolding bytes_spelled
run_whole count byte rest small = rw small refl

run_cut : (count : ℕ) → bytes_spelled 0 (count ∷ []) ≡ None
unfolding bytes_spelled
run_cut count = refl

pub literal_begins : (count : ℕ) (rest : List ℕ) → ltb count 128 ≡ false → count < 256 → bytes_spelled 0 (count ∷ rest) ≡ bytes_spelled (suc (255 - count)) rest
unfolding bytes_spelled
literal_begins count [] large lt = refl
literal_begins count (byte ∷ rest) large lt = rw large refl

pub one_more : (count : ℕ) → count < 256 → suc (255 - count) ≡ 256 - count
one_more count lt = omega arith

-- a token that is all there
pub token_whole : (packed : List ℕ) → get_or packed 0 0 < 256 → 0 < length packed → taken_of packed ≤ length packed
    → bytes_spelled 0 packed ≡ option_map (λ bytes. front_of packed ++ bytes) (bytes_spelled 0 (drop (taken_of packed) packed))
token_whole [] lt some le = absurd (omega arith)
token_whole (count ∷ rest) lt some le = by_size (ltb count 128) refl rest le
  where
    by_size : (b : Bool) → ltb count 128 ≡ b → (rest : List ℕ) → cond (ltb count 128) 2 (257 - count) ≤ suc (length rest)
        → bytes_spelled 0 (count ∷ rest) ≡ option_map (λ bytes. front_of (count ∷ rest) ++ bytes) (bytes_spelled 0 (drop (taken_of (count ∷ rest)) (count ∷ rest)))
    by_size true small [] le = absurd (let few : cond true 2 (257 - count) ≤ 1 = rw small at le in omega arith)
    by_size true small (byte ∷ rest) le = rw small (run_whole count byte rest small)
    by_size false large rest le =
        let long : 257 - count ≤ suc (length rest) = rw large at le in
        let n : 257 - count ≡ suc (256 - count) = omega arith in
        rw (large, n) (literal_begins count rest large lt ∙ ap (λ k. bytes_spelled k rest) (one_more count lt) ∙ literal_whole (256 - count) rest (omega arith))

-- a token that is not all there
pub token_cut : (packed : List ℕ) → get_or packed 0 0 < 256 → 0 < length packed → length packed < taken_of packed → bytes_spelled 0 packed ≡ None
token_cut [] lt some le = absurd (omega arith)
token_cut (count ∷ rest) lt some le = by_size (ltb count 128) refl rest le
  where
    by_size : (b : Bool) → ltb count 128 ≡ b → (rest : List ℕ) → suc (length rest) < cond (ltb count 128) 2 (257 - count) → bytes_spelled 0 (count ∷ rest) ≡ None
    by_size true small [] le = run_cut count
    by_size true small (byte ∷ rest) le = absurd (let few : suc (suc (length rest)) < cond true 2 (257 - count) = rw small at le in omega arith)
    by_size false large rest le =
        let short : suc (length rest) < 257 - count = rw large at le in
        literal_begins count rest large lt ∙ ap (λ k. bytes_spelled k rest) (one_more count lt) ∙ literal_cut (256 - count) rest (omega arith)

-- how many bytes it stands for
pub length-front_of : (packed : List ℕ) → get_or packed 0 0 < 256 → 0 < length packed → taken_of packed ≤ length packed
    → length (front_of packed) ≡ cond (ltb (get_or packed 0 0) 128) (get_or packed 0 0 + 1) (256 - get_or packed 0 0)
length-front_of [] lt some le = absurd (omega arith)
length-front_of (count ∷ rest) lt some le = by_size (ltb count 128) refl le
  where
    by_size : (b : Bool) → ltb count 128 ≡ b → cond (ltb count 128) 2 (257 - count) ≤ suc (length rest)
        → length (cond (ltb count 128) (replicate (count + 1) (get_or rest 0 0)) (take (256 - count) rest)) ≡ cond (ltb count 128) (count + 1) (256 - count)
    by_size true small le = rw small (length-replicate (count + 1) (get_or rest 0 0))
    by_size false large le =
        let long : 257 - count ≤ suc (length rest) = rw large at le in
        rw large (length-take-le (256 - count) rest (omega arith))

-- whether what is left counts so many, behind a front
pub counts_front : (front : List ℕ) (o : Option (List ℕ)) (n : ℕ) → length front ≤ n → counts (option_map (λ bytes. front ++ bytes) o) n ≡ counts o (n - length front)
counts_front front None n le = refl
counts_front front (Some bytes) n le = grind (arith, nat_tests, length-append {A = ℕ})

pub counts_long : (front : List ℕ) (o : Option (List ℕ)) (n : ℕ) → n < length front → counts (option_map (λ bytes. front ++ bytes) o) n ≡ false
counts_long front None n lt = refl
counts_long front (Some bytes) n lt = grind (arith, nat_tests, length-append {A = ℕ})

-- what is left, behind a front of what is there
pub record Splits (o : Option (List ℕ)) (front whole : List ℕ) : Type 0 where
  pub rest : o ≡ Some (drop (length front) whole)
  pub begins : take (length front) whole ≡ front
  pub long : length front ≤ length whole

pub splits_some : (front : List ℕ) (o : Option (List ℕ)) (whole : List ℕ) → option_map (λ bytes. front ++ bytes) o ≡ Some whole → Splits o front whole
splits_some front None whole e = cc
splits_some front (Some bytes) whole e =
    let same : front ++ bytes ≡ whole = cc in
    record {
      rest = ap Some (sym (drop_at front bytes (length front) refl) ∙ ap (drop (length front)) same);
      begins = ap (take (length front)) (sym same) ∙ take_at front bytes (length front) refl;
      long = omega (arith, length-append front bytes, ap length same);
    }

first_is : (packed : List ℕ) (at count : ℕ) → count ≡ get_or packed at 0 → get_or (drop at packed) 0 0 ≡ count
first_is packed at count count_is = get_or-drop at packed 0 0 ∙ ap (λ k. get_or packed k 0) (omega arith) ∙ sym count_is

-- whether the rest counts so many, one token on
pub counts_step : (packed : List ℕ) (at left count taken given : ℕ) → at < length packed → count ≡ get_or packed at 0 → count < 256
    → taken ≡ cond (ltb count 128) 2 (257 - count) → given ≡ cond (ltb count 128) (count + 1) (256 - count) → taken ≤ length packed - at → given ≤ left
    → counts (bytes_spelled 0 (drop at packed)) left ≡ counts (bytes_spelled 0 (drop (at + taken) packed)) (left - given)
counts_step packed at left count taken given inside count_is small taken_is given_is all_there enough =
    let rest = drop at packed in
    let first : get_or rest 0 0 ≡ count = first_is packed at count count_is in
    let takes : taken_of rest ≡ taken = rw first (sym taken_is) in
    let some : 0 < length rest = omega (arith, length-drop at packed) in
    let byte : get_or rest 0 0 < 256 = rw first small in
    let there : taken_of rest ≤ length rest = omega (arith, length-drop at packed) in
    let gives : length (front_of rest) ≡ given = length-front_of rest byte some there ∙ rw first (sym given_is) in
    ap (λ o. counts o left) (token_whole rest byte some there)
    ∙ counts_front (front_of rest) (bytes_spelled 0 (drop (taken_of rest) rest)) left (omega arith)
    ∙ ap (counts (bytes_spelled 0 (drop (taken_of rest) rest))) (ap (λ k. left - k) gives)
    ∙ ap (λ later. counts (bytes_spelled 0 later) (left - given)) (ap (λ k. drop k rest) takes ∙ drop-drop taken at packed)

-- and where the token is cut, or stands for too many
pub counts_stop : (packed : List ℕ) (at left count taken given : ℕ) → at < length packed → count ≡ get_or packed at 0 → count < 256
    → taken ≡ cond (ltb count 128) 2 (257 - count) → given ≡ cond (ltb count 128) (count + 1) (256 - count) → (length packed - at < taken) ⊎ (left < given)
    → counts (bytes_spelled 0 (drop at packed)) left ≡ false
counts_stop packed at left count taken given inside count_is small taken_is given_is why =
    let rest = drop at packed in
    let first : get_or rest 0 0 ≡ count = first_is packed at count count_is in
    let takes : taken_of rest ≡ taken = rw first (sym taken_is) in
    let some : 0 < length rest = omega (arith, length-drop at packed) in
    let byte : get_or rest 0 0 < 256 = rw first small in
    elim (cases_lt (length rest) (taken_of rest)) [
      | inl cut ↦ ap (λ o. counts o left) (token_cut rest byte some cut)
      | inr there ↦
          let gives : length (front_of rest) ≡ given = length-front_of rest byte some there ∙ rw first (sym given_is) in
          let many : left < length (front_of rest) = elim why [ inl cut ↦ absurd (omega (arith, length-drop at packed)) | inr many ↦ omega arith ] in
          ap (λ o. counts o left) (token_whole rest byte some there) ∙ counts_long (front_of rest) (bytes_spelled 0 (drop (taken_of rest) rest)) left many
    ]

zero_tests : (n : ℕ) → eqb 0 n ≡ eqb n 0
zero_tests n = grind (arith, nat_tests)

-- at the end of the data
pub counts_end : (packed : List ℕ) (at left : ℕ) → length packed ≤ at → counts (bytes_spelled 0 (drop at packed)) left ≡ eqb left 0
unfolding bytes_spelled
counts_end packed at left end = ap (λ rest. counts (bytes_spelled 0 rest) left) (drop_all at packed end) ∙ zero_tests left

-- the token at a place is all there, its bytes come next, and the rest follows
pub record Steps (packed whole : List ℕ) (at to taken given : ℕ) (front : List ℕ) : Type 0 where
  pub there : at + taken ≤ length packed
  pub room : to + given ≤ length whole
  pub rest : bytes_spelled 0 (drop (at + taken) packed) ≡ Some (drop (to + given) whole)
  pub begins : take (to + given) whole ≡ take to whole ++ front

steps : (packed whole : List ℕ) (at to : ℕ) → at < length packed → get_or (drop at packed) 0 0 < 256 → to ≤ length whole → bytes_spelled 0 (drop at packed) ≡ Some (drop to whole)
    → Steps packed whole at to (taken_of (drop at packed)) (length (front_of (drop at packed))) (front_of (drop at packed))
steps packed whole at to inside byte within spelled =
    let rest = drop at packed in
    let taken = taken_of rest in
    let front = front_of rest in
    let some : 0 < length rest = omega (arith, length-drop at packed) in
    elim (cases_lt (length rest) taken) [
      | inl cut ↦ absurd (let none : None ≡ Some (drop to whole) = sym (token_cut rest byte some cut) ∙ spelled in cc)
      | inr there ↦
          let split = splits_some front (bytes_spelled 0 (drop taken rest)) (drop to whole) (sym (token_whole rest byte some there) ∙ spelled) in
          record {
            there = omega (arith, length-drop at packed);
            room = omega (arith, length-drop to whole, split.long);
            rest = ap (bytes_spelled 0) (sym (drop-drop taken at packed)) ∙ split.rest ∙ ap Some (drop-drop (length front) to whole);
            begins = take-add to (length front) whole ∙ ap (λ back. take to whole ++ back) split.begins;
          }
    ]

same_steps : (packed whole : List ℕ) (at to t₁ t₂ g₁ g₂ : ℕ) (f₁ f₂ : List ℕ) → t₁ ≡ t₂ → g₁ ≡ g₂ → f₁ ≡ f₂ → Steps packed whole at to t₁ g₁ f₁ → Steps packed whole at to t₂ g₂ f₂
same_steps packed whole at to t₁ t₂ g₁ g₂ f₁ f₂ t g f step =
    subst (λ t. Steps packed whole at to t g₂ f₂) t (subst (λ g. Steps packed whole at to t₁ g f₂) g (subst (λ f. Steps packed whole at to t₁ g₁ f) f step))

-- a run at a place
pub run_steps : (packed whole : List ℕ) (at to : ℕ) → at < length packed → get_or packed at 0 < 128 → to ≤ length whole → bytes_spelled 0 (drop at packed) ≡ Some (drop to whole)
    → Steps packed whole at to 2 (get_or packed at 0 + 1) (replicate (get_or packed at 0 + 1) (get_or packed (at + 1) 0))
run_steps packed whole at to inside small within spelled =
    let rest = drop at packed in
    let count = get_or packed at 0 in
    let first : get_or rest 0 0 ≡ count = first_is packed at count refl in
    let test : ltb (get_or rest 0 0) 128 ≡ true = rw first (lt-ltb count 128 small) in
    let front : front_of rest ≡ replicate (count + 1) (get_or packed (at + 1) 0) = rw test (ap (λ n. replicate (n + 1) (get_or rest 1 0)) first ∙ ap (replicate (count + 1)) (get_or-drop at packed 1 0)) in
    same_steps packed whole at to _ _ _ _ _ _ (rw test refl) (ap length front ∙ length-replicate (count + 1) _) front
    (steps packed whole at to inside (rw first (omega arith)) within spelled)

-- a literal at a place
pub literal_steps : (packed whole : List ℕ) (at to : ℕ) → at < length packed → 128 ≤ get_or packed at 0 → get_or packed at 0 < 256 → to ≤ length whole → bytes_spelled 0 (drop at packed) ≡ Some (drop to whole)
    → Steps packed whole at to (257 - get_or packed at 0) (256 - get_or packed at 0) (take (256 - get_or packed at 0) (drop (at + 1) packed))
literal_steps packed whole at to inside large byte within spelled =
    let rest = drop at packed in
    let count = get_or packed at 0 in
    let first : get_or rest 0 0 ≡ count = first_is packed at count refl in
    let test : ltb (get_or rest 0 0) 128 ≡ false = rw first (le-ltb count 128 large) in
    let front : front_of rest ≡ take (256 - count) (drop (at + 1) packed) = rw test (ap (λ n. take (256 - n) (drop 1 rest)) first ∙ ap (take (256 - count)) (drop-drop 1 at packed)) in
    let takes : taken_of rest ≡ 257 - count = rw test (ap (λ n. 257 - n) first) in
    let stepped = steps packed whole at to inside (rw first byte) within spelled in
    let there : at + taken_of rest ≤ length packed = stepped.there in
    let gives : length (front_of rest) ≡ 256 - count = ap length front ∙ length-take-le (256 - count) (drop (at + 1) packed) (omega (arith, length-drop (at + 1) packed)) in
    same_steps packed whole at to _ _ _ _ _ _ takes gives front stepped

-- what is counted is there
pub counted : (o : Option (List ℕ)) (n : ℕ) → IsTrue (counts o n) → (o ≡ Some (unwrap_or o [])) × (length (unwrap_or o []) ≡ n)
counted None n is = cc
counted (Some bytes) n is = (refl, search (rules, tests))

-- at the end of the data nothing is left
pub ended : (packed whole : List ℕ) (at to : ℕ) → length packed ≤ at → bytes_spelled 0 (drop at packed) ≡ Some (drop to whole) → length whole ≤ to
unfolding bytes_spelled
ended packed whole at to end spelled =
    let nothing : Some [] ≡ Some (drop to whole) = sym (ap (bytes_spelled 0) (drop_all at packed end)) ∙ spelled in
    let empty : [] ≡ drop to whole = cc in
    omega (arith, ap length empty, length-drop to whole)
