-- Depths and differences as words of 16 bits that wrap.
use Rattle.std.proofs.Common.{◌≡◌, ℕ, zero, suc, ◌+◌, ◌-◌, ◌*◌, ◌/◌, ◌%◌, ◌^◌, ◌<◌, ◌≤◌, max, inl, inr, Bool, true, false, not, cond, ltb, leb, eqb, ◌&&◌, List, [], ◌∷◌, ◌++◌, length, get_or, map, replicate, w16, refl, sym, ap, ◌∙◌, arith}
use Rattle.std.specs.Int.RustNames.{bit_and}
use Rattle.std.specs.List.{fold, list_all}
use Rattle.std.proofs.Math.Nat.{mul-le-mul_left, mul-le-mul_right, div-eq_of_lt, mod-eq_of_lt}
use Rattle.std.proofs.lemmas.Nat.{pow_below, pow_pos, pow-add, one_shl, and_mask, le-div, div_below, div-add-mod', mod_below}
use Rattle.std.proofs.lemmas.Bool.{cases_lt, cases_eq, lt-ltb, le-ltb, le-leb, lt-leb, eq-eqb, ne_eqb, leb-true, ltb-true, and_parts}
use lib.Lanes.{top, zip2, sel_l, mask_l}
use Rattle.std.proofs.lemmas.Simd.{bitmask_splat}
use Rattle.exr_b44.proofs.Vectors.{whole8}
use Rattle.exr_b44.specs.Cell.{ordered, rounded, greatest_of, depths_of, difference, differences_of, fits, all_fit, shift_of, pairs}
use Rattle.exr_b44.specs.Lanes.{turned, wrapped, wrapped_of}
use Rattle.std.specs.List.{range_with_len}
use Rattle.std.proofs.lemmas.List.{get_or-map, get_or_append_left, length-map}
use Rattle.std.proofs.lemmas.List.FromFn.{fill_by_all, get_or-range_with_len}
use Rattle.std.proofs.lemmas.List.Sums.{position_or_len_is}

pub top_of : (b : Bool) → top 15 (cond b 65535 0) ≡ b
top_of true = refl
top_of false = refl

-- ---- halves as numbers

by_sign : (h : ℕ) → h < 65536 → cond (ltb h 32768) ((h + 32768) % 65536) ((65535 + (65536 - h)) % 65536) ≡ cond (ltb h 32768) (h + 32768) (65535 - h)
by_sign h fits =
    elim (cases_lt h 32768) [
      | inl lt ↦ rw (lt-ltb h 32768 lt) (omega arith)
      | inr le ↦ rw (le-ltb h 32768 le) (omega arith)
    ]

pub numbered : (h : ℕ) → h < 65536
    → cond (top 15 (cond (eqb ((h + h) % 65536 / 2048) 31) 65535 0)) 32768 (cond (top 15 (cond (ltb h 32768) 65535 0)) ((h + 32768) % 65536) ((65535 + (65536 - h)) % 65536)) ≡ ordered h
numbered h fits =
    let exponent : (h + h) % 65536 / 2048 ≡ h / 1024 % 32 = omega arith in
    (λ i. cond (top_of (eqb (exponent i) 31) i) 32768 (cond (top_of (ltb h 32768) i) ((h + 32768) % 65536) ((65535 + (65536 - h)) % 65536)))
    ∙ ap (λ n. cond (eqb (h / 1024 % 32) 31) 32768 n) (by_sign h fits)

-- ---- the greatest

from_start : (a : ℕ) (xs : List ℕ) → fold max a xs ≡ max a (greatest_of xs)
from_start a [] = omega arith
from_start a (x ∷ xs) =
    let p = from_start (max a x) xs in
    let q = from_start (max 0 x) xs in
    omega arith

pub greatest-append : (xs ys : List ℕ) → greatest_of (xs ++ ys) ≡ max (greatest_of xs) (greatest_of ys)
greatest-append [] ys = omega arith
greatest-append (x ∷ xs) ys =
    let p = from_start (max 0 x) (xs ++ ys) in
    let q = from_start (max 0 x) xs in
    let r = greatest-append xs ys in
    omega arith

pub greatest-zip : (xs ys : List ℕ) → length xs ≡ length ys → greatest_of (zip2 max xs ys) ≡ max (greatest_of xs) (greatest_of ys)
greatest-zip [] [] long = omega arith
greatest-zip [] (y ∷ ys) long = absurd (omega arith)
greatest-zip (x ∷ xs) [] long = absurd (omega arith)
greatest-zip (x ∷ xs) (y ∷ ys) long =
    let p = from_start (max 0 (max x y)) (zip2 max xs ys) in
    let q = from_start (max 0 x) xs in
    let r = from_start (max 0 y) ys in
    let s = greatest-zip xs ys (omega arith) in
    omega arith

pub le_greatest : (xs : List ℕ) (k : ℕ) → k < length xs → get_or xs k 0 ≤ greatest_of xs
le_greatest [] k inside = absurd (omega arith)
le_greatest (x ∷ xs) zero inside = omega (arith, from_start (max 0 x) xs)
le_greatest (x ∷ xs) (suc k) inside = omega (arith, from_start (max 0 x) xs, le_greatest xs k (omega arith))

pub greatest_le : (xs : List ℕ) (most : ℕ) → ((k : ℕ) → get_or xs k 0 ≤ most) → greatest_of xs ≤ most
greatest_le [] most each = omega arith
greatest_le (x ∷ xs) most each = omega (arith, from_start (max 0 x) xs, greatest_le xs most (λ k. each (suc k)), each 0)

-- ---- depths

is_one : (n d : ℕ) → 0 < d → d ≤ n → n < 2 * d → n / d ≡ 1
is_one n d some low high = omega (arith, le-div 1 n d some (omega arith), div_below n d 2 some high)

-- what is added to the quotient
added : (p q r : ℕ) → 0 < p → r < p → q + (2 * r + q % 2 + p - 1) / (2 * p) ≡ cond (ltb (2 * r) p) q (cond (eqb (2 * r) p) (q + q % 2) (q + 1))
added p q r some below =
    let d = 2 * p in
    let n = 2 * r + q % 2 + p - 1 in
    elim (cases_lt (2 * r) p) [
      | inl less ↦ let none : n / d ≡ 0 = div-eq_of_lt (omega arith) in rw (lt-ltb (2 * r) p less) (omega arith)
      | inr more ↦ elim (cases_eq (2 * r) p) [
        | inl half ↦ elim (cases_lt (q % 2) 1) [
          | inl even ↦ let none : n / d ≡ 0 = div-eq_of_lt (omega arith) in rw (le-ltb (2 * r) p more, eq-eqb (2 * r) p half) (omega arith)
          | inr odd ↦ let one : n / d ≡ 1 = is_one n d (omega arith) (omega arith) (omega arith) in rw (le-ltb (2 * r) p more, eq-eqb (2 * r) p half) (omega arith)
        ]
        | inr past ↦ let one : n / d ≡ 1 = is_one n d (omega arith) (omega arith) (omega arith) in rw (le-ltb (2 * r) p more, ne_eqb (2 * r) p past) (omega arith)
      ]
    ]

-- a number divided and rounded is no more than a bound that it is no more than
rounded_fits : (p q r most : ℕ) → 0 < p → r < p → q * p + r ≤ most → cond (ltb (2 * r) p) q (cond (eqb (2 * r) p) (q + q % 2) (q + 1)) ≤ most
rounded_fits p q r most some below le =
    elim (cases_lt (2 * r) p) [
      | inl less ↦ let m : q * 1 ≤ q * p = mul-le-mul_left q some in rw (lt-ltb (2 * r) p less) (omega arith)
      | inr more ↦
          let two : 2 ≤ p = omega arith in
          let m : q * 2 ≤ q * p = mul-le-mul_left q two in
          elim (cases_eq (2 * r) p) [
            | inl half ↦ rw (le-ltb (2 * r) p more, eq-eqb (2 * r) p half) (omega arith)
            | inr past ↦ rw (le-ltb (2 * r) p more, ne_eqb (2 * r) p past) (omega arith)
          ]
    ]

pub rounded_le : (x p most : ℕ) → 0 < p → x ≤ most → rounded x p ≤ most
rounded_le x p most some le = rounded_fits p (x / p) (x % p) most some (mod_below x p some) (omega (arith, div-add-mod' x p))

words_summed : (x w r p b : ℕ) → w + r ≡ x → x < 65536 → r < p → p ≤ 8192 → b < 2
    → ((((x + (65536 - w % 65536)) % 65536 + (x + (65536 - w % 65536)) % 65536) % 65536 + b) % 65536 + (p + 65535) % 65536) % 65536 ≡ 2 * r + b + p - 1
words_summed x w r p b is fits below few bit = omega arith

-- a lane of `depths`
pub depth_lane : (x s : ℕ) → s < 13 → x < 65536
    → (x / 2 ^ s + ((((x + (65536 - (x / 2 ^ s * (1 * 2 ^ s % 65536)) % 65536)) % 65536 + (x + (65536 - (x / 2 ^ s * (1 * 2 ^ s % 65536)) % 65536)) % 65536) % 65536 + bit_and (x / 2 ^ s) 1) % 65536 + (1 * 2 ^ s % 65536 + 65535) % 65536) % 65536 / 2 ^ (s + 1)) % 65536
    ≡ rounded x (2 ^ s)
depth_lane x s lt fits =
    let p = 2 ^ s in
    let q = x / p in
    let r = x % p in
    let unit : 1 * 2 ^ s % 65536 ≡ p = one_shl s 16 (omega arith) in
    let some : 0 < p = pow_pos s in
    let few : p < 2 ^ 13 = pow_below s 13 lt in
    let few' : p ≤ 8192 = omega arith in
    let odd : bit_and q 1 ≡ q % 2 = and_mask q 1 in
    let twice : 2 ^ (s + 1) ≡ 2 * p = pow-add 2 s 1 ∙ omega arith in
    let below : r < p = mod_below x p some in
    let whole : q * p + r ≡ x = div-add-mod' x p in
    let sum = words_summed x (q * p) r p (q % 2) whole fits below few' (omega arith) in
    let le : rounded x p ≤ 65535 = rounded_le x p 65535 some (omega arith) in
    (λ i. (q + ((((x + (65536 - (q * unit i) % 65536)) % 65536 + (x + (65536 - (q * unit i) % 65536)) % 65536) % 65536 + odd i) % 65536 + (unit i + 65535) % 65536) % 65536 / twice i) % 65536)
    ∙ ap (λ n. (q + n / (2 * p)) % 65536) sum ∙ ap (λ n. n % 65536) (added p q r some below) ∙ mod-eq_of_lt (omega arith)

-- ---- the greatest, lane by lane

-- `simd_max` as its lanes
abbrev pub larger : List ℕ → List ℕ → List ℕ
larger xs ys = sel_l (map (top 15) (zip2 (λ (a b : ℕ). cond (ltb a b) 65535 0) xs ys)) ys xs

one_larger : (a b : ℕ) → cond (top 15 (cond (ltb a b) 65535 0)) b a ≡ max a b
one_larger a b =
    elim (cases_lt a b) [
      | inl lt ↦ rw (lt-ltb a b lt) (omega arith)
      | inr le ↦ rw (le-ltb a b le) (omega arith)
    ]

pub larger_is : (xs ys : List ℕ) → larger xs ys ≡ zip2 max xs ys
larger_is [] ys = refl
larger_is (x ∷ xs) [] = refl
larger_is (x ∷ xs) (y ∷ ys) = λ i. one_larger x y i ∷ larger_is xs ys i

eight_greatest : (a b c d e f g h : ℕ) → greatest_of (a ∷ b ∷ c ∷ d ∷ e ∷ f ∷ g ∷ h ∷ []) ≡ max (max (max a e) (max c g)) (max (max b f) (max d h))
eight_greatest a b c d e f g h =
    let p : greatest_of (a ∷ b ∷ c ∷ d ∷ e ∷ f ∷ g ∷ h ∷ []) ≡ max (greatest_of (a ∷ b ∷ c ∷ d ∷ [])) (greatest_of (e ∷ f ∷ g ∷ h ∷ [])) = greatest-append (a ∷ b ∷ c ∷ d ∷ []) (e ∷ f ∷ g ∷ h ∷ []) in
    let q : greatest_of (max a e ∷ max b f ∷ max c g ∷ max d h ∷ []) ≡ max (greatest_of (a ∷ b ∷ c ∷ d ∷ [])) (greatest_of (e ∷ f ∷ g ∷ h ∷ [])) = greatest-zip (a ∷ b ∷ c ∷ d ∷ []) (e ∷ f ∷ g ∷ h ∷ []) refl in
    let r : greatest_of (max a e ∷ max b f ∷ max c g ∷ max d h ∷ []) ≡ max (greatest_of (max a e ∷ max b f ∷ [])) (greatest_of (max c g ∷ max d h ∷ [])) = greatest-append (max a e ∷ max b f ∷ []) (max c g ∷ max d h ∷ []) in
    let s : greatest_of (max (max a e) (max c g) ∷ max (max b f) (max d h) ∷ []) ≡ max (greatest_of (max a e ∷ max b f ∷ [])) (greatest_of (max c g ∷ max d h ∷ [])) = greatest-zip (max a e ∷ max b f ∷ []) (max c g ∷ max d h ∷ []) refl in
    p ∙ sym q ∙ r ∙ sym s ∙ two_greatest (max (max a e) (max c g)) (max (max b f) (max d h))
  where
    two_greatest : (x y : ℕ) → greatest_of (x ∷ y ∷ []) ≡ max x y
    two_greatest x y = omega arith

-- the greatest of two vectors, by halves
abbrev pub tree : (List ℕ → List ℕ → List ℕ) → List ℕ → List ℕ → List ℕ
tree m top bottom =
    let eight = m top bottom in
    let pick = λ (xs : List ℕ) (a b c d e f g h : ℕ). get_or (xs ++ xs) a 0 ∷ get_or (xs ++ xs) b 0 ∷ get_or (xs ++ xs) c 0 ∷ get_or (xs ++ xs) d 0 ∷ get_or (xs ++ xs) e 0 ∷ get_or (xs ++ xs) f 0 ∷ get_or (xs ++ xs) g 0 ∷ get_or (xs ++ xs) h 0 ∷ [] in
    let four = m eight (pick eight 4 5 6 7 4 5 6 7) in
    let two = m four (pick four 2 3 2 3 2 3 2 3) in
    m two (pick two 1 1 1 1 1 1 1 1)

pub tree_greatest : (top bottom : List ℕ) → length top ≡ 8 → length bottom ≡ 8 → get_or (tree larger top bottom) 0 0 ≡ greatest_of (top ++ bottom)
tree_greatest top bottom long as_long =
    ap (λ (m : List ℕ → List ℕ → List ℕ). get_or (tree m top bottom) 0 0) (λ i xs ys. larger_is xs ys i)
    ∙ rw (whole8 top long, whole8 bottom as_long) (sym (eight_greatest _ _ _ _ _ _ _ _))
    ∙ greatest-zip top bottom (long ∙ sym as_long) ∙ sym (greatest-append top bottom)

-- ---- masks

pub zip2_flip : (f : ℕ → ℕ → ℕ) (xs ys : List ℕ) → zip2 f xs ys ≡ zip2 (λ a b. f b a) ys xs
zip2_flip f [] [] = refl
zip2_flip f [] (y ∷ ys) = refl
zip2_flip f (x ∷ xs) [] = refl
zip2_flip f (x ∷ xs) (y ∷ ys) = ap (λ l. f x y ∷ l) (zip2_flip f xs ys)

pub mask_zero : (ms : List Bool) → eqb (mask_l ms) 0 ≡ list_all not ms
mask_zero [] = refl
mask_zero (true ∷ ms) = ne_eqb (1 + 2 * mask_l ms) 0 (λ e. absurd (omega arith))
mask_zero (false ∷ ms) =
    let same : eqb (0 + 2 * mask_l ms) 0 ≡ eqb (mask_l ms) 0 = elim (cases_eq (mask_l ms) 0) [
      | inl none ↦ eq-eqb (0 + 2 * mask_l ms) 0 (omega arith) ∙ sym (eq-eqb (mask_l ms) 0 none)
      | inr some ↦ ne_eqb (0 + 2 * mask_l ms) 0 (λ e. some (omega arith)) ∙ sym (ne_eqb (mask_l ms) 0 some)
    ] in
    same ∙ mask_zero ms

-- whether no lane of a vector passes a test against a number
pub no_lane : (t : ℕ → ℕ → Bool) (xs : List ℕ) (y : ℕ) → length xs ≡ 8 → eqb (mask_l (map (top 15) (zip2 (λ a b. cond (t a b) 65535 0) xs (replicate 8 y))) % 2 ^ 64) 0 ≡ list_all not (map (λ x. t x y) xs)
no_lane t xs y long = ap (λ m. eqb m 0) (bitmask_splat w16 t xs 8 y long (omega arith)) ∙ mask_zero (map (λ x. t x y) xs)

pub all-append : (p : ℕ → Bool) (xs ys : List ℕ) → list_all p (xs ++ ys) ≡ (list_all p xs && list_all p ys)
all-append p [] ys = refl
all-append p (x ∷ xs) ys = ap (λ b. p x && b) (all-append p xs ys) ∙ sym (and_assoc (p x) (list_all p xs) (list_all p ys))
  where
    and_assoc : (a b c : Bool) → ((a && b) && c) ≡ (a && (b && c))
    and_assoc true b c = refl
    and_assoc false b c = refl

pub none_above : (xs ys : List ℕ) → length xs ≡ length ys → list_all not (map (λ x. ltb 63 x) (zip2 max xs ys)) ≡ (list_all (λ x. ltb x 64) xs && list_all (λ x. ltb x 64) ys)
none_above [] [] long = refl
none_above [] (y ∷ ys) long = absurd (omega arith)
none_above (x ∷ xs) [] long = absurd (omega arith)
none_above (x ∷ xs) (y ∷ ys) long = (λ i. both x y i && none_above xs ys (omega arith) i) ∙ mixed (ltb x 64) (ltb y 64) (list_all (λ x. ltb x 64) xs) (list_all (λ x. ltb x 64) ys)
  where
    both : (x y : ℕ) → not (ltb 63 (max x y)) ≡ (ltb x 64 && ltb y 64)
    both x y =
        elim (cases_lt x 64) [
          | inl a ↦ elim (cases_lt y 64) [
            | inl b ↦ rw (lt-ltb x 64 a, lt-ltb y 64 b, le-ltb 63 (max x y) (omega arith)) refl
            | inr b ↦ rw (lt-ltb x 64 a, le-ltb y 64 b, lt-ltb 63 (max x y) (omega arith)) refl
          ]
          | inr a ↦ rw (le-ltb x 64 a, lt-ltb 63 (max x y) (omega arith)) refl
        ]

    mixed : (a b c d : Bool) → ((a && b) && (c && d)) ≡ ((a && c) && (b && d))
    mixed true true c d = refl
    mixed true false true d = refl
    mixed true false false d = refl
    mixed false b c d = refl

pub none_other : (xs : List ℕ) → list_all not (map (λ x. not (eqb x 32)) xs) ≡ list_all (λ x. eqb x 32) xs
none_other [] = refl
none_other (x ∷ xs) = λ i. twice (eqb x 32) i && none_other xs i
  where
    twice : (b : Bool) → not (not b) ≡ b
    twice true = refl
    twice false = refl

-- ---- differences

-- a difference as a word is in 0 to 63 where the difference is, and then is the difference
pub word_fits : (a b : ℕ) → a ≤ 63487 → b ≤ 63487 → ltb (((a + 32) % 65536 + (65536 - b)) % 65536) 64 ≡ (leb b (a + 32) && leb (a + 32) (b + 63))
word_fits a b p q =
    elim (cases_lt (a + 32) b) [
      | inl low ↦ rw (lt-leb b (a + 32) low) (le-ltb _ 64 (omega arith))
      | inr le ↦ elim (cases_lt (b + 63) (a + 32)) [
        | inl high ↦ rw (le-leb b (a + 32) le, lt-leb (a + 32) (b + 63) high) (le-ltb _ 64 (omega arith))
        | inr within ↦ rw (le-leb b (a + 32) le, le-leb (a + 32) (b + 63) within) (lt-ltb _ 64 (omega arith))
      ]
    ]

pub all_fit_lanes : (depths : List ℕ) (ps : List (ℕ × ℕ)) → ((k : ℕ) → get_or depths k 0 ≤ 63487) → list_all (λ x. ltb x 64) (map (wrapped depths) ps) ≡ list_all (fits depths) ps
all_fit_lanes depths [] small = refl
all_fit_lanes depths (p ∷ ps) small = λ i. word_fits (get_or depths p.0 0) (get_or depths p.1 0) (small p.0) (small p.1) i && all_fit_lanes depths ps small i

word_is : (a b : ℕ) → a ≤ 63487 → b ≤ 63487 → (leb b (a + 32) && leb (a + 32) (b + 63)) ≡ true → ((a + 32) % 65536 + (65536 - b)) % 65536 ≡ a + 32 - b
word_is a b p q fit =
    let both = and_parts (leb b (a + 32)) (leb (a + 32) (b + 63)) fit in
    let low = leb-true b (a + 32) both.0 in
    let high = leb-true (a + 32) (b + 63) both.1 in
    omega arith

pub all_are : (depths : List ℕ) (ps : List (ℕ × ℕ)) → ((k : ℕ) → get_or depths k 0 ≤ 63487) → list_all (fits depths) ps ≡ true → map (wrapped depths) ps ≡ map (difference depths) ps
all_are depths [] small fit = refl
all_are depths (p ∷ ps) small fit =
    let both = and_parts (fits depths p) (list_all (fits depths) ps) fit in
    let here = word_is (get_or depths p.0 0) (get_or depths p.1 0) (small p.0) (small p.1) both.0 in
    λ i. here i ∷ all_are depths ps small both.1 i

-- depths are no greater than a bound of the numbers
pub depths_le : (below : List ℕ) (s most : ℕ) → ((k : ℕ) → get_or below k 0 ≤ most) → (k : ℕ) → get_or (depths_of below s) k 0 ≤ most
unfolding depths_of
depths_le [] s most small k = omega arith
depths_le (x ∷ below) s most small zero = rounded_le x (2 ^ s) most (pow_pos s) (small 0)
depths_le (x ∷ below) s most small (suc k) = depths_le below s most (λ j. small (suc j)) k

-- at a shift of 12 all depths are at most 16
at_twelve : (x : ℕ) → x ≤ 63487 → rounded x 4096 ≤ 16
at_twelve x le =
    let q : x / 4096 ≤ 15 = omega arith in
    elim (cases_lt (2 * (x % 4096)) 4096) [
      | inl less ↦ rw (lt-ltb (2 * (x % 4096)) 4096 less) (omega arith)
      | inr more ↦ elim (cases_eq (2 * (x % 4096)) 4096) [
        | inl half ↦ rw (le-ltb (2 * (x % 4096)) 4096 more, eq-eqb (2 * (x % 4096)) 4096 half) (omega arith)
        | inr past ↦ rw (le-ltb (2 * (x % 4096)) 4096 more, ne_eqb (2 * (x % 4096)) 4096 past) (omega arith)
      ]
    ]

twelve_le : (below : List ℕ) → ((k : ℕ) → get_or below k 0 ≤ 63487) → (k : ℕ) → get_or (depths_of below 12) k 0 ≤ 16
unfolding depths_of
twelve_le [] small k = omega arith
twelve_le (x ∷ below) small zero = at_twelve x (small 0)
twelve_le (x ∷ below) small (suc k) = twelve_le below (λ j. small (suc j)) k

few_fit : (depths : List ℕ) (ps : List (ℕ × ℕ)) → ((k : ℕ) → get_or depths k 0 ≤ 16) → list_all (fits depths) ps ≡ true
few_fit depths [] small = refl
few_fit depths (p ∷ ps) small =
    let a = small p.0 in
    let b = small p.1 in
    (λ i. (le-leb (get_or depths p.1 0) (get_or depths p.0 0 + 32) (omega arith) i && le-leb (get_or depths p.0 0 + 32) (get_or depths p.1 0 + 63) (omega arith) i) && few_fit depths ps small i)

-- so that some shift up to 12 is found
pub twelve_fits : (below : List ℕ) → ((k : ℕ) → get_or below k 0 ≤ 63487) → all_fit (depths_of below 12) ≡ true
unfolding all_fit
twelve_fits below small = few_fit (depths_of below 12) pairs (twelve_le below small)

-- the least one
pub shift_found : (below : List ℕ) (s : ℕ) → s < 13 → ((k : ℕ) → k < s → all_fit (depths_of below k) ≡ false) → all_fit (depths_of below s) ≡ true → s ≡ shift_of below
unfolding shift_of
shift_found below s few before here =
    let p : ℕ → Bool = λ shift. all_fit (depths_of below shift) in
    let at : (k : ℕ) → k < 16 → get_or (range_with_len 0 16) k 0 ≡ k = λ k lt. get_or-range_with_len 0 16 k 0 lt ∙ omega arith in
    sym (position_or_len_is p (range_with_len 0 16) s 0 (omega arith) (λ k lt. ap p (at k (omega arith)) ∙ before k lt) (λ inside. ap p (at s (omega arith)) ∙ here))

-- ---- a shift that is tried

same_first : (d : ℕ) → d ≤ 63487 → ((d + 32) % 65536 + (65536 - d)) % 65536 ≡ 32
same_first d le = omega arith

-- all words are below 64 exactly where all differences fit
pub sixes_fit : (depths both : List ℕ) → ((k : ℕ) → get_or depths k 0 ≤ 63487) → both ≡ wrapped_of depths → list_all (λ x. ltb x 64) both ≡ all_fit depths
unfolding all_fit wrapped_of
sixes_fit depths both small is = ap (list_all (λ x. ltb x 64)) is ∙ (λ i. ltb (same_first (get_or depths 0 0) (small 0) i) 64 && all_fit_lanes depths pairs small i)

pub sixes_are : (depths both : List ℕ) → ((k : ℕ) → get_or depths k 0 ≤ 63487) → both ≡ wrapped_of depths → all_fit depths ≡ true → both ≡ 32 ∷ differences_of depths
unfolding all_fit wrapped_of differences_of
sixes_are depths both small is fit = is ∙ (λ i. same_first (get_or depths 0 0) (small 0) i ∷ all_are depths pairs small fit i)

pub all_below : (xs : List ℕ) → list_all (λ x. ltb x 64) xs ≡ true → (k : ℕ) → get_or xs k 0 < 64
all_below [] all k = omega arith
all_below (x ∷ xs) all zero = ltb-true x 64 (and_parts (ltb x 64) (list_all (λ x. ltb x 64) xs) all).0
all_below (x ∷ xs) all (suc k) = all_below xs (and_parts (ltb x 64) (list_all (λ x. ltb x 64) xs) all).1 k

-- the depths of a cell column by column
pub turned_depths : (near far : List ℕ) (s : ℕ) → length near ≡ 8 → length far ≡ 8 → turned (depths_of near s ++ depths_of far s) ≡ depths_of (turned (near ++ far)) s
unfolding turned depths_of
turned_depths near far s long as_long = rw (whole8 near long, whole8 far as_long) refl

-- ---- how far numbers are below the greatest

abbrev lanes_below : ℕ → List ℕ → List ℕ
lanes_below most xs = map (λ k. (most + (65536 - get_or xs k 0)) % 65536) (range_with_len 0 16)

one_below : (most x : ℕ) → most < 65536 → x ≤ most → most - x ≡ (most + (65536 - x)) % 65536
one_below most x fits le = omega arith

pub are_below : (xs : List ℕ) (most : ℕ) → length xs ≡ 16 → most < 65536 → ((k : ℕ) → get_or xs k 0 ≤ most) → lanes_below most xs ≡ map (λ t. most - t) xs
are_below xs most long fits le =
    sym (fill_by_all (λ k. (most + (65536 - get_or xs k 0)) % 65536) (map (λ t. most - t) xs) 16 0 (length-map xs (λ t. most - t) ∙ long)
    (λ k lt. get_or-map (λ t. most - t) xs k 0 0 (omega arith) ∙ one_below most (get_or xs k 0) fits (le k)))

pub below_small : (xs : List ℕ) (most : ℕ) → most ≤ 64511 → ((k : ℕ) → k < length xs → 1024 ≤ get_or xs k 0) → (k : ℕ) → get_or (map (λ t. most - t) xs) k 0 < 63488
below_small [] most high low k = omega arith
below_small (x ∷ xs) most high low zero = omega (arith, low 0 (omega arith))
below_small (x ∷ xs) most high low (suc k) = below_small xs most high (λ j lt. low (suc j) (omega arith)) k

pub ordered_range : (h : ℕ) → h < 65536 → (1024 ≤ ordered h) × (ordered h ≤ 64511)
ordered_range h fits =
    elim (cases_eq (h / 1024 % 32) 31) [
      | inl all ↦ rw (eq-eqb (h / 1024 % 32) 31 all) (omega arith, omega arith)
      | inr some ↦ elim (cases_lt h 32768) [
        | inl lt ↦ rw (ne_eqb (h / 1024 % 32) 31 some, lt-ltb h 32768 lt) (omega arith, omega arith)
        | inr le ↦ rw (ne_eqb (h / 1024 % 32) 31 some, le-ltb h 32768 le) (omega arith, omega arith)
      ]
    ]

-- a depth in units of 2 ^ shift is hardly more than the number
pub depth_times : (x p : ℕ) → 0 < p → rounded x p * p ≤ x + p
depth_times x p some =
    let q = x / p in
    let whole = div-add-mod' x p in
    let below = mod_below x p some in
    let one : (q + 1) * p ≤ x + p = omega arith in
    elim (cases_lt (2 * (x % p)) p) [
      | inl less ↦ rw (lt-ltb (2 * (x % p)) p less) (omega arith)
      | inr more ↦ elim (cases_eq (2 * (x % p)) p) [
        | inl half ↦ rw (le-ltb (2 * (x % p)) p more, eq-eqb (2 * (x % p)) p half) (omega (arith, mul-le-mul_right {m = q + q % 2} {n = q + 1} p (omega arith)))
        | inr past ↦ rw (le-ltb (2 * (x % p)) p more, ne_eqb (2 * (x % p)) p past) one
      ]
    ]

pub length-depths_of : (below : List ℕ) (s : ℕ) → length (depths_of below s) ≡ length below
unfolding depths_of
length-depths_of below s = length-map below (λ x. rounded x (2 ^ s))

pub first_turned : (xs ys : List ℕ) → 0 < length xs → get_or (turned (xs ++ ys)) 0 0 ≡ get_or xs 0 0
unfolding turned
first_turned xs ys some = get_or_append_left xs ys 0 0 some
