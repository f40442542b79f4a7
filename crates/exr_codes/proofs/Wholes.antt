-- A table that bytes spell is complete.
use Rattle.std.proofs.Common.{◌≡◌, ℕ, zero, suc, ◌+◌, ◌-◌, ◌≤◌, Bool, true, false, cond, ltb, leb, ◌&&◌, List, [], ◌∷◌, ◌++◌, length, take, drop, get_or, replicate, Option, Some, None, refl, subst, arith}
use Rattle.std.proofs.lemmas.Bool.{leb-true, and_parts, cond_both}
use Rattle.exr_base.specs.Bits.{number_of, bits_of_bytes}
use Rattle.exr_codes.specs.Codes.{IsComplete}
use Rattle.exr_codes.specs.Tables.{item_at, lengths_of_number, run_at, lengths_within, lengths_at, is_filling, is_full, table_of, ◌>>=◌}
use Rattle.exr_codes.proofs.Filling.{zeros_short}
use Rattle.exr_codes.proofs.Reading.{table_complete}

-- no length is above 58
abbrev AreShort : List ℕ → Type 0
AreShort lengths = (k : ℕ) → get_or lengths k 0 ≤ 58

abbrev IsShortRead : Option (List ℕ × List Bool) → Type 0
IsShortRead (Some read) = AreShort read.0
IsShortRead None = Unit {0}

append_short : (xs ys : List ℕ) → AreShort xs → AreShort ys → AreShort (xs ++ ys)
append_short [] ys short_xs short_ys k = short_ys k
append_short (x ∷ xs) ys short_xs short_ys zero = short_xs 0
append_short (x ∷ xs) ys short_xs short_ys (suc k) = append_short xs ys (λ i. short_xs (suc i)) short_ys k

one_short : (len : ℕ) → len ≤ 58 → AreShort (len ∷ [])
one_short len small zero = small
one_short len small (suc k) = omega arith

number_short : (item : ℕ) (bits : List Bool) → IsShortRead (lengths_of_number item bits)
number_short item bits =
    cond_both (leb item 58) (Some (item ∷ [], bits)) _ IsShortRead (λ e. one_short item (leb-true item 58 e)) (λ e.
    cond_both (leb item 62) (Some (replicate (item - 57) 0, bits)) (run_at bits) IsShortRead (λ f. zeros_short (item - 57)) (λ f.
    cond_both (ltb (length bits) 8) None (Some (replicate (number_of (take 8 bits) + 6) 0, drop 8 bits)) IsShortRead (λ g. tt) (λ g. zeros_short (number_of (take 8 bits) + 6))))

item_short : (bits : List Bool) → IsShortRead (item_at bits)
unfolding item_at
item_short bits = cond_both (ltb (length bits) 6) None (lengths_of_number (number_of (take 6 bits)) (drop 6 bits)) IsShortRead (λ e. tt) (λ e. number_short (number_of (take 6 bits)) (drop 6 bits))

joined_short : (first : List ℕ) → AreShort first → (others : Option (List ℕ × List Bool)) → IsShortRead others → IsShortRead (others >>= (λ read. Some (first ++ read.0, read.1)))
joined_short first short (Some others) short_others = append_short first others.0 short short_others
joined_short first short None short_others = tt

items_short : (items count : ℕ) → ((c : ℕ) (b : List Bool) → IsShortRead (lengths_within items c b)) → (first : Option (List ℕ × List Bool)) → IsShortRead first
    → IsShortRead (first >>= (λ read. cond (ltb (suc count) (length read.0)) None (lengths_within items (suc count - length read.0) read.1) >>= (λ others. Some (read.0 ++ others.0, others.1))))
items_short items count others None short = tt
items_short items count others (Some (first, rest)) short =
    joined_short first short (cond (ltb (suc count) (length first)) None (lengths_within items (suc count - length first) rest))
    (cond_both (ltb (suc count) (length first)) None (lengths_within items (suc count - length first) rest) IsShortRead (λ e. tt) (λ e. others (suc count - length first) rest))

within_short : (items count : ℕ) (bits : List Bool) → IsShortRead (lengths_within items count bits)
unfolding lengths_within
within_short zero zero bits = λ k. omega arith
within_short (suc items) zero bits = λ k. omega arith
within_short zero (suc count) bits = tt
within_short (suc items) (suc count) bits = items_short items count (λ c b. within_short items c b) (item_at bits) (item_short bits)

whole_at : (read : Option (List ℕ × List Bool)) → IsShortRead read → (lengths : List ℕ) → (read >>= (λ r. cond (is_filling r.1 && is_full r.0) (Some r.0) None)) ≡ Some lengths → IsComplete lengths
whole_at None short lengths e = absurd cc
whole_at (Some (read, rest)) short lengths e = here (is_filling rest && is_full read) refl e
  where
    here : (b : Bool) → (is_filling rest && is_full read) ≡ b → cond b (Some read) None ≡ Some lengths → IsComplete lengths
    here true is f =
        let same : read ≡ lengths = cc in
        let parts = and_parts (is_filling rest) (is_full read) is in
        subst IsComplete same (table_complete read short parts.1)
    here false is f = absurd cc

pub table_of_complete : (count : ℕ) (bytes lengths : List ℕ) → table_of count bytes ≡ Some lengths → IsComplete lengths
unfolding table_of lengths_at
table_of_complete count bytes lengths e = whole_at (lengths_at count (bits_of_bytes bytes)) (within_short count count (bits_of_bytes bytes)) lengths e
