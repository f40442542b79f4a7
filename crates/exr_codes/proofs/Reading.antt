-- Reading lengths item by item, each behind those that were read before.
use Rattle.std.proofs.Common.{◌≡◌, ◌≢◌, ℕ, zero, suc, ◌+◌, ◌-◌, ◌^◌, ◌<◌, ◌≤◌, Bool, true, false, eqb, ltb, leb, ◌&&◌, List, [], ◌∷◌, ◌++◌, length, take, drop, get_or, replicate, Option, Some, None, refl, sym, ap, ◌∙◌, subst, inl, inr, arith, append_assoc, append-nil}
use Rattle.std.proofs.lemmas.Bool.{cases_lt, lt-ltb, le-ltb, leb-false, cond_both, true≢false, and_left, and_right, and_from, eq-eqb, ne_eqb, eqb-true}
use Rattle.std.proofs.lemmas.List.{length-replicate}
use Rattle.std.proofs.lemmas.Nat.{pow_pos}
use Rattle.exr_base.specs.Bits.{number_of}
use Rattle.exr_codes.specs.Tables.{item_at, lengths_of_number, run_at, lengths_within, lengths_at, is_filling, is_full, table_of, ◌>>=◌}
use Rattle.std.specs.List.{sum_by}
use Rattle.exr_base.specs.Bits.{bits_of_bytes}
use Rattle.exr_codes.specs.Codes.{weight_of, IsComplete}

-- what is read, with lengths in front of it
abbrev pub behind : List ℕ → Option (List ℕ × List Bool) → Option (List ℕ × List Bool)
behind front (Some read) = Some (front ++ read.0, read.1)
behind front None = None

pub behind-none : (read : Option (List ℕ × List Bool)) → behind [] read ≡ read
behind-none (Some read) = refl
behind-none None = refl

pub behind-append : (a b : List ℕ) (read : Option (List ℕ × List Bool)) → behind a (behind b read) ≡ behind (a ++ b) read
behind-append a b (Some read) = ap (λ (xs : List ℕ). Some (xs, read.1)) (sym (append_assoc a b read.0))
behind-append a b None = refl

-- each item stands for a length at least
abbrev HasLengths : Option (List ℕ × List Bool) → Type 0
HasLengths (Some read) = 0 < length read.0
HasLengths None = Unit {0}

number_has_lengths : (item : ℕ) (bits : List Bool) → HasLengths (lengths_of_number item bits)
number_has_lengths item bits =
    cond_both (leb item 58) (Some (item ∷ [], bits)) _ HasLengths (λ e. omega arith) (λ long.
    cond_both (leb item 62) (Some (replicate (item - 57) 0, bits)) (run_at bits) HasLengths
    (λ e. rw length-replicate (omega (arith, leb-false item 58 long)))
    (λ e. cond_both (ltb (length bits) 8) None (Some (replicate (number_of (take 8 bits) + 6) 0, drop 8 bits)) HasLengths (λ f. tt) (λ f. rw length-replicate (omega arith))))

item_has_lengths : (bits : List Bool) → HasLengths (item_at bits)
unfolding item_at
item_has_lengths bits = cond_both (ltb (length bits) 6) None (lengths_of_number (number_of (take 6 bits)) (drop 6 bits)) HasLengths (λ e. tt) (λ e. number_has_lengths (number_of (take 6 bits)) (drop 6 bits))

some_lengths : (bits : List Bool) (lengths : List ℕ) (rest : List Bool) → item_at bits ≡ Some (lengths, rest) → 0 < length lengths
some_lengths bits lengths rest e = subst HasLengths e (item_has_lengths bits)

bind_is_behind : (first : List ℕ) (read : Option (List ℕ × List Bool)) → (read >>= (λ others. Some (first ++ others.0, others.1))) ≡ behind first read
bind_is_behind first (Some read) = refl
bind_is_behind first None = refl

within_item : (items count : ℕ) (bits : List Bool) (first : List ℕ) (rest : List Bool) → item_at bits ≡ Some (first, rest) → length first ≤ suc count → lengths_within (suc items) (suc count) bits ≡ behind first (lengths_within items (suc count - length first) rest)
unfolding lengths_within
within_item items count bits first rest item fits = rw (item, le-ltb (suc count) (length first) fits) (bind_is_behind first (lengths_within items (suc count - length first) rest))

within_long : (items count : ℕ) (bits : List Bool) (first : List ℕ) (rest : List Bool) → item_at bits ≡ Some (first, rest) → suc count < length first → lengths_within (suc items) (suc count) bits ≡ None
unfolding lengths_within
within_long items count bits first rest item long = rw (item, lt-ltb (suc count) (length first) long) refl

within_none : (items count : ℕ) (bits : List Bool) → item_at bits ≡ None → lengths_within (suc items) (suc count) bits ≡ None
unfolding lengths_within
within_none items count bits item = rw item refl

within_zero : (items : ℕ) (bits : List Bool) → lengths_within items 0 bits ≡ Some ([], bits)
unfolding lengths_within
within_zero zero bits = refl
within_zero (suc items) bits = refl

enough_at : (items more count : ℕ) (bits : List Bool) → ((c : ℕ) (b : List Bool) → c ≤ items → lengths_within more c b ≡ lengths_within items c b) → suc count ≤ suc items → (read : Option (List ℕ × List Bool)) → item_at bits ≡ read → lengths_within (suc more) (suc count) bits ≡ lengths_within (suc items) (suc count) bits
enough_at items more count bits before enough None item = within_none more count bits item ∙ sym (within_none items count bits item)
enough_at items more count bits before enough (Some (first, rest)) item = elim (cases_lt (suc count) (length first)) [
  | inl long ↦ within_long more count bits first rest item long ∙ sym (within_long items count bits first rest item long)
  | inr fits ↦
      within_item more count bits first rest item fits
      ∙ ap (behind first) (before (suc count - length first) rest (omega (arith, some_lengths bits first rest item)))
      ∙ sym (within_item items count bits first rest item fits)
]

-- more items than lengths make no difference
lengths_within_enough : (items more count : ℕ) (bits : List Bool) → count ≤ items → items ≤ more → lengths_within more count bits ≡ lengths_within items count bits
lengths_within_enough items more zero bits enough le = within_zero more bits ∙ sym (within_zero items bits)
lengths_within_enough zero more (suc count) bits enough le = absurd (omega arith)
lengths_within_enough (suc items) zero (suc count) bits enough le = absurd (omega arith)
lengths_within_enough (suc items) (suc more) (suc count) bits enough le =
    enough_at items more count bits (λ c b few. lengths_within_enough items more c b few (omega arith)) enough (item_at bits) refl

pub lengths_at-zero : (bits : List Bool) → lengths_at 0 bits ≡ Some ([], bits)
unfolding lengths_at
lengths_at-zero bits = within_zero 0 bits

-- an item that fits, and the lengths behind it
pub lengths_at-item : (count : ℕ) (bits : List Bool) (first : List ℕ) (rest : List Bool) → 0 < count → item_at bits ≡ Some (first, rest) → length first ≤ count → lengths_at count bits ≡ behind first (lengths_at (count - length first) rest)
unfolding lengths_at
lengths_at-item zero bits first rest some item fits = absurd (omega arith)
lengths_at-item (suc count) bits first rest some item fits =
    within_item count count bits first rest item fits ∙ ap (behind first) (lengths_within_enough (suc count - length first) count (suc count - length first) rest (omega arith) (omega (arith, some_lengths bits first rest item)))

-- an item with too many lengths, or none
pub lengths_at-long : (count : ℕ) (bits : List Bool) (first : List ℕ) (rest : List Bool) → 0 < count → item_at bits ≡ Some (first, rest) → count < length first → lengths_at count bits ≡ None
unfolding lengths_at
lengths_at-long zero bits first rest some item long = absurd (omega arith)
lengths_at-long (suc count) bits first rest some item long = within_long count count bits first rest item long

pub lengths_at-none : (count : ℕ) (bits : List Bool) → 0 < count → item_at bits ≡ None → lengths_at count bits ≡ None
unfolding lengths_at
lengths_at-none zero bits some item = absurd (omega arith)
lengths_at-none (suc count) bits some item = within_none count count bits item

-- ---- a turn of reading

module _ (count : ℕ) (bits all : List Bool) (front : List ℕ) (left : ℕ) (so_far : behind front (lengths_at left bits) ≡ lengths_at count all) (some : 0 < left) where
  pub read_none : item_at bits ≡ None → lengths_at count all ≡ None
  read_none item = sym so_far ∙ ap (behind front) (lengths_at-none left bits some item)

  pub read_long : (first : List ℕ) (rest : List Bool) → item_at bits ≡ Some (first, rest) → left < length first → lengths_at count all ≡ None
  read_long first rest item long = sym so_far ∙ ap (behind front) (lengths_at-long left bits first rest some item long)

  pub read_more : (first : List ℕ) (rest : List Bool) → item_at bits ≡ Some (first, rest) → length first ≤ left → behind (front ++ first) (lengths_at (left - length first) rest) ≡ lengths_at count all
  read_more first rest item fits = sym (behind-append front first (lengths_at (left - length first) rest)) ∙ ap (behind front) (sym (lengths_at-item left bits first rest some item fits)) ∙ so_far

pub read_done : (count : ℕ) (bits all : List Bool) (front : List ℕ) (left : ℕ) → behind front (lengths_at left bits) ≡ lengths_at count all → left ≡ 0 → lengths_at count all ≡ Some (front, bits)
read_done count bits all front left so_far none =
    sym so_far ∙ ap (λ n. behind front (lengths_at n bits)) none ∙ ap (behind front) (lengths_at-zero bits) ∙ ap (λ (xs : List ℕ). Some (xs, bits)) (append-nil front)

-- ---- bits that only fill a byte

-- a first bit of 0 does not count, and one of 1 does
pub number_of-first : (bits : List Bool) → 1 ≤ length bits → (number_of (take 1 bits) ≡ 0 → number_of (drop 1 bits) ≡ number_of bits) × (number_of (take 1 bits) ≢ 0 → number_of bits ≢ 0)
unfolding number_of
number_of-first [] some = absurd (omega arith)
number_of-first (true ∷ bits) some = (λ e. absurd (omega arith), λ ne. λ e. omega (arith, pow_pos (length bits)))
number_of-first (false ∷ bits) some = (λ e. refl, λ ne. absurd (ne refl))

pub at_least : (bits : List Bool) (n : ℕ) → (length bits < n → true ≡ false) → n ≤ length bits
at_least bits n enough = elim (cases_lt (length bits) n) [ inl few ↦ absurd (true≢false (enough few)) | inr many ↦ many ]

pub filling_whole : (bits : List Bool) → 8 ≤ length bits → is_filling bits ≡ false
unfolding is_filling
filling_whole bits many = and_left (ltb (length bits) 8) (eqb (number_of bits) 0) (le-ltb (length bits) 8 many)

pub filling_one : (bits : List Bool) → number_of bits ≢ 0 → is_filling bits ≡ false
unfolding is_filling
filling_one bits some = and_right (ltb (length bits) 8) (eqb (number_of bits) 0) (ne_eqb (number_of bits) 0 some)

pub filling_none : (bits : List Bool) → length bits < 8 → number_of bits ≡ 0 → is_filling bits ≡ true
unfolding is_filling
filling_none bits few none = and_from (ltb (length bits) 8) (eqb (number_of bits) 0) (lt-ltb (length bits) 8 few) (eq-eqb (number_of bits) 0 none)

-- ---- the whole table

pub table_none : (count : ℕ) (bytes : List ℕ) → lengths_at count (bits_of_bytes bytes) ≡ None → table_of count bytes ≡ None
unfolding table_of
table_none count bytes read = rw read refl

pub table_read : (count : ℕ) (bytes lengths : List ℕ) (rest : List Bool) → lengths_at count (bits_of_bytes bytes) ≡ Some (lengths, rest) → is_filling rest ≡ true → is_full lengths ≡ true → table_of count bytes ≡ Some lengths
unfolding table_of
table_read count bytes lengths rest read filling full = rw (read, filling, full) refl

pub table_wrong : (count : ℕ) (bytes lengths : List ℕ) (rest : List Bool) → lengths_at count (bits_of_bytes bytes) ≡ Some (lengths, rest) → (is_filling rest && is_full lengths) ≡ false → table_of count bytes ≡ None
unfolding table_of
table_wrong count bytes lengths rest read wrong = rw (read, wrong) refl

pub table_complete : (lengths : List ℕ) → ((k : ℕ) → get_or lengths k 0 ≤ 58) → is_full lengths ≡ true → IsComplete lengths
unfolding is_full
table_complete lengths short full = record { short = short; full = eqb-true (sum_by weight_of lengths) (2 ^ 58) full }

pub number_of-empty : (bits : List Bool) → length bits ≡ 0 → number_of bits ≡ 0
unfolding number_of
number_of-empty [] none = refl
number_of-empty (b ∷ bits) none = absurd (omega arith)
