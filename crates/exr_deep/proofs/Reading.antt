-- Counts from a table, pixel by pixel.
use Rattle.std.proofs.Common.{◌≡◌, ℕ, ℤ, pos, nat_abs, int_lt, ◌-ℤ◌, ◌≤ℤ◌, ◌<ℤ◌, ◌+◌, ◌-◌, ◌<◌, ◌≤◌, Bool, true, false, cond, eqb, ltb, List, length, get_or, set, take, Some, None, Ok, Err, inl, inr, zero-add, sym, ap, ap₂, subst, ◌∙◌, arith}
use Rattle.std.specs.List.{range_with_len, position_or_len, sum}
use Rattle.std.proofs.lemmas.Bool.{cases_lt, ne_eqb, lt-ltb, le-ltb}
use Rattle.std.proofs.lemmas.List.{take_more_set, get_or-set_same, get_or-set_other}
use Rattle.std.proofs.lemmas.List.Sums.{sum_by_push}
use Rattle.std.proofs.lemmas.Int.{ints}
use Rattle.std.proofs.lemmas.List.Sums.{position_or_len_is}
use Rattle.std.proofs.lemmas.List.FromFn.{length-range_with_len, get_or-range_with_len, fill_by_all}
use Rattle.exr_deep.specs.declared.fault.DeepFault.TheVariants as fault
use Rattle.exr_deep.specs.Counts.{entry_at, entry_before, falls_at, count_at, first_fall_of, counts_of, unless_fall, counts_in}
use Rattle.exr_deep.specs.Steps.{AreCounted, IsFirstFall, entry_before_in}
use Rattle.exr_deep.proofs.Rows.{IsInRow, is_first}

pub entry_before_is : (width first n : ℕ) (table : List ℕ) → IsInRow width first n → entry_before width table n ≡ entry_before_in first table n
unfolding entry_before
entry_before_is width first n table is = ap (λ b. cond b (pos 0) (entry_at table (n - 1))) (is_first width first n is)

below_is : (a b : ℤ) → a <ℤ b → int_lt a b ≡ true
below_is a b h = grind (arith, ints)

pub not_below_is : (a b : ℤ) → b ≤ℤ a → int_lt a b ≡ false
not_below_is a b h = grind (arith, ints)

pub falls_here : (width first n : ℕ) (table : List ℕ) (entry before : ℤ) → IsInRow width first n → entry ≡ entry_at table n → before ≡ entry_before_in first table n → entry <ℤ before → falls_at width table n ≡ true
unfolding falls_at
falls_here width first n table entry before is here there lt =
    ap₂ int_lt (sym here) (entry_before_is width first n table is ∙ sym there) ∙ below_is entry before lt

rises_here : (width first n : ℕ) (table : List ℕ) (entry before : ℤ) → IsInRow width first n → entry ≡ entry_at table n → before ≡ entry_before_in first table n → before ≤ℤ entry → falls_at width table n ≡ false
unfolding falls_at
rises_here width first n table entry before is here there le =
    ap₂ int_lt (sym here) (entry_before_is width first n table is ∙ sym there) ∙ not_below_is entry before le

count_here : (width first n : ℕ) (table : List ℕ) (entry before : ℤ) (count : ℕ) → IsInRow width first n → entry ≡ entry_at table n → before ≡ entry_before_in first table n → pos count ≡ entry -ℤ before → count ≡ count_at width table n
unfolding count_at
count_here width first n table entry before count is here there by =
    ap nat_abs by ∙ ap nat_abs (ap₂ ◌-ℤ◌ here (there ∙ sym (entry_before_is width first n table is)))

pub counted_more : (width first n : ℕ) (table counts : List ℕ) (entry before : ℤ) (count : ℕ) → IsInRow width first n → n < length counts → entry ≡ entry_at table n → before ≡ entry_before_in first table n
    → before ≤ℤ entry → pos count ≡ entry -ℤ before → AreCounted width table n counts → AreCounted width table (n + 1) (set counts n count)
counted_more width first n table counts entry before count is inside here there le by are = record {
  rise = λ k lt. elim (cases_lt k n) [
    | inl earlier ↦ are.rise k earlier
    | inr last ↦ subst (λ (m : ℕ). falls_at width table m ≡ false) (let e : n ≡ k = omega arith in e) (rises_here width first n table entry before is here there le)
  ];
  counted = λ k lt. elim (cases_lt k n) [
    | inl earlier ↦ get_or-set_other counts n k count 0 (λ same. omega arith) ∙ are.counted k earlier
    | inr last ↦ subst (λ (m : ℕ). get_or (set counts n count) m 0 ≡ count_at width table m) (let e : n ≡ k = omega arith in e) (get_or-set_same counts n count 0 inside ∙ count_here width first n table entry before count is here there by)
  ];
}

pub entry_before_next : (first n : ℕ) (table : List ℕ) (entry : ℤ) → first ≤ n → entry ≡ entry_at table n → entry ≡ entry_before_in first table (n + 1)
entry_before_next first n table entry le here =
    let other : eqb (n + 1) first ≡ false = ne_eqb (n + 1) first (λ same. omega arith) in
    rw other (here ∙ ap (entry_at table) (let e : n ≡ n + 1 - 1 = omega arith in e))

pub samples_more : (counts : List ℕ) (n count before first : ℕ) (later : ℕ) → n < length counts → sum (take n counts) ≡ first + before → later ≡ before + count → sum (take (n + 1) (set counts n count)) ≡ first + later
samples_more counts n count before first later inside so_far is =
    ap sum (take_more_set counts n count inside) ∙ sum_by_push (λ x. x) (take n counts) count ∙ omega arith

-- ---- all pixels

at_place : (width : ℕ) (table : List ℕ) (pixels k : ℕ) (b : Bool) → k < pixels → falls_at width table k ≡ b → falls_at width table (get_or (range_with_len 0 pixels) k 0) ≡ b
at_place width table pixels k b lt is = ap (falls_at width table) (get_or-range_with_len 0 pixels k 0 lt ∙ zero-add k) ∙ is

pub no_fall : (width pixels : ℕ) (table counts : List ℕ) → AreCounted width table pixels counts → first_fall_of width table pixels ≡ None
unfolding first_fall_of
no_fall width pixels table counts are =
    let range = range_with_len 0 pixels in
    let long : length range ≡ pixels = length-range_with_len 0 pixels in
    let last : position_or_len (falls_at width table) range ≡ pixels =
    position_or_len_is (falls_at width table) range pixels 0 (omega arith) (λ k lt. at_place width table pixels k false lt (are.rise k lt)) (λ lt. absurd (omega arith)) in
    let test : ltb (position_or_len (falls_at width table) range) (length range) ≡ false = le-ltb (position_or_len (falls_at width table) range) (length range) (omega arith) in
    ap (λ b. cond b (Some (position_or_len (falls_at width table) range)) None) test

pub fall_found : (width pixels pixel : ℕ) (table : List ℕ) → pixel < pixels → IsFirstFall width table pixel → first_fall_of width table pixels ≡ Some pixel
unfolding first_fall_of
fall_found width pixels pixel table inside is =
    let range = range_with_len 0 pixels in
    let long : length range ≡ pixels = length-range_with_len 0 pixels in
    let first : position_or_len (falls_at width table) range ≡ pixel =
    position_or_len_is (falls_at width table) range pixel 0 (omega arith) (λ k lt. at_place width table pixels k false (omega arith) (is.rise k lt)) (λ lt. at_place width table pixels pixel true inside is.falls) in
    let test : ltb (position_or_len (falls_at width table) range) (length range) ≡ true = lt-ltb (position_or_len (falls_at width table) range) (length range) (omega arith) in
    ap (λ b. cond b (Some (position_or_len (falls_at width table) range)) None) test ∙ ap Some first

pub all_counted : (width pixels : ℕ) (table counts : List ℕ) → length counts ≡ pixels → AreCounted width table pixels counts → counts ≡ counts_of width table pixels
unfolding counts_of
all_counted width pixels table counts long are = fill_by_all (count_at width table) counts pixels 0 long are.counted

pub counted_in : (width : ℕ) (table : List ℕ) (pixels : ℕ) (counts : List ℕ) → first_fall_of width table pixels ≡ None → counts ≡ counts_of width table pixels → counts_in width table pixels ≡ Ok counts
unfolding counts_in
counted_in width table pixels counts rise are = ap (λ fall. unless_fall fall (counts_of width table pixels)) rise ∙ ap Ok (sym are)

pub fall_in : (width : ℕ) (table : List ℕ) (pixels pixel : ℕ) → first_fall_of width table pixels ≡ Some pixel → counts_in width table pixels ≡ Err (fault.CountsFall pixel)
unfolding counts_in
fall_in width table pixels pixel fall = ap (λ first. unless_fall first (counts_of width table pixels)) fall
