-- A step of reading: what the window finds is the token that begins the data bits.
use Rattle.std.proofs.Common.{◌≡◌, ◌≢◌, ℕ, ◌+◌, ◌-◌, ◌*◌, ◌/◌, ◌^◌, ◌<◌, ◌≤◌, Bool, false, eqb, List, length, take, drop, get_or, replicate, Some, None, refl, sym, ap, ◌∙◌, inl, inr, arith}
use Rattle.std.proofs.lemmas.List.{length-append, length-take-le, length-drop, take-append-le, drop-append-le, take-take, drop-drop, drop-take}
use Rattle.std.proofs.lemmas.Bool.{cases_lt, eq-eqb, ne_eqb, lt-ltb, le-ltb}
use Rattle.exr_base.specs.Bits.{number_of, bits_of_bytes}
use Rattle.exr_base.proofs.BitLists.{length-bits_of_bytes}
use Rattle.exr_codes.specs.Codes.{IsComplete, entry_at}
use Rattle.exr_codes.specs.Windows.{IsWindow, IsCodeAt}
use Rattle.exr_codes.proofs.Intervals.{entry_at_found, entry_at_short}
use Rattle.exr_codes.specs.Rest.{rest_at}
use Rattle.exr_huffman.specs.Tokens.{word, more, token_at, run_entry}
use Rattle.exr_huffman.specs.Blocks.{is_run}
use Rattle.exr_huffman.specs.Nexts.{data_rest}
use Rattle.exr_codes.proofs.Rests.{length-rest_at}

-- the data bits from a place on are the front of the rest
pub front_of_rest : (bytes : List ℕ) (bits at n : ℕ) → bits ≤ 8 * length bytes → n ≤ length (data_rest bytes bits at) → take n (data_rest bytes bits at) ≡ take n (rest_at bytes at)
front_of_rest bytes bits at n there within =
    let x = bits_of_bytes bytes in
    let len = length-bits_of_bytes bytes in
    let size = length-take-le bits x (omega arith) in
    let dropped = length-drop at (take bits x) in
    elim (cases_lt at bits) [
      | inl inside ↦
          let split : bits ≡ at + (bits - at) = omega arith in
          let cut : data_rest bytes bits at ≡ take (bits - at) (drop at x) = ap (λ k. drop at (take k x)) split ∙ drop-take at (bits - at) x in
          let few : n ≤ bits - at = omega (arith, dropped, size) in
          let behind : n ≤ length (drop at x) = rw length-drop (omega arith) in
          ap (take n) cut ∙ take-take n (bits - at) (drop at x) few ∙ sym (ap (take n) (drop-append-le at x (replicate 64 false) (omega arith)) ∙ take-append-le n (drop at x) (replicate 64 false) behind)
      | inr past ↦ let none : n ≡ 0 = omega (arith, dropped, size) in rw none refl
    ]

pub window_of_data : (bytes : List ℕ) (bits at have window : ℕ) → bits ≤ 8 * length bytes → IsWindow have (rest_at bytes at) window → IsWindow have (data_rest bytes bits at) window
window_of_data bytes bits at have window there known n le within =
    let x = bits_of_bytes bytes in
    let len = length-bits_of_bytes bytes in
    let size = length-take-le bits x (omega arith) in
    let dropped = length-drop at (take bits x) in
    let all : n ≤ length (rest_at bytes at) = rw (length-drop, length-append) (omega (arith, dropped, size)) in
    ap number_of (front_of_rest bytes bits at n there within) ∙ known n le all

pub length-data_rest : (bytes : List ℕ) (bits at : ℕ) → bits ≤ 8 * length bytes → length (data_rest bytes bits at) ≡ bits - at
length-data_rest bytes bits at there = let len = length-bits_of_bytes bytes in rw length-drop (ap (λ k. k - at) (length-take-le bits (bits_of_bytes bytes) (omega arith)))

pub data_rest-skip : (bytes : List ℕ) (bits at n : ℕ) → data_rest bytes bits (at + n) ≡ drop n (data_rest bytes bits at)
data_rest-skip bytes bits at n = sym (drop-drop n at (take bits (bits_of_bytes bytes)))

-- ---- what a step finds

module _ (lengths bytes : List ℕ) (bits at have window k len : ℕ) (complete : IsComplete lengths) (there : bits ≤ 8 * length bytes) (filled : IsWindow have (rest_at bytes at) window) (found : IsCodeAt lengths window k len) (valid : len ≤ have) where
  pub found_whole : len ≤ bits - at → entry_at lengths (data_rest bytes bits at) ≡ Some k
  found_whole enough = entry_at_found lengths complete (data_rest bytes bits at) window k len found have (window_of_data bytes bits at have window there filled) valid (rw (length-data_rest bytes bits at there) enough)

  pub found_cut : bits - at < len → entry_at lengths (data_rest bytes bits at) ≡ None
  found_cut short = entry_at_short lengths complete (data_rest bytes bits at) window k len found have (window_of_data bytes bits at have window there filled) valid (rw (length-data_rest bytes bits at there) short)

pub is_run_none : (lengths : List ℕ) (bits : List Bool) → entry_at lengths bits ≡ None → is_run lengths (entry_at lengths bits) ≡ false
is_run_none lengths bits none = rw none refl

pub is_run_some : (lengths : List ℕ) (bits : List Bool) (k run : ℕ) → entry_at lengths bits ≡ Some k → length lengths ≡ run + 1 → is_run lengths (entry_at lengths bits) ≡ eqb k run
is_run_some lengths bits k run some size = rw (some, size) (ap (λ n. eqb k n) (omega arith))

pub token_none : (least : ℕ) (lengths : List ℕ) (bits : List Bool) → entry_at lengths bits ≡ None → token_at least lengths bits ≡ None
unfolding token_at
token_none least lengths bits none = rw none refl

pub token_word : (least : ℕ) (lengths : List ℕ) (bits : List Bool) (k len run : ℕ) → entry_at lengths bits ≡ Some k → get_or lengths k 0 ≡ len → length lengths ≡ run + 1 → k ≢ run → token_at least lengths bits ≡ Some (word (least + k), drop len bits)
unfolding token_at
token_word least lengths bits k len run some is size other = rw (some, is, ne_eqb k (run_entry lengths) (λ e. other (omega arith))) refl

pub token_cut : (least : ℕ) (lengths : List ℕ) (bits : List Bool) (k len run : ℕ) → entry_at lengths bits ≡ Some k → get_or lengths k 0 ≡ len → length lengths ≡ run + 1 → k ≡ run → length (drop len bits) < 8 → token_at least lengths bits ≡ None
unfolding token_at
token_cut least lengths bits k len run some is size same few = rw (some, is, eq-eqb k (run_entry lengths) (omega arith), lt-ltb (length (drop len bits)) 8 few) refl

pub token_more : (least : ℕ) (lengths : List ℕ) (bits : List Bool) (k len run : ℕ) → entry_at lengths bits ≡ Some k → get_or lengths k 0 ≡ len → length lengths ≡ run + 1 → k ≡ run → 8 ≤ length (drop len bits) → token_at least lengths bits ≡ Some (more (number_of (take 8 (drop len bits))), drop 8 (drop len bits))
unfolding token_at
token_more least lengths bits k len run some is size same enough = rw (some, is, eq-eqb k (run_entry lengths) (omega arith), le-ltb (length (drop len bits)) 8 enough) refl

-- the high eight bits of a window
pub count_of_window : (bytes : List ℕ) (at have window : ℕ) → at ≤ 8 * length bytes → 8 ≤ have → IsWindow have (rest_at bytes at) window → window / 2 ^ 56 ≡ number_of (take 8 (rest_at bytes at))
count_of_window bytes at have window within enough filled = sym (filled 8 enough (omega (arith, length-rest_at bytes at)))
