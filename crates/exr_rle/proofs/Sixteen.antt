-- Sixteen lanes that gain earlier ones, until each is the sum of all up to it.
use Rattle.std.proofs.Common.{◌≡◌, ℕ, ◌+◌, ◌-◌, ◌*◌, ◌%◌, ◌<◌, ◌≤◌, inl, inr, cond, ltb, List, [], ◌∷◌, ◌++◌, length, get_or, take, drop, replicate, sum, refl, sym, ap, ◌∙◌, arith}
use Rattle.std.specs.List.{range_with_len}
use Rattle.std.proofs.lemmas.Bool.{cases_lt, lt-ltb, le-ltb}
use Rattle.std.proofs.lemmas.List.{get_or_append_left, get_or-append_right, length-append, get_or-replicate, take_more, take-take, ext_get_or, get_or-drop, length-drop}
use Rattle.std.proofs.lemmas.List.Sums.{sum_by-append}
use Rattle.std.proofs.Math.Seq.{take-add}
use Rattle.std.proofs.lemmas.Simd.{pick_l-range_with_len, get_or-chunk, length-chunk, get_or-zip2, length-zip2}
use lib.Lanes.{zip2, pick_l, chunk}
use Rattle.exr_rle.specs.Lanes.{AddsEarlier}
use Rattle.exr_rle.specs.Unpacked.{restored_after, restored_at}

abbrev pub wrapping_sum : ℕ → ℕ → ℕ
wrapping_sum a b = (a + b) % 256

-- zeros and then the first lanes
abbrev moved : ℕ → List ℕ → List ℕ
moved n lanes = pick_l 0 (replicate 16 0 ++ lanes) (range_with_len (16 - n) 16)

moved_is : (n : ℕ) (lanes : List ℕ) → n ≤ 16 → length lanes ≡ 16 → moved n lanes ≡ chunk (16 - n) 16 (replicate 16 0 ++ lanes)
moved_is n lanes few long = pick_l-range_with_len 0 (replicate 16 0 ++ lanes) (16 - n) 16 (omega (arith, length-append (replicate 16 0) lanes))

length-moved : (n : ℕ) (lanes : List ℕ) → n ≤ 16 → length lanes ≡ 16 → length (moved n lanes) ≡ 16
length-moved n lanes few long = ap length (moved_is n lanes few long) ∙ length-chunk (16 - n) 16 (replicate 16 0 ++ lanes) (omega (arith, length-append (replicate 16 0) lanes))

get_or-moved : (n : ℕ) (lanes : List ℕ) (k : ℕ) → n ≤ 16 → length lanes ≡ 16 → k < 16 → get_or (moved n lanes) k 0 ≡ cond (ltb k n) 0 (get_or lanes (k - n) 0)
get_or-moved n lanes k few long inside =
    ap (λ xs. get_or xs k 0) (moved_is n lanes few long) ∙ get_or-chunk (16 - n) 16 (replicate 16 0 ++ lanes) k 0 inside ∙
    elim (cases_lt k n) [
      | inl lt ↦ rw (lt-ltb k n lt) (get_or_append_left (replicate 16 0) lanes 0 (16 - n + k) (omega arith) ∙ get_or-replicate 16 (16 - n + k) 0 0 (omega arith))
      | inr le ↦ rw (le-ltb k n le) (get_or-append_right (replicate 16 0) lanes 16 (16 - n + k) 0 refl (omega arith) ∙ ap (λ j. get_or lanes j 0) (omega arith))
    ]

pub adds_earlier : (n : ℕ) (lanes : List ℕ) → n ≤ 16 → length lanes ≡ 16 → AddsEarlier n lanes (zip2 wrapping_sum lanes (moved n lanes))
adds_earlier n lanes few long = record {
  long = length-zip2 wrapping_sum lanes (moved n lanes) (long ∙ sym (length-moved n lanes few long)) ∙ long;
  each = λ k inside. get_or-zip2 wrapping_sum lanes (moved n lanes) k 0 0 0 (omega arith) (omega (arith, length-moved n lanes few long))
      ∙ ap (λ b. (get_or lanes k 0 + b) % 256) (get_or-moved n lanes k few long inside);
}

-- what is added up before a place, 128 with each byte
abbrev pub total : List ℕ → ℕ → ℕ
total bytes count = sum (take count bytes) + 128 * count

-- each lane is the sum of so many lanes up to it, modulo 256
pub record HasSums (lanes : ℕ) (bytes sums : List ℕ) : Type 0 where
  pub long : length sums ≡ 16
  pub each : (k : ℕ) → k < 16 → get_or sums k 0 ≡ (total bytes (k + 1) - total bytes (k + 1 - lanes)) % 256

total_more : (bytes : List ℕ) (k : ℕ) → k < length bytes → total bytes (k + 1) ≡ total bytes k + get_or bytes k 0 + 128
total_more bytes k inside = let more = ap sum (take_more bytes k 0 inside) ∙ sum_by-append (λ x. x) (take k bytes) (get_or bytes k 0 ∷ []) in omega (arith, more)

total_mono : (bytes : List ℕ) (i j : ℕ) → i ≤ j → total bytes i ≤ total bytes j
total_mono bytes i j le =
    let there : i + (j - i) ≡ j = omega arith in
    let more = ap sum (take-add i (j - i) bytes) ∙ sum_by-append (λ x. x) (take i bytes) (take (j - i) (drop i bytes)) in
    let same : total bytes (i + (j - i)) ≡ total bytes j = ap (total bytes) there in
    omega (arith, more, same)

zero_of : (n : ℕ) → n ≤ 0 → n ≡ 0
zero_of n le = omega arith

-- twice as many
pub sums_twice : (n m : ℕ) (bytes old new : List ℕ) → m ≡ n + n → HasSums n bytes old → AddsEarlier n old new → HasSums m bytes new
sums_twice n m bytes old new twice sums adds = record {
  long = adds.long;
  each = λ k inside. adds.each k inside ∙ elim (cases_lt k n) [
    | inl lt ↦
        let here = sums.each k inside in
        let none : total bytes (k + 1 - n) ≡ 0 = ap (total bytes) (zero_of (k + 1 - n) (omega arith)) in
        let none' : total bytes (k + 1 - m) ≡ 0 = ap (total bytes) (zero_of (k + 1 - m) (omega arith)) in
        rw (lt-ltb k n lt) (omega (arith, here, none, none'))
    | inr le ↦
        let here = sums.each k inside in
        let earlier = sums.each (k - n) (omega arith) in
        let same : total bytes (k - n + 1) ≡ total bytes (k + 1 - n) = ap (total bytes) (omega arith) in
        let same' : total bytes (k - n + 1 - n) ≡ total bytes (k + 1 - m) = ap (total bytes) (omega arith) in
        let up = total_mono bytes (k + 1 - n) (k + 1) (omega arith) in
        let up' = total_mono bytes (k + 1 - m) (k + 1 - n) (omega arith) in
        rw (le-ltb k n le) (omega (arith, here, earlier, same, same', up, up'))
  ];
}

-- one lane each
pub sums_one : (bytes : List ℕ) → length bytes ≡ 16 → HasSums 1 bytes (zip2 wrapping_sum bytes (replicate 16 128))
sums_one bytes long = record {
  long = length-zip2 wrapping_sum bytes (replicate 16 128) long ∙ long;
  each = λ k inside.
      let same : total bytes (k + 1 - 1) ≡ total bytes k = ap (total bytes) (omega arith) in
      get_or-zip2 wrapping_sum bytes (replicate 16 128) k 0 0 0 (omega arith) inside
      ∙ ap (λ b. (get_or bytes k 0 + b) % 256) (get_or-replicate 16 k 128 0 inside)
      ∙ omega (arith, total_more bytes k (omega arith), same);
}

-- all of them, behind a restored byte
pub restored_sixteen : (before : ℕ) (bytes sums : List ℕ) → HasSums 16 bytes sums → (k : ℕ) → k < 16 → get_or (zip2 wrapping_sum sums (replicate 16 before)) k 0 ≡ restored_after before bytes (k + 1)
restored_sixteen before bytes sums has k inside =
    let none : total bytes (k + 1 - 16) ≡ 0 = ap (total bytes) (zero_of (k + 1 - 16) (omega arith)) in
    get_or-zip2 wrapping_sum sums (replicate 16 before) k 0 0 0 (omega (arith, has.long)) inside
    ∙ ap (λ b. (get_or sums k 0 + b) % 256) (get_or-replicate 16 k before 0 inside)
    ∙ omega (arith, has.each k inside, none)

-- sixteen bytes of a list, through the four steps
pub restored_at_place : (at before : ℕ) (bytes s₁ s₂ s₄ s₈ lanes : List ℕ) → at + 16 ≤ length bytes → AddsEarlier 1 (zip2 wrapping_sum (chunk at 16 bytes) (replicate 16 128)) s₁ → AddsEarlier 2 s₁ s₂
    → AddsEarlier 4 s₂ s₄ → AddsEarlier 8 s₄ s₈ → lanes ≡ replicate 16 before → (k : ℕ) → k < 16 → get_or (zip2 wrapping_sum s₈ lanes) k 0 ≡ restored_after before (drop at bytes) (k + 1)
restored_at_place at before bytes s₁ s₂ s₄ s₈ lanes room a₁ a₂ a₄ a₈ same k inside =
    let part = chunk at 16 bytes in
    let long : length part ≡ 16 = length-chunk at 16 bytes room in
    let sums₂ = sums_twice 1 2 part _ s₁ (omega arith) (sums_one part long) a₁ in
    let sums₄ = sums_twice 2 4 part s₁ s₂ (omega arith) sums₂ a₂ in
    let sums₈ = sums_twice 4 8 part s₂ s₄ (omega arith) sums₄ a₄ in
    let sums₁₆ = sums_twice 8 16 part s₄ s₈ (omega arith) sums₈ a₈ in
    ap (λ b. get_or (zip2 wrapping_sum s₈ b) k 0) same
    ∙ restored_sixteen before part s₈ sums₁₆ k inside
    ∙ ap (λ front. (before + sum front + 128 * (k + 1)) % 256) (take-take (k + 1) 16 (drop at bytes) (omega arith))

-- one byte more
pub restored_more : (before : ℕ) (bytes : List ℕ) (k : ℕ) → k < length bytes → restored_after before bytes (k + 1) ≡ (restored_after before bytes k + get_or bytes k 0 + 128) % 256
restored_more before bytes k inside = omega (arith, total_more bytes k inside)

-- a list from a place on, as another one
pub same_rest : (xs ys : List ℕ) (at : ℕ) → length xs ≡ length ys → ((k : ℕ) → at ≤ k → get_or xs k 0 ≡ get_or ys k 0) → drop at xs ≡ drop at ys
same_rest xs ys at long same = ext_get_or 0 (drop at xs) (drop at ys) (omega (arith, length-drop at xs, length-drop at ys))
    (λ k inside. get_or-drop at xs k 0 ∙ same (at + k) (omega arith) ∙ sym (get_or-drop at ys k 0))

-- so many bytes and then more
pub restored_on : (before : ℕ) (bytes : List ℕ) (at count : ℕ) → restored_after (restored_after before bytes at) (drop at bytes) count ≡ restored_after before bytes (at + count)
restored_on before bytes at count =
    let more = ap sum (take-add at count bytes) ∙ sum_by-append (λ x. x) (take at bytes) (take count (drop at bytes)) in
    omega (arith, more)

pub restored_first : (bytes : List ℕ) (k : ℕ) → restored_after 128 bytes (k + 1) ≡ restored_at bytes k
restored_first bytes k = omega arith
