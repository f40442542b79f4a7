use Rattle.std.proofs.Common.{◌≡◌, ℕ, ◌+◌, ◌-◌, ◌*◌, ◌/◌, ◌%◌, ◌<◌, ◌≤◌, inl, inr, Bool, true, false, cond, eqb, List, ◌++◌, length, get_or, map, ap, ◌∙◌, arith}
use Rattle.std.specs.List.{range_with_len}
use Rattle.std.proofs.lemmas.Bool.{cases_lt}
use Rattle.std.proofs.lemmas.List.{get_or_append_left, get_or-append_right}
use Rattle.std.proofs.lemmas.List.FromFn.{get_or-map-range_with_len}
use Rattle.std.proofs.lemmas.Simd.{get_or-chunk, length-chunk, get_or-put_chunk_at, get_or-put_chunk_below, length-put_chunk}
use lib.Lanes.{chunk, put_chunk}
use Rattle.exr_rle.proofs.halves.put_sixteen.Goals as goal

abbrev both : List ℕ → ℕ → ℕ → List ℕ
both halves even odd = chunk even 16 halves ++ chunk odd 16 halves

abbrev first_lane : List ℕ → ℕ → ℕ
first_lane xs j = get_or xs (cond (eqb (j % 2) 0) (j / 2) (16 + j / 2)) 0

abbrev second_lane : List ℕ → ℕ → ℕ
second_lane xs j = get_or xs (cond (eqb (j % 2) 0) (8 + j / 2) (24 + j / 2)) 0

abbrev first_in : List ℕ → List ℕ
first_in xs = map (first_lane xs) (range_with_len 0 16)

abbrev second_in : List ℕ → List ℕ
second_in xs = map (second_lane xs) (range_with_len 0 16)

-- a byte of either half
picked : (halves : List ℕ) (even odd j : ℕ) (b : Bool) → even + 16 ≤ length halves → odd + 16 ≤ length halves → j < 16
    → get_or (both halves even odd) (cond b j (16 + j)) 0 ≡ cond b (get_or halves (even + j) 0) (get_or halves (odd + j) 0)
picked halves even odd j true evens odds lt =
    let long = length-chunk even 16 halves (omega arith) in
    get_or_append_left (chunk even 16 halves) (chunk odd 16 halves) 0 j (omega arith) ∙ get_or-chunk even 16 halves j 0 lt
picked halves even odd j false evens odds lt =
    let long = length-chunk even 16 halves (omega arith) in
    let at : 16 + j - 16 ≡ j = omega arith in
    get_or-append_right (chunk even 16 halves) (chunk odd 16 halves) 16 (16 + j) 0 long (omega arith) ∙ ap (λ i. get_or (chunk odd 16 halves) i 0) at ∙ get_or-chunk odd 16 halves j 0 lt

second_is_later : (xs : List ℕ) (k : ℕ) → 16 ≤ k → second_lane xs (k - 16) ≡ get_or xs (cond (eqb (k % 2) 0) (k / 2) (16 + k / 2)) 0
second_is_later xs k le =
    let a : (k - 16) % 2 ≡ k % 2 = omega arith in
    let b : 8 + (k - 16) / 2 ≡ k / 2 = omega arith in
    let c : 24 + (k - 16) / 2 ≡ 16 + k / 2 = omega arith in
    λ i. get_or xs (cond (eqb (a i) 0) (b i) (c i)) 0

pub returns-clause-put : goal.returns-clause-put
returns-clause-put c k inside =
    let halves = c.args.halves.now in
    let even = c.args.even in
    let odd = c.args.odd in
    let raw = c.args.raw.now in
    let xs = both halves even odd in
    let once = put_chunk (2 * even) raw (first_in xs) in
    let there = picked halves even odd (k / 2) (eqb (k % 2) 0) c.requires.evens c.requires.odds (omega arith) in
    elim (cases_lt k 16) [
      | inl lt ↦
          get_or-put_chunk_below (2 * even + 16) once (second_in xs) (2 * even + k) 0 (omega arith)
          ∙ get_or-put_chunk_at (2 * even) raw (first_in xs) k 0 lt (omega arith)
          ∙ get_or-map-range_with_len (first_lane xs) 0 16 k k 0 lt (omega arith)
          ∙ there
      | inr le ↦
          let at : 2 * even + k ≡ 2 * even + 16 + (k - 16) = omega arith in
          let lt : k - 16 < 16 = omega arith in
          ap (λ i. get_or (put_chunk (2 * even + 16) once (second_in xs)) i 0) at
          ∙ get_or-put_chunk_at (2 * even + 16) once (second_in xs) (k - 16) 0 lt (omega (arith, length-put_chunk (2 * even) raw (first_in xs)))
          ∙ get_or-map-range_with_len (second_lane xs) 0 16 (k - 16) (k - 16) 0 lt (omega arith)
          ∙ second_is_later xs k le
          ∙ there
    ]

pub returns-clause-others : goal.returns-clause-others
returns-clause-others c k below =
    let xs = both c.args.halves.now c.args.even c.args.odd in
    get_or-put_chunk_below (2 * c.args.even + 16) (put_chunk (2 * c.args.even) c.args.raw.now (first_in xs)) (second_in xs) k 0 (omega arith)
    ∙ get_or-put_chunk_below (2 * c.args.even) c.args.raw.now (first_in xs) k 0 below
