-- A group with samples in each chunk: how many, chunk by chunk.
use Rattle.std.proofs.Common.{◌≡◌, ℕ, ◌+◌, ◌-◌, ◌*◌, ◌/◌, ◌%◌, ◌^◌, ◌<◌, ◌≤◌, sym, ap, ap₂, subst, ◌∙◌, inl, inr, arith, List, length, set, slice_index}
use Rattle.std.proofs.lemmas.Nat.{div-add-mod', div-mul-add, mod_below}
use Rattle.std.proofs.lemmas.Bool.{cases_lt}
use Rattle.std.proofs.lemmas.List.{get_or-set_same, get_or-set_other, length-set}
use Rattle.exr_chunks.specs.RawBytes.{samples_in}
use Rattle.exr_chunks.proofs.Repeats.{below, below_counts, no_rest}

-- so many lines lie before the first sample of chunk i
pub record IsBefore (s rows before i : ℕ) : Type 0 where
  pub sampled : 0 < s
  pub whole : (i * rows + before) % s ≡ 0
  pub near : before < s

-- the multiples below the chunk, and those below the next one
below_first : (s rows before i : ℕ) → IsBefore s rows before i → below s (i * rows) ≡ (i * rows + before) / s
unfolding below
below_first s rows before i is =
    let a : ℕ = i * rows in
    let m : ℕ = (a + before) / s in
    let whole = div-add-mod' (a + before) s in
    let at : a + s - 1 ≡ m * s + (s - 1 - before) = omega (arith, whole, is.whole, is.near, is.sampled) in
    ap (λ k. k / s) at ∙ div-mul-add m s (s - 1 - before) (omega (arith, is.sampled))

below_more : (s rows before i : ℕ) → IsBefore s rows before i → before < rows % s → below s (i * rows + rows) ≡ (i * rows + before) / s + (rows / s + 1)
unfolding below
below_more s rows before i is early =
    let a : ℕ = i * rows in
    let m : ℕ = (a + before) / s in
    let whole = div-add-mod' (a + before) s in
    let parts = div-add-mod' rows s in
    let left = mod_below rows s is.sampled in
    let at : a + rows + s - 1 ≡ (m + (rows / s + 1)) * s + (rows % s - 1 - before) = omega (arith, whole, is.whole, is.near, is.sampled, parts, early) in
    ap (λ k. k / s) at ∙ div-mul-add (m + (rows / s + 1)) s (rows % s - 1 - before) (omega (arith, left))

below_least : (s rows before i : ℕ) → IsBefore s rows before i → rows % s ≤ before → below s (i * rows + rows) ≡ (i * rows + before) / s + rows / s
unfolding below
below_least s rows before i is late =
    let a : ℕ = i * rows in
    let m : ℕ = (a + before) / s in
    let whole = div-add-mod' (a + before) s in
    let parts = div-add-mod' rows s in
    let at : a + rows + s - 1 ≡ (m + rows / s) * s + (rows % s + (s - 1 - before)) = omega (arith, whole, is.whole, is.near, is.sampled, parts) in
    ap (λ k. k / s) at ∙ div-mul-add (m + rows / s) s (rows % s + (s - 1 - before)) (omega (arith, late, is.near, is.sampled))

-- how many samples the chunk has
pub one_more : (s rows before i : ℕ) → IsBefore s rows before i → before < rows % s → samples_in rows i s ≡ rows / s + 1
one_more s rows before i is early =
    omega (arith, below_first s rows before i is, below_more s rows before i is early, below_counts s (i * rows) rows is.sampled)

pub just_least : (s rows before i : ℕ) → IsBefore s rows before i → rows % s ≤ before → samples_in rows i s ≡ rows / s
just_least s rows before i is late =
    omega (arith, below_first s rows before i is, below_least s rows before i is late, below_counts s (i * rows) rows is.sampled)

-- the lines before the first sample of the next chunk
pub next_early : (s rows before i : ℕ) → IsBefore s rows before i → before < rows % s → IsBefore s rows (before + (s - rows % s)) (i + 1)
next_early s rows before i is early =
    let m : ℕ = (i * rows + before) / s in
    let whole = div-add-mod' (i * rows + before) s in
    let parts = div-add-mod' rows s in
    let left = mod_below rows s is.sampled in
    let at : (i + 1) * rows + (before + (s - rows % s)) ≡ (m + rows / s + 1) * s = omega (arith, whole, is.whole, parts, left) in
    record { sampled = is.sampled; whole = ap (λ k. k % s) at ∙ no_rest s (m + rows / s + 1) is.sampled; near = omega (arith, early, left) }

pub next_late : (s rows before i : ℕ) → IsBefore s rows before i → rows % s ≤ before → IsBefore s rows (before - rows % s) (i + 1)
next_late s rows before i is late =
    let m : ℕ = (i * rows + before) / s in
    let whole = div-add-mod' (i * rows + before) s in
    let parts = div-add-mod' rows s in
    let at : (i + 1) * rows + (before - rows % s) ≡ (m + rows / s) * s = omega (arith, whole, is.whole, parts, late) in
    record { sampled = is.sampled; whole = ap (λ k. k % s) at ∙ no_rest s (m + rows / s) is.sampled; near = omega (arith, is.near) }

-- ---- a list of sizes, the first of which have the bytes of the group

pub record AreAddedBefore (s rows b before i len : ℕ) (old sizes : List ℕ) : Type 0 where
  pub first : IsBefore s rows before i
  pub long : length sizes ≡ len
  pub done : (k : ℕ) → k < i → slice_index sizes k ≡ slice_index old k + samples_in rows k s * b
  pub left : (k : ℕ) → i ≤ k → k < len → slice_index sizes k ≡ slice_index old k
  pub small : (k : ℕ) → k < len → slice_index old k + samples_in rows k s * b ≤ 2 ^ 26

pub chunk_fits : (s rows b before i len n : ℕ) (old sizes : List ℕ) → AreAddedBefore s rows b before i len old sizes → i < len → samples_in rows i s ≡ n → slice_index sizes i + n * b ≤ 2 ^ 26
chunk_fits s rows b before i len n old sizes are within count =
    let here = are.left i (omega arith) within in
    let bound = are.small i within in
    let product : samples_in rows i s * b ≡ n * b = ap (λ k. k * b) count in
    omega (arith, here, bound, product)

pub chunk_added : (s rows b before next i len n : ℕ) (old sizes : List ℕ) → AreAddedBefore s rows b before i len old sizes → i < len → samples_in rows i s ≡ n → IsBefore s rows next (i + 1) → AreAddedBefore s rows b next (i + 1) len old (set sizes i (slice_index sizes i + n * b))
chunk_added s rows b before next i len n old sizes are within count first =
    let here = are.left i (omega arith) within in
    let new : ℕ = slice_index sizes i + n * b in
    record {
      first = first;
      long = length-set sizes i new ∙ are.long;
      done = λ k lt. elim (cases_lt k i) [
        | inl earlier ↦ get_or-set_other sizes i k new 0 (omega (arith, earlier)) ∙ are.done k earlier
        | inr le ↦
            let same : i ≡ k = omega (arith, le, lt) in
            let value : new ≡ slice_index old i + samples_in rows i s * b = ap₂ (λ x m. x + m * b) here (sym count) in
            subst (λ j. slice_index (set sizes i new) j ≡ slice_index old j + samples_in rows j s * b) same (get_or-set_same sizes i new 0 (omega (arith, are.long, within)) ∙ value)
      ];
      left = λ k from below_len. get_or-set_other sizes i k new 0 (omega (arith, from)) ∙ are.left k (omega (arith, from)) below_len;
      small = are.small;
    }

pub moved : (s rows b before other i len : ℕ) (old sizes new : List ℕ) → other ≡ before → new ≡ sizes → AreAddedBefore s rows b before i len old sizes → AreAddedBefore s rows b other i len old new
moved s rows b before other i len old sizes new e f are =
    subst (λ xs. AreAddedBefore s rows b other i len old xs) (sym f) (subst (λ n. AreAddedBefore s rows b n i len old sizes) (sym e) are)
