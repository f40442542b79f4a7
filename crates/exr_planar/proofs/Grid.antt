-- Lists joined row by row, and the same lists joined column by column.
use Rattle.std.proofs.Common.{◌≡◌, ◌≢◌, ◌+◌, ◌<◌, ◌≤◌, ℕ, zero, suc, List, [], ◌++◌, length, take, drop, sym, ap, ◌∙◌, subst, arith, inl, inr, append_assoc, ◌⊎◌}
use Rattle.std.proofs.Math.Seq.{take-add}
use Rattle.std.proofs.lemmas.List.{length-append, length-take, length-drop, take_all}
use Rattle.std.proofs.lemmas.Bool.{cases_lt}
use Rattle.exr_planar.specs.Planar.{joined}
use Rattle.exr_planar.proofs.Joined.{joined_same, joined_cuts, length-joined, joined_split, middle}

-- the places of m rows of n lists each, one after the other: list j of row i has its size
pub record IsGrid (m n : ℕ) (size place : ℕ → ℕ → ℕ) : Type 0 where
  pub begins : place 0 0 ≡ 0
  pub steps : (i j : ℕ) → i < m → j < n → place i j + size i j ≡ place i (suc j)
  pub turns : (i : ℕ) → i < m → place i n ≡ place (suc i) 0

-- the lists of a whole, at those places
abbrev pub cut : (size place : ℕ → ℕ → ℕ) → List ℕ → ℕ → ℕ → List ℕ
cut size place whole i j = take (size i j) (drop (place i j) whole)

-- cut and joined again
cut_step : (whole : List ℕ) (at size next : ℕ) → at + size ≡ next → take next whole ≡ take at whole ++ take size (drop at whole)
cut_step whole at size next e = ap (λ n. take n whole) (sym e) ∙ take-add at size whole

pub joined_again : (m n : ℕ) (size place : ℕ → ℕ → ℕ) (whole : List ℕ) → IsGrid m n size place → length whole ≡ place m 0
    → joined m (λ i. joined n (cut size place whole i)) ≡ whole
joined_again m n size place whole grid long =
    let row = λ (i : ℕ) (lt : i < m).
    ap (λ (k : ℕ). take k whole) (sym (grid.turns i lt)) ∙ joined_cuts n (cut size place whole i) (place i) whole (λ j lt₂. cut_step whole (place i j) (size i j) (place i (suc j)) (grid.steps i j lt lt₂)) in
    let all = joined_cuts m (λ i. joined n (cut size place whole i)) (λ i. place i 0) whole row in
    let none : take (place 0 0) whole ≡ [] = ap (λ (k : ℕ). take k whole) grid.begins in
    sym (sym (take_all (place m 0) whole (omega (arith, long))) ∙ all ∙ ap (λ (l : List ℕ). l ++ joined m (λ i. joined n (cut size place whole i))) none)

-- lists of those sizes
pub record AreSized (m n : ℕ) (size : ℕ → ℕ → ℕ) (list : ℕ → ℕ → List ℕ) : Type 0 where
  pub each : (i j : ℕ) → i < m → j < n → length (list i j) ≡ size i j

pub row_length : (m n : ℕ) (size place : ℕ → ℕ → ℕ) (list : ℕ → ℕ → List ℕ) (i j : ℕ) → IsGrid m n size place → AreSized m n size list → i < m → j ≤ n
    → place i 0 + length (joined j (list i)) ≡ place i j
row_length m n size place list i j grid sized lt le =
    length-joined j (list i) (place i) (λ k lt₂. let e = sized.each i k lt (omega arith) in let f = grid.steps i k lt (omega arith) in omega arith)

pub rows_length : (m n : ℕ) (size place : ℕ → ℕ → ℕ) (list : ℕ → ℕ → List ℕ) (i : ℕ) → IsGrid m n size place → AreSized m n size list → i ≤ m
    → length (joined i (λ k. joined n (list k))) ≡ place i 0
rows_length m n size place list i grid sized le =
    let begins = grid.begins in
    let all = length-joined i (λ k. joined n (list k)) (λ k. place k 0) (λ k lt. let e = row_length m n size place list k n grid sized (omega arith) (omega arith) in let f = grid.turns k (omega arith) in omega arith) in
    omega arith

-- what was joined is cut again
pub cut_again : (m n : ℕ) (size place : ℕ → ℕ → ℕ) (list : ℕ → ℕ → List ℕ) (i j : ℕ) → IsGrid m n size place → AreSized m n size list → i < m → j < n
    → cut size place (joined m (λ k. joined n (list k))) i j ≡ list i j
cut_again m n size place list i j grid sized lt lt₂ =
    let s = joined_split m i (λ k. joined n (list k)) lt in
    let t = joined_split n j (list i) lt₂ in
    let above = joined i (λ k. joined n (list k)) in
    let left = joined j (list i) in
    let whole : joined m (λ k. joined n (list k)) ≡ (above ++ left) ++ (list i j ++ (t.0 ++ s.0)) =
    s.1 ∙ ap (λ (l : List ℕ). above ++ (l ++ s.0)) t.1
    ∙ ap (λ (l : List ℕ). above ++ l) (append_assoc left (list i j ++ t.0) s.0 ∙ ap (λ (l : List ℕ). left ++ l) (append_assoc (list i j) t.0 s.0))
    ∙ sym (append_assoc above left (list i j ++ (t.0 ++ s.0))) in
    let a = rows_length m n size place list i grid sized (omega arith) in
    let b = row_length m n size place list i j grid sized lt (omega arith) in
    let at : length (above ++ left) ≡ place i j = let e = length-append above left in omega arith in
    ap (λ (l : List ℕ). take (size i j) (drop (place i j) l)) whole ∙ middle (above ++ left) (list i j) (t.0 ++ s.0) (place i j) (size i j) at (sized.each i j lt lt₂)

-- and so is a whole row
pub row_again : (m n : ℕ) (size place : ℕ → ℕ → ℕ) (list : ℕ → ℕ → List ℕ) (i long : ℕ) → IsGrid m n size place → AreSized m n size list → i < m → place i 0 + long ≡ place (suc i) 0
    → take long (drop (place i 0) (joined m (λ k. joined n (list k)))) ≡ joined n (list i)
row_again m n size place list i long grid sized lt e =
    let s = joined_split m i (λ k. joined n (list k)) lt in
    let above = joined i (λ k. joined n (list k)) in
    let a = rows_length m n size place list i grid sized (omega arith) in
    let b = row_length m n size place list i n grid sized lt (omega arith) in
    let f = grid.turns i lt in
    ap (λ (l : List ℕ). take long (drop (place i 0) l)) s.1 ∙ middle above (joined n (list i)) s.0 (place i 0) long a (omega arith)

-- ---- places

pub row_ordered : (m n : ℕ) (size place : ℕ → ℕ → ℕ) (i j k : ℕ) → IsGrid m n size place → i < m → j ≤ k → k ≤ n → place i j ≤ place i k
row_ordered m n size place i j zero grid lt le le₂ = let e : j ≡ 0 = omega arith in let f = ap (place i) e in omega arith
row_ordered m n size place i j (suc k) grid lt le le₂ =
    elim (cases_lt k j) [
      | inl h ↦ let e : j ≡ suc k = omega arith in let f = ap (place i) e in omega arith
      | inr h ↦ let r = row_ordered m n size place i j k grid lt h (omega arith) in let s = grid.steps i k lt (omega arith) in omega arith
    ]

pub rows_ordered : (m n : ℕ) (size place : ℕ → ℕ → ℕ) (i k : ℕ) → IsGrid m n size place → i ≤ k → k ≤ m → place i 0 ≤ place k 0
rows_ordered m n size place i zero grid le le₂ = let e : i ≡ 0 = omega arith in let f = ap (λ (i : ℕ). place i 0) e in omega arith
rows_ordered m n size place i (suc k) grid le le₂ =
    elim (cases_lt k i) [
      | inl h ↦ let e : i ≡ suc k = omega arith in let f = ap (λ (i : ℕ). place i 0) e in omega arith
      | inr h ↦
          let r = rows_ordered m n size place i k grid h (omega arith) in
          let s = row_ordered m n size place k 0 n grid (omega arith) (omega arith) (omega arith) in
          let t = grid.turns k (omega arith) in
          omega arith
    ]

-- each list lies within the whole
pub list_within : (m n : ℕ) (size place : ℕ → ℕ → ℕ) (i j : ℕ) → IsGrid m n size place → i < m → j < n → place i j + size i j ≤ place m 0
list_within m n size place i j grid lt lt₂ =
    let a = grid.steps i j lt lt₂ in
    let b = row_ordered m n size place i (suc j) n grid lt (omega arith) (omega arith) in
    let c = grid.turns i lt in
    let d = rows_ordered m n size place (suc i) m grid (omega arith) (omega arith) in
    omega arith

-- an earlier one ends before a later one begins
pub list_before : (m n : ℕ) (size place : ℕ → ℕ → ℕ) (i j k l : ℕ) → IsGrid m n size place → i < k → k < m → j < n → l < n → place i j + size i j ≤ place k l
list_before m n size place i j k l grid lt lt₂ lt₃ lt₄ =
    let a = grid.steps i j (omega arith) lt₃ in
    let b = row_ordered m n size place i (suc j) n grid (omega arith) (omega arith) (omega arith) in
    let c = grid.turns i (omega arith) in
    let d = rows_ordered m n size place (suc i) k grid (omega arith) (omega arith) in
    let e = row_ordered m n size place k 0 l grid lt₂ (omega arith) (omega arith) in
    omega arith

pub list_left : (m n : ℕ) (size place : ℕ → ℕ → ℕ) (i j l : ℕ) → IsGrid m n size place → i < m → j < l → l < n → place i j + size i j ≤ place i l
list_left m n size place i j l grid lt lt₂ lt₃ =
    let a = grid.steps i j lt (omega arith) in
    let b = row_ordered m n size place i (suc j) l grid lt (omega arith) (omega arith) in
    omega arith

-- two of them do not overlap
pub list_apart : (m n : ℕ) (size place : ℕ → ℕ → ℕ) (i j k l : ℕ) → IsGrid m n size place → i < m → k < m → j < n → l < n → (i ≢ k) ⊎ (j ≢ l)
    → (place i j + size i j ≤ place k l) ⊎ (place k l + size k l ≤ place i j)
list_apart m n size place i j k l grid lt lt₂ lt₃ lt₄ apart =
    elim (cases_lt i k) [
      | inl h ↦ inl (list_before m n size place i j k l grid h lt₂ lt₃ lt₄)
      | inr h ↦ elim (cases_lt k i) [
        | inl h₂ ↦ inr (list_before m n size place k l i j grid h₂ lt lt₄ lt₃)
        | inr h₂ ↦
            let e : i ≡ k = omega arith in
            elim (cases_lt j l) [
              | inl h₃ ↦ inl (subst (λ (i : ℕ). place i j + size i j ≤ place k l) (sym e) (list_left m n size place k j l grid lt₂ h₃ lt₄))
              | inr h₃ ↦ elim (cases_lt l j) [
                | inl h₄ ↦ inr (subst (λ (i : ℕ). place k l + size k l ≤ place i j) (sym e) (list_left m n size place k l j grid lt₂ h₄ lt₃))
                | inr h₄ ↦ absurd (elim apart [ inl ne ↦ ne e | inr ne ↦ let f : j ≡ l = omega arith in ne f ])
              ]
            ]
      ]
    ]

-- ---- a whole grid against its columns

-- the sizes of one are those of the other with rows for columns
abbrev pub swapped : (ℕ → ℕ → ℕ) → ℕ → ℕ → ℕ
swapped size i j = size j i

pub cuts_sized : (m n : ℕ) (size place : ℕ → ℕ → ℕ) (whole : List ℕ) → IsGrid m n size place → length whole ≡ place m 0 → AreSized m n size (cut size place whole)
cuts_sized m n size place whole grid long = record {
  each = λ i j lt lt₂.
      let a = list_within m n size place i j grid lt lt₂ in
      let b = length-take (size i j) (drop (place i j) whole) in
      let c = length-drop (place i j) whole in
      omega arith;
}

-- the columns of a whole, joined, have its lists at their places; and the columns of those are the whole
pub columns_cut : (m n : ℕ) (size place column_place : ℕ → ℕ → ℕ) (whole : List ℕ) (i j : ℕ) → IsGrid m n size place → IsGrid n m (swapped size) column_place → length whole ≡ place m 0 → i < m → j < n
    → cut (swapped size) column_place (joined n (λ j. joined m (λ i. cut size place whole i j))) j i ≡ cut size place whole i j
columns_cut m n size place column_place whole i j grid columns long lt lt₂ =
    let sized = cuts_sized m n size place whole grid long in
    let turned : AreSized n m (swapped size) (λ j i. cut size place whole i j) = record { each = λ j i lt lt₂. sized.each i j lt₂ lt } in
    cut_again n m (swapped size) column_place (λ j i. cut size place whole i j) j i columns turned lt₂ lt

pub columns_restore : (m n : ℕ) (size place column_place : ℕ → ℕ → ℕ) (whole : List ℕ) → IsGrid m n size place → IsGrid n m (swapped size) column_place → length whole ≡ place m 0
    → joined m (λ i. joined n (λ j. cut (swapped size) column_place (joined n (λ j. joined m (λ i. cut size place whole i j))) j i)) ≡ whole
columns_restore m n size place column_place whole grid columns long =
    joined_same m _ _ (λ i lt. joined_same n _ _ (λ j lt₂. columns_cut m n size place column_place whole i j grid columns long lt lt₂))
    ∙ joined_again m n size place whole grid long

-- a list that has each of the whole's lists at its place in the columns is those columns
pub columns_are : (m n : ℕ) (size place column_place : ℕ → ℕ → ℕ) (whole other : List ℕ) → IsGrid m n size place → IsGrid n m (swapped size) column_place → length other ≡ column_place n 0
    → ((i j : ℕ) → i < m → j < n → cut (swapped size) column_place other j i ≡ cut size place whole i j)
    → other ≡ joined n (λ j. joined m (λ i. cut size place whole i j))
columns_are m n size place column_place whole other grid columns long each =
    sym (joined_again n m (swapped size) column_place other columns long)
    ∙ joined_same n _ _ (λ j lt. joined_same m _ _ (λ i lt₂. each i j lt₂ lt))
