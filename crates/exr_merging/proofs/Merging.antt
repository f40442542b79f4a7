-- Merging keeps the weight of all trees, how often each entry stands in them, and the bounds on their depths.
use Rattle.std.proofs.Common.{◌≡◌, ℕ, zero, suc, ◌+◌, ◌-◌, ◌/◌, ◌^◌, ◌<◌, ◌≤◌, true, false, cond, eqb, ltb, ◌&&◌, List, [], ◌∷◌, length, get_or, max, refl, sym, ap, ◌∙◌, ap₂, subst, inl, inr, arith, add-zero, zero-add}
use Rattle.std.specs.List.{sum_by, sum, count_by}
use Rattle.std.proofs.lemmas.Bool.{cases_lt, cases_eq, cond_both, eq-eqb, ne_eqb, lt-ltb, le-ltb, ltb-true, ltb-false, eqb-true, eqb-false, or_cases, or_parts, and_parts}
use Rattle.std.proofs.lemmas.List.{length-append, get_or_append_left, get_or_at, get_or_past}
use Rattle.std.proofs.lemmas.List.Sums.{sum_by-cons, sum_by_push}
use Rattle.std.proofs.lemmas.Nat.{pow-add}
use Rattle.std.proofs.Math.Pow.{pow_mono}
use Rattle.exr_codes.specs.Codes.{weight_of, IsComplete}
use Rattle.exr_merging.specs.Trees.{Tree, leaf, node, tree_weight, least_entry, comes_first, insert_tree, leaves_from, merged_within, depth_of, depth_in, values_below, merged_lengths}
use Rattle.exr_merging.specs.Steps.{sum_trees}

-- ---- a measure that adds up over merged trees adds up over the list

pub insert_sum : (f : Tree → ℕ) (t : Tree) (trees : List Tree) → sum_trees f (insert_tree t trees) ≡ f t + sum_trees f trees
insert_sum f t [] = refl
insert_sum f t (u ∷ trees) =
    cond_both (comes_first t u) (t ∷ u ∷ trees) (u ∷ insert_tree t trees) (λ (ts : List Tree). sum_trees f ts ≡ f t + (f u + sum_trees f trees)) (λ e. refl) (λ e. omega (arith, insert_sum f t trees))

pub merged_sum : (f : Tree → ℕ) → ((a b : Tree) → f (node a b) ≡ f a + f b) → (n : ℕ) (trees : List Tree) → sum_trees f (merged_within n trees) ≡ sum_trees f trees
merged_sum f adds zero trees = refl
merged_sum f adds (suc n) [] = refl
merged_sum f adds (suc n) (a ∷ []) = refl
merged_sum f adds (suc n) (a ∷ b ∷ trees) = merged_sum f adds n (insert_tree (node a b) trees) ∙ omega (arith, insert_sum f (node a b) trees, adds a b)

-- how many trees are left
pub length-insert_tree : (t : Tree) (trees : List Tree) → length (insert_tree t trees) ≡ suc (length trees)
length-insert_tree t [] = refl
length-insert_tree t (u ∷ trees) =
    cond_both (comes_first t u) (t ∷ u ∷ trees) (u ∷ insert_tree t trees) (λ (ts : List Tree). length ts ≡ suc (suc (length trees))) (λ e. refl) (λ e. ap suc (length-insert_tree t trees))

one_left : (n : ℕ) (trees : List Tree) → 0 < length trees → length trees ≤ n + 1 → (t : Tree) × (merged_within n trees ≡ t ∷ [])
one_left n [] some few = absurd (omega arith)
one_left zero (a ∷ []) some few = (a, refl)
one_left zero (a ∷ b ∷ trees) some few = absurd (omega arith)
one_left (suc n) (a ∷ []) some few = (a, refl)
one_left (suc n) (a ∷ b ∷ trees) some few = one_left n (insert_tree (node a b) trees) (omega (arith, length-insert_tree (node a b) trees)) (omega (arith, length-insert_tree (node a b) trees))

-- ---- entries

-- how many leaves of a tree have the entry
abbrev pub times_in : ℕ → Tree → ℕ
times_in k (leaf weight entry) = cond (eqb k entry) 1 0
times_in k (node a b) = times_in k a + times_in k b

-- what a tree's leaves with the entry take of 2 ^ 58
abbrev pub taken_by : ℕ → Tree → ℕ → ℕ
taken_by depth (leaf weight entry) k = cond (eqb k entry) (2 ^ (58 - depth)) 0
taken_by depth (node a b) k = taken_by (depth + 1) a k + taken_by (depth + 1) b k

abbrev pub height : Tree → ℕ
height (leaf weight entry) = 0
height (node a b) = max (height a) (height b) + 1

weight_none : weight_of 0 ≡ 0
weight_none = refl

weight_some : (n : ℕ) → 0 < n → weight_of n ≡ 2 ^ (58 - n)
weight_some zero some = absurd (omega arith)
weight_some (suc n) some = rw (ne_eqb (suc n) 0 (λ e. omega arith)) refl

-- an entry that is not there has no depth and takes nothing
absent : (k depth : ℕ) (t : Tree) → times_in k t ≡ 0 → (depth_of depth t k ≡ 0) × (taken_by depth t k ≡ 0)
absent k depth (leaf weight entry) none = elim (cases_eq k entry) [
  | inl same ↦ absurd (let one : cond (eqb k entry) 1 0 ≡ 1 = rw (eq-eqb k entry same) refl in let clash : ◌≡◌ {A = ℕ} 1 0 = sym one ∙ none in omega arith)
  | inr other ↦ (rw (ne_eqb k entry other) refl, rw (ne_eqb k entry other) refl)
]
absent k depth (node a b) none =
    let p = absent k (depth + 1) a (omega arith) in
    let q = absent k (depth + 1) b (omega arith) in
    (omega arith, omega arith)

-- an entry that is there once takes what its depth says
pub present : (k depth : ℕ) (t : Tree) → 0 < depth → times_in k t ≡ 1 → (weight_of (depth_of depth t k) ≡ taken_by depth t k) × (depth_of depth t k ≤ depth + height t)
present k depth (leaf weight entry) some once = elim (cases_eq k entry) [
  | inl same ↦ rw (eq-eqb k entry same) (weight_some depth some, omega arith)
  | inr other ↦ absurd (let none : cond (eqb k entry) 1 0 ≡ 0 = rw (ne_eqb k entry other) refl in let clash : ◌≡◌ {A = ℕ} 0 1 = sym none ∙ once in omega arith)
]
present k depth (node a b) some once = elim (cases_eq (times_in k a) 0) [
  | inl none ↦
      let p = absent k (depth + 1) a none in
      let q = present k (depth + 1) b (omega arith) (omega arith) in
      (rw (p.0, p.1, zero-add, zero-add) q.0, omega arith)
  | inr there ↦
      let p = absent k (depth + 1) b (omega arith) in
      let q = present k (depth + 1) a (omega arith) (omega arith) in
      (rw (p.0, p.1, add-zero, add-zero) q.0, omega arith)
]

-- an entry that is there stands no higher than the root
pub at_least : (k depth : ℕ) (t : Tree) → times_in k t ≡ 1 → depth ≤ depth_of depth t k
at_least k depth (leaf weight entry) once = elim (cases_eq k entry) [
  | inl same ↦ rw (eq-eqb k entry same) (omega arith)
  | inr other ↦ absurd (let none : cond (eqb k entry) 1 0 ≡ 0 = rw (ne_eqb k entry other) refl in let clash : ◌≡◌ {A = ℕ} 0 1 = sym none ∙ once in omega arith)
]
at_least k depth (node a b) once = elim (cases_eq (times_in k a) 0) [
  | inl none ↦ omega (arith, at_least k (depth + 1) b (omega arith))
  | inr there ↦ omega (arith, at_least k (depth + 1) a (omega arith))
]

-- the same at the root, which is no leaf
pub root_is : (k : ℕ) (a b : Tree) → times_in k (node a b) ≤ 1 → (weight_of (depth_of 0 (node a b) k) ≡ taken_by 0 (node a b) k) × (depth_of 0 (node a b) k ≤ height (node a b))
root_is k a b few = elim (cases_eq (times_in k a) 0) [
  | inl none ↦ elim (cases_eq (times_in k b) 0) [
    | inl nowhere ↦
        let p = absent k 1 a none in
        let q = absent k 1 b nowhere in
        (rw (p.0, p.1, q.0, q.1) weight_none, omega arith)
    | inr there ↦
        let p = absent k 1 a none in
        let q = present k 1 b (omega arith) (omega arith) in
        (rw (p.0, p.1, zero-add (depth_of 1 b k), zero-add (taken_by 1 b k)) q.0, omega arith)
  ]
  | inr there ↦
      let p = absent k 1 b (omega arith) in
      let q = present k 1 a (omega arith) (omega arith) in
      (rw (p.0, p.1, add-zero (depth_of 1 a k), add-zero (taken_by 1 a k)) q.0, omega arith)
]

-- ---- sums over all entries

abbrev pub total : (ℕ → ℕ) → ℕ → ℕ
total f zero = 0
total f (suc n) = total f n + f n

pub total-add : (f g : ℕ → ℕ) (n : ℕ) → total (λ k. f k + g k) n ≡ total f n + total g n
total-add f g zero = refl
total-add f g (suc n) = let h = total-add f g n in omega arith

pub total-same : (f g : ℕ → ℕ) (n : ℕ) → ((k : ℕ) → f k ≡ g k) → total f n ≡ total g n
total-same f g zero same = refl
total-same f g (suc n) same = ap₂ ◌+◌ (total-same f g n same) (same n)

total-none : (entry w n : ℕ) → n ≤ entry → total (λ k. cond (eqb k entry) w 0) n ≡ 0
total-none entry w zero past = refl
total-none entry w (suc n) past = rw (total-none entry w n (omega arith), ne_eqb n entry (λ e. omega arith)) refl

pub total-one : (entry w n : ℕ) → entry < n → total (λ k. cond (eqb k entry) w 0) n ≡ w
total-one entry w zero within = absurd (omega arith)
total-one entry w (suc n) within = elim (cases_eq n entry) [
  | inl same ↦ rw (total-none entry w n (omega arith), eq-eqb n entry same) (zero-add w)
  | inr other ↦ rw (total-one entry w n (omega arith), ne_eqb n entry other) (add-zero w)
]

-- the leaves of a tree take all that their depth leaves
pub total_taken : (depth : ℕ) (t : Tree) (n : ℕ) → depth + height t ≤ 58 → ((k : ℕ) → n ≤ k → times_in k t ≡ 0) → total (taken_by depth t) n ≡ 2 ^ (58 - depth)
total_taken depth (leaf weight entry) n fits inside = elim (cases_lt entry n) [
  | inl within ↦ total-one entry (2 ^ (58 - depth)) n within
  | inr past ↦ absurd (let one : cond (eqb entry entry) 1 0 ≡ 1 = rw (eq-eqb entry entry refl) refl in let clash : ◌≡◌ {A = ℕ} 1 0 = sym one ∙ inside entry past in omega arith)
]
total_taken depth (node a b) n fits inside =
    let p = total_taken (depth + 1) a n (omega arith) (λ k past. let h = inside k past in omega arith) in
    let q = total_taken (depth + 1) b n (omega arith) (λ k past. let h = inside k past in omega arith) in
    let e : 58 - depth ≡ (58 - (depth + 1)) + 1 = omega arith in
    total-add (taken_by (depth + 1) a) (taken_by (depth + 1) b) n ∙ rw (e, pow-add 2 (58 - (depth + 1)) 1) (omega (arith, p, q))

pub length-values_below : (f : ℕ → ℕ) (n : ℕ) → length (values_below f n) ≡ n
length-values_below f zero = refl
length-values_below f (suc n) = rw (length-append, length-values_below f n) (omega arith)

pub get_or-values_below : (f : ℕ → ℕ) (n k : ℕ) → k < n → get_or (values_below f n) k 0 ≡ f k
get_or-values_below f zero k within = absurd (omega arith)
get_or-values_below f (suc n) k within = elim (cases_eq k n) [
  | inl same ↦ rw same (get_or_at (values_below f n) (f n) [] 0 n (length-values_below f n))
  | inr other ↦ get_or_append_left (values_below f n) (f n ∷ []) 0 k (omega (arith, length-values_below f n)) ∙ get_or-values_below f n k (omega arith)
]

pub sum_values_below : (g f : ℕ → ℕ) (n : ℕ) → sum_by g (values_below f n) ≡ total (λ k. g (f k)) n
sum_values_below g f zero = refl
sum_values_below g f (suc n) = sum_by_push g (values_below f n) (f n) ∙ ap (λ s. s + g (f n)) (sum_values_below g f n)

-- ---- the leaves

pub leaves_times : (k entry : ℕ) (weights : List ℕ) → (sum_trees (times_in k) (leaves_from entry weights) ≤ 1) × (k < entry → sum_trees (times_in k) (leaves_from entry weights) ≡ 0) × (entry + length weights ≤ k → sum_trees (times_in k) (leaves_from entry weights) ≡ 0)
leaves_times k entry [] = (omega arith, λ h. refl, λ h. refl)
leaves_times k entry (weight ∷ weights) =
    let h = leaves_times k (entry + 1) weights in
    let here = leaf weight entry in
    let P : List Tree → Type 0 = λ (ts : List Tree). (sum_trees (times_in k) ts ≤ 1) × (k < entry → sum_trees (times_in k) ts ≡ 0) × (entry + suc (length weights) ≤ k → sum_trees (times_in k) ts ≡ 0) in
    let added : P (insert_tree here (leaves_from (entry + 1) weights)) =
    rw (insert_sum (times_in k) here (leaves_from (entry + 1) weights)) (elim (cases_eq k entry) [
      | inl same ↦ let none = h.1 (omega arith) in rw (none, eq-eqb k entry same) (omega arith, λ less. absurd (omega arith), λ past. absurd (omega arith))
      | inr other ↦ rw (ne_eqb k entry other, zero-add) (h.0, λ less. h.1 (omega arith), λ past. h.2 (omega arith))
    ])
    in
    cond_both (eqb weight 0) (leaves_from (entry + 1) weights) (insert_tree here (leaves_from (entry + 1) weights)) P (λ e. (h.0, λ less. h.1 (omega arith), λ past. h.2 (omega arith))) (λ e. added)

leaves_times_some : (j entry : ℕ) (weights : List ℕ) → 0 < get_or weights j 0 → sum_trees (times_in (entry + j)) (leaves_from entry weights) ≡ 1
leaves_times_some j entry [] some = absurd (omega arith)
leaves_times_some zero entry (weight ∷ weights) some =
    let here = leaf weight entry in
    let others = leaves_from (entry + 1) weights in
    let none = (leaves_times (entry + 0) (entry + 1) weights).1 (omega arith) in
    rw (ne_eqb weight 0 (λ e. omega arith)) (insert_sum (times_in (entry + 0)) here others ∙ rw (none, eq-eqb (entry + 0) entry (omega arith)) refl)
leaves_times_some (suc j) entry (weight ∷ weights) some =
    let k = entry + suc j in
    let here = leaf weight entry in
    let others = leaves_from (entry + 1) weights in
    let shift : k ≡ (entry + 1) + j = omega arith in
    let h : sum_trees (times_in k) others ≡ 1 = subst (λ (i : ℕ). sum_trees (times_in i) others ≡ 1) (sym shift) (leaves_times_some j (entry + 1) weights some) in
    cond_both (eqb weight 0) others (insert_tree here others) (λ (ts : List Tree). sum_trees (times_in k) ts ≡ 1) (λ e. h)
    (λ e. insert_sum (times_in k) here others ∙ rw (h, ne_eqb k entry (λ f. omega arith)) refl)

pub leaves_weight : (entry : ℕ) (weights : List ℕ) → sum_trees tree_weight (leaves_from entry weights) ≡ sum weights
leaves_weight entry [] = refl
leaves_weight entry (weight ∷ weights) =
    let h = leaves_weight (entry + 1) weights in
    rw (sum_by-cons (λ w. w) weight weights) (cond_both (eqb weight 0) (leaves_from (entry + 1) weights) (insert_tree (leaf weight entry) (leaves_from (entry + 1) weights)) (λ (ts : List Tree). sum_trees tree_weight ts ≡ weight + sum weights)
    (λ e. omega (arith, h, eqb-true weight 0 e)) (λ e. omega (arith, h, insert_sum tree_weight (leaf weight entry) (leaves_from (entry + 1) weights))))

pub length-leaves : (entry : ℕ) (weights : List ℕ) → (length (leaves_from entry weights) ≡ count_by (λ w. ltb 0 w) weights) × (length (leaves_from entry weights) ≤ length weights)
length-leaves entry [] = (refl, omega arith)
length-leaves entry (weight ∷ weights) =
    let h = length-leaves (entry + 1) weights in
    rw (sum_by-cons (λ w. cond (ltb 0 w) 1 0) weight weights) (cond_both (eqb weight 0) (leaves_from (entry + 1) weights) (insert_tree (leaf weight entry) (leaves_from (entry + 1) weights)) (λ (ts : List Tree). (length ts ≡ cond (ltb 0 weight) 1 0 + count_by (λ w. ltb 0 w) weights) × (length ts ≤ suc (length weights)))
    (λ e. let none = eqb-true weight 0 e in (rw (le-ltb 0 weight (omega arith)) (omega (arith, h.0)), omega (arith, h.1)))
    (λ e. let some = eqb-false weight 0 e in let l = length-insert_tree (leaf weight entry) (leaves_from (entry + 1) weights) in (rw (lt-ltb 0 weight (omega arith)) (omega (arith, h.0, l)), omega (arith, h.1, l))))

abbrev pub leaf_count : Tree → ℕ
leaf_count (leaf weight entry) = 1
leaf_count (node a b) = leaf_count a + leaf_count b

pub leaves_count : (entry : ℕ) (weights : List ℕ) → sum_trees leaf_count (leaves_from entry weights) ≡ length (leaves_from entry weights)
leaves_count entry [] = refl
leaves_count entry (weight ∷ weights) =
    let h = leaves_count (entry + 1) weights in
    cond_both (eqb weight 0) (leaves_from (entry + 1) weights) (insert_tree (leaf weight entry) (leaves_from (entry + 1) weights)) (λ (ts : List Tree). sum_trees leaf_count ts ≡ length ts) (λ e. h)
    (λ e. omega (arith, h, insert_sum leaf_count (leaf weight entry) (leaves_from (entry + 1) weights), length-insert_tree (leaf weight entry) (leaves_from (entry + 1) weights)))

-- ---- the lightest trees come first, and none is too deep for its weight

abbrev AllAbove : ℕ → List Tree → Type 0
AllAbove w [] = Unit {0}
AllAbove w (t ∷ trees) = (w ≤ tree_weight t) × AllAbove w trees

abbrev AreInOrder : List Tree → Type 0
AreInOrder [] = Unit {0}
AreInOrder (t ∷ trees) = AllAbove (tree_weight t) trees × AreInOrder trees

above_weaker : (v w : ℕ) (trees : List Tree) → v ≤ w → AllAbove w trees → AllAbove v trees
above_weaker v w [] le above = tt
above_weaker v w (t ∷ trees) le above = (omega (arith, above.0), above_weaker v w trees le above.1)

above_insert : (w : ℕ) (t : Tree) (trees : List Tree) → w ≤ tree_weight t → AllAbove w trees → AllAbove w (insert_tree t trees)
above_insert w t [] le above = (le, tt)
above_insert w t (u ∷ trees) le above =
    cond_both (comes_first t u) (t ∷ u ∷ trees) (u ∷ insert_tree t trees) (AllAbove w) (λ e. (le, above)) (λ e. (above.0, above_insert w t trees le above.1))

first_is_lighter : (t u : Tree) → comes_first t u ≡ true → tree_weight t ≤ tree_weight u
first_is_lighter t u e = elim (or_cases (ltb (tree_weight t) (tree_weight u)) (eqb (tree_weight t) (tree_weight u) && ltb (least_entry t) (least_entry u)) e) [
  | inl less ↦ omega (arith, ltb-true (tree_weight t) (tree_weight u) less)
  | inr tie ↦ omega (arith, eqb-true (tree_weight t) (tree_weight u) ((and_parts (eqb (tree_weight t) (tree_weight u)) (ltb (least_entry t) (least_entry u)) tie).0))
]

later_is_heavier : (t u : Tree) → comes_first t u ≡ false → tree_weight u ≤ tree_weight t
later_is_heavier t u e = ltb-false (tree_weight t) (tree_weight u) ((or_parts (ltb (tree_weight t) (tree_weight u)) (eqb (tree_weight t) (tree_weight u) && ltb (least_entry t) (least_entry u)) e).0)

order_insert : (t : Tree) (trees : List Tree) → AreInOrder trees → AreInOrder (insert_tree t trees)
order_insert t [] order = (tt, tt)
order_insert t (u ∷ trees) order =
    cond_both (comes_first t u) (t ∷ u ∷ trees) (u ∷ insert_tree t trees) AreInOrder
    (λ e. let le = first_is_lighter t u e in ((le, above_weaker (tree_weight t) (tree_weight u) trees le order.0), order))
    (λ e. (above_insert (tree_weight u) t trees (later_is_heavier t u e) order.0, order_insert t trees order.1))

order_leaves : (entry : ℕ) (weights : List ℕ) → AreInOrder (leaves_from entry weights)
order_leaves entry [] = tt
order_leaves entry (weight ∷ weights) =
    let h = order_leaves (entry + 1) weights in
    cond_both (eqb weight 0) (leaves_from (entry + 1) weights) (insert_tree (leaf weight entry) (leaves_from (entry + 1) weights)) AreInOrder (λ e. h) (λ e. order_insert (leaf weight entry) (leaves_from (entry + 1) weights) h)

-- a tree is at most d deep, heavy for its own depth, and heavy for the greatest depth
pub record IsHeavy (d : ℕ) (t : Tree) : Type 0 where
  pub deep : height t ≤ d
  pub own : 2 ^ (height t / 2) ≤ tree_weight t
  pub all : 2 ^ ((d - 1) / 2) ≤ tree_weight t

abbrev AreHeavy : ℕ → List Tree → Type 0
AreHeavy d [] = Unit {0}
AreHeavy d (t ∷ trees) = IsHeavy d t × AreHeavy d trees

heavy_insert : (d : ℕ) (t : Tree) (trees : List Tree) → IsHeavy d t → AreHeavy d trees → AreHeavy d (insert_tree t trees)
heavy_insert d t [] heavy others = (heavy, tt)
heavy_insert d t (u ∷ trees) heavy others =
    cond_both (comes_first t u) (t ∷ u ∷ trees) (u ∷ insert_tree t trees) (AreHeavy d) (λ e. (heavy, others)) (λ e. (others.0, heavy_insert d t trees heavy others.1))

heavy_leaf : (weight entry : ℕ) → 0 < weight → IsHeavy 0 (leaf weight entry)
heavy_leaf weight entry some = record { deep = omega arith; own = omega arith; all = omega arith }

heavy_leaves : (entry : ℕ) (weights : List ℕ) → AreHeavy 0 (leaves_from entry weights)
heavy_leaves entry [] = tt
heavy_leaves entry (weight ∷ weights) =
    let h = heavy_leaves (entry + 1) weights in
    cond_both (eqb weight 0) (leaves_from (entry + 1) weights) (insert_tree (leaf weight entry) (leaves_from (entry + 1) weights)) (AreHeavy 0) (λ e. h) (λ e. let some = eqb-false weight 0 e in heavy_insert 0 (leaf weight entry) (leaves_from (entry + 1) weights) (heavy_leaf weight entry (omega arith)) h)

-- one deeper: all others are heavy enough, since they are no lighter than a tree of the greatest depth
heavy_deeper : (d w : ℕ) (trees : List Tree) → 2 ^ (d / 2) ≤ w → AllAbove w trees → AreHeavy d trees → AreHeavy (d + 1) trees
heavy_deeper d w [] enough above heavy = tt
heavy_deeper d w (t ∷ trees) enough above heavy =
    let back : d + 1 - 1 ≡ d = omega arith in
    (record { deep = omega (arith, heavy.0.deep); own = heavy.0.own; all = rw back (omega (arith, above.0)) }, heavy_deeper d w trees enough above.1 heavy.1)

double : (n : ℕ) → 2 ^ (n + 1) ≡ 2 ^ n + 2 ^ n
double n = rw (pow-add 2 n 1) (omega arith)

heavy_same : (d : ℕ) (a b : Tree) → IsHeavy d a → IsHeavy d b → height (node a b) ≤ d → IsHeavy d (node a b)
heavy_same d a b p q fits =
    let mono : 2 ^ (height (node a b) / 2) ≤ 2 ^ ((d - 1) / 2 + 1) = pow_mono {i = height (node a b) / 2} {j = (d - 1) / 2 + 1} (omega arith) in
    record { deep = fits; own = omega (arith, mono, double ((d - 1) / 2), p.all, q.all); all = omega (arith, p.all) }

-- two trees of which one has the greatest depth, and what they weigh together
heavy_new : (d x y : ℕ) → 2 ^ (d / 2) ≤ x → 2 ^ ((d - 1) / 2) ≤ y → 2 ^ ((d + 1) / 2) ≤ x + y
heavy_new d x y deep other = elim (cases_eq ((d + 1) / 2) (d / 2)) [
  | inl even ↦ rw even (omega (arith, deep))
  | inr odd ↦
      let p : (d + 1) / 2 ≡ d / 2 + 1 = omega arith in
      let q : (d - 1) / 2 ≡ d / 2 = omega arith in
      let y_heavy : 2 ^ (d / 2) ≤ y = rw (← q) other in
      rw (p, double (d / 2)) (omega arith)
]

heavy_above : (d x y : ℕ) (a b : Tree) → x ≡ tree_weight a → y ≡ tree_weight b → height (node a b) ≡ d + 1 → 2 ^ ((d + 1) / 2) ≤ x + y → 2 ^ (d / 2) ≤ x + y → IsHeavy (d + 1) (node a b)
heavy_above d x y a b ex ey deep own all =
    let back : d + 1 - 1 ≡ d = omega arith in
    record { deep = omega arith; own = rw (deep, ← ex, ← ey) own; all = rw (back, ← ex, ← ey) all }

merge_heavy : (d : ℕ) (a b : Tree) (trees : List Tree) → AreInOrder (a ∷ b ∷ trees) → AreHeavy d (a ∷ b ∷ trees) → (e : ℕ) × AreHeavy e (insert_tree (node a b) trees)
merge_heavy d a b trees order heavy = elim (cases_lt d (height (node a b))) [
  | inr fits ↦ (d, heavy_insert d (node a b) trees (heavy_same d a b heavy.0 heavy.1.0 fits) heavy.1.1)
  | inl deeper ↦
      let wa = tree_weight a in
      let wb = tree_weight b in
      let deep : height (node a b) ≡ d + 1 = omega (arith, heavy.0.deep, heavy.1.0.deep) in
      let lighter : wa ≤ wb = order.0.0 in
      elim (cases_eq (height a) d) [
        | inl first ↦
            let enough : 2 ^ (d / 2) ≤ wa = rw (← first) heavy.0.own in
            (d + 1, heavy_insert (d + 1) (node a b) trees (heavy_above d wa wb a b refl refl deep (heavy_new d wa wb enough heavy.1.0.all) (omega (arith, enough))) (heavy_deeper d wa trees enough order.0.1 heavy.1.1))
        | inr other ↦
            let second : height b ≡ d = omega (arith, heavy.0.deep, heavy.1.0.deep) in
            let enough : 2 ^ (d / 2) ≤ wb = rw (← second) heavy.1.0.own in
            let own : 2 ^ ((d + 1) / 2) ≤ wa + wb = omega (arith, heavy_new d wb wa enough heavy.0.all) in
            (d + 1, heavy_insert (d + 1) (node a b) trees (heavy_above d wa wb a b refl refl deep own (omega (arith, enough))) (heavy_deeper d wb trees enough order.1.0 heavy.1.1))
      ]
]

merged_heavy : (n d : ℕ) (trees : List Tree) → AreInOrder trees → AreHeavy d trees → (e : ℕ) × AreHeavy e (merged_within n trees)
merged_heavy zero d trees order heavy = (d, heavy)
merged_heavy (suc n) d [] order heavy = (d, heavy)
merged_heavy (suc n) d (a ∷ []) order heavy = (d, heavy)
merged_heavy (suc n) d (a ∷ b ∷ trees) order heavy =
    let m = merge_heavy d a b trees order heavy in
    merged_heavy n m.0 (insert_tree (node a b) trees) (order_insert (node a b) trees order.1.1) m.1

-- ---- the whole

height_small : (h w : ℕ) → 2 ^ (h / 2) ≤ w → w ≤ 2 ^ 25 + 1 → h ≤ 51
height_small h w heavy light = elim (cases_lt h 52) [
  | inl less ↦ omega arith
  | inr tall ↦ absurd (let mono : 2 ^ 26 ≤ 2 ^ (h / 2) = pow_mono {i = 26} {j = h / 2} (omega arith) in omega arith)
]

module _ (weights : List ℕ) (two : 2 ≤ count_by (λ w. ltb 0 w) weights) (light : sum weights ≤ 2 ^ 25 + 1) where
  left : (t : Tree) × (merged_within (length weights) (leaves_from 0 weights) ≡ t ∷ [])
  left = let l = length-leaves 0 weights in one_left (length weights) (leaves_from 0 weights) (omega (arith, l.0)) (omega (arith, l.1))

  pub small_height : (t : Tree) → merged_within (length weights) (leaves_from 0 weights) ≡ t ∷ [] → height t ≤ 51
  small_height t is =
      let m = merged_heavy (length weights) 0 (leaves_from 0 weights) (order_leaves 0 weights) (heavy_leaves 0 weights) in
      let heavy : AreHeavy m.0 (t ∷ []) = subst (AreHeavy m.0) is m.1 in
      let whole : tree_weight t + 0 ≡ sum weights = ap (sum_trees tree_weight) (sym is) ∙ merged_sum tree_weight (λ a b. refl) (length weights) (leaves_from 0 weights) ∙ leaves_weight 0 weights in
      height_small (height t) (tree_weight t) heavy.0.own (omega arith)

  times_few : (t : Tree) → merged_within (length weights) (leaves_from 0 weights) ≡ t ∷ [] → (k : ℕ) → (times_in k t ≤ 1) × (length weights ≤ k → times_in k t ≡ 0)
  times_few t is k =
      let h = leaves_times k 0 weights in
      let same : times_in k t + 0 ≡ sum_trees (times_in k) (leaves_from 0 weights) = ap (sum_trees (times_in k)) (sym is) ∙ merged_sum (times_in k) (λ a b. refl) (length weights) (leaves_from 0 weights) in
      (omega (arith, h.0), λ past. omega (arith, h.2 (omega arith)))

  is_complete_at : (t : Tree) → merged_within (length weights) (leaves_from 0 weights) ≡ t ∷ [] → IsComplete (values_below (depth_in (t ∷ [])) (length weights)) × ((k : ℕ) → get_or (values_below (depth_in (t ∷ [])) (length weights)) k 0 ≤ 51)
  is_complete_at (leaf weight entry) is =
      absurd (let same : ◌≡◌ {A = ℕ} 1 (sum_trees leaf_count (leaves_from 0 weights)) = sym (ap (sum_trees leaf_count) is ∙ add-zero 1) ∙ refl ∙ whole_count in omega (arith, same, leaves_count 0 weights, length-leaves 0 weights))
    where
      whole_count : sum_trees leaf_count (merged_within (length weights) (leaves_from 0 weights)) ≡ sum_trees leaf_count (leaves_from 0 weights)
      whole_count = merged_sum leaf_count (λ a b. refl) (length weights) (leaves_from 0 weights)
  is_complete_at (node a b) is =
      let t = node a b in
      let n = length weights in
      let f = depth_in (t ∷ []) in
      let low = small_height t is in
      let few = times_few t is in
      let at_most : (k : ℕ) → get_or (values_below f n) k 0 ≤ 51 =
      λ k. elim (cases_lt k n) [
        | inl within ↦ rw (get_or-values_below f n k within) (omega (arith, (root_is k a b (few k).0).1))
        | inr past ↦ omega (arith, get_or_past (values_below f n) k 0 (omega (arith, length-values_below f n)))
      ]
      in
      let same : (k : ℕ) → weight_of (f k) ≡ taken_by 0 t k = λ k. rw (add-zero (depth_of 0 t k)) ((root_is k a b (few k).0).0) in
      (record { short = λ k. omega (arith, at_most k); full = sum_values_below weight_of f n ∙ total-same (λ k. weight_of (f k)) (taken_by 0 t) n same ∙ total_taken 0 t n (omega (arith, low)) (λ k past. (few k).1 past) }, at_most)

  pub are_complete : IsComplete (merged_lengths weights) × ((k : ℕ) → get_or (merged_lengths weights) k 0 ≤ 51)
  unfolding merged_lengths
  are_complete = rw (left.1) (is_complete_at left.0 left.1)

  is_there_at : (t : Tree) → merged_within (length weights) (leaves_from 0 weights) ≡ t ∷ [] → (k : ℕ) → k < length weights → 0 < get_or weights k 0 → 0 < get_or (values_below (depth_in (t ∷ [])) (length weights)) k 0
  is_there_at (leaf weight entry) is k within some =
      absurd (let same : ◌≡◌ {A = ℕ} 1 (sum_trees leaf_count (leaves_from 0 weights)) = sym (ap (sum_trees leaf_count) is ∙ add-zero 1) ∙ merged_sum leaf_count (λ a b. refl) (length weights) (leaves_from 0 weights) in omega (arith, same, leaves_count 0 weights, length-leaves 0 weights))
  is_there_at (node a b) is k within some =
      let t = node a b in
      let once : times_in k t ≡ 1 =
      let same : times_in k t + 0 ≡ sum_trees (times_in k) (leaves_from 0 weights) = ap (sum_trees (times_in k)) (sym is) ∙ merged_sum (times_in k) (λ x y. refl) (length weights) (leaves_from 0 weights) in
      let one : sum_trees (times_in k) (leaves_from 0 weights) ≡ 1 = subst (λ (i : ℕ). sum_trees (times_in i) (leaves_from 0 weights) ≡ 1) (zero-add k) (leaves_times_some k 0 weights some) in
      omega arith
      in
      let deep : 0 < depth_of 0 t k = elim (cases_eq (times_in k a) 0) [
        | inl none ↦ omega (arith, at_least k 1 b (omega arith))
        | inr there ↦ omega (arith, at_least k 1 a (omega arith))
      ] in
      rw (get_or-values_below (depth_in (t ∷ [])) (length weights) k within) (omega (arith, deep))

  -- an entry with a weight has a code
  pub has_code : (k : ℕ) → k < length weights → 0 < get_or weights k 0 → 0 < get_or (merged_lengths weights) k 0
  unfolding merged_lengths
  has_code k within some = rw (left.1) (is_there_at left.0 left.1 k within some)

-- there are as many lengths as weights
pub length-merged_lengths : (weights : List ℕ) → length (merged_lengths weights) ≡ length weights
unfolding merged_lengths
length-merged_lengths weights = length-values_below (depth_in (merged_within (length weights) (leaves_from 0 weights))) (length weights)
