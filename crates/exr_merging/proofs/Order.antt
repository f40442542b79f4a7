-- The order of trees by weight and least entry, trees put into it, and what holds of the trees after each merging.
use Rattle.std.proofs.Common.{◌≡◌, ◌≢◌, ℕ, zero, suc, ◌+◌, ◌<◌, ◌≤◌, Bool, true, false, eqb, ltb, ◌&&◌, ◌||◌, List, [], ◌∷◌, length, min, refl, sym, ap, ◌∙◌, subst, inl, inr, arith}
use Rattle.std.proofs.lemmas.Bool.{cases_lt, cases_eq, cases_Bool, cond_both, cond-true, eq-eqb, ne_eqb, eqb-false}
use Rattle.std.proofs.lemmas.Bool.Decides.{nat_tests}
use Rattle.exr_merging.specs.Trees.{Tree, leaf, node, tree_weight, least_entry, comes_first, insert_tree, leaves_from, merged_within}
use Rattle.exr_merging.specs.Steps.{sum_trees}
use Rattle.exr_merging.proofs.Merging.{insert_sum, length-insert_tree, times_in, leaves_times}

-- ---- weights and least entries as numbers

abbrev pub comes : ℕ → ℕ → ℕ → ℕ → Bool
comes w l v m = ltb w v || (eqb w v && ltb l m)

pub comes-trans : (w l v m u n : ℕ) → comes w l v m ≡ true → comes v m u n ≡ true → comes w l u n ≡ true
comes-trans w l v m u n p q = grind (arith, nat_tests)

pub comes-asym : (w l v m : ℕ) → comes w l v m ≡ true → comes v m w l ≡ false
comes-asym w l v m p = grind (arith, nat_tests)

pub comes-total : (w l v m : ℕ) → l ≢ m → comes w l v m ≡ false → comes v m w l ≡ true
comes-total w l v m apart p = grind (arith, nat_tests)

pub comes-le : (w l v m : ℕ) → comes w l v m ≡ true → w ≤ v
comes-le w l v m p = grind (arith, nat_tests)

pub comes-lt : (w l v m : ℕ) → w < v → comes w l v m ≡ true
comes-lt w l v m less = grind (arith, nat_tests)

-- neither comes before the other: they are the same
pub comes-same : (w l v m : ℕ) → comes w l v m ≡ false → comes v m w l ≡ false → (w ≡ v) × (l ≡ m)
comes-same w l v m p q = (grind (arith, nat_tests), grind (arith, nat_tests))

-- two pairs, one behind the other: so are their sums
pub comes-pairs : (w₁ l₁ w₂ l₂ w₃ l₃ w₄ l₄ : ℕ) → comes w₁ l₁ w₂ l₂ ≡ true → comes w₂ l₂ w₃ l₃ ≡ true → comes w₃ l₃ w₄ l₄ ≡ true → comes (w₁ + w₂) (min l₁ l₂) (w₃ + w₄) (min l₃ l₄) ≡ true
comes-pairs w₁ l₁ w₂ l₂ w₃ l₃ w₄ l₄ p q r = grind (arith, nat_tests)

-- ---- trees in order

-- a tree comes before all others
abbrev pub IsBefore : Tree → List Tree → Type 0
IsBefore t [] = Unit {0}
IsBefore t (u ∷ trees) = (comes_first t u ≡ true) × IsBefore t trees

-- each tree comes before all behind it
abbrev pub AreStrict : List Tree → Type 0
AreStrict [] = Unit {0}
AreStrict (t ∷ trees) = IsBefore t trees × AreStrict trees

-- a tree's least entry is no other tree's
abbrev pub IsApart : Tree → List Tree → Type 0
IsApart t [] = Unit {0}
IsApart t (u ∷ trees) = (least_entry t ≢ least_entry u) × IsApart t trees

abbrev pub AreSome : List Tree → Type 0
AreSome [] = Unit {0}
AreSome (t ∷ trees) = (0 < tree_weight t) × AreSome trees

first-trans : (a b c : Tree) → comes_first a b ≡ true → comes_first b c ≡ true → comes_first a c ≡ true
first-trans a b c p q = comes-trans (tree_weight a) (least_entry a) (tree_weight b) (least_entry b) (tree_weight c) (least_entry c) p q

first-asym : (a b : Tree) → comes_first a b ≡ true → comes_first b a ≡ false
first-asym a b p = comes-asym (tree_weight a) (least_entry a) (tree_weight b) (least_entry b) p

first-total : (a b : Tree) → least_entry a ≢ least_entry b → comes_first a b ≡ false → comes_first b a ≡ true
first-total a b apart p = comes-total (tree_weight a) (least_entry a) (tree_weight b) (least_entry b) apart p

pub before_weaker : (a b : Tree) (trees : List Tree) → comes_first a b ≡ true → IsBefore b trees → IsBefore a trees
before_weaker a b [] first before = tt
before_weaker a b (t ∷ trees) first before = (first-trans a b t first before.0, before_weaker a b trees first before.1)

pub before_insert : (a t : Tree) (trees : List Tree) → comes_first a t ≡ true → IsBefore a trees → IsBefore a (insert_tree t trees)
before_insert a t [] first before = (first, tt)
before_insert a t (u ∷ trees) first before =
    cond_both (comes_first t u) (t ∷ u ∷ trees) (u ∷ insert_tree t trees) (IsBefore a) (λ e. (first, before)) (λ e. (before.0, before_insert a t trees first before.1))

pub strict_insert : (t : Tree) (trees : List Tree) → IsApart t trees → AreStrict trees → AreStrict (insert_tree t trees)
strict_insert t [] apart order = (tt, tt)
strict_insert t (u ∷ trees) apart order =
    cond_both (comes_first t u) (t ∷ u ∷ trees) (u ∷ insert_tree t trees) AreStrict
    (λ e. ((e, before_weaker t u trees e order.0), order))
    (λ e. (before_insert u t trees (first-total t u apart.0 e) order.0, strict_insert t trees apart.1 order.1))

some_insert : (t : Tree) (trees : List Tree) → 0 < tree_weight t → AreSome trees → AreSome (insert_tree t trees)
some_insert t [] some others = (some, tt)
some_insert t (u ∷ trees) some others =
    cond_both (comes_first t u) (t ∷ u ∷ trees) (u ∷ insert_tree t trees) AreSome (λ e. (some, others)) (λ e. (others.0, some_insert t trees some others.1))

-- a tree that comes first stands in front, and one that comes last at the end
pub insert_front : (t : Tree) (trees : List Tree) → IsBefore t trees → insert_tree t trees ≡ t ∷ trees
insert_front t [] before = refl
insert_front t (u ∷ trees) before = cond-true (comes_first t u) (t ∷ u ∷ trees) (u ∷ insert_tree t trees) before.0

-- two trees apart are put in place in either turn
swap_first : (a t : Tree) (trees : List Tree) → comes_first a t ≡ true → insert_tree a (insert_tree t trees) ≡ insert_tree t (insert_tree a trees)
swap_first a t [] first = rw (first, first-asym a t first) refl
swap_first a t (u ∷ trees) first = elim (cases_Bool (comes_first t u)) [
  | inl t_first ↦ rw (t_first, first-trans a t u first t_first, first, first-asym a t first, t_first) refl
  | inr t_later ↦ elim (cases_Bool (comes_first a u)) [
    | inl a_first ↦ rw (t_later, a_first, first-asym a t first, t_later) refl
    | inr a_later ↦ rw (t_later, a_later, t_later) (ap (λ (ts : List Tree). u ∷ ts) (swap_first a t trees first))
  ]
]

pub insert_swap : (a t : Tree) (trees : List Tree) → least_entry a ≢ least_entry t → insert_tree a (insert_tree t trees) ≡ insert_tree t (insert_tree a trees)
insert_swap a t trees apart = elim (cases_Bool (comes_first a t)) [
  | inl first ↦ swap_first a t trees first
  | inr later ↦ sym (swap_first t a trees (first-total a t apart later))
]

-- ---- least entries

pub times_least : (t : Tree) → 0 < times_in (least_entry t) t
times_least (leaf weight entry) = rw (eq-eqb entry entry refl) (omega arith)
times_least (node a b) = elim (cases_lt (least_entry a) (least_entry b)) [
  | inl less ↦
      let e : min (least_entry a) (least_entry b) ≡ least_entry a = omega arith in
      subst (λ (k : ℕ). 0 < times_in k a + times_in k b) (sym e) (omega (arith, times_least a))
  | inr more ↦
      let e : min (least_entry a) (least_entry b) ≡ least_entry b = omega arith in
      subst (λ (k : ℕ). 0 < times_in k a + times_in k b) (sym e) (omega (arith, times_least b))
]

apart_one : (t u : Tree) → times_in (least_entry t) u ≡ 0 → least_entry t ≢ least_entry u
apart_one t u none same = let some : 0 < times_in (least_entry t) u = rw same (times_least u) in omega arith

pub apart_from : (t : Tree) (trees : List Tree) → sum_trees (times_in (least_entry t)) trees ≡ 0 → IsApart t trees
apart_from t [] none = tt
apart_from t (u ∷ trees) none = (apart_one t u (omega arith), apart_from t trees (omega arith))

-- ---- what holds of the trees after each merging

pub record AreReady (trees : List Tree) : Type 0 where
  pub order : AreStrict trees
  pub some : AreSome trees
  pub apart : (k : ℕ) → sum_trees (times_in k) trees ≤ 1

-- the first of them has its least entry alone
pub ready_apart : (t : Tree) (trees : List Tree) → ((k : ℕ) → times_in k t + sum_trees (times_in k) trees ≤ 1) → IsApart t trees
ready_apart t trees few = apart_from t trees (omega (arith, few (least_entry t), times_least t))

pub ready_insert : (t : Tree) (trees : List Tree) → 0 < tree_weight t → ((k : ℕ) → times_in k t + sum_trees (times_in k) trees ≤ 1) → AreStrict trees → AreSome trees → AreReady (insert_tree t trees)
ready_insert t trees some few order others = record {
  order = strict_insert t trees (ready_apart t trees few) order;
  some = some_insert t trees some others;
  apart = λ k. rw (insert_sum (times_in k) t trees) (few k);
}

pub ready_merged : (a b : Tree) (trees : List Tree) → AreReady (a ∷ b ∷ trees) → AreReady (insert_tree (node a b) trees)
ready_merged a b trees ready =
    ready_insert (node a b) trees (omega (arith, ready.some.0)) (λ k. omega (arith, ready.apart k)) ready.order.1.1 ready.some.1.1

pub ready_leaves : (entry : ℕ) (weights : List ℕ) → AreReady (leaves_from entry weights)
ready_leaves entry [] = record { order = tt; some = tt; apart = λ k. omega arith }
ready_leaves entry (weight ∷ weights) =
    let h = ready_leaves (entry + 1) weights in
    let others = leaves_from (entry + 1) weights in
    let none = (leaves_times entry (entry + 1) weights).1 (omega arith) in
    let few : (k : ℕ) → times_in k (leaf weight entry) + sum_trees (times_in k) others ≤ 1 = λ k. elim (cases_eq k entry) [
      | inl same ↦ rw (same, none, eq-eqb entry entry refl) (omega arith)
      | inr other ↦ rw (ne_eqb k entry other) (omega (arith, h.apart k))
    ] in
    cond_both (eqb weight 0) others (insert_tree (leaf weight entry) others) AreReady (λ e. h)
    (λ e. let some = eqb-false weight 0 e in ready_insert (leaf weight entry) others (omega arith) few h.order h.some)

pub ready_within : (n : ℕ) (trees : List Tree) → AreReady trees → AreReady (merged_within n trees)
ready_within zero trees ready = ready
ready_within (suc n) [] ready = ready
ready_within (suc n) (a ∷ []) ready = ready
ready_within (suc n) (a ∷ b ∷ trees) ready = ready_within n (insert_tree (node a b) trees) (ready_merged a b trees ready)

-- ---- one merging after another

pub within_more : (n m : ℕ) (trees : List Tree) → merged_within (n + m) trees ≡ merged_within m (merged_within n trees)
within_more zero m trees = ap (λ k. merged_within k trees) (let e : 0 + m ≡ m = omega arith in e)
within_more (suc n) zero trees = ap (λ k. merged_within k trees) (let e : suc n + 0 ≡ suc n = omega arith in e)
within_more (suc n) (suc m) [] = ap (λ k. merged_within k []) (let e : suc n + suc m ≡ suc (n + suc m) = omega arith in e)
within_more (suc n) (suc m) (a ∷ []) = ap (λ k. merged_within k (a ∷ [])) (let e : suc n + suc m ≡ suc (n + suc m) = omega arith in e)
within_more (suc n) (suc m) (a ∷ b ∷ trees) =
    ap (λ k. merged_within k (a ∷ b ∷ trees)) (let e : suc n + suc m ≡ suc (n + suc m) = omega arith in e) ∙ within_more n (suc m) (insert_tree (node a b) trees)

-- one tree, or none, stays
pub within_stays : (n : ℕ) (trees : List Tree) → length trees ≤ 1 → merged_within n trees ≡ trees
within_stays zero trees few = refl
within_stays (suc n) [] few = refl
within_stays (suc n) (a ∷ []) few = refl
within_stays (suc n) (a ∷ b ∷ trees) few = absurd (omega arith)

-- how many trees are left
pub length-within : (n : ℕ) (trees : List Tree) → n < length trees → length (merged_within n trees) + n ≡ length trees
length-within zero trees some = omega arith
length-within (suc n) [] some = absurd (omega arith)
length-within (suc n) (a ∷ []) some = absurd (omega arith)
length-within (suc n) (a ∷ b ∷ trees) some =
    let l = length-insert_tree (node a b) trees in
    omega (arith, length-within n (insert_tree (node a b) trees) (omega (arith, l)), l)

pub length-within-le : (n : ℕ) (trees : List Tree) → length (merged_within n trees) ≤ length trees
length-within-le zero trees = omega arith
length-within-le (suc n) [] = omega arith
length-within-le (suc n) (a ∷ []) = omega arith
length-within-le (suc n) (a ∷ b ∷ trees) = omega (arith, length-within-le n (insert_tree (node a b) trees), length-insert_tree (node a b) trees)

pub within_one : (n : ℕ) (trees : List Tree) → length trees ≤ n + 1 → length (merged_within n trees) ≤ 1
within_one zero trees few = omega arith
within_one (suc n) [] few = omega arith
within_one (suc n) (a ∷ []) few = omega arith
within_one (suc n) (a ∷ b ∷ trees) few = within_one n (insert_tree (node a b) trees) (omega (arith, length-insert_tree (node a b) trees))

-- enough mergings are enough
pub within_same : (n m : ℕ) (trees : List Tree) → length (merged_within n trees) ≤ 1 → length (merged_within m trees) ≤ 1 → merged_within n trees ≡ merged_within m trees
within_same n m trees few_n few_m =
    sym (within_more n m trees ∙ within_stays m (merged_within n trees) few_n) ∙ ap (λ k. merged_within k trees) (let e : n + m ≡ m + n = omega arith in e) ∙ within_more m n trees ∙ within_stays n (merged_within m trees) few_m
