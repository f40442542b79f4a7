-- Undoing the mergings from the last one on gives each tree that is left the depth of its root.
use Rattle.std.proofs.Common.{◌≡◌, ◌≢◌, ℕ, zero, suc, ◌+◌, ◌-◌, ◌^◌, ◌<◌, ◌≤◌, eqb, ltb, List, [], ◌∷◌, length, get_or, set, min, refl, sym, ap, ap₂, ◌∙◌, subst, inl, inr, arith}
use Rattle.std.specs.List.{sum, count_by}
use Rattle.std.proofs.lemmas.Bool.{cases_lt, cases_eq, cond_both, eq-eqb, ne_eqb, eqb-true}
use Rattle.std.proofs.lemmas.List.{length-set, get_or-set_same, get_or-set_other, get_or_past, ext_get_or}
use Rattle.exr_merging.specs.Trees.{Tree, leaf, node, least_entry, insert_tree, leaves_from, merged_within, depth_of, depth_in, merged_lengths}
use Rattle.exr_merging.specs.Steps.{sum_trees, with_depths, IsMergeOf, AreMerges}
use Rattle.exr_merging.specs.declared.root.Merge.{Merge}
use Rattle.exr_merging.proofs.Merging.{insert_sum, merged_sum, times_in, at_least, leaves_times, length-leaves, get_or-values_below, length-merged_lengths, are_complete}
use Rattle.exr_merging.proofs.Order.{times_least, ready_leaves, ready_within, within_more, within_same, within_one, length-within-le}

-- the depth of an entry in a tree whose root's depth stands at its least entry
abbrev pub depth_by : List ℕ → ℕ → Tree → ℕ
depth_by depths k t = depth_of (get_or depths (least_entry t) 0) t k

-- the depth of each entry in the trees that are left
abbrev pub AreDepths : List ℕ → List Tree → List Tree → Type 0
AreDepths depths trees last = (k : ℕ) → sum_trees (depth_by depths k) trees ≡ depth_in last k

-- at the end all roots have depth 0
pub depths_none : (depths : List ℕ) (trees : List Tree) → ((k : ℕ) → get_or depths k 0 ≡ 0) → AreDepths depths trees trees
depths_none depths [] none k = refl
depths_none depths (t ∷ trees) none k = rw (none (least_entry t)) (ap (λ n. depth_of 0 t k + n) (depths_none depths trees none k))

-- a write at an entry that no tree has changes no tree's depth
depth_by_set : (depths : List ℕ) (i value k : ℕ) (trees : List Tree) → sum_trees (times_in i) trees ≡ 0 → sum_trees (depth_by (set depths i value) k) trees ≡ sum_trees (depth_by depths k) trees
depth_by_set depths i value k [] none = refl
depth_by_set depths i value k (t ∷ trees) none =
    let apart : least_entry t ≢ i = λ same. (let some : 0 < times_in i t = rw (← same) (times_least t) in omega arith) in
    rw (get_or-set_other depths i (least_entry t) value 0 apart) (ap (λ n. depth_of (get_or depths (least_entry t) 0) t k + n) (depth_by_set depths i value k trees (omega arith)))

-- one merging undone
pub undo : (depths : List ℕ) (i j : ℕ) (a b : Tree) (trees last : List Tree) → i ≡ least_entry a → j ≡ least_entry b → i < length depths → j < length depths → ((k : ℕ) → sum_trees (times_in k) (a ∷ b ∷ trees) ≤ 1)
    → AreDepths depths (insert_tree (node a b) trees) last
    → AreDepths (set (set depths i (get_or depths (min i j) 0 + 1)) j (get_or depths (min i j) 0 + 1)) (a ∷ b ∷ trees) last
undo depths i j a b trees last i_is j_is i_within j_within few known k =
    let d = get_or depths (min i j) 0 in
    let one = set depths i (d + 1) in
    let two = set one j (d + 1) in
    let in_a : 0 < times_in i a = rw i_is (times_least a) in
    let in_b : 0 < times_in j b = rw j_is (times_least b) in
    let apart : i ≢ j = λ same. (let also : 0 < times_in i b = rw same in_b in omega (arith, few i, in_a)) in
    let at_a : get_or two (least_entry a) 0 ≡ d + 1 = ap (λ m. get_or two m 0) (sym i_is) ∙ get_or-set_other one j i (d + 1) 0 apart ∙ get_or-set_same depths i (d + 1) 0 i_within in
    let at_b : get_or two (least_entry b) 0 ≡ d + 1 = ap (λ m. get_or two m 0) (sym j_is) ∙ get_or-set_same one j (d + 1) 0 (omega (arith, length-set depths i (d + 1))) in
    let others : sum_trees (depth_by two k) trees ≡ sum_trees (depth_by depths k) trees =
    depth_by_set one j (d + 1) k trees (omega (arith, few j, in_b)) ∙ depth_by_set depths i (d + 1) k trees (omega (arith, few i, in_a)) in
    let root : get_or depths (least_entry (node a b)) 0 ≡ d = ap₂ (λ m n. get_or depths (min m n) 0) (sym i_is) (sym j_is) in
    let merged : depth_by depths k (node a b) ≡ depth_of (d + 1) a k + depth_of (d + 1) b k = ap (λ e. depth_of e (node a b) k) root in
    let by_a : depth_by two k a ≡ depth_of (d + 1) a k = ap (λ e. depth_of e a k) at_a in
    let by_b : depth_by two k b ≡ depth_of (d + 1) b k = ap (λ e. depth_of e b k) at_b in
    let sums : depth_by depths k (node a b) + sum_trees (depth_by depths k) trees ≡ depth_in last k = sym (insert_sum (depth_by depths k) (node a b) trees) ∙ known k in
    omega (arith, by_a, by_b, others, merged, sums)

-- ---- entries that a merging names

-- an entry without a weight stands in no tree
times_none : (j entry : ℕ) (weights : List ℕ) → get_or weights j 0 ≡ 0 → sum_trees (times_in (entry + j)) (leaves_from entry weights) ≡ 0
times_none j entry [] none = refl
times_none zero entry (weight ∷ weights) none = rw none ((leaves_times (entry + 0) (entry + 1) weights).1 (omega arith))
times_none (suc j) entry (weight ∷ weights) none =
    let k = entry + suc j in
    let others = leaves_from (entry + 1) weights in
    let shift : k ≡ (entry + 1) + j = omega arith in
    let h : sum_trees (times_in k) others ≡ 0 = rw shift (times_none j (entry + 1) weights none) in
    cond_both (eqb weight 0) others (insert_tree (leaf weight entry) others) (λ (ts : List Tree). sum_trees (times_in k) ts ≡ 0) (λ e. h)
    (λ e. insert_sum (times_in k) (leaf weight entry) others ∙ rw (h, ne_eqb k entry (λ f. omega arith)) refl)

pub entry_has_weight : (weights : List ℕ) (n k : ℕ) → 0 < sum_trees (times_in k) (merged_within n (leaves_from 0 weights)) → get_or weights k 0 ≢ 0
entry_has_weight weights n k some none =
    let shift : 0 + k ≡ k = omega arith in
    omega (arith, merged_sum (times_in k) (λ a b. refl) n (leaves_from 0 weights), rw shift at (times_none k 0 weights none))

pub entry_within : (weights : List ℕ) (k : ℕ) → get_or weights k 0 ≢ 0 → k < length weights
entry_within weights k some = elim (cases_lt k (length weights)) [
  | inl within ↦ within
  | inr past ↦ absurd (some (get_or_past weights k 0 past))
]

-- both entries of a merging stand in a tree, and so does the lesser
pub merge_entries : (trees : List Tree) (merge : Merge) → IsMergeOf trees merge → (0 < sum_trees (times_in merge.first) trees) × (0 < sum_trees (times_in merge.second) trees) × (0 < sum_trees (times_in (min merge.first merge.second)) trees)
merge_entries [] merge is = absurd is
merge_entries (a ∷ []) merge is = absurd is
merge_entries (a ∷ b ∷ trees) merge is =
    rw (is.0, is.1) (omega (arith, times_least a), omega (arith, times_least b), omega (arith, times_least (node a b)))

-- ---- the loop

pub undo_step : (trees last : List Tree) (merge : Merge) (depths : List ℕ) → IsMergeOf trees merge → ((k : ℕ) → sum_trees (times_in k) trees ≤ 1) → merge.first < length depths → merge.second < length depths → AreDepths depths (merged_within 1 trees) last
    → AreDepths (set (set depths merge.first (get_or depths (min merge.first merge.second) 0 + 1)) merge.second (get_or depths (min merge.first merge.second) 0 + 1)) trees last
undo_step [] last merge depths is few first second known = absurd is
undo_step (a ∷ []) last merge depths is few first second known = absurd is
undo_step (a ∷ b ∷ trees) last merge depths is few first second known =
    undo depths merge.first merge.second a b trees last is.0 is.1 first second few known

-- the depth that is written is one more than that of a tree that holds an entry
deep_in : (d k : ℕ) (a b : Tree) → times_in k (node a b) ≡ 1 → d + 1 ≤ depth_of d (node a b) k
deep_in d k a b once = elim (cases_eq (times_in k a) 0) [
  | inl none ↦ omega (arith, at_least k (d + 1) b (omega arith))
  | inr there ↦ omega (arith, at_least k (d + 1) a (omega arith))
]

pub depth_small : (trees last : List Tree) (merge : Merge) (depths : List ℕ) → IsMergeOf trees merge → ((k : ℕ) → sum_trees (times_in k) trees ≤ 1) → AreDepths depths (merged_within 1 trees) last → get_or depths (min merge.first merge.second) 0 + 1 ≤ depth_in last (min merge.first merge.second)
depth_small [] last merge depths is few known = absurd is
depth_small (a ∷ []) last merge depths is few known = absurd is
depth_small (a ∷ b ∷ trees) last merge depths is few known =
    rw (is.0, is.1) (let k = least_entry (node a b) in
    let d = get_or depths k 0 in
    omega (arith, known k, insert_sum (depth_by depths k) (node a b) trees, deep_in d k a b (omega (arith, few k, times_least (node a b)))))

-- ---- the whole

leaf_depth_none : (depths : List ℕ) (k entry : ℕ) (weights : List ℕ) → k < entry → sum_trees (depth_by depths k) (leaves_from entry weights) ≡ 0
leaf_depth_none depths k entry [] below = refl
leaf_depth_none depths k entry (weight ∷ weights) below =
    let others = leaves_from (entry + 1) weights in
    let h = leaf_depth_none depths k (entry + 1) weights (omega arith) in
    cond_both (eqb weight 0) others (insert_tree (leaf weight entry) others) (λ (ts : List Tree). sum_trees (depth_by depths k) ts ≡ 0) (λ e. h)
    (λ e. insert_sum (depth_by depths k) (leaf weight entry) others ∙ rw (h, ne_eqb k entry (λ f. omega arith)) refl)

leaf_depth : (depths : List ℕ) (j entry : ℕ) (weights : List ℕ) → (get_or weights j 0 ≡ 0 → get_or depths (entry + j) 0 ≡ 0) → sum_trees (depth_by depths (entry + j)) (leaves_from entry weights) ≡ get_or depths (entry + j) 0
leaf_depth depths j entry [] none = sym (none refl)
leaf_depth depths zero entry (weight ∷ weights) none =
    let k = entry + 0 in
    let same : k ≡ entry = omega arith in
    let others = leaves_from (entry + 1) weights in
    let h = leaf_depth_none depths k (entry + 1) weights (omega arith) in
    cond_both (eqb weight 0) others (insert_tree (leaf weight entry) others) (λ (ts : List Tree). sum_trees (depth_by depths k) ts ≡ get_or depths k 0)
    (λ e. h ∙ sym (none (eqb-true weight 0 e)))
    (λ e. insert_sum (depth_by depths k) (leaf weight entry) others ∙ rw (h, same, eq-eqb entry entry refl) (omega arith))
leaf_depth depths (suc j) entry (weight ∷ weights) none =
    let k = entry + suc j in
    let others = leaves_from (entry + 1) weights in
    let shift : k ≡ (entry + 1) + j = omega arith in
    let h : sum_trees (depth_by depths k) others ≡ get_or depths k 0 = subst (λ (i : ℕ). sum_trees (depth_by depths i) others ≡ get_or depths i 0) (sym shift) (leaf_depth depths j (entry + 1) weights (λ zero_at. subst (λ (i : ℕ). get_or depths i 0 ≡ 0) shift (none zero_at))) in
    cond_both (eqb weight 0) others (insert_tree (leaf weight entry) others) (λ (ts : List Tree). sum_trees (depth_by depths k) ts ≡ get_or depths k 0) (λ e. h)
    (λ e. insert_sum (depth_by depths k) (leaf weight entry) others ∙ rw (h, ne_eqb k entry (λ f. omega arith)) (omega arith))

-- the trees that are left at the end
pub last_of : (weights : List ℕ) (n : ℕ) → length (merged_within n (leaves_from 0 weights)) ≤ 1 → merged_within n (leaves_from 0 weights) ≡ merged_within (length weights) (leaves_from 0 weights)
last_of weights n few = within_same n (length weights) (leaves_from 0 weights) few (within_one (length weights) (leaves_from 0 weights) (omega (arith, (length-leaves 0 weights).1)))

pub lengths_at : (weights : List ℕ) (n k : ℕ) → length (merged_within n (leaves_from 0 weights)) ≤ 1 → k < length weights → get_or (merged_lengths weights) k 0 ≡ depth_in (merged_within n (leaves_from 0 weights)) k
unfolding merged_lengths
lengths_at weights n k few within =
    rw (last_of weights n few) (get_or-values_below (depth_in (merged_within (length weights) (leaves_from 0 weights))) (length weights) k within)

pub all_undone : (weights depths : List ℕ) (n : ℕ) → length (merged_within n (leaves_from 0 weights)) ≤ 1 → length depths ≡ length weights → ((k : ℕ) → get_or weights k 0 ≡ 0 → get_or depths k 0 ≡ 0) → AreDepths depths (leaves_from 0 weights) (merged_within n (leaves_from 0 weights)) → depths ≡ merged_lengths weights
all_undone weights depths n few size none known =
    ext_get_or 0 depths (merged_lengths weights) (size ∙ sym (length-merged_lengths weights)) (λ k within.
    let shift : 0 + k ≡ k = omega arith in
    let at : sum_trees (depth_by depths k) (leaves_from 0 weights) ≡ get_or depths k 0 = rw shift at (leaf_depth depths k 0 weights (λ zero_at. rw shift (none k zero_at))) in
    sym at ∙ known k ∙ sym (lengths_at weights n k few (omega arith)))

-- ---- one turn of the loop

merge_of_two : (trees : List Tree) (merge : Merge) → IsMergeOf trees merge → 2 ≤ length trees
merge_of_two [] merge is = absurd is
merge_of_two (a ∷ []) merge is = absurd is
merge_of_two (a ∷ b ∷ trees) merge is = omega arith

module _ (weights : List ℕ) (merges : List Merge) (d : Merge) (depths : List ℕ) (left : ℕ) (are : AreMerges (leaves_from 0 weights) merges) (some : 0 < left) (few : left ≤ length merges)
    (size : length depths ≡ length weights) (known : AreDepths depths (merged_within left (leaves_from 0 weights)) (merged_within (length merges) (leaves_from 0 weights))) where
  abbrev trees : List Tree
  trees = merged_within (left - 1) (leaves_from 0 weights)

  abbrev last : List Tree
  last = merged_within (length merges) (leaves_from 0 weights)

  abbrev merge : Merge
  merge = get_or merges (left - 1) d

  is : IsMergeOf trees merge
  is = are.each (left - 1) d (omega arith)

  once : (k : ℕ) → sum_trees (times_in k) trees ≤ 1
  once = (ready_within (left - 1) (leaves_from 0 weights) (ready_leaves 0 weights)).apart

  before_it : AreDepths depths (merged_within 1 trees) last
  before_it =
      let back : left - 1 + 1 ≡ left = omega arith in
      let e : merged_within left (leaves_from 0 weights) ≡ merged_within 1 trees = ap (λ n. merged_within n (leaves_from 0 weights)) (sym back) ∙ within_more (left - 1) 1 (leaves_from 0 weights) in
      subst (λ (ts : List Tree). AreDepths depths ts last) e known

  weights_there : (get_or weights merge.first 0 ≢ 0) × (get_or weights merge.second 0 ≢ 0) × (get_or weights (min merge.first merge.second) 0 ≢ 0)
  weights_there =
      let there = merge_entries trees merge is in
      (entry_has_weight weights (left - 1) merge.first there.0, entry_has_weight weights (left - 1) merge.second there.1, entry_has_weight weights (left - 1) (min merge.first merge.second) there.2)

  pub turn_within : (merge.first < length weights) × (merge.second < length weights) × (min merge.first merge.second < length weights)
  turn_within = (entry_within weights merge.first weights_there.0, entry_within weights merge.second weights_there.1, entry_within weights (min merge.first merge.second) weights_there.2)

  pub turn_small : sum weights ≤ 2 ^ 25 + 1 → get_or depths (min merge.first merge.second) 0 < 51
  turn_small light =
      let two : 2 ≤ count_by (λ w. ltb 0 w) weights = omega (arith, merge_of_two trees merge is, length-within-le (left - 1) (leaves_from 0 weights), (length-leaves 0 weights).0) in
      let k = min merge.first merge.second in
      omega (arith, depth_small trees last merge depths is once before_it, lengths_at weights (length merges) k are.all turn_within.2, (are_complete weights two light).1 k)

  pub turn_size : length (with_depths depths merge) ≡ length weights
  turn_size =
      let depth = get_or depths (min merge.first merge.second) 0 + 1 in
      length-set (set depths merge.first depth) merge.second depth ∙ length-set depths merge.first depth ∙ size

  pub turn_known : AreDepths (with_depths depths merge) trees last
  turn_known = undo_step trees last merge depths is once (omega (arith, turn_within.0, size)) (omega (arith, turn_within.1, size)) before_it

  pub turn_none : (k : ℕ) → get_or weights k 0 ≡ 0 → get_or depths k 0 ≡ 0 → get_or (with_depths depths merge) k 0 ≡ 0
  turn_none k none known_none =
      let depth = get_or depths (min merge.first merge.second) 0 + 1 in
      get_or-set_other (set depths merge.first depth) merge.second k depth 0 (λ same. weights_there.1 (ap (λ m. get_or weights m 0) (sym same) ∙ none)) ∙ get_or-set_other depths merge.first k depth 0 (λ same. weights_there.0 (ap (λ m. get_or weights m 0) (sym same) ∙ none)) ∙ known_none
