-- One turn of the merging loop: two trees are taken from the queues, and the merged tree joins them.
use Rattle.std.proofs.Common.{◌≡◌, ℕ, ◌+◌, ◌^◌, ◌<◌, ◌≤◌, List, [], ◌∷◌, ◌++◌, length, map, drop, get_or, refl, sym, ap, ap₂, ◌∙◌, subst, inl, inr, arith}
use Rattle.std.proofs.lemmas.Bool.{cases_eq}
use Rattle.std.proofs.lemmas.List.{length-map, length_push, get_or_append_left, get_or_push, drop-append-le, map_push}
use Rattle.exr_merging.specs.declared.root.Root.{Root}
use Rattle.exr_merging.specs.declared.root.Merge.{Merge}
use Rattle.exr_merging.specs.Trees.{Tree, node, tree_weight, insert_tree, leaves_from, merged_within}
use Rattle.exr_merging.specs.Steps.{root_of, leaf_of, merge_of, merged_root, sum_trees, Takes, IsMergeOf, AreLeavesOf, AreMerges}
use Rattle.exr_merging.proofs.Merging.{merged_sum, leaves_weight}
use Rattle.exr_merging.proofs.Order.{AreReady, ready_leaves, ready_within, within_more, within_one}
use Rattle.exr_merging.proofs.Queues.{AreQueues, take_one, push_merged, first_queues}

-- ---- the leaves

pub leaves_ready : (leaves : List Root) → AreLeavesOf leaves → (n : ℕ) → AreReady (merged_within n (map leaf_of leaves))
leaves_ready leaves are n = subst (λ (trees : List Tree). AreReady (merged_within n trees)) (sym are.are) (ready_within n (leaves_from 0 are.weights) (ready_leaves 0 are.weights))

roots_of_leaves : (leaves : List Root) → map root_of (map leaf_of leaves) ≡ leaves
roots_of_leaves [] = refl
roots_of_leaves (root ∷ leaves) = ap (λ (roots : List Root). root ∷ roots) (roots_of_leaves leaves)

pub queues_begin : (leaves : List Root) → AreLeavesOf leaves → AreQueues (map leaf_of leaves) (map leaf_of leaves) leaves []
queues_begin leaves are = first_queues (map leaf_of leaves) leaves (roots_of_leaves leaves) (leaves_ready leaves are 0).order

-- what all trees weigh
leaves_light : (leaves : List Root) → AreLeavesOf leaves → (n : ℕ) → sum_trees tree_weight (merged_within n (map leaf_of leaves)) ≤ 2 ^ 25 + 1
leaves_light leaves are n =
    omega (arith, merged_sum tree_weight (λ a b. refl) n (map leaf_of leaves), ap (sum_trees tree_weight) are.are, leaves_weight 0 are.weights, are.light)

-- ---- a turn

-- the two trees that were taken, and the queues behind them
pub record IsTurn (trees : List Tree) (first second : Root) (xs ys : List Root) : Type 0 where
  pub a : Tree
  pub b : Tree
  pub others : List Tree
  pub is : trees ≡ a ∷ b ∷ others
  pub first_is : root_of a ≡ first
  pub second_is : root_of b ≡ second
  pub queues : AreQueues (a ∷ b ∷ others) others xs ys

ready_rest : (t : Tree) (trees : List Tree) → AreReady (t ∷ trees) → AreReady trees
ready_rest t trees ready = record { order = ready.order.1; some = ready.some.1; apart = λ k. omega (arith, ready.apart k) }

pub turn_of : (trees : List Tree) (xs ys : List Root) (first : Root) (xs₁ ys₁ : List Root) (second : Root) (xs₂ ys₂ : List Root) → AreReady trees → AreQueues trees trees xs ys → Takes xs ys first xs₁ ys₁ → Takes xs₁ ys₁ second xs₂ ys₂ → IsTurn trees first second xs₂ ys₂
turn_of trees xs ys first xs₁ ys₁ second xs₂ ys₂ ready queues takes_first takes_second =
    let one = take_one trees trees xs ys first xs₁ ys₁ ready queues takes_first in
    let two = take_one trees one.others xs₁ ys₁ second xs₂ ys₂ (ready_rest one.tree one.others (subst AreReady one.is ready)) one.queues takes_second in
    let is : trees ≡ one.tree ∷ two.tree ∷ two.others = one.is ∙ ap (λ (ts : List Tree). one.tree ∷ ts) two.is in
    record {
      a = one.tree;
      b = two.tree;
      others = two.others;
      is = is;
      first_is = one.root_is;
      second_is = two.root_is;
      queues = subst (λ (before : List Tree). AreQueues before two.others xs₂ ys₂) is two.queues;
    }

pub turn_weight : (leaves : List Root) (n : ℕ) (first second : Root) (xs ys : List Root) → AreLeavesOf leaves → IsTurn (merged_within n (map leaf_of leaves)) first second xs ys → first.weight + second.weight ≤ 2 ^ 25 + 1
turn_weight leaves n first second xs ys are turn =
    let light = leaves_light leaves are n in
    let sums : sum_trees tree_weight (merged_within n (map leaf_of leaves)) ≡ tree_weight turn.a + (tree_weight turn.b + sum_trees tree_weight turn.others) = ap (sum_trees tree_weight) turn.is in
    let first_weight : tree_weight turn.a ≡ first.weight = ap (λ (r : Root). r.weight) turn.first_is in
    let second_weight : tree_weight turn.b ≡ second.weight = ap (λ (r : Root). r.weight) turn.second_is in
    omega (arith, light, sums, first_weight, second_weight)

pub turn_merge : (trees : List Tree) (first second : Root) (xs ys : List Root) → IsTurn trees first second xs ys → IsMergeOf trees (merge_of first second)
turn_merge trees first second xs ys turn =
    subst (λ (ts : List Tree). IsMergeOf ts (merge_of first second)) (sym turn.is) (sym (ap (λ (r : Root). r.least) turn.first_is), sym (ap (λ (r : Root). r.least) turn.second_is))

pub turn_queues : (trees : List Tree) (n : ℕ) (first second : Root) (xs ys : List Root) → AreReady (merged_within n trees) → IsTurn (merged_within n trees) first second xs ys
    → AreQueues (merged_within (n + 1) trees) (merged_within (n + 1) trees) xs (ys ++ merged_root (merge_of first second) ∷ [])
turn_queues trees n first second xs ys ready turn =
    let a = turn.a in
    let b = turn.b in
    let pushed = push_merged a b turn.others xs ys (subst AreReady turn.is ready) turn.queues in
    let next : merged_within (n + 1) trees ≡ insert_tree (node a b) turn.others = within_more n 1 trees ∙ ap (merged_within 1) turn.is in
    let root : root_of (node a b) ≡ merged_root (merge_of first second) = ap₂ (λ (r s : Root). merged_root (merge_of r s)) turn.first_is turn.second_is in
    let with_root = subst (λ (r : Root). AreQueues (insert_tree (node a b) turn.others) (insert_tree (node a b) turn.others) xs (ys ++ r ∷ [])) root pushed in
    subst (λ (ts : List Tree). AreQueues ts ts xs (ys ++ merged_root (merge_of first second) ∷ [])) (sym next) with_root

-- ---- all mergings so far

pub each_more : (trees : List Tree) (merges : List Merge) (merge : Merge) → ((k : ℕ) (d : Merge) → k < length merges → IsMergeOf (merged_within k trees) (get_or merges k d)) → IsMergeOf (merged_within (length merges) trees) merge
    → (k : ℕ) (d : Merge) → k < length (merges ++ merge ∷ []) → IsMergeOf (merged_within k trees) (get_or (merges ++ merge ∷ []) k d)
each_more trees merges merge each last k d within = elim (cases_eq k (length merges)) [
  | inl same ↦ subst (λ (m : Merge). IsMergeOf (merged_within k trees) m) (sym (get_or_push merges merge d k (sym same))) (rw same last)
  | inr other ↦
      let below : k < length merges = omega (arith, length_push merges merge) in
      subst (λ (m : Merge). IsMergeOf (merged_within k trees) m) (sym (get_or_append_left merges (merge ∷ []) d k below)) (each k d below)
]

pub all_merged : (leaves : List Root) (merges : List Merge) → length leaves ≤ length merges + 1 → ((k : ℕ) (d : Merge) → k < length merges → IsMergeOf (merged_within k (map leaf_of leaves)) (get_or merges k d)) → AreMerges (map leaf_of leaves) merges
all_merged leaves merges enough each = record { each = each; all = within_one (length merges) (map leaf_of leaves) (omega (arith, length-map leaves leaf_of)) }

-- the queue of the merged trees, one longer
pub queue_more : (merges : List Merge) (taken : ℕ) (merge : Merge) → taken ≤ length merges → map merged_root (drop taken (merges ++ merge ∷ [])) ≡ map merged_root (drop taken merges) ++ merged_root merge ∷ []
queue_more merges taken merge within = ap (map merged_root) (drop-append-le taken merges (merge ∷ []) within) ∙ map_push merged_root (drop taken merges) merge
