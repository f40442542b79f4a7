-- Merging as the code keeps it: a tree goes by its weight and its least entry, and a merging by the least entries of
-- the two trees that it takes.
use Rattle.std.specs.Prelude.{◌≡◌, ℕ, ◌+◌, ◌*◌, ◌^◌, ◌<◌, ◌≤◌, Bool, false, true, ◌&&◌, ◌||◌, ◌==◌, nat_lt, ◌⊎◌, if◌then◌else◌, List, [], ◌∷◌, ◌++◌, length, map, min, sum, slice_index, slice_index_or, slice_set}
use Rattle.std.specs.List.{sum_by}
use Rattle.exr_merging.specs.declared.root.Root.{Root}
use Rattle.exr_merging.specs.declared.root.Merge.{Merge}
use Rattle.exr_merging.specs.Trees.{Tree, leaf, tree_weight, least_entry, leaves_from, merged_within}

-- a tree's weight and least entry (own)
abbrev pub root_of : Tree → Root
root_of t = record { weight = tree_weight t; least = least_entry t }

-- the one entry that a root stands for (own)
abbrev pub leaf_of : Root → Tree
leaf_of root = leaf root.weight root.least

-- the merging of two trees (own)
abbrev pub merge_of : Root → Root → Merge
merge_of first second = record { first = first.least; second = second.least; weight = first.weight + second.weight }

-- the root of the tree that a merging makes (own)
abbrev pub merged_root : Merge → Root
merged_root merge = record { weight = merge.weight; least = min merge.first merge.second }

-- whether the tree of one root comes before that of another (own)
abbrev pub root_before : Root → Root → Bool
root_before a b = nat_lt a.weight b.weight || ((a.weight == b.weight) && nat_lt a.least b.least)

-- roots with an entry after them, where it has a weight (own)
abbrev pub with_entry : List Root → ℕ → ℕ → List Root
with_entry roots entry weight = if weight == 0 then roots else roots ++ root_of (leaf weight entry) ∷ []

-- depths at least entries, with those of the two parts of a merged tree: one more than the tree's own (own)
abbrev pub with_depths : List ℕ → Merge → List ℕ
with_depths depths merge =
    let depth = slice_index depths (min merge.first merge.second) + 1 in
    slice_set (slice_set depths merge.first depth) merge.second depth

-- one number for the order of roots whose entries are below 2 ^ 32 (own)
abbrev pub root_key : Root → ℕ
root_key root = root.weight * 2 ^ 32 + root.least

-- a sum over all trees (own)
abbrev pub sum_trees : (Tree → ℕ) → List Tree → ℕ
sum_trees f [] = 0
sum_trees f (t ∷ trees) = f t + sum_trees f trees

-- the roots are those of the trees, in any order: whatever is summed over them is the same (own)
abbrev pub AreAmong : List Root → List Tree → Type 0
AreAmong roots trees = (f : Root → ℕ) → sum_by f roots ≡ sum_trees (λ t. f (root_of t)) trees

-- the leaves of some weights, in order (own)
pub record AreLeavesOf (leaves : List Root) : Type 0 where
  pub weights : List ℕ
  pub light : sum weights ≤ 2 ^ 25 + 1
  pub are : map leaf_of leaves ≡ leaves_from 0 weights

-- a root comes before the first of others (own)
abbrev pub IsFirst : Root → List Root → Type 0
IsFirst root [] = Unit {0}
IsFirst root (other ∷ others) = root_before root other ≡ true

-- the first of others does not come before a root (own)
abbrev pub IsNotBehind : Root → List Root → Type 0
IsNotBehind root [] = Unit {0}
IsNotBehind root (other ∷ others) = root_before other root ≡ false

-- a root was taken from the front of one of two queues: the one of the two roots in front that comes first (own)
abbrev pub Takes : List Root → List Root → Root → List Root → List Root → Type 0
Takes leaves merged root leaves_after merged_after =
    ((leaves ≡ root ∷ leaves_after) × (merged ≡ merged_after) × IsFirst root merged) ⊎ ((merged ≡ root ∷ merged_after) × (leaves ≡ leaves_after) × IsNotBehind root leaves)

-- a merging of the two trees that come first, by their least entries (own)
abbrev pub IsMergeOf : List Tree → Merge → Type 0
IsMergeOf [] merge = ⊥
IsMergeOf (a ∷ []) merge = ⊥
IsMergeOf (a ∷ b ∷ trees) merge = (merge.first ≡ least_entry a) × (merge.second ≡ least_entry b)

-- the mergings, one after another, of trees in order, until at most one is left (own)
pub record AreMerges (trees : List Tree) (merges : List Merge) : Type 0 where
  pub each : (k : ℕ) (d : Merge) → k < length merges → IsMergeOf (merged_within k trees) (slice_index_or merges k d)
  pub all : length (merged_within (length merges) trees) ≤ 1
