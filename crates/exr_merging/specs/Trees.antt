-- Code lengths by merging: each entry with a weight is a tree; the two trees that come first by weight and then by their
-- least entry are merged, again and again, until one is left; an entry's length is its depth.
use Rattle.std.specs.Prelude.{ℕ, zero, suc, ◌+◌, ◌<◌, Bool, ◌&&◌, ◌||◌, ◌==◌, nat_lt, if◌then◌else◌, List, [], ◌∷◌, ◌++◌, length, min, slice_index}

-- one entry with its weight, or two trees merged (own)
pub data Tree : Type 0 where
  leaf : ℕ → ℕ → Tree
  node : Tree → Tree → Tree

-- the weight of all entries of a tree (own)
abbrev pub tree_weight : Tree → ℕ
tree_weight (leaf weight entry) = weight
tree_weight (node a b) = tree_weight a + tree_weight b

-- the least entry of a tree (own)
abbrev pub least_entry : Tree → ℕ
least_entry (leaf weight entry) = entry
least_entry (node a b) = min (least_entry a) (least_entry b)

-- whether one tree comes before another (own)
abbrev pub comes_first : Tree → Tree → Bool
comes_first a b = nat_lt (tree_weight a) (tree_weight b) || ((tree_weight a == tree_weight b) && nat_lt (least_entry a) (least_entry b))

-- a tree put into its place among trees in order (own)
abbrev pub insert_tree : Tree → List Tree → List Tree
insert_tree t [] = t ∷ []
insert_tree t (u ∷ trees) = if comes_first t u then t ∷ u ∷ trees else u ∷ insert_tree t trees

-- the entries from one on that have a weight, in order (own)
abbrev pub leaves_from : ℕ → List ℕ → List Tree
leaves_from entry [] = []
leaves_from entry (weight ∷ weights) = if weight == 0 then leaves_from (entry + 1) weights else insert_tree (leaf weight entry) (leaves_from (entry + 1) weights)

-- at most so many mergings (own)
abbrev pub merged_within : ℕ → List Tree → List Tree
merged_within zero trees = trees
merged_within (suc n) [] = []
merged_within (suc n) (a ∷ []) = a ∷ []
merged_within (suc n) (a ∷ b ∷ trees) = merged_within n (insert_tree (node a b) trees)

-- the depth of an entry in a tree whose root has a depth; 0 where it is not there (own)
abbrev pub depth_of : ℕ → Tree → ℕ → ℕ
depth_of depth (leaf weight entry) k = if k == entry then depth else 0
depth_of depth (node a b) k = depth_of (depth + 1) a k + depth_of (depth + 1) b k

-- the depths of an entry in all trees: one tree has it at most (own)
abbrev pub depth_in : List Tree → ℕ → ℕ
depth_in [] k = 0
depth_in (t ∷ trees) k = depth_of 0 t k + depth_in trees k

-- the values of a function below n (own)
abbrev pub values_below : (ℕ → ℕ) → ℕ → List ℕ
values_below f zero = []
values_below f (suc n) = values_below f n ++ f n ∷ []

-- the code lengths of all entries (own)
unfoldable pub merged_lengths : List ℕ → List ℕ
merged_lengths weights = values_below (depth_in (merged_within (length weights) (leaves_from 0 weights))) (length weights)

-- each entry with a weight has a code (own)
abbrev pub HasCodes : List ℕ → Type 0
HasCodes weights = (k : ℕ) → k < length weights → 0 < slice_index weights k → 0 < slice_index (merged_lengths weights) k
