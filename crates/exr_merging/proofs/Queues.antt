-- Two queues in order hold the trees that are left: the leaves, and the merged trees as they were made.
use Rattle.std.proofs.Common.{◌≡◌, ℕ, ◌+◌, ◌<◌, ◌≤◌, true, false, List, [], ◌∷◌, ◌++◌, map, min, refl, sym, ap, ◌∙◌, subst, inl, inr, arith}
use Rattle.std.proofs.lemmas.Bool.{cond-false}
use Rattle.std.proofs.lemmas.List.{map_push}
use Rattle.exr_merging.specs.declared.root.Root.{Root}
use Rattle.exr_merging.specs.Trees.{Tree, leaf, node, tree_weight, least_entry, comes_first, insert_tree}
use Rattle.exr_merging.specs.Steps.{root_of, sum_trees, Takes, IsFirst, IsNotBehind}
use Rattle.exr_merging.proofs.Merging.{insert_sum, times_in}
use Rattle.exr_merging.proofs.Order.{comes-asym, comes-total, comes-le, comes-lt, comes-pairs, IsBefore, AreStrict, IsApart, AreReady, before_weaker, before_insert, insert_front, insert_swap, times_least, apart_from}

-- ---- two queues as one

-- the leaves put among the merged trees
abbrev pub put_all : List Tree → List Tree → List Tree
put_all [] made = made
put_all (t ∷ left) made = insert_tree t (put_all left made)

sum_put_all : (f : Tree → ℕ) (left made : List Tree) → sum_trees f (put_all left made) ≡ sum_trees f left + sum_trees f made
sum_put_all f [] made = omega arith
sum_put_all f (t ∷ left) made = insert_sum f t (put_all left made) ∙ omega (arith, sum_put_all f left made)

before_put_all : (a : Tree) (left made : List Tree) → IsBefore a left → IsBefore a made → IsBefore a (put_all left made)
before_put_all a [] made none before = before
before_put_all a (t ∷ left) made before_left before = before_insert a t (put_all left made) before_left.0 (before_put_all a left made before_left.1 before)

-- the first leaf comes first
first_left : (t : Tree) (left made : List Tree) → IsBefore t left → IsBefore t made → put_all (t ∷ left) made ≡ t ∷ put_all left made
first_left t left made before_left before_made = insert_front t (put_all left made) (before_put_all t left made before_left before_made)

-- the first merged tree comes first
first_made : (t : Tree) (left made : List Tree) → IsBefore t left → put_all left (t ∷ made) ≡ t ∷ put_all left made
first_made t [] made before = refl
first_made t (u ∷ left) made before =
    let later : comes_first u t ≡ false = comes-asym (tree_weight t) (least_entry t) (tree_weight u) (least_entry u) before.0 in
    ap (insert_tree u) (first_made t left made before.1) ∙ cond-false (comes_first u t) (u ∷ t ∷ put_all left made) (t ∷ insert_tree u (put_all left made)) later

-- a tree that comes behind all merged ones joins their queue
abbrev IsBehindAll : Tree → List Tree → Type 0
IsBehindAll t [] = Unit {0}
IsBehindAll t (u ∷ trees) = (comes_first u t ≡ true) × IsBehindAll t trees

insert_back : (t : Tree) (trees : List Tree) → IsBehindAll t trees → insert_tree t trees ≡ trees ++ t ∷ []
insert_back t [] behind = refl
insert_back t (u ∷ trees) behind =
    let later : comes_first t u ≡ false = comes-asym (tree_weight u) (least_entry u) (tree_weight t) (least_entry t) behind.0 in
    cond-false (comes_first t u) (t ∷ u ∷ trees) (u ∷ insert_tree t trees) later ∙ ap (λ (ts : List Tree). u ∷ ts) (insert_back t trees behind.1)

insert_put_all : (t : Tree) (left made : List Tree) → IsApart t left → insert_tree t (put_all left made) ≡ put_all left (insert_tree t made)
insert_put_all t [] made apart = refl
insert_put_all t (u ∷ left) made apart = insert_swap t u (put_all left made) apart.0 ∙ ap (insert_tree u) (insert_put_all t left made apart.1)

before_push : (a t : Tree) (trees : List Tree) → IsBefore a trees → comes_first a t ≡ true → IsBefore a (trees ++ t ∷ [])
before_push a t [] before first = (first, tt)
before_push a t (u ∷ trees) before first = (before.0, before_push a t trees before.1 first)

strict_push : (t : Tree) (trees : List Tree) → AreStrict trees → IsBehindAll t trees → AreStrict (trees ++ t ∷ [])
strict_push t [] order behind = (tt, tt)
strict_push t (u ∷ trees) order behind = (before_push u t trees order.0 behind.0, strict_push t trees order.1 behind.1)

-- ---- merged trees come in order

-- a merged tree's parts come before all trees that are left
abbrev HasOldParts : List Tree → Tree → Type 0
HasOldParts trees (leaf weight entry) = ⊥
HasOldParts trees (node a b) = (comes_first a b ≡ true) × IsBefore b trees

abbrev HaveOldParts : List Tree → List Tree → Type 0
HaveOldParts trees [] = Unit {0}
HaveOldParts trees (t ∷ made) = HasOldParts trees t × HaveOldParts trees made

lighter_than_both : (t a b : Tree) → comes_first t a ≡ true → 0 < tree_weight b → comes_first t (node a b) ≡ true
lighter_than_both t a b first some =
    let le = comes-le (tree_weight t) (least_entry t) (tree_weight a) (least_entry a) first in
    comes-lt (tree_weight t) (least_entry t) (tree_weight a + tree_weight b) (min (least_entry a) (least_entry b)) (omega arith)

old_before_new : (c d t : Tree) (trees : List Tree) → comes_first c d ≡ true → HasOldParts (c ∷ trees) t → comes_first t (node c d) ≡ true
old_before_new c d (leaf weight entry) trees first old = absurd old
old_before_new c d (node a b) trees first old =
    comes-pairs (tree_weight a) (least_entry a) (tree_weight b) (least_entry b) (tree_weight c) (least_entry c) (tree_weight d) (least_entry d) old.0 old.1.0 first

all_before_new : (c d : Tree) (trees made : List Tree) → comes_first c d ≡ true → HaveOldParts (c ∷ trees) made → IsBehindAll (node c d) made
all_before_new c d trees [] first old = tt
all_before_new c d trees (t ∷ made) first old = (old_before_new c d t trees first old.0, all_before_new c d trees made first old.1)

old_parts_kept : (c d t : Tree) (trees : List Tree) → 0 < tree_weight d → HasOldParts (c ∷ d ∷ trees) t → HasOldParts (insert_tree (node c d) trees) t
old_parts_kept c d (leaf weight entry) trees some old = absurd old
old_parts_kept c d (node a b) trees some old = (old.0, before_insert b (node c d) trees (lighter_than_both b c d old.1.0 some) old.1.1.1)

new_parts : (c d : Tree) (trees : List Tree) → AreReady (c ∷ d ∷ trees) → HasOldParts (insert_tree (node c d) trees) (node c d)
new_parts c d trees ready =
    let w = tree_weight d in
    let light : comes_first d (node c d) ≡ true = comes-lt w (least_entry d) (tree_weight c + w) (min (least_entry c) (least_entry d)) (omega (arith, ready.some.0)) in
    (ready.order.0.0, before_insert d (node c d) trees light ready.order.1.0)

old_parts_push : (c d : Tree) (trees made : List Tree) → AreReady (c ∷ d ∷ trees) → HaveOldParts (c ∷ d ∷ trees) made → HaveOldParts (insert_tree (node c d) trees) (made ++ node c d ∷ [])
old_parts_push c d trees [] ready old = (new_parts c d trees ready, tt)
old_parts_push c d trees (t ∷ made) ready old = (old_parts_kept c d t trees ready.some.1.0 old.0, old_parts_push c d trees made ready old.1)

-- ---- the queues

-- two queues of roots hold these trees; the merged ones are older than `before`
pub record AreQueues (before trees : List Tree) (xs ys : List Root) : Type 0 where
  pub left : List Tree
  pub made : List Tree
  pub left_roots : map root_of left ≡ xs
  pub made_roots : map root_of made ≡ ys
  pub same : put_all left made ≡ trees
  pub left_order : AreStrict left
  pub made_order : AreStrict made
  pub old : HaveOldParts before made

-- a tree was taken from the front of one queue, and is the first of all
pub record IsTaken (before trees : List Tree) (root : Root) (xs ys : List Root) : Type 0 where
  pub tree : Tree
  pub others : List Tree
  pub is : trees ≡ tree ∷ others
  pub root_is : root_of tree ≡ root
  pub queues : AreQueues before others xs ys

left_first : (t : Tree) (left made : List Tree) → AreStrict (t ∷ left) → AreStrict made → IsFirst (root_of t) (map root_of made) → put_all (t ∷ left) made ≡ t ∷ put_all left made
left_first t left [] left_order made_order first = first_left t left [] left_order.0 tt
left_first t left (u ∷ made) left_order made_order first = first_left t left (u ∷ made) left_order.0 (first, before_weaker t u made first made_order.0)

take_left : (before trees left made : List Tree) (root : Root) (xs ys : List Root) → map root_of left ≡ root ∷ xs → map root_of made ≡ ys → put_all left made ≡ trees → AreStrict left → AreStrict made → HaveOldParts before made → IsFirst root ys → IsTaken before trees root xs ys
take_left before trees [] made root xs ys left_roots made_roots same left_order made_order old first = absurd (cc)
take_left before trees (t ∷ left) made root xs ys left_roots made_roots same left_order made_order old first =
    let root_is : root_of t ≡ root = cc in
    let first_at : IsFirst (root_of t) (map root_of made) = subst (λ (r : Root). IsFirst r (map root_of made)) (sym root_is) (subst (IsFirst root) (sym made_roots) first) in
    record {
      tree = t;
      others = put_all left made;
      is = sym same ∙ left_first t left made left_order made_order first_at;
      root_is = root_is;
      queues = record { left = left; made = made; left_roots = cc; made_roots = made_roots; same = refl; left_order = left_order.1; made_order = made_order; old = old };
    }

made_before : (t : Tree) (left : List Tree) → IsApart t left → AreStrict left → IsNotBehind (root_of t) (map root_of left) → IsBefore t left
made_before t [] apart order first = tt
made_before t (u ∷ left) apart order first =
    let e : comes_first t u ≡ true = comes-total (tree_weight u) (least_entry u) (tree_weight t) (least_entry t) (λ same. apart.0 (sym same)) first in
    (e, before_weaker t u left e order.0)

take_made : (before trees left made : List Tree) (root : Root) (xs ys : List Root) → AreReady trees → map root_of left ≡ xs → map root_of made ≡ root ∷ ys → put_all left made ≡ trees → AreStrict left → AreStrict made → HaveOldParts before made → IsNotBehind root xs → IsTaken before trees root xs ys
take_made before trees left [] root xs ys ready left_roots made_roots same left_order made_order old first = absurd (cc)
take_made before trees left (t ∷ made) root xs ys ready left_roots made_roots same left_order made_order old first =
    let root_is : root_of t ≡ root = cc in
    let first_at : IsNotBehind (root_of t) (map root_of left) = subst (λ (r : Root). IsNotBehind r (map root_of left)) (sym root_is) (subst (IsNotBehind root) (sym left_roots) first) in
    let few : sum_trees (times_in (least_entry t)) (put_all left (t ∷ made)) ≤ 1 = rw same (ready.apart (least_entry t)) in
    let apart = apart_from t left (omega (arith, few, sum_put_all (times_in (least_entry t)) left (t ∷ made), times_least t)) in
    record {
      tree = t;
      others = put_all left made;
      is = sym same ∙ first_made t left made (made_before t left apart left_order first_at);
      root_is = root_is;
      queues = record { left = left; made = made; left_roots = left_roots; made_roots = cc; same = refl; left_order = left_order; made_order = made_order.1; old = old.1 };
    }

pub take_one : (before trees : List Tree) (xs ys : List Root) (root : Root) (xs_after ys_after : List Root) → AreReady trees → AreQueues before trees xs ys → Takes xs ys root xs_after ys_after → IsTaken before trees root xs_after ys_after
take_one before trees xs ys root xs_after ys_after ready q takes = elim takes [
  | inl h ↦ take_left before trees q.left q.made root xs_after ys_after (q.left_roots ∙ h.0) (q.made_roots ∙ h.1) q.same q.left_order q.made_order q.old (subst (IsFirst root) h.1 h.2)
  | inr h ↦ take_made before trees q.left q.made root xs_after ys_after ready (q.left_roots ∙ h.1) (q.made_roots ∙ h.0) q.same q.left_order q.made_order q.old (subst (IsNotBehind root) h.1 h.2)
]

-- the two trees that were taken, merged, join the second queue
pub push_merged : (c d : Tree) (trees : List Tree) (xs ys : List Root) → AreReady (c ∷ d ∷ trees) → AreQueues (c ∷ d ∷ trees) trees xs ys → AreQueues (insert_tree (node c d) trees) (insert_tree (node c d) trees) xs (ys ++ root_of (node c d) ∷ [])
push_merged c d trees xs ys ready q =
    let t = node c d in
    let k = least_entry t in
    let sums : sum_trees (times_in k) trees ≡ sum_trees (times_in k) q.left + sum_trees (times_in k) q.made = rw (← q.same) (sum_put_all (times_in k) q.left q.made) in
    let apart : IsApart t q.left = apart_from t q.left (omega (arith, sums, ready.apart k, times_least t)) in
    let behind = all_before_new c d (d ∷ trees) q.made ready.order.0.0 q.old in
    record {
      left = q.left;
      made = q.made ++ t ∷ [];
      left_roots = q.left_roots;
      made_roots = map_push root_of q.made t ∙ ap (λ (roots : List Root). roots ++ root_of t ∷ []) q.made_roots;
      same = sym (ap (insert_tree t) (sym q.same) ∙ insert_put_all t q.left q.made apart ∙ ap (put_all q.left) (insert_back t q.made behind));
      left_order = q.left_order;
      made_order = strict_push t q.made q.made_order behind;
      old = old_parts_push c d trees q.made ready q.old;
    }

-- at first all trees are leaves in order
put_strict : (trees : List Tree) → AreStrict trees → put_all trees [] ≡ trees
put_strict [] order = refl
put_strict (t ∷ trees) order = ap (insert_tree t) (put_strict trees order.1) ∙ insert_front t trees order.0

pub first_queues : (trees : List Tree) (xs : List Root) → map root_of trees ≡ xs → AreStrict trees → AreQueues trees trees xs []
first_queues trees xs roots order = record { left = trees; made = []; left_roots = roots; made_roots = refl; same = put_strict trees order; left_order = order; made_order = tt; old = tt }
