use Rattle.std.proofs.Common.{◌≡◌, ℕ, ◌+◌, ◌≤◌, List, [], ◌∷◌, ◌++◌, length, map, drop, refl, ap, subst, arith}
use Rattle.std.proofs.lemmas.List.{length_push}
use Rattle.exr_merging.specs.declared.root.Root.{Root}
use Rattle.exr_merging.specs.declared.root.Merge.{Merge}
use Rattle.exr_merging.specs.Trees.{merged_within}
use Rattle.exr_merging.specs.Steps.{leaf_of, merge_of, merged_root, Takes, IsMergeOf, AreLeavesOf}
use Rattle.exr_merging.proofs.Queues.{AreQueues}
use Rattle.exr_merging.proofs.Turns.{IsTurn, leaves_ready, queues_begin, turn_of, turn_weight, turn_merge, turn_queues, each_more, all_merged, queue_more}
use Rattle.exr_merging.proofs.merges.merges_of.Goals as goal

pub merges-init : goal.merges-init
merges-init c =
    let leaves = c.args.leaves.now in
    let none : c.in_ok-merges.merges.items ≡ [] = c.in_ok-merges.ensures.items in
    rw none (record {
      leaves_left = omega arith;
      merges_left = omega arith;
      twice = refl;
      few = omega arith;
      each = λ k d below. absurd (omega arith);
      queues = queues_begin leaves c.requires;
    })

-- the two takes of one turn, each told of the mergings as they were lent
turn_lent : (leaves : List Root) (merges lent lent_again : List Merge) (leaf merge leaf₁ merge₁ leaf₂ merge₂ : ℕ) (first second : Root) → AreLeavesOf leaves → lent ≡ merges → lent_again ≡ merges
    → AreQueues (merged_within (length merges) (map leaf_of leaves)) (merged_within (length merges) (map leaf_of leaves)) (drop leaf leaves) (map merged_root (drop merge merges))
    → Takes (drop leaf leaves) (map merged_root (drop merge lent)) first (drop leaf₁ leaves) (map merged_root (drop merge₁ lent))
    → Takes (drop leaf₁ leaves) (map merged_root (drop merge₁ lent_again)) second (drop leaf₂ leaves) (map merged_root (drop merge₂ lent_again))
    → IsTurn (merged_within (length merges) (map leaf_of leaves)) first second (drop leaf₂ leaves) (map merged_root (drop merge₂ merges))
turn_lent leaves merges lent lent_again leaf merge leaf₁ merge₁ leaf₂ merge₂ first second are is is_again queues takes_first takes_second =
    let queue = λ (n : ℕ) (ms : List Merge). map merged_root (drop n ms) in
    turn_of (merged_within (length merges) (map leaf_of leaves)) (drop leaf leaves) (queue merge merges) first (drop leaf₁ leaves) (queue merge₁ merges) second (drop leaf₂ leaves) (queue merge₂ merges) (leaves_ready leaves are (length merges)) queues
    (subst (λ (ms : List Merge). Takes (drop leaf leaves) (queue merge ms) first (drop leaf₁ leaves) (queue merge₁ ms)) is takes_first)
    (subst (λ (ms : List Merge). Takes (drop leaf₁ leaves) (queue merge₁ ms) second (drop leaf₂ leaves) (queue merge₂ ms)) is_again takes_second)

pub new-requires : goal.new-requires
new-requires c =
    let leaves = c.args.leaves.now in
    let merges = c.merges.merges.items in
    let turn = turn_lent leaves merges c.deref.result.now c.deref-in-merges.result.now _ _ _ _ _ _ c.take_first-first.result c.take_first-second.result c.requires c.deref.ensures.value c.deref-in-merges.ensures.value c.merges.invariant.queues c.take_first-first.ensures.takes c.take_first-second.ensures.takes in
    omega (arith, turn_weight leaves (length merges) c.take_first-first.result c.take_first-second.result _ _ c.requires turn)

pub merges-preserved : goal.merges-preserved
merges-preserved c =
    let leaves = c.args.leaves.now in
    let trees = map leaf_of leaves in
    let merges = c.merges.merges.items in
    let known = c.merges.invariant in
    let first = c.take_first-first.result in
    let second = c.take_first-second.result in
    let taken = c.take_first-second.new.taken in
    let turn = turn_lent leaves merges c.deref.result.now c.deref-in-merges.result.now _ _ _ _ _ _ first second c.requires c.deref.ensures.value c.deref-in-merges.ensures.value known.queues c.take_first-first.ensures.takes c.take_first-second.ensures.takes in
    let merge = c.new.result in
    let is : merge ≡ merge_of first second = c.new.ensures in
    let more : length (merges ++ merge ∷ []) ≡ length merges + 1 = length_push merges merge in
    let within : taken.merges ≤ length merges = omega (arith, c.take_first-second.ensures.merges_left, ap length c.deref-in-merges.ensures.value) in
    let last : IsMergeOf (merged_within (length merges) trees) merge = rw is (turn_merge (merged_within (length merges) trees) first second _ _ turn) in
    let queues = turn_queues trees (length merges) first second (drop taken.leaves leaves) (map merged_root (drop taken.merges merges)) (leaves_ready leaves c.requires (length merges)) turn in
    let pushed : AreQueues (merged_within (length (merges ++ merge ∷ [])) trees) (merged_within (length (merges ++ merge ∷ [])) trees) (drop taken.leaves leaves) (map merged_root (drop taken.merges (merges ++ merge ∷ []))) =
    rw (more, queue_more merges taken.merges merge within, is) queues in
    rw c.in_ok-push.ensures.items (record {
      leaves_left = c.take_first-second.ensures.leaves_left;
      merges_left = omega (arith, more, within);
      twice = omega (arith, more, known.twice, c.take_first-first.ensures.one, c.take_first-second.ensures.one);
      few = omega (arith, more, c.merges-test.true, c.len.ensures);
      each = each_more trees merges merge known.each last;
      queues = pushed;
    })

pub returns : goal.returns
returns c = all_merged c.args.leaves.now c.merges.merges.items (omega (arith, c.merges-test.false, c.len.ensures)) c.merges.invariant.each
