use Rattle.std.proofs.Common.{◌∙◌, arith, rules}
use Rattle.std.proofs.lemmas.List.Sorted.{sum_by-IsPermutation, IsNonDecreasingBy-from_sort_by_key}
use Rattle.exr_merging.specs.Trees.{leaves_from}
use Rattle.exr_merging.specs.Steps.{root_key, AreAmong}
use Rattle.exr_merging.proofs.Order.{ready_leaves}
use Rattle.exr_merging.proofs.Sorted.{rising_by_keys, are_leaves, sorted_same}
use Rattle.exr_merging.proofs.leaves.leaves_of.Goals as goal

pub returns : goal.returns
returns c =
    let weights = c.args.weights.now in
    let roots = c.sort_unstable_by_key.new.self.items in
    let among : AreAmong roots (leaves_from 0 weights) = λ f. sum_by-IsPermutation f _ roots c.sort_unstable_by_key.ensures.permutation ∙ c.in_ok-leaves.ensures f in
    let rises = IsNonDecreasingBy-from_sort_by_key root_key roots c.sort_unstable_by_key.ensures.sorted (λ a r q k. search rules) in
    sorted_same roots (leaves_from 0 weights) (rising_by_keys roots weights (omega arith) among rises) (ready_leaves 0 weights).order (are_leaves 0 weights) among
