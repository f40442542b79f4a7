use Rattle.std.proofs.Common.{◌≡◌, length, replicate, rules}
use Rattle.exr_codes.proofs.Orders.{get_or-zeros}
use Rattle.exr_merging.proofs.depths.depths_of.Goals as goal

pub undo_all-requires-clause-none : goal.undo_all-requires-clause-none
undo_all-requires-clause-none c =
    let n = length c.args.weights.now in
    let zeros : c.in_ok-depths.depths.items ≡ replicate n 0 = c.in_ok-depths.ensures.items_if_clones_equal (λ y h. search rules) in
    λ k. rw (c.deref_mut.ensures.value, zeros) (get_or-zeros n k)
