use Rattle.std.proofs.Common.{◌≡◌, ℕ, length, subst, arith}
use Rattle.exr_merging.specs.declared.root.Merge.{Merge}
use Rattle.exr_merging.specs.Trees.{leaves_from, merged_within}
use Rattle.exr_merging.proofs.Undone.{AreDepths, depths_none, turn_within, turn_small, turn_size, turn_known, turn_none, all_undone}
use Rattle.exr_merging.proofs.depths.undo_all.Goals as goal

abbrev no_merge : Merge
no_merge = record { first = 0; second = 0; weight = 0 }

pub merges-init : goal.merges-init
merges-init c =
    record {
      few = omega arith;
      size = c.requires.size;
      none = λ k none_at. c.requires.none k;
      known = depths_none c.args.depths.now (merged_within (length c.args.merges.now) (leaves_from 0 c.args.weights.now)) c.requires.none;
    }

pub undo-requires-clause-first : goal.undo-requires-clause-first
undo-requires-clause-first c =
    let known = c.merges.invariant in
    let within = turn_within c.args.weights.now c.args.merges.now no_merge c.merges.depths c.merges.left c.requires.merges c.merges-test.true known.few known.size known.known in
    omega (arith, within.0, known.size)

pub undo-requires-clause-second : goal.undo-requires-clause-second
undo-requires-clause-second c =
    let known = c.merges.invariant in
    let within = turn_within c.args.weights.now c.args.merges.now no_merge c.merges.depths c.merges.left c.requires.merges c.merges-test.true known.few known.size known.known in
    omega (arith, within.1, known.size)

pub undo-requires-clause-shallow : goal.undo-requires-clause-shallow
undo-requires-clause-shallow c =
    let known = c.merges.invariant in
    omega (arith, turn_small c.args.weights.now c.args.merges.now no_merge c.merges.depths c.merges.left c.requires.merges c.merges-test.true known.few known.size known.known c.requires.light)

pub merges-preserved : goal.merges-preserved
merges-preserved c =
    let known = c.merges.invariant in
    let weights = c.args.weights.now in
    let merges = c.args.merges.now in
    let depths = c.merges.depths in
    let left = c.merges.left in
    let some = c.merges-test.true in
    rw c.undo.ensures (record {
      few = omega arith;
      size = turn_size weights merges no_merge depths left c.requires.merges some known.few known.size known.known;
      none = λ k none. turn_none weights merges no_merge depths left c.requires.merges some known.few known.size known.known k none (known.none k none);
      known = turn_known weights merges no_merge depths left c.requires.merges some known.few known.size known.known;
    })

pub returns : goal.returns
returns c =
    let known = c.merges.invariant in
    let none_left : c.merges.left ≡ 0 = omega (arith, c.merges-test.false) in
    all_undone c.args.weights.now c.merges.depths (length c.args.merges.now) c.requires.merges.all known.size known.none (subst (λ (n : ℕ). AreDepths c.merges.depths (merged_within n (leaves_from 0 c.args.weights.now)) (merged_within (length c.args.merges.now) (leaves_from 0 c.args.weights.now))) none_left known.known)
