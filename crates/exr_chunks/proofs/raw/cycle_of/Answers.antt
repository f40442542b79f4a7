-- The sizes of the first chunks are those of all groups.
use Rattle.std.proofs.Common.{◌≡◌, ◌<◌, length, take, slice_index, ap, ◌∙◌, arith}
use Rattle.std.proofs.lemmas.Nat.{mul-le}
use Rattle.std.proofs.lemmas.List.{take_all}
use Rattle.exr_chunks.specs.RawBytes.{groups_bytes}
use Rattle.exr_chunks.proofs.Cycles.{cycle_is, groups_small}
use Rattle.exr_chunks.specs.declared.groups.Group.{Group}
use Rattle.exr_chunks.proofs.raw.cycle_of.Goals as goal

-- what would be read behind the last group
abbrev no_group : Group
no_group = record { ys = 0; bytes = 0 }

pub period-count-requires-clause-few : goal.period-count-requires-clause-few
period-count-requires-clause-few c =
    let few = c.requires.few in
    omega (arith, few, mul-le c.args.whole 1 c.args.whole c.args.rows (omega arith) c.requires.some)

pub add-requires-clause-small : goal.add-requires-clause-small
add-requires-clause-small c = λ i within.
    let long : length c.as_mut_slice.result.now ≡ c.period-count.result = ap length c.as_mut_slice.ensures.value ∙ c.loop-group.invariant.long in
    let below : i < c.period-count.result = omega (arith, within, long) in
    let here : slice_index c.as_mut_slice.result.now i ≡ groups_bytes (take c.loop-group.group-index c.args.groups.now) c.args.rows i = ap (λ xs. slice_index xs i) c.as_mut_slice.ensures.value ∙ c.loop-group.invariant.sizes i below in
    let all = c.requires.small i (omega (arith, below, c.period-count.ensures.within)) in
    let small = groups_small c.args.groups.now c.args.rows c.loop-group.group-index i no_group c.loop-group-test.true all in
    omega (arith, here, small)

pub returns : goal.returns
returns c =
    let whole = take_all c.loop-group.group-index c.args.groups.now (omega (arith, c.loop-group-test.false)) in
    cycle_is c.args.groups.now c.args.rows c.args.whole c.period-count.result c.loop-group.cycle.items c.requires.sampled c.period-count.ensures.some c.period-count.ensures.within c.period-count.ensures.again c.loop-group.invariant.long (λ i below.
    c.loop-group.invariant.sizes i below ∙ ap (λ gs. groups_bytes gs c.args.rows i) whole)
