use Rattle.std.proofs.Common.{◌≡◌, List, ℕ, length, sum, ap, ap₂, ◌∙◌, arith}
use Rattle.exr_packing.specs.Packed.{weights_of, lengths_of}
use Rattle.exr_packing.specs.Costs.{cost_below}
use Rattle.exr_packing.proofs.Weighing.{length-weights_of, sum-weights_of, merged_is, length-lengths_of}
use Rattle.exr_packing.proofs.plan.code_lengths.Goals as goal

pub lengths_by_merging-requires-clause-few : goal.lengths_by_merging-requires-clause-few
lengths_by_merging-requires-clause-few c =
    let is = c.deref.ensures.value ∙ c.in_ok-weights.ensures in
    omega (arith, ap length is, length-weights_of c.args.words.now, c.requires.greatest)

pub lengths_by_merging-requires-clause-light : goal.lengths_by_merging-requires-clause-light
lengths_by_merging-requires-clause-light c =
    let is = c.deref.ensures.value ∙ c.in_ok-weights.ensures in
    omega (arith, ap sum is, sum-weights_of c.args.words.now c.requires.some, c.requires.most)

pub cost-cost-requires-clause-few : goal.cost-cost-requires-clause-few
cost-cost-requires-clause-few c = omega (arith, ap length (c.deref-2.ensures.value ∙ c.in_ok-weights.ensures), length-weights_of c.args.words.now, c.requires.greatest)

pub cost-cost-requires-clause-same : goal.cost-cost-requires-clause-same
cost-cost-requires-clause-same c =
    let words = c.args.words.now in
    let is : c.deref-3.result.now ≡ lengths_of words = c.deref-3.ensures.value ∙ c.in_ok-lengths.ensures ∙ merged_is words c.deref.result.now (c.deref.ensures.value ∙ c.in_ok-weights.ensures) in
    omega (arith, ap length is, length-lengths_of words c.requires.some c.requires.most, ap length (c.deref-2.ensures.value ∙ c.in_ok-weights.ensures), length-weights_of words)

pub returns-clause-lengths : goal.returns-clause-lengths
returns-clause-lengths c = c.in_ok-lengths.ensures ∙ merged_is c.args.words.now c.deref.result.now (c.deref.ensures.value ∙ c.in_ok-weights.ensures)

pub returns-clause-cost : goal.returns-clause-cost
returns-clause-cost c =
    let words = c.args.words.now in
    let weights : c.deref-2.result.now ≡ weights_of words = c.deref-2.ensures.value ∙ c.in_ok-weights.ensures in
    let lengths : c.deref-3.result.now ≡ lengths_of words = c.deref-3.ensures.value ∙ c.in_ok-lengths.ensures ∙ merged_is words c.deref.result.now (c.deref.ensures.value ∙ c.in_ok-weights.ensures) in
    c.cost-cost.ensures ∙ ap₂ (λ (ws ls : List ℕ). cost_below ws ls (length ws)) weights lengths
