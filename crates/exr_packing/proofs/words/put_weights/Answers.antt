use Rattle.std.proofs.Common.{◌+◌, ◌-◌, eqb, count_by, ap, ◌∙◌, arith}
use Rattle.exr_packing.proofs.Weighing.{least_at, greatest_at, ordered, weights_from}
use Rattle.exr_packing.proofs.words.put_weights.Goals as goal

pub count_words-requires-clause-above : goal.count_words-requires-clause-above
count_words-requires-clause-above c = λ k within. omega (arith, c.requires.least, least_at c.args.words.now k within)

pub count_words-requires-clause-within : goal.count_words-requires-clause-within
count_words-requires-clause-within c = λ k within. omega (arith, c.requires.size, c.requires.greatest, greatest_at c.args.words.now k within)

pub overflow_sub-weights : goal.overflow_sub-weights
overflow_sub-weights c = omega (arith, c.requires.least, c.requires.greatest, ordered c.args.words.now c.requires.some)

pub returns : goal.returns
returns c =
    let words = c.args.words.now in
    let counts = c.count_words.new.counts in
    weights_from words counts (c.args.greatest - c.args.least + 1) (omega (arith, c.requires.least, c.requires.greatest)) (omega (arith, c.requires.size, c.count_words.auto.counts)) (λ k within. c.count_words.ensures k within ∙ ap (λ l. count_by (λ w. eqb w (l + k)) words) c.requires.least)
