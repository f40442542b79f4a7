use Rattle.std.proofs.Common.{◌≡◌, ap, subst, ◌∙◌, arith}
use Rattle.std.proofs.lemmas.List.{take_all}
use Rattle.exr_attributes.specs.Pass.{AreRising}
use Rattle.exr_attributes.proofs.Passes.{numbers_of, distinct}
use Rattle.exr_attributes.proofs.seconds.are_distinct.Goals as goal

pub returns : goal.returns
returns c rise =
    let es = c.args.entries.now in
    let all : c.loop-entry.numbers.items ≡ numbers_of es = c.loop-entry.invariant ∙ ap numbers_of (take_all c.loop-entry.entry-index es (omega arith)) in
    distinct es c.loop-entry.numbers.items c.sort_unstable.new.self.items all c.sort_unstable.ensures.permutation (subst AreRising c.as_slice.ensures.value (c.are_rising.ensures rise))
