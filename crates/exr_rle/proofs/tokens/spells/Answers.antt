use Rattle.std.proofs.Common.{get_or, inl, inr, refl, sym, ◌∙◌, arith}
use Rattle.exr_rle.proofs.Walk.{counts_step, counts_stop, counts_end}
use Rattle.exr_rle.proofs.tokens.spells.Goals as goal
use Rattle.exr_rle.proofs.tokens.spells.Goals.{then-taken-packed-via-then-taken-packed, then-taken-packed-via-else-taken-packed+then-given-left}

pub returns-then-taken-packed : goal.returns-then-taken-packed
returns-then-taken-packed c =
    let packed = c.args.packed.now in
    let at = c.tokens.at in
    let lens = c.lens_of-taken in
    let stop = counts_stop packed at c.tokens.left (get_or packed at 0) lens.result.0 lens.result.1 c.tokens-test.true refl (c.type_inv.packed at).fits lens.ensures.taken lens.ensures.given in
    elim c.then-taken-packed.branch [
      | then-taken-packed-via-then-taken-packed w ↦ sym (stop (inl w.if-taken-packed.true)) ∙ c.tokens.invariant.same
      | then-taken-packed-via-else-taken-packed+then-given-left w ↦ sym (stop (inr w.if-given-left.true)) ∙ c.tokens.invariant.same
    ]

pub tokens-preserved : goal.tokens-preserved
tokens-preserved c =
    let packed = c.args.packed.now in
    let at = c.tokens.at in
    let lens = c.lens_of-taken in
    record {
      within = omega arith;
      same = sym (counts_step packed at c.tokens.left (get_or packed at 0) lens.result.0 lens.result.1 c.tokens-test.true refl (c.type_inv.packed at).fits lens.ensures.taken lens.ensures.given c.if-taken-packed.false c.if-given-left.false) ∙ c.tokens.invariant.same;
    }

pub returns : goal.returns
returns c = sym (counts_end c.args.packed.now c.tokens.at c.tokens.left c.tokens-test.false) ∙ c.tokens.invariant.same
