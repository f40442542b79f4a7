use Rattle.std.proofs.Common.{◌≡◌, ◌+◌, false, drop, sym, ap, ◌∙◌, arith}
use Rattle.exr_rle.specs.Packed.{begins_three}
use Rattle.exr_rle.proofs.Finding.{at_more, literal_ends, literal_full}
use Rattle.exr_rle.proofs.runs.literal_at.Goals as goal

pub returns-then-more-lt16 : goal.returns-then-more-lt16
returns-then-more-lt16 c =
    let bytes = c.args.bytes.now in
    let at = c.args.at in
    let more = c.plain_in-more in
    let place : at + (c.sixteens.count + more.result) ≡ at + c.sixteens.count + more.result = omega arith in
    sym (literal_ends bytes at (c.sixteens.count + more.result) c.requires (omega arith) (omega arith)
    (at_more (λ i. begins_three (drop i bytes) ≡ false) at c.sixteens.count more.result c.sixteens.invariant.plain more.ensures.plain)
    (λ lt. ap (λ i. begins_three (drop i bytes)) place ∙ more.ensures.run c.if-more-lt16.true))

pub sixteens-preserved : goal.sixteens-preserved
sixteens-preserved c = record {
  few = omega arith;
  within = omega arith;
  plain = at_more (λ i. begins_three (drop i c.args.bytes.now) ≡ false) c.args.at c.sixteens.count c.plain_in-more.result c.sixteens.invariant.plain c.plain_in-more.ensures.plain;
}

pub returns-else-not-is_run : goal.returns-else-not-is_run
returns-else-not-is_run c = sym (literal_ends c.args.bytes.now c.args.at c.ones.count c.requires (omega arith) (omega arith) c.ones.invariant.plain (λ lt. sym c.is_run.ensures ∙ c.if-not-is_run.false))

pub returns-else-at-count : goal.returns-else-at-count
returns-else-at-count c = sym (literal_ends c.args.bytes.now c.args.at c.ones.count c.requires (omega arith) (omega arith) c.ones.invariant.plain (λ lt. absurd (omega arith)))

pub returns-after-ones : goal.returns-after-ones
returns-after-ones c =
    let full : c.ones.count ≡ 127 = omega arith in
    full ∙ sym (literal_full c.args.bytes.now c.args.at (omega arith) (λ k lt. c.ones.invariant.plain k (omega arith)))
