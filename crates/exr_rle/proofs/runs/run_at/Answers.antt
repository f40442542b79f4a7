use Rattle.std.proofs.Common.{◌≡◌, ◌+◌, get_or, sym, ap, ◌∙◌, arith}
use Rattle.exr_rle.proofs.Finding.{at_more, run_len_ends, run_len_full}
use Rattle.exr_rle.proofs.runs.run_at.Goals as goal

pub returns-then-more-lt16 : goal.returns-then-more-lt16
returns-then-more-lt16 c =
    let bytes = c.args.bytes.now in
    let at = c.args.at in
    let more = c.equal_in-more in
    let place : at + (c.sixteens.count + more.result) ≡ at + c.sixteens.count + more.result = omega arith in
    sym (run_len_ends bytes at (c.sixteens.count + more.result) c.requires (omega arith) (omega arith) (omega arith)
    (at_more (λ i. get_or bytes i 0 ≡ get_or bytes at 0) at c.sixteens.count more.result c.sixteens.invariant.equal more.ensures.equal)
    (λ lt same. more.ensures.other c.if-more-lt16.true (ap (λ i. get_or bytes i 0) (sym place) ∙ same)))

pub sixteens-preserved : goal.sixteens-preserved
sixteens-preserved c = record {
  some = omega arith;
  few = omega arith;
  within = omega arith;
  equal = at_more (λ i. get_or c.args.bytes.now i 0 ≡ get_or c.args.bytes.now c.args.at 0) c.args.at c.sixteens.count c.equal_in-more.result c.sixteens.invariant.equal c.equal_in-more.ensures.equal;
}

pub returns-else-bytes-at : goal.returns-else-bytes-at
returns-else-bytes-at c = sym (run_len_ends c.args.bytes.now c.args.at c.ones.count c.requires (omega arith) (omega arith) (omega arith) c.ones.invariant.equal (λ lt. c.if-bytes-at.false))

pub returns-else-at-count : goal.returns-else-at-count
returns-else-at-count c = sym (run_len_ends c.args.bytes.now c.args.at c.ones.count c.requires (omega arith) (omega arith) (omega arith) c.ones.invariant.equal (λ lt. absurd (omega arith)))

pub returns-after-ones : goal.returns-after-ones
returns-after-ones c =
    let full : c.ones.count ≡ 128 = omega arith in
    full ∙ sym (run_len_full c.args.bytes.now c.args.at (omega arith) (λ k lt. c.ones.invariant.equal k (omega arith)))
