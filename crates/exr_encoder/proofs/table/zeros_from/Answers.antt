use Rattle.std.proofs.Common.{arith}
use Rattle.exr_encoder.proofs.Spelled.{counted_from}
use Rattle.exr_encoder.proofs.table.zeros_from.Goals as goal

pub returns-then-lengths-at-ne0 : goal.returns-then-lengths-at-ne0
returns-then-lengths-at-ne0 c =
    let known = c.zeros.invariant in
    counted_from c.args.lengths.now c.args.at c.zeros.count c.requires (omega (arith, known.within, c.most_zeros-most.ensures)) (omega (arith, known.within, c.most_zeros-most.ensures)) known.zeros (λ less more. c.if-lengths-at-ne0.true)

pub returns : goal.returns
returns c =
    let known = c.zeros.invariant in
    counted_from c.args.lengths.now c.args.at c.zeros.count c.requires (omega (arith, known.within, c.most_zeros-most.ensures)) (omega (arith, known.within, c.most_zeros-most.ensures)) known.zeros (λ less more. absurd (omega (arith, c.most_zeros-most.ensures, c.zeros-test.false)))
