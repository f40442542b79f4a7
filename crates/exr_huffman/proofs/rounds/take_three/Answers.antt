use Rattle.std.proofs.Common.{arith}
use Rattle.exr_huffman.proofs.rounds.take_three.Goals as goal

pub returns-then-one-count-clause-read : goal.returns-then-one-count-clause-read
returns-then-one-count-clause-read c wanted all fits read =
    c.take_code-one.ensures.read wanted all fits (rw (c.refill.ensures.bytes, c.refill.ensures.at) read)

pub returns-then-two-one-clause-read : goal.returns-then-two-one-clause-read
returns-then-two-one-clause-read c wanted all fits read =
    let one = c.take_code-one in
    let two = c.take_code-two in
    two.ensures.read wanted all (omega (arith, fits, one.auto.words))
    (one.ensures.read wanted all fits (rw (c.refill.ensures.bytes, c.refill.ensures.at) read))

pub returns-clause-read : goal.returns-clause-read
returns-clause-read c wanted all fits read =
    let one = c.take_code-one in
    let two = c.take_code-two in
    let three = c.take_code-three in
    three.ensures.read wanted all (omega (arith, fits, one.auto.words, two.auto.words))
    (two.ensures.read wanted all (omega (arith, fits, one.auto.words))
    (one.ensures.read wanted all fits (rw (c.refill.ensures.bytes, c.refill.ensures.at) read)))
