use Rattle.std.proofs.Common.{arith}
use Rattle.exr_huffman.proofs.fronts.take_five.Goals as goal

pub returns-then-one-count-clause-read : goal.returns-then-one-count-clause-read
returns-then-one-count-clause-read c wanted all fits read =
    c.take_front-one.ensures.read wanted all fits (rw (c.refill.ensures.bytes, c.refill.ensures.at) read)

pub returns-then-two-one-clause-read : goal.returns-then-two-one-clause-read
returns-then-two-one-clause-read c wanted all fits read =
    let one = c.take_front-one in
    let two = c.take_front-two in
    two.ensures.read wanted all (omega (arith, fits, one.auto.words))
    (one.ensures.read wanted all fits (rw (c.refill.ensures.bytes, c.refill.ensures.at) read))

pub returns-then-three-two-clause-read : goal.returns-then-three-two-clause-read
returns-then-three-two-clause-read c wanted all fits read =
    let one = c.take_front-one in
    let two = c.take_front-two in
    let three = c.take_front-three in
    three.ensures.read wanted all (omega (arith, fits, one.auto.words, two.auto.words))
    (two.ensures.read wanted all (omega (arith, fits, one.auto.words))
    (one.ensures.read wanted all fits (rw (c.refill.ensures.bytes, c.refill.ensures.at) read)))

pub returns-then-four-three-clause-read : goal.returns-then-four-three-clause-read
returns-then-four-three-clause-read c wanted all fits read =
    let one = c.take_front-one in
    let two = c.take_front-two in
    let three = c.take_front-three in
    let four = c.take_front-four in
    four.ensures.read wanted all (omega (arith, fits, one.auto.words, two.auto.words, three.auto.words))
    (three.ensures.read wanted all (omega (arith, fits, one.auto.words, two.auto.words))
    (two.ensures.read wanted all (omega (arith, fits, one.auto.words))
    (one.ensures.read wanted all fits (rw (c.refill.ensures.bytes, c.refill.ensures.at) read))))

pub returns-clause-read : goal.returns-clause-read
returns-clause-read c wanted all fits read =
    let one = c.take_front-one in
    let two = c.take_front-two in
    let three = c.take_front-three in
    let four = c.take_front-four in
    let five = c.take_front-five in
    five.ensures.read wanted all (omega (arith, fits, one.auto.words, two.auto.words, three.auto.words, four.auto.words))
    (four.ensures.read wanted all (omega (arith, fits, one.auto.words, two.auto.words, three.auto.words))
    (three.ensures.read wanted all (omega (arith, fits, one.auto.words, two.auto.words))
    (two.ensures.read wanted all (omega (arith, fits, one.auto.words))
    (one.ensures.read wanted all fits (rw (c.refill.ensures.bytes, c.refill.ensures.at) read)))))
