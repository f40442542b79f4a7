use Rattle.std.proofs.lemmas.Result.{err_from_is_err_and}
use Rattle.exr_attributes.specs.Reading.{text_at}
use Rattle.exr_attributes.proofs.Texts.{begins, goes_on, ends, fails, too_long}
use Rattle.exr_attributes.proofs.reading.text.Goals as goal

pub loop-i-init : goal.loop-i-init
loop-i-init c = rw c.new-text.ensures.items (begins c.at-start.result c.args.from.now c.at-start.ensures)

pub returns-in_err-byte : goal.returns-in_err-byte
returns-in_err-byte c =
    let p = err_from_is_err_and c.from_residual.result c.from_residual.ensures.1 in
    rw (p.1, p.2) (fails c.loop-i.text.items c.at-start.result c.loop-i._i c.loop-i.from c.in_err-byte.field-0.0 (text_at c.args.from.now) c.loop-i-test.true c.in_err-byte.ensures c.loop-i.invariant)

pub returns-then-byte-eq0 : goal.returns-then-byte-eq0
returns-then-byte-eq0 c =
    ends c.loop-i.text.items c.at-start.result c.loop-i._i c.loop-i.from c.byte.new.from c.in_ok-byte.byte (text_at c.args.from.now) c.loop-i-test.true c.in_ok-byte.ensures c.if-byte-eq0.true c.loop-i.invariant

pub loop-i-preserved : goal.loop-i-preserved
loop-i-preserved c =
    rw c.in_ok-push.ensures.items (goes_on c.loop-i.text.items c.at-start.result c.loop-i._i c.loop-i.from c.byte.new.from c.in_ok-byte.byte (text_at c.args.from.now) c.loop-i-test.true c.in_ok-byte.ensures c.if-byte-eq0.false c.loop-i.invariant)

pub returns : goal.returns
returns c = too_long c.loop-i.text.items c.at-start.result c.loop-i._i c.loop-i.from (text_at c.args.from.now) c.loop-i-test.false c.loop-i.invariant
