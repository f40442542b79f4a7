use Rattle.std.proofs.Common.{get_or, sym, arith}
use Rattle.exr_piz.proofs.Spelling.{bytes_none, bytes_more, bytes_all}
use Rattle.exr_piz.proofs.words.put_present.Goals as goal

pub loop-k-init : goal.loop-k-init
loop-k-init c = sym bytes_none

pub loop-k-preserved : goal.loop-k-preserved
loop-k-preserved c =
    let l = c.loop-k in
    bytes_more (λ r. get_or c.args.values.now r 0) c.args.words.now l.bytes c.to_le_bytes-value.result l.k c.loop-k-test.true (omega (arith, c.requires.size, l.auto.bytes)) c.to_le_bytes-value.ensures l.invariant

pub returns : goal.returns
returns c = bytes_all (λ r. get_or c.args.values.now r 0) c.args.words.now c.loop-k.bytes c.loop-k.k c.loop-k-test.false (omega (arith, c.requires.size, c.loop-k.auto.bytes)) c.loop-k.invariant
