use Rattle.std.proofs.Common.{length, ap, arith}
use Rattle.std.proofs.lemmas.Bool.{true≢false}
use Rattle.exr_base.specs.Bits.{bits_of_bytes}
use Rattle.exr_base.proofs.BitLists.{length-left, left_after}
use Rattle.exr_base.proofs.bits.BitReader.take.Goals as goal

pub returns-clause-none : goal.returns-clause-none
returns-clause-none c =
    let r = c.self.inside in
    let len = length-left r.bytes.now r.at r.end c.self.invariant.0 c.self.invariant.1 in
    let left = ap length c.self.view_is in
    (λ e. absurd (true≢false e), λ short. absurd (omega (arith, c.if-self-n.false)))

pub returns-clause-rest : goal.returns-clause-rest
returns-clause-rest c =
    let r = c.self.inside in
    rw (← c.self.view_is) (left_after (bits_of_bytes r.bytes.now) r.at r.end c.args.n (omega (arith, c.self.invariant.0, c.if-self-n.false)))
