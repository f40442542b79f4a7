use Rattle.std.proofs.Common.{arith, append_assoc}
use Rattle.exr_encoder.proofs.Spelled.{zeros_bits-one, zeros_bits-few, zeros_bits-many}
use Rattle.exr_encoder.proofs.table.write_zeros.Goals as goal

pub returns-then-count-eq1 : goal.returns-then-count-eq1
returns-then-count-eq1 c = rw (zeros_bits-one c.args.count c.if-count-eq1.true) c.push.ensures.ok

pub returns-then-count-le5 : goal.returns-then-count-le5
returns-then-count-le5 c = rw (zeros_bits-few c.args.count c.if-count-eq1.false c.if-count-le5.true) c.push-then-count-le5.ensures.ok

pub returns : goal.returns
returns c = rw (zeros_bits-many c.args.count (omega (arith, c.if-count-le5.false)), ← append_assoc, ← c.in_ok-push.ensures.ok) c.push-3.ensures.ok
