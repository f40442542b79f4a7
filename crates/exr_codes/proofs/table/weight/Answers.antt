use Rattle.std.proofs.Common.{◌-◌, ◌^◌, ◌≤◌, arith}
use Rattle.std.proofs.lemmas.Nat.{one_shl}
use Rattle.std.proofs.Math.Pow.{pow_mono}
use Rattle.exr_codes.proofs.table.weight.Goals as goal

pub returns-else-len-eq0-clause-small : goal.returns-else-len-eq0-clause-small
returns-else-len-eq0-clause-small c =
    let most : 2 ^ (58 - c.args.len) ≤ 2 ^ 58 = pow_mono {i = 58 - c.args.len} {j = 58} (omega arith) in
    rw (one_shl (58 - c.args.len) 64 (omega arith)) most
