use Rattle.std.proofs.Common.{sym, arith}
use Rattle.std.proofs.lemmas.Nat.{one_shl, and_mask}
use Rattle.exr_base.proofs.BitLists.{number_within_byte}
use Rattle.exr_base.proofs.bits.bits_within.Goals as goal

pub returns-clause-value : goal.returns-clause-value
returns-clause-value c =
    let a = c.args in
    rw (one_shl a.count 64 (omega arith), and_mask) (sym (number_within_byte a.offset a.count a.byte c.requires))
