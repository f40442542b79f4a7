use Rattle.std.proofs.Common.{ℕ, ◌<◌, sym, arith, get_or}
use Rattle.exr_codes.proofs.Nine.{bits_of_nine_is}
use Rattle.exr_codes.proofs.window.bits_of_nine.Goals as goal

pub returns : goal.returns
returns c =
    let bytes = c.args.bytes.now in
    let small : (i : ℕ) → get_or bytes i 0 < 256 = λ i. omega (arith, c.type_inv.bytes i) in
    rw c.from_be_bytes-high.ensures (sym (bits_of_nine_is bytes c.args.offset c.requires.small c.requires.long small))
