use Rattle.std.proofs.Common.{◌≡◌, length, Ok, sym, ap, ◌∙◌, arith}
use Rattle.exr_rle.specs.Unpacked.{raw_of}
use Rattle.exr_rle.proofs.Laws.{rle_of-spelled, raw_of-laid}
use Rattle.exr_rle.proofs.unpacking.unpack_counted.Goals as goal

pub returns : goal.returns
returns c =
    let bytes = c.expand.new.into in
    let raw = c.lay_together.new.raw in
    let laid : raw ≡ raw_of bytes = raw_of-laid bytes c.restore.new.bytes raw (omega arith) (omega arith) (λ k inside. c.restore.ensures k inside) (λ k inside. c.lay_together.ensures k inside) in
    rle_of-spelled c.args.packed.now bytes (length c.args.raw.now) c.expand.ensures (omega arith) ∙ ap Ok (sym laid)
