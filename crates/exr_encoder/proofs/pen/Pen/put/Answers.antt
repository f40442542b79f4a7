use Rattle.std.proofs.Common.{◌+◌, ◌-◌, ◌*◌, ◌/◌, ◌%◌, ◌^◌, ◌<◌, arith}
use Rattle.std.proofs.lemmas.Nat.{one_shl, and_mask, shl_whole}
use Rattle.exr_base.proofs.BitLists.{laid_behind}
use Rattle.exr_encoder.proofs.Pens.{put_is, laid_below}
use Rattle.exr_encoder.proofs.pen.Pen.put.Goals as goal

pub returns-clause-bits : goal.returns-clause-bits
returns-clause-bits c =
    let pen = c.args.self.now in
    let len = c.args.len in
    let number = c.args.number in
    let few : pen.have + len < 64 = omega (arith, c.requires.width) in
    let laid = laid_behind pen.pending pen.have len number pen.below (omega arith) c.requires.fits in
    let whole = shl_whole (pen.pending * 2 ^ len + number) (pen.have + len) (64 - (pen.have + len)) 64 (laid_below pen.pending pen.have len number pen.below c.requires.fits) (omega arith) in
    let stored = rw (laid, whole) at c.store.ensures in
    rw (laid, one_shl ((pen.have + len) % 8) 64 (omega arith), and_mask) (put_is c.args.out.now c.store.new.out pen.at pen.have pen.pending len number ((pen.have + len) / 8) ((pen.have + len) % 8) c.requires.room c.requires.fits few (omega arith) stored)
