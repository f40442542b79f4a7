use Rattle.std.proofs.Common.{arith, ap, refl, ◌+◌, ◌*◌, ◌≡◌, ◌≤◌, slice_index, length}
use Rattle.std.proofs.Math.ListN.{set}
use Rattle.exr_frame.specs.Rows.{sample_byte}
use Rattle.exr_frame.proofs.Putting.{row_more, room_at, sample_of_four}
use Rattle.exr_frame.proofs.copy_in.put_words.Goals as goal

pub loop-i-preserved : goal.loop-i-preserved
loop-i-preserved c =
    let long = c.loop-i.auto.into in
    let room : c.args.at + c.loop-i.i * c.args.stride + 4 ≤ length c.loop-i.into = rw long (room_at c.args.at c.args.stride c.args.samples 4 (length c.args.into.now) c.loop-i.i c.requires.room c.loop-i-test.true) in
    row_more c.args.at c.args.stride 4 c.loop-i.i (sample_byte c.args.from.now 4) c.args.into.now c.loop-i.into (set (set (set (set c.loop-i.into (c.args.at + c.loop-i.i * c.args.stride) (slice_index c.args.from.now (c.loop-i.i * 4))) (c.args.at + c.loop-i.i * c.args.stride + 1) (slice_index c.args.from.now (c.loop-i.i * 4 + 1))) (c.args.at + c.loop-i.i * c.args.stride + 2) (slice_index c.args.from.now (c.loop-i.i * 4 + 2))) (c.args.at + c.loop-i.i * c.args.stride + 3) (slice_index c.args.from.now (c.loop-i.i * 4 + 3))) c.requires.stride c.loop-i.invariant
    (sample_of_four c.args.at c.args.stride c.loop-i.i (slice_index c.args.from.now (c.loop-i.i * 4)) (slice_index c.args.from.now (c.loop-i.i * 4 + 1)) (slice_index c.args.from.now (c.loop-i.i * 4 + 2)) (slice_index c.args.from.now (c.loop-i.i * 4 + 3)) (sample_byte c.args.from.now 4) c.loop-i.into room (let e : c.loop-i.i * 4 ≡ c.loop-i.i * 4 + 0 = omega arith in ap (slice_index c.args.from.now) e) refl refl refl)
