use Rattle.std.proofs.Common.{refl, ◌+◌, ◌*◌, ◌/◌, ◌%◌, ◌≤◌, length}
use Rattle.std.proofs.Math.ListN.{set}
use Rattle.exr_frame.specs.Rows.{fill_byte}
use Rattle.exr_frame.proofs.Putting.{row_more, room_at, sample_of_two, fill_first}
use Rattle.exr_frame.proofs.copy_in.fill_halves.Goals as goal

pub loop-i-preserved : goal.loop-i-preserved
loop-i-preserved c =
    let long = c.loop-i.auto.into in
    let room : c.args.at + c.loop-i.i * c.args.stride + 2 ≤ length c.loop-i.into = rw long (room_at c.args.at c.args.stride c.args.samples 2 (length c.args.into.now) c.loop-i.i c.requires.room c.loop-i-test.true) in
    row_more c.args.at c.args.stride 2 c.loop-i.i (fill_byte c.args.fill) c.args.into.now c.loop-i.into (set (set c.loop-i.into (c.args.at + c.loop-i.i * c.args.stride) (c.args.fill % 256)) (c.args.at + c.loop-i.i * c.args.stride + 1) (c.args.fill / 256 % 256)) c.requires.stride c.loop-i.invariant
    (sample_of_two c.args.at c.args.stride c.loop-i.i (c.args.fill % 256) (c.args.fill / 256 % 256) (fill_byte c.args.fill) c.loop-i.into room (fill_first c.args.fill) refl)
