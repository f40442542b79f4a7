use Rattle.std.proofs.Common.{arith, ap, refl, ◌+◌, ◌*◌, ◌≡◌, ◌≤◌, slice_index, length}
use Rattle.std.proofs.Math.ListN.{set}
use Rattle.exr_frame.specs.Gather.{strided_byte}
use Rattle.exr_frame.proofs.Putting.{row_more, sample_of_four}
use Rattle.exr_frame.proofs.copy_out.take_words.Goals as goal

pub loop-i-preserved : goal.loop-i-preserved
loop-i-preserved c =
    let long = c.loop-i.auto.raw in
    let lt = c.loop-i-test.true in
    let to = c.args.begin + c.loop-i.i * 4 in
    let place = c.args.at + c.loop-i.i * c.args.stride in
    let first = slice_index c.args.from.now place in
    let second = slice_index c.args.from.now (place + 1) in
    let third = slice_index c.args.from.now (place + 2) in
    let fourth = slice_index c.args.from.now (place + 3) in
    let value = strided_byte c.args.from.now c.args.at c.args.stride in
    let room : c.args.begin + c.loop-i.i * 4 + 4 ≤ length c.loop-i.raw = omega (arith, long, lt, c.requires.room) in
    row_more c.args.begin 4 4 c.loop-i.i value c.args.raw.now c.loop-i.raw (set (set (set (set c.loop-i.raw to first) (to + 1) second) (to + 2) third) (to + 3) fourth) (omega arith) c.loop-i.invariant
    (sample_of_four c.args.begin 4 c.loop-i.i first second third fourth value c.loop-i.raw room (let e : place ≡ place + 0 = omega arith in ap (slice_index c.args.from.now) e) refl refl refl)
