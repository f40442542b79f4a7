use Rattle.std.proofs.Common.{rules, arith, subst, w32, ◌≡◌, ℕ, ℤ, length, take, to_z, of_z}
use Rattle.std.specs.List.{sum_by}
use Rattle.exr_base.specs.Shape.{row_bytes_of, line_bytes_of}
use Rattle.exr_frame.specs.Gather.{IsGrown, raw_place, buffer_byte, IsReadLine}
use Rattle.exr_layout.specs.Place.{placements_of}
use Rattle.exr_frame.proofs.Gathered.{line_read_more}
use Rattle.exr_frame.proofs.Lined.{sums_all}
use Rattle.exr_frame.proofs.gathering.take_line.Goals as goal

pub loop-c-preserved : goal.loop-c-preserved
loop-c-preserved c = line_read_more c.args.layout.now c.args.shape.now.channels.now c.args.shape.now.region c.args.plan.now.channels c.loop-c.c (to_z w32 (of_z w32 c.args.y)) c.args.from.now c.args.raw.now.items c.loop-c.raw.items c.take_channel.new.raw.items c.loop-c-test.true c.loop-c.invariant c.in_ok-take_channel.ensures

pub returns : goal.returns
returns c =
    let same : (to_z w32 (of_z w32 c.args.y)) ≡ c.args.y = search rules in
    let all : c.loop-c.c ≡ length c.args.shape.now.channels.now = omega arith in
    let whole = sums_all (row_bytes_of c.args.shape.now.region (to_z w32 (of_z w32 c.args.y))) c.args.shape.now.channels.now (length c.args.shape.now.channels.now) (omega arith) in
    let Q = λ (n : ℕ) (z : ℤ) (m : ℕ). IsGrown (IsReadLine c.args.layout.now.window (placements_of c.args.layout.now.planes) c.args.shape.now.region c.args.plan.now.channels n z) (raw_place c.args.shape.now.channels.now c.args.shape.now.region) (buffer_byte c.args.layout.now.window (placements_of c.args.layout.now.planes) c.args.from.now) m c.args.raw.now.items c.loop-c.raw.items in
    subst (λ (z : ℤ). Q (length c.args.shape.now.channels.now) z (line_bytes_of c.args.shape.now.channels.now c.args.shape.now.region z)) same
    (subst (λ (m : ℕ). Q (length c.args.shape.now.channels.now) (to_z w32 (of_z w32 c.args.y)) m) whole
    (subst (λ (n : ℕ). Q n (to_z w32 (of_z w32 c.args.y)) (sum_by (row_bytes_of c.args.shape.now.region (to_z w32 (of_z w32 c.args.y))) (take n c.args.shape.now.channels.now))) all c.loop-c.invariant))
