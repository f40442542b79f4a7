use Rattle.std.proofs.Common.{rules, arith, refl, sym, subst, w32, ◌≡◌, ◌≤◌, ◌+◌, ◌-ℤ◌, nat_abs, ℕ, ℤ, length, to_z, of_z}
use Rattle.exr_base.specs.Shape.{lines_bytes_of}
use Rattle.exr_layout.specs.Place.{placements_of, place_of}
use Rattle.exr_frame.specs.Buffer.{IsCopied, chunk_byte}
use Rattle.exr_frame.specs.Rows.{IsOfLine}
use Rattle.exr_frame.proofs.Channelled.{row_bytes_are}
use Rattle.exr_frame.proofs.Lined.{row_room, row_next, line_done, line_more}
use Rattle.exr_frame.proofs.scattering.put_line.Goals as goal

pub put_channel-requires-clause-raw : goal.put_channel-requires-clause-raw
put_channel-requires-clause-raw c =
    let same : to_z w32 (of_z w32 c.args.y) ≡ c.args.y = search rules in
    row_room c.args.shape.now.channels.now c.args.shape.now.region c.args.y (to_z w32 (of_z w32 c.args.y)) c.args.at c.loop-c.behind c.loop-c.c (length c.args.raw.now) same c.requires.at c.requires.raw c.loop-c-test.true c.loop-c.invariant.at

pub overflow_add-behind : goal.overflow_add-behind
overflow_add-behind c =
    let same : to_z w32 (of_z w32 c.args.y) ≡ c.args.y = search rules in
    let bytes = row_bytes_are c.args.shape.now.region c.args.shape.now.channels.now (to_z w32 (of_z w32 c.args.y)) (to_z w32 (of_z w32 c.args.y)) c.loop-c.c c.row_bytes-behind.result c.index-shape-c.result c.loop-c-test.true refl c.row_bytes-behind.ensures in
    let room = row_room c.args.shape.now.channels.now c.args.shape.now.region c.args.y (to_z w32 (of_z w32 c.args.y)) c.args.at c.loop-c.behind c.loop-c.c (length c.args.raw.now) same c.requires.at c.requires.raw c.loop-c-test.true c.loop-c.invariant.at in
    let ends : c.loop-c.behind + c.row_bytes-behind.result ≤ length c.args.raw.now = subst (λ n. c.loop-c.behind + n ≤ length c.args.raw.now) (sym bytes) room in
    omega (arith, ends)

pub loop-c-preserved : goal.loop-c-preserved
loop-c-preserved c =
    let bytes = row_bytes_are c.args.shape.now.region c.args.shape.now.channels.now (to_z w32 (of_z w32 c.args.y)) (to_z w32 (of_z w32 c.args.y)) c.loop-c.c c.row_bytes-behind.result c.index-shape-c.result c.loop-c-test.true refl c.row_bytes-behind.ensures in
    record {
      at = row_next c.args.shape.now.channels.now c.args.shape.now.region (to_z w32 (of_z w32 c.args.y)) (lines_bytes_of c.args.shape.now.channels.now c.args.shape.now.region (nat_abs ((to_z w32 (of_z w32 c.args.y)) -ℤ c.args.shape.now.region.y0))) c.loop-c.behind c.loop-c.c c.row_bytes-behind.result c.loop-c-test.true bytes c.loop-c.invariant.at;
      copied = line_more c.args.layout.now c.args.shape.now.region c.args.plan.now.channels c.loop-c.c (to_z w32 (of_z w32 c.args.y)) (chunk_byte c.args.shape.now.channels.now c.args.shape.now.region c.args.raw.now (placements_of c.args.layout.now.planes) c.args.plan.now.channels) c.args.into.now c.loop-c.into c.put_channel.new.into c.requires.valid c.loop-c.invariant.copied c.put_channel.ensures;
    }

pub returns-clause-at : goal.returns-clause-at
returns-clause-at c =
    let same : to_z w32 (of_z w32 c.args.y) ≡ c.args.y = search rules in
    line_done c.args.shape.now.channels.now c.args.shape.now.region c.args.y (to_z w32 (of_z w32 c.args.y)) c.args.at c.loop-c.behind c.loop-c.c same c.requires.at c.loop-c-test.false c.loop-c.invariant.at

pub returns-clause-copied : goal.returns-clause-copied
returns-clause-copied c =
    let same : to_z w32 (of_z w32 c.args.y) ≡ c.args.y = search rules in
    let all : c.loop-c.c ≡ length c.args.shape.now.channels.now = omega arith in
    subst (λ (z : ℤ). IsCopied (IsOfLine c.args.layout.now.window (placements_of c.args.layout.now.planes) c.args.shape.now.region c.args.plan.now.channels (length c.args.shape.now.channels.now) z) (place_of c.args.layout.now.window (placements_of c.args.layout.now.planes)) (chunk_byte c.args.shape.now.channels.now c.args.shape.now.region c.args.raw.now (placements_of c.args.layout.now.planes) c.args.plan.now.channels) c.args.into.now c.loop-c.into) same
    (subst (λ (n : ℕ). IsCopied (IsOfLine c.args.layout.now.window (placements_of c.args.layout.now.planes) c.args.shape.now.region c.args.plan.now.channels n (to_z w32 (of_z w32 c.args.y))) (place_of c.args.layout.now.window (placements_of c.args.layout.now.planes)) (chunk_byte c.args.shape.now.channels.now c.args.shape.now.region c.args.raw.now (placements_of c.args.layout.now.planes) c.args.plan.now.channels) c.args.into.now c.loop-c.into) all c.loop-c.invariant.copied)
