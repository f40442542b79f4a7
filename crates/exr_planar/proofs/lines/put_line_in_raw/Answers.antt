-- Each row has its place, and the rows of the channels so far are there.
use Rattle.std.proofs.Common.{arith}
use Rattle.exr_planar.specs.Planar.{row_of, planar_row_of}
use Rattle.exr_planar.proofs.Moves.{is_at, moved_begun, line_starts, line_ends, row_in_raw}
use Rattle.exr_planar.proofs.lines.put_line_in_raw.Goals as goal

pub loop-channel-init : goal.loop-channel-init
loop-channel-init g c = record {
  at = line_starts c.args.shape.now.channels.now c.args.shape.now.region c.args.line c.args.start c.requires.start;
  plane = omega arith;
  moved = moved_begun (planar_row_of c.args.shape.now.channels.now c.args.shape.now.region) (row_of c.args.shape.now.channels.now c.args.shape.now.region) c.args.shape.now.channels.now c.args.shape.now.region c.args.line (g.S.RowSource.planar c.args.source.now) c.args.into.now;
}

pub overflow_add-plane : goal.overflow_add-plane
overflow_add-plane g c =
    let here = is_at c.args.shape.now.channels.now c.args.shape.now.region c.args.line c.loop-channel.channel-index c.loop-channel.at c.loop-channel.plane c.channel-item.result c.rows_at-rows.result c.loop-channel-test.true c.requires.line c.channel-item.is c.rows_at-rows.ensures c.loop-channel.invariant.at c.loop-channel.invariant.plane in
    let room = here.planar_room in
    let long = c.requires.into in
    omega arith

pub put_row_at-requires-clause-there : goal.put_row_at-requires-clause-there
put_row_at-requires-clause-there g c =
    let here = is_at c.args.shape.now.channels.now c.args.shape.now.region c.args.line c.loop-channel.channel-index c.loop-channel.at c.loop-channel.plane c.channel-item.result c.rows_at-rows.result c.loop-channel-test.true c.requires.line c.channel-item.is c.rows_at-rows.ensures c.loop-channel.invariant.at c.loop-channel.invariant.plane in
    let room = here.planar_room in
    let long = c.requires.planar in
    omega arith

pub put_row_at-requires-clause-room : goal.put_row_at-requires-clause-room
put_row_at-requires-clause-room g c =
    let here = is_at c.args.shape.now.channels.now c.args.shape.now.region c.args.line c.loop-channel.channel-index c.loop-channel.at c.loop-channel.plane c.channel-item.result c.rows_at-rows.result c.loop-channel-test.true c.requires.line c.channel-item.is c.rows_at-rows.ensures c.loop-channel.invariant.at c.loop-channel.invariant.plane in
    let room = here.raw_room in
    let long = c.requires.into in
    let kept = c.loop-channel.auto.into in
    omega arith

pub put_row_at-requires-clause-even_place : goal.put_row_at-requires-clause-even_place
put_row_at-requires-clause-even_place g c =
    let here = is_at c.args.shape.now.channels.now c.args.shape.now.region c.args.line c.loop-channel.channel-index c.loop-channel.at c.loop-channel.plane c.channel-item.result c.rows_at-rows.result c.loop-channel-test.true c.requires.line c.channel-item.is c.rows_at-rows.ensures c.loop-channel.invariant.at c.loop-channel.invariant.plane in
    here.even_place

pub put_row_at-requires-clause-even_size : goal.put_row_at-requires-clause-even_size
put_row_at-requires-clause-even_size g c =
    let here = is_at c.args.shape.now.channels.now c.args.shape.now.region c.args.line c.loop-channel.channel-index c.loop-channel.at c.loop-channel.plane c.channel-item.result c.rows_at-rows.result c.loop-channel-test.true c.requires.line c.channel-item.is c.rows_at-rows.ensures c.loop-channel.invariant.at c.loop-channel.invariant.plane in
    here.even_size

pub overflow_add-at : goal.overflow_add-at
overflow_add-at g c =
    let here = is_at c.args.shape.now.channels.now c.args.shape.now.region c.args.line c.loop-channel.channel-index c.loop-channel.at c.loop-channel.plane c.channel-item.result c.rows_at-rows.result c.loop-channel-test.true c.requires.line c.channel-item.is c.rows_at-rows.ensures c.loop-channel.invariant.at c.loop-channel.invariant.plane in
    let room = here.raw_room in
    let long = c.requires.into in
    omega arith

pub overflow_add-plane-in-loop-channel : goal.overflow_add-plane-in-loop-channel
overflow_add-plane-in-loop-channel g c =
    let here = is_at c.args.shape.now.channels.now c.args.shape.now.region c.args.line c.loop-channel.channel-index c.loop-channel.at c.loop-channel.plane c.channel-item.result c.rows_at-rows.result c.loop-channel-test.true c.requires.line c.channel-item.is c.rows_at-rows.ensures c.loop-channel.invariant.at c.loop-channel.invariant.plane in
    let room = here.plane_room in
    let long = c.requires.into in
    omega arith

pub loop-channel-preserved : goal.loop-channel-preserved
loop-channel-preserved g c =
    let here = is_at c.args.shape.now.channels.now c.args.shape.now.region c.args.line c.loop-channel.channel-index c.loop-channel.at c.loop-channel.plane c.channel-item.result c.rows_at-rows.result c.loop-channel-test.true c.requires.line c.channel-item.is c.rows_at-rows.ensures c.loop-channel.invariant.at c.loop-channel.invariant.plane in
    record {
      at = here.next;
      plane = here.next_plane;
      moved = row_in_raw c.args.shape.now.channels.now c.args.shape.now.region c.args.line c.loop-channel.channel-index c.loop-channel.at c.loop-channel.plane c.rows_at-rows.result (g.S.RowSource.planar c.args.source.now) c.args.into.now c.loop-channel.into c.put_row_at.new.into here c.loop-channel-test.true c.requires.line c.requires.planar c.requires.into c.put_row_at.ensures c.loop-channel.invariant.moved;
    }

pub returns-clause-next : goal.returns-clause-next
returns-clause-next g c = line_ends c.args.shape.now.channels.now c.args.shape.now.region c.args.line c.loop-channel.channel-index c.loop-channel.at c.loop-channel-test.false c.loop-channel.invariant.at
