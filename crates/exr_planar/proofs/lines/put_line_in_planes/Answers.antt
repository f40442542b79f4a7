-- Each row has its place, and the rows of the channels so far are there.
use Rattle.std.proofs.Common.{refl, ◌∙◌, arith}
use Rattle.exr_planar.specs.Planar.{row_of, planar_row_of}
use Rattle.exr_planar.proofs.Moves.{is_at, moved_begun, line_starts, line_ends, row_in_plane}
use Rattle.exr_planar.proofs.lines.put_line_in_planes.Goals as goal

pub loop-channel-init : goal.loop-channel-init
loop-channel-init g c = record {
  at = line_starts c.args.shape.now.channels.now c.args.shape.now.region c.args.line c.args.start c.requires.start;
  plane = omega arith;
  moved = moved_begun (row_of c.args.shape.now.channels.now c.args.shape.now.region) (planar_row_of c.args.shape.now.channels.now c.args.shape.now.region) c.args.shape.now.channels.now c.args.shape.now.region c.args.line c.args.raw.now (g.S.RowSink.planar c.args.sink.now);
  memory = refl;
}

pub overflow_add-plane : goal.overflow_add-plane
overflow_add-plane g c =
    let here = is_at c.args.shape.now.channels.now c.args.shape.now.region c.args.line c.loop-channel.channel-index c.loop-channel.at c.loop-channel.plane c.channel-item.result c.rows_at-rows.result c.loop-channel-test.true c.requires.line c.channel-item.is c.rows_at-rows.ensures c.loop-channel.invariant.at c.loop-channel.invariant.plane in
    let room = here.planar_room in
    let long = c.requires.raw in
    omega arith

pub take_row_at-requires-clause-there : goal.take_row_at-requires-clause-there
take_row_at-requires-clause-there g c =
    let here = is_at c.args.shape.now.channels.now c.args.shape.now.region c.args.line c.loop-channel.channel-index c.loop-channel.at c.loop-channel.plane c.channel-item.result c.rows_at-rows.result c.loop-channel-test.true c.requires.line c.channel-item.is c.rows_at-rows.ensures c.loop-channel.invariant.at c.loop-channel.invariant.plane in
    let room = here.raw_room in
    let long = c.requires.raw in
    omega arith

pub take_row_at-requires-clause-room : goal.take_row_at-requires-clause-room
take_row_at-requires-clause-room g c =
    let here = is_at c.args.shape.now.channels.now c.args.shape.now.region c.args.line c.loop-channel.channel-index c.loop-channel.at c.loop-channel.plane c.channel-item.result c.rows_at-rows.result c.loop-channel-test.true c.requires.line c.channel-item.is c.rows_at-rows.ensures c.loop-channel.invariant.at c.loop-channel.invariant.plane in
    let room = here.planar_room in
    let long = c.requires.planar in
    let kept = c.loop-channel.invariant.moved.size in
    omega arith

pub take_row_at-requires-clause-even_place : goal.take_row_at-requires-clause-even_place
take_row_at-requires-clause-even_place g c =
    let here = is_at c.args.shape.now.channels.now c.args.shape.now.region c.args.line c.loop-channel.channel-index c.loop-channel.at c.loop-channel.plane c.channel-item.result c.rows_at-rows.result c.loop-channel-test.true c.requires.line c.channel-item.is c.rows_at-rows.ensures c.loop-channel.invariant.at c.loop-channel.invariant.plane in
    here.even_place

pub take_row_at-requires-clause-even_size : goal.take_row_at-requires-clause-even_size
take_row_at-requires-clause-even_size g c =
    let here = is_at c.args.shape.now.channels.now c.args.shape.now.region c.args.line c.loop-channel.channel-index c.loop-channel.at c.loop-channel.plane c.channel-item.result c.rows_at-rows.result c.loop-channel-test.true c.requires.line c.channel-item.is c.rows_at-rows.ensures c.loop-channel.invariant.at c.loop-channel.invariant.plane in
    here.even_size

pub overflow_add-at : goal.overflow_add-at
overflow_add-at g c =
    let here = is_at c.args.shape.now.channels.now c.args.shape.now.region c.args.line c.loop-channel.channel-index c.loop-channel.at c.loop-channel.plane c.channel-item.result c.rows_at-rows.result c.loop-channel-test.true c.requires.line c.channel-item.is c.rows_at-rows.ensures c.loop-channel.invariant.at c.loop-channel.invariant.plane in
    let room = here.raw_room in
    let long = c.requires.raw in
    omega arith

pub overflow_add-plane-in-loop-channel : goal.overflow_add-plane-in-loop-channel
overflow_add-plane-in-loop-channel g c =
    let here = is_at c.args.shape.now.channels.now c.args.shape.now.region c.args.line c.loop-channel.channel-index c.loop-channel.at c.loop-channel.plane c.channel-item.result c.rows_at-rows.result c.loop-channel-test.true c.requires.line c.channel-item.is c.rows_at-rows.ensures c.loop-channel.invariant.at c.loop-channel.invariant.plane in
    let room = here.plane_room in
    let long = c.requires.raw in
    omega arith

pub loop-channel-preserved : goal.loop-channel-preserved
loop-channel-preserved g c =
    let here = is_at c.args.shape.now.channels.now c.args.shape.now.region c.args.line c.loop-channel.channel-index c.loop-channel.at c.loop-channel.plane c.channel-item.result c.rows_at-rows.result c.loop-channel-test.true c.requires.line c.channel-item.is c.rows_at-rows.ensures c.loop-channel.invariant.at c.loop-channel.invariant.plane in
    record {
      at = here.next;
      plane = here.next_plane;
      moved = row_in_plane c.args.shape.now.channels.now c.args.shape.now.region c.args.line c.loop-channel.channel-index c.loop-channel.at c.loop-channel.plane c.rows_at-rows.result c.args.raw.now (g.S.RowSink.planar c.args.sink.now) (g.S.RowSink.planar c.loop-channel.sink) (g.S.RowSink.planar c.take_row_at.new.sink) here c.loop-channel-test.true c.requires.line c.requires.raw c.requires.planar c.take_row_at.ensures.row c.loop-channel.invariant.moved;
      memory = c.take_row_at.ensures.memory ∙ c.loop-channel.invariant.memory;
    }

pub returns-clause-next : goal.returns-clause-next
returns-clause-next g c = line_ends c.args.shape.now.channels.now c.args.shape.now.region c.args.line c.loop-channel.channel-index c.loop-channel.at c.loop-channel-test.false c.loop-channel.invariant.at
