use Rattle.std.proofs.Common.{◌≡◌, ◌+◌, ◌*◌, sum_by, take, subst, ◌∙◌, arith}
use Rattle.exr_base.specs.Channel.{bytes_of}
use Rattle.exr_base.specs.Shape.{channel_bytes_of}
use Rattle.exr_b44.specs.Block.{channels_unpacked}
use Rattle.exr_b44.proofs.Channels.{cut_off}
use Rattle.exr_b44.proofs.Stripes.{Laying, laying_begun, laying_more, laying_done, in_line, raw_rooms}
use Rattle.exr_b44.proofs.block.unpack_stripes.Goals as goal

pub loop-channel-init : goal.loop-channel-init
loop-channel-init c = laying_begun c.args.shape.now.region c.args.shape.now.channels.now c.args.packed.now c.args.raw.now

pub unpack_channel-requires-clause-fits : goal.unpack_channel-requires-clause-fits
unpack_channel-requires-clause-fits c =
    let shape = c.args.shape.now in
    let l = c.loop-channel in
    in_line shape.region shape.channels.now c.args.packed.now l.raw c.channel-item.result l.channel-index l.at l.first c.args.line c.counts_of-counts.result c.loop-channel-test.true c.channel-item.is
    c.counts_of-counts.ensures.columns c.counts_of-counts.ensures.rows c.requires.each c.requires.line l.invariant

pub unpack_channel-requires-clause-room : goal.unpack_channel-requires-clause-room
unpack_channel-requires-clause-room c =
    let shape = c.args.shape.now in
    let l = c.loop-channel in
    let rooms = raw_rooms shape.region shape.channels.now c.args.packed.now l.raw c.channel-item.result l.channel-index l.at l.first c.args.line c.counts_of-counts.result c.loop-channel-test.true c.channel-item.is
    c.counts_of-counts.ensures.columns c.counts_of-counts.ensures.rows c.requires.each c.requires.line l.invariant in
    l.auto.raw ∙ c.requires.room ∙ rooms

pub returns-in-None-clause-none : goal.returns-in-None-clause-none
returns-in-None-clause-none c =
    let shape = c.args.shape.now in
    let l = c.loop-channel in
    cut_off shape.region shape.channels.now c.args.packed.now (channels_unpacked shape.region shape.channels.now c.args.packed.now) c.channel-item.result l.channel-index l.at
    (sum_by (channel_bytes_of shape.region) (take l.channel-index shape.channels.now)) c.counts_of-counts.result c.loop-channel-test.true c.channel-item.is
    c.counts_of-counts.ensures.columns c.counts_of-counts.ensures.rows l.invariant.begun c.in-None.ensures.none

pub overflow_add-first : goal.overflow_add-first
overflow_add-first c =
    let shape = c.args.shape.now in
    let l = c.loop-channel in
    let fits = in_line shape.region shape.channels.now c.args.packed.now l.raw c.channel-item.result l.channel-index l.at l.first c.args.line c.counts_of-counts.result c.loop-channel-test.true c.channel-item.is
    c.counts_of-counts.ensures.columns c.counts_of-counts.ensures.rows c.requires.each c.requires.line l.invariant in
    omega (arith, fits, c.row_len-first.ensures.exact, c.ranges.line)

pub loop-channel-preserved : goal.loop-channel-preserved
loop-channel-preserved c =
    let shape = c.args.shape.now in
    let l = c.loop-channel in
    let size : l.first + c.counts_of-counts.result.columns * bytes_of c.channel-item.result.kind ≡ l.first + c.row_len-first.result = omega (arith, c.row_len-first.ensures.exact) in
    subst (λ n. Laying shape.region shape.channels.now c.args.packed.now c.unpack_channel.new.lines (l.channel-index + 1) c.in-Some.end n) size
    (laying_more shape.region shape.channels.now c.args.packed.now l.raw c.channel-item.result l.channel-index l.at l.first c.args.line c.counts_of-counts.result c.loop-channel-test.true c.channel-item.is
    c.counts_of-counts.ensures.columns c.counts_of-counts.ensures.rows c.requires.each c.requires.line l.invariant c.unpack_channel.new.lines c.in-Some.end c.in-Some.ensures.none c.in-Some.ensures.end c.in-Some.ensures.rows)

pub returns-clause-end : goal.returns-clause-end
returns-clause-end c =
    let shape = c.args.shape.now in
    let l = c.loop-channel in
    (laying_done shape.region shape.channels.now c.args.packed.now l.raw l.channel-index l.at l.first c.loop-channel-test.false (l.auto.raw ∙ c.requires.room) l.invariant).0

pub returns-clause-raw : goal.returns-clause-raw
returns-clause-raw c =
    let shape = c.args.shape.now in
    let l = c.loop-channel in
    (laying_done shape.region shape.channels.now c.args.packed.now l.raw l.channel-index l.at l.first c.loop-channel-test.false (l.auto.raw ∙ c.requires.room) l.invariant).1
