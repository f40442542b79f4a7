use Rattle.std.proofs.Common.{◌≡◌, ◌+◌, ◌-◌, ◌*◌, refl, arith}
use Rattle.exr_base.proofs.RawSize.{by_channels}
use Rattle.exr_piz.specs.Planes.{channel_words_of}
use Rattle.exr_piz.specs.Turns.{turn_by}
use Rattle.exr_piz.proofs.Turning.{words_twice, channel_more, channels_all, size_is, planes_as}
use Rattle.exr_piz.proofs.planes.turn_channels.Goals as goal

pub loop-channel-init : goal.loop-channel-init
loop-channel-init c =
    let shape = c.args.shape.now in
    record { left = omega (arith, c.requires.size, by_channels shape.region shape.channels.now, words_twice shape.region shape.channels.now); so_far = refl }

pub loop-channel-preserved : goal.loop-channel-preserved
loop-channel-preserved c =
    let a = c.args in
    let l = c.loop-channel in
    let shape = a.shape.now in
    let planes = c.planes_of-planes in
    let size = planes.result.columns * planes.result.lines * planes.result.words in
    let channel = c.channel-item.result in
    let sized : size ≡ channel_words_of shape.region channel = size_is planes.result.columns planes.result.lines planes.result.words _ _ _ planes.ensures.columns planes.ensures.lines planes.ensures.words in
    let gap : l.at + size - l.at ≡ size = omega arith in
    let more = channel_more (turn_by a.way a.max) shape.region shape.channels.now a.words.now l.words c.turn_planes.new.words channel l.channel-index l.at size (l.at + size - l.at) c.loop-channel-test.true c.channel-item.is
    (record { left = l.invariant.left; so_far = l.invariant.so_far }) sized gap
    (planes_as (turn_by a.way a.max) planes.result.columns planes.result.lines planes.result.words _ _ _ (l.at + size - l.at) size l.at l.words c.turn_planes.new.words planes.ensures.columns planes.ensures.lines planes.ensures.words gap c.turn_planes.ensures) in
    record { left = more.left; so_far = more.so_far }

pub returns : goal.returns
returns c =
    let a = c.args in
    let l = c.loop-channel in
    channels_all (turn_by a.way a.max) a.shape.now.region a.shape.now.channels.now a.words.now l.words l.channel-index l.at c.loop-channel-test.false (record { left = l.invariant.left; so_far = l.invariant.so_far })
