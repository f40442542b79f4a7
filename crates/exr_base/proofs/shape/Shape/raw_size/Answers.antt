-- The sizes of all channels make the raw size.
use Rattle.std.proofs.Common.{◌∙◌, sym, ap, arith}
use Rattle.std.specs.List.{sum_by}
use Rattle.std.proofs.lemmas.List.{take_all}
use Rattle.exr_base.specs.Shape.{channel_bytes_of}
use Rattle.exr_base.proofs.RawSize.{by_channels}
use Rattle.exr_base.proofs.shape.Shape.raw_size.Goals as goal

pub returns : goal.returns
returns c =
    let shape = c.args.self.now in
    c.loop-channel.invariant.so_far ∙ ap (sum_by (channel_bytes_of shape.region)) (take_all c.loop-channel.channel-index shape.channels.now (omega arith)) ∙ sym (by_channels shape.region shape.channels.now)
