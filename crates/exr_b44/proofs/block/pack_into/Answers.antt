use Rattle.std.proofs.Common.{◌<◌, length, get_or, ap, subst, ◌∙◌, arith}
use Rattle.exr_base.proofs.RawSize.{by_channels}
use Rattle.exr_b44.specs.Block.{b44_pack_of, channels_packed, b44_of}
use Rattle.exr_b44.proofs.RoundTrip.{b44_back}
use Rattle.exr_b44.proofs.block.pack_into.Goals as goal

pub returns-clause-packed : goal.returns-clause-packed
unfolding b44_pack_of
returns-clause-packed c = c.pack_channels.ensures.packed ∙ ap (channels_packed c.args.shape.now.region c.args.flat c.args.shape.now.channels.now) c.put_planar.ensures.exact

pub returns-clause-keeps : goal.returns-clause-keeps
returns-clause-keeps c =
    let shape = c.args.shape.now in
    let planar = c.put_planar.new.into in
    ap (b44_of shape.channels.now shape.region) (returns-clause-packed c)
    ∙ b44_back shape.channels.now shape.region c.args.flat c.args.raw.now
    (omega (arith, ap length c.put_planar.ensures.exact, c.put_planar.auto.into, c.requires.planar, by_channels shape.region shape.channels.now))
    (λ k. subst (λ l. get_or l k 0 < 256) c.put_planar.ensures.exact (c.pack_channels.ensures.bytes k))
