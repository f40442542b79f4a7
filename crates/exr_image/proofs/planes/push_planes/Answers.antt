use Rattle.std.proofs.Common.{rules, ◌<◌, ℕ, ◌++◌, [], List, set, map, length, sym, ap, ap₂, subst, ◌∙◌, Vec, Global}
use Rattle.std.specs.List.{All, flat_map}
use Rattle.std.proofs.lemmas.List.{length-map, map-set, get_or-map}
use Rattle.exr_base.specs.declared.channel.Channel.{Channel}
use Rattle.exr_base.specs.Channel.{bytes_of}
use Rattle.exr_image.specs.declared.sizes.Sizes.{Sizes}
use Rattle.exr_image.specs.Pieces.{samples_of, HasSamples}
use Rattle.exr_image.proofs.Joined.{sizes_are, earlier_more, none_pushed, next_pushed}
use Rattle.exr_image.proofs.planes.push_planes.Goals as goal

pub push_plane-requires : goal.push_plane-requires
push_plane-requires c =
    let channels = c.args.channels.now in
    let n = c.loop-number.number in
    let so_far = c.loop-number.invariant in
    let lt = c.loop-number-test.true in
    let own = c.bytes-own.ensures ∙ ap (λ (channel : Channel). bytes_of channel.kind) (sym c.index-channels-number.is) in
    let is = sizes_are channels n c.index-channels-number.result c.sample_bytes-all.result c.loop-number.earlier c.bytes-own.result lt c.index-channels-number.is c.sample_bytes-all.ensures.exact so_far.earlier own in
    subst (λ (sizes : Sizes). All (HasSamples c.args.chunks.now sizes) c.args.pieces.now) (sym is) (c.requires.pieces n lt)

pub loop-number-init : goal.loop-number-init
loop-number-init c = record {
  pushed = none_pushed c.args.channels.now c.args.chunks.now c.args.pieces.now (map (λ plane. plane.items) c.args.planes.now);
  earlier = search rules;
  small = search rules;
}

pub loop-number-preserved : goal.loop-number-preserved
loop-number-preserved c =
    let channels = c.args.channels.now in
    let chunks = c.args.chunks.now in
    let pieces = c.args.pieces.now in
    let planes = c.loop-number.planes in
    let n = c.loop-number.number in
    let so_far = c.loop-number.invariant in
    let lt = c.loop-number-test.true in
    let view : Vec ℕ Global → List ℕ = λ plane. plane.items in
    let plane = c.index-planes-number.result in
    let own = c.bytes-own.ensures ∙ ap (λ (channel : Channel). bytes_of channel.kind) (sym c.index-channels-number.is) in
    let is = sizes_are channels n c.index-channels-number.result c.sample_bytes-all.result c.loop-number.earlier c.bytes-own.result lt c.index-channels-number.is c.sample_bytes-all.ensures.exact so_far.earlier own in
    let there : n < length planes = search rules in
    record {
      pushed =
          next_pushed channels chunks pieces (map view c.args.planes.now) (map view planes) (map view (set planes n c.push_plane.new.plane)) n (subst (λ m. n < m) (sym (length-map planes view)) there)
          (map-set view planes n c.push_plane.new.plane
          ∙ ap (set (map view planes) n)
          (c.in_ok-push_plane.ensures
          ∙ ap₂ (λ (l : List ℕ) (sizes : Sizes). l ++ flat_map (samples_of chunks sizes) pieces) (sym (get_or-map view planes n plane [] there)) is))
          so_far.pushed;
      earlier = earlier_more channels n c.index-channels-number.result c.loop-number.earlier c.bytes-own.result lt c.index-channels-number.is so_far.earlier own;
      small = search rules;
    }
