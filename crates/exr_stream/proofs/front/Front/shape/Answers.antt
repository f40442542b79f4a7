use Rattle.std.proofs.Common.{◌≡◌, ◌≤◌, ◌^◌, ap, subst, ◌∙◌}
use Rattle.exr_block.specs.Sizes.{raw_bytes_of}
use Rattle.std.proofs.lemmas.List.Elements.{All-get_or}
use Rattle.exr_chunks.specs.Heads.{Header, IsPicture}
use Rattle.exr_chunks.specs.Region.{no_header, header_at}
use Rattle.exr_stream.proofs.Shapes.{header_is, shape_of, shape_small}
use Rattle.exr_stream.proofs.front.Front.shape.Goals as goal

pub returns-clause-shape : goal.returns-clause-shape
returns-clause-shape c =
    let hs = c.args.self.now.head.parts in
    let same : c.channels.result.now ≡ (header_at hs c.args.part).channels = c.channels.ensures ∙ ap (λ (h : Header). h.channels) (header_is hs c.parts.result.now c.args.part c.index-parts-part.result c.parts.ensures.value c.requires.part c.index-parts-part.is) in
    shape_of (header_at hs c.args.part) c.channels.result.now c.region-region.result (All-get_or IsPicture hs c.args.part no_header c.requires.part c.requires.front.pictures) same c.region-region.ensures.region

pub returns-clause-bytes : goal.returns-clause-bytes
returns-clause-bytes c =
    let hs = c.args.self.now.head.parts in
    let same : c.channels.result.now ≡ (header_at hs c.args.part).channels = c.channels.ensures ∙ ap (λ (h : Header). h.channels) (header_is hs c.parts.result.now c.args.part c.index-parts-part.result c.parts.ensures.value c.requires.part c.index-parts-part.is) in
    shape_small hs c.args.part c.args.index c.channels.result.now c.region-region.result c.requires.front.pictures c.requires.front.measured c.requires.part c.requires.index same c.region-region.ensures.exact

pub returns-clause-small : goal.returns-clause-small
returns-clause-small c = λ flat.
    subst (λ b. raw_bytes_of b c.channels.result.now c.region-region.result ≤ 2 ^ 26) flat (returns-clause-bytes c)
