-- Content that fits has no more bytes of samples than a chunk may have.
use Rattle.std.proofs.Common.{◌≡◌, true, subst}
use Rattle.exr_block.specs.Content.{fits as block_fits}
use Rattle.exr_block.specs.Body.{content_of as any_content_of}
use Rattle.exr_block.specs.declared.body.Block.{Block}
use Rattle.exr_chunks.specs.Region.{header_at, region_of}
use Rattle.exr_deep.specs.Body.{content_of}
use Rattle.exr_image.proofs.Fitting.{samples_small}
use Rattle.exr_reader.proofs.bands.read_deep_chunk.Goals as goal

pub returns-clause-samples : goal.returns-clause-samples
returns-clause-samples g c =
    let h = header_at c.args.stream.now.head.parts c.args.part in
    let region = region_of h c.args.index in
    samples_small h.channels (record { region = region; content = content_of c.in-Deep.content })
    (subst (λ (b : Block). block_fits h.channels region (any_content_of b) ≡ true) c.in-Deep.is c.in_ok-content.ensures.fits)
