use Rattle.exr_image.proofs.Places.{found_some}
use Rattle.exr_image.proofs.chunk.chunk_with.Goals as goal

pub unwrap-requires : goal.unwrap-requires
unwrap-requires c = found_some c.args.chunks.now c.args.pixel c.first_with-in-None.result c.requires c.first_with-in-None.ensures.none
