use Rattle.exr_chunks.proofs.Pixels.{one_chunk}
use Rattle.exr_chunks.proofs.laws.each_pixel_has_one_chunk.Goals as goal

pub returns : goal.returns
returns c = one_chunk
