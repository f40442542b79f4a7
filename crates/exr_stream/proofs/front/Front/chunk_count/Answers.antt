-- The geometry knows the parts of the head.
use Rattle.std.proofs.Common.{◌∙◌}
use Rattle.exr_stream.proofs.Bare.{chunks_by}
use Rattle.exr_stream.proofs.front.Front.chunk_count.Goals as goal

pub returns : goal.returns
returns c = c.chunk_count.ensures ∙ chunks_by c.args.self.now.geometry c.args.self.now.head.parts c.args.part c.requires.front.geometry
