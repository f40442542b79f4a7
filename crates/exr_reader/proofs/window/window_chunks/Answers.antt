use Rattle.exr_chunks.specs.Region.{header_at}
use Rattle.exr_reader.proofs.Meeting.{window_listed, window_chunks, if_ok}
use Rattle.exr_reader.proofs.window.window_chunks.Goals as goal

pub returns-clause-exact : goal.returns-clause-exact
returns-clause-exact g c =
    let hs = c.args.stream.now.head.parts in
    if_ok c.chunks_of.result _ _ (λ chunks is. window_listed c.geometry.result.now hs c.args.part c.args.window chunks.items c.geometry.ensures.exact is) c.chunks_of.ensures.exact

pub returns-clause-chunks : goal.returns-clause-chunks
returns-clause-chunks g c =
    let h = header_at c.args.stream.now.head.parts c.args.part in
    if_ok c.chunks_of.result _ _ (λ chunks is. window_chunks h c.args.window chunks.items is) (returns-clause-exact g c)
