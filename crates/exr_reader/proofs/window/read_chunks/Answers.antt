-- All chunks of the window are all its samples.
use Rattle.std.proofs.Common.{List, ℕ, length, subst}
use Rattle.exr_chunks.specs.Region.{header_at}
use Rattle.exr_reader.specs.Window.{target_of, ArePut}
use Rattle.exr_reader.proofs.Meeting.{window_chunks, on_ok}
use Rattle.exr_reader.proofs.Filling.{put_all}
use Rattle.exr_reader.proofs.window.read_chunks.Goals as goal

pub read_rounds-result-requires-clause-chunks : goal.read_rounds-result-requires-clause-chunks
read_rounds-result-requires-clause-chunks g c κs within =
    window_chunks (header_at c.args.stream.now.head.parts c.args.target.now.part) c.args.target.now.layout.now.window c.args.chunks.now c.requires.chunks

pub returns-clause-filled : goal.returns-clause-filled
returns-clause-filled g c = λ told.
    let t = target_of g.S.Source.means c.args.stream.now c.args.target.now.part c.args.target.now.layout.now c.args.target.now.plan.now in
    let new = c.read_rounds-result.new.into in
    on_ok c.read_rounds-result.result _ _
    (λ put. put_all t c.args.into.now new c.requires.picture c.requires.window (subst (λ (l : List ℕ). ArePut t l (length l) c.args.into.now new) c.requires.chunks put))
    (c.read_rounds-result.ensures.put told)
