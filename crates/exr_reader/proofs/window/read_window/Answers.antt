-- The list is that of the window's chunks.
use Rattle.std.proofs.Common.{◌≡◌, List, ℕ, length, ap, subst, ◌∙◌}
use Rattle.exr_chunks.specs.Region.{header_at}
use Rattle.exr_chunks.specs.Window.{chunks_of_window}
use Rattle.exr_stream.specs.Stream.{file_of}
use Rattle.exr_reader.specs.Window.{HaveDataOf}
use Rattle.exr_reader.proofs.Meeting.{on_ok}
use Rattle.exr_reader.proofs.window.read_window.Goals as goal

pub returns-in-Ok-clause-chunks : goal.returns-in-Ok-clause-chunks
returns-in-Ok-clause-chunks g c = λ told.
    let s = c.args.stream.now in
    let h = header_at s.head.parts c.args.part in
    let list : c.deref.result.now ≡ chunks_of_window h c.args.layout.now.window = c.deref.ensures.value ∙ c.in-Ok.ensures.exact ∙ ap (chunks_of_window h) c.window.ensures.value in
    on_ok c.read_chunks.result _ _ (subst (λ (l : List ℕ). HaveDataOf (file_of g.S.Source.means s) c.args.part l (length l)) list) (c.read_chunks.ensures.chunks told)
