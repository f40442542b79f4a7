-- The bands make the image of the window, from the chunks that it meets.
use Rattle.std.proofs.Common.{length, List, ℕ, OnOk, ◌∙◌, subst}
use Rattle.exr_stream.specs.Stream.{file_of}
use Rattle.exr_reader.specs.Window.{HaveDataOf}
use Rattle.exr_reader.proofs.deep.read_deep.Goals as goal

pub returns-clause-chunks : goal.returns-clause-chunks
returns-clause-chunks g c = λ told.
    let file = file_of g.S.Source.means c.args.stream.now in
    let same = c.deref.ensures.value ∙ c.in_ok-chunks.ensures.exact in
    subst (λ (l : List ℕ). OnOk c.read_bands-read.result (HaveDataOf file c.args.part l (length l))) same (c.read_bands-read.ensures.content told)
