-- The list is that of the window's chunks.
use Rattle.std.proofs.Common.{List, ℕ, subst, ◌∙◌}
use Rattle.exr_stream.specs.Stream.{file_of}
use Rattle.exr_reader.specs.Window.{HaveDataOf}
use Rattle.exr_reader.proofs.window.read_first.Goals as goal

pub returns-clause-first : goal.returns-clause-first
returns-clause-first g c = λ told.
    subst (λ (l : List ℕ). HaveDataOf (file_of g.S.Source.means c.args.stream.now) c.args.part l 1) (c.deref.ensures.value ∙ c.in_ok-chunks.ensures.exact) (c.in_ok-read_front.ensures.first told)
