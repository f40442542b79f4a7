-- The file is whole before its line is made and printed.
use Rattle.std.proofs.Common.{rules, ◌∙◌, ap, refl}
use Rattle.exr_tools.specs.Output.{buffer_under}
use Rattle.exr_tools.proofs.Left.{left_without_line, done_by_printing, left_by_printing}
use Rattle.exr_tools.specs.Texts.{extract_line}
use Rattle.exr_tools.proofs.Pieces.{bytes_of}
use Rattle.exr_tools.proofs.extract.deliver.Goals as goal

pub returns-in_err-line-clause-left : goal.returns-in_err-line-clause-left
returns-in_err-line-clause-left g c =
    left_without_line c.from_residual-in_err-line.result _ c.args.name.now (bytes_of c.args.pieces.now) _ _ c.in_ok-write_file.ensures.created c.in_ok-write_file.ensures.kept (λ tell. refl) (search rules)

pub returns-clause-done : goal.returns-clause-done
returns-clause-done g c =
    done_by_printing c.print.result _ (buffer_under c.args.name.now (bytes_of c.args.pieces.now)) _ _ c.as_bytes.result.now (c.as_bytes.ensures.value ∙ c.in_ok-line.ensures.ok ∙ ap extract_line c.size_of_pieces-count.ensures) c.in_ok-write_file.ensures.created c.in_ok-write_file.ensures.kept c.print.ensures.printed

pub returns-clause-left : goal.returns-clause-left
returns-clause-left g c =
    left_by_printing c.print.result _ (buffer_under c.args.name.now (bytes_of c.args.pieces.now)) _ _ c.as_bytes.result.now (c.as_bytes.ensures.value ∙ c.in_ok-line.ensures.ok ∙ ap extract_line c.size_of_pieces-count.ensures) c.in_ok-write_file.ensures.created c.in_ok-write_file.ensures.kept c.print.ensures.begun c.print.ensures.write c.print.ensures.reason
