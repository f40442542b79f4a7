-- The line has the number of the fault.
use Rattle.std.proofs.Common.{◌++◌, ◌∷◌, [], ap, sym, ◌∙◌}
use Rattle.std.specs.Prelude.{codes, decimal}
use Rattle.exr_tools.specs.Texts.{file_line_of}
use Rattle.exr_tools.proofs.stop.file_line.Goals as goal

pub returns-in_ok-format-in-Head : goal.returns-in_ok-format-in-Head
returns-in_ok-format-in-Head c =
    c.in_ok-format-in-Head.ensures.ok ∙ ap (λ n. codes "exr: file " ++ (decimal c.args.file ++ (codes " head fault " ++ (decimal n ++ 10 ∷ [])))) c.number-number.ensures ∙ ap (file_line_of c.args.file) (sym c.in-Head.is)
