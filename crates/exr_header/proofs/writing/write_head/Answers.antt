use Rattle.std.proofs.Common.{◌≡◌, ap, ◌∙◌}
use Rattle.exr_header.specs.Head.{Head, head_from}
use Rattle.exr_header.proofs.Spelled.{read_again}
use Rattle.exr_header.proofs.writing.write_head.Goals as goal

pub returns-clause-again : goal.returns-clause-again
returns-clause-again c =
    let h = c.args.head.now in
    let made : Head = head_from c.multi.result c.parts.result.now in
    let same : made ≡ h = ap (λ m. head_from m c.parts.result.now) c.multi.ensures ∙ ap (head_from h.multi) c.parts.ensures.value in
    read_again (λ bytes. bytes.items) made h c.spelling_of.result same c.spelling_of.ensures c.parts.ensures.head.spelled
