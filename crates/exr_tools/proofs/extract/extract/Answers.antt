-- The buffer that is given is what was extracted.
use Rattle.std.proofs.Common.{ap, refl}
use Rattle.exr_tools.specs.Output.{buffer_under}
use Rattle.exr_tools.specs.Scene.{scene_of}
use Rattle.exr_tools.proofs.Left.{does_behind, leaves_behind}
use Rattle.exr_tools.proofs.Pieces.{bytes_of}
use Rattle.exr_tools.proofs.extract.extract.Goals as goal

pub returns-clause-done : goal.returns-clause-done
returns-clause-done g c =
    let file = c.file_pieces.ensures in
    does_behind c.deliver.result _ _ (buffer_under c.args.output.now (bytes_of c.deref.result.now)) _ (scene_of g.F.Files.means g.O.Printer.means c.file_pieces.new.files c.args.out.now) _
    (record { created = file.created; kept = file.kept; printed = refl; faults = refl })
    (λ told. record { buffer = bytes_of c.in_ok-pieces.pieces.items; extracted = c.in_ok-pieces.ensures.pieces told; is = ap (λ pieces. buffer_under c.args.output.now (bytes_of pieces)) c.deref.ensures.value })
    c.deliver.ensures.done

pub returns-clause-left : goal.returns-clause-left
returns-clause-left g c =
    let file = c.file_pieces.ensures in
    leaves_behind c.deliver.result _ _ (buffer_under c.args.output.now (bytes_of c.deref.result.now)) _ (scene_of g.F.Files.means g.O.Printer.means c.file_pieces.new.files c.args.out.now) _
    (record { created = file.created; kept = file.kept; printed = refl; faults = refl })
    (λ told. record { buffer = bytes_of c.in_ok-pieces.pieces.items; extracted = c.in_ok-pieces.ensures.pieces told; is = ap (λ pieces. buffer_under c.args.output.now (bytes_of pieces)) c.deref.ensures.value })
    c.deliver.ensures.left
