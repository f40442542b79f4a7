-- The report is printed, and no file is made.
use Rattle.std.proofs.Common.{ap, refl, sym, append-nil}
use Rattle.exr_tools.specs.Output.{text_alone}
use Rattle.exr_tools.specs.Scene.{scene_of}
use Rattle.exr_tools.proofs.Left.{done_by_printing, left_by_printing, does_behind, leaves_behind}
use Rattle.exr_tools.proofs.check.check.Goals as goal

pub returns-clause-done : goal.returns-clause-done
returns-clause-done g c =
    let file = c.file_report.ensures in
    does_behind c.print.result _ _ (text_alone c.deref.result.now) _ (scene_of g.F.Files.means g.O.Printer.means c.file_report.new.files c.args.out.now) _
    (record { created = file.created; kept = file.kept; printed = refl; faults = refl })
    (λ told. record { report = c.in_ok-report.report.items; reported = c.in_ok-report.ensures.report told; is = ap text_alone c.deref.ensures.value })
    (done_by_printing c.print.result _ (text_alone c.deref.result.now) _ _ c.deref.result.now refl (λ tell. sym (append-nil _)) (λ tell sinks. sym (append-nil _)) c.print.ensures.printed)

pub returns-clause-left : goal.returns-clause-left
returns-clause-left g c =
    let file = c.file_report.ensures in
    leaves_behind c.print.result _ _ (text_alone c.deref.result.now) _ (scene_of g.F.Files.means g.O.Printer.means c.file_report.new.files c.args.out.now) _
    (record { created = file.created; kept = file.kept; printed = refl; faults = refl })
    (λ told. record { report = c.in_ok-report.report.items; reported = c.in_ok-report.ensures.report told; is = ap text_alone c.deref.ensures.value })
    (left_by_printing c.print.result _ (text_alone c.deref.result.now) _ _ c.deref.result.now refl (λ tell. sym (append-nil _)) (λ tell sinks. sym (append-nil _)) c.print.ensures.begun c.print.ensures.write c.print.ensures.reason)
