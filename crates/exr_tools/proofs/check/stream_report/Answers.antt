-- The report is that of the file's head.
use Rattle.std.proofs.Common.{List, map, ap, ◌∙◌}
use Rattle.exr_header.specs.Head.{Head}
use Rattle.exr_chunks.specs.Heads.{Header}
use Rattle.exr_chunks.specs.Part.{without_attributes}
use Rattle.exr_tools.specs.Texts.{report_of}
use Rattle.exr_tools.proofs.Lines.{bare_report}
use Rattle.exr_tools.proofs.check.stream_report.Goals as goal

pub returns-in_ok-report_of-in-Ok-clause-report : goal.returns-in_ok-report_of-in-Ok-clause-report
returns-in_ok-report_of-in-Ok-clause-report g c = λ told.
    let s = c.args.stream.now in
    let parts = s.head.parts in
    record {
      of = record { head = s.head; bytes = s.head_bytes; found = c.requires.head told; sound = c.in-Ok.ensures.sound told };
      shown = c.in_ok-report_of-in-Ok.ensures
          ∙ ap (λ (hs : List Header). report_of hs c.deref.result.now) (c.geometry.ensures.exact ∙ ap (λ (head : Head). map without_attributes head.parts) c.check.ensures.same.head)
          ∙ bare_report parts c.deref.result.now
          ∙ ap (report_of parts) (c.deref.ensures.value ∙ c.in-Ok.ensures.unread told);
    }
