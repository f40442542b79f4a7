-- What the input of a test or of an extraction calls for.
use Rattle.std.proofs.Common.{inr, sym, ap, subst, ◌∙◌}
use Rattle.exr_asked.specs.Choices.{choices_in}
use Rattle.exr_asked.specs.Demand.{demand_of, demand_in}
use Rattle.exr_words.specs.Command.{command_in, first_of}
use Rattle.exr_words.specs.Words.{texts_of, command_of}
use Rattle.exr_tools.specs.Run.{IsUnread, IsBroken, IsWhole, IsDue, IsSound, IsReadable}
use Rattle.exr_tools.proofs.Answered.{one_value, stops_or, stops_or_wider, owes_or, owes_or_wider}
use Rattle.exr_tools.proofs.Broken.{broken_alone, whole_not_broken}
use Rattle.exr_tools.proofs.Due.{due_alone, read_not_due, extracted_read}
use Rattle.exr_tools.proofs.top.run.Goals as goal

pub returns-in-Extract-clause-due : goal.returns-in-Extract-clause-due
returns-in-Extract-clause-due g c = λ told command due order is.
    let files = g.W.World.bytes_of in
    let e = c.in-Extract in
    let same = one_value (command_of (texts_of c.args.words.now)) command (command_in c.in_ok-inputs.field-0) order c.in_ok-inputs.ensures.exact ∙ ap command_in e.is in
    let given : IsUnread due 0 (files (first_of e.inputs)) (demand_in (choices_in e.choices)) = subst (λ k. IsDue k files due) same is in
    let here : IsUnread due c.new-extraction.result.file (files c.first-in-Extract.result.now) (demand_of c.new-extraction.result.asked) =
    subst (λ i. IsUnread due i (files c.first-in-Extract.result.now) (demand_of c.new-extraction.result.asked)) (sym c.new-extraction.ensures.file)
    (subst (λ name. IsUnread due 0 (files name) (demand_of c.new-extraction.result.asked)) (sym c.first-in-Extract.ensures) (subst (IsUnread due 0 (files (first_of e.inputs))) (sym c.new-extraction.ensures.asked) given)) in
    let i = c.new-extraction.result.file in
    let file = files c.first-in-Extract.result.now in
    let d = demand_of c.new-extraction.result.asked in
    stops_or c.extract.result (λ x. IsUnread x i file d) due _ _ _ _ (due_alone i file d) (λ w x. let given = w.given told in read_not_due i file d x (extracted_read file d c.new-extraction.result.byte given.buffer given.extracted)) told
    c.extract.ensures.done c.extract.ensures.reason here

pub returns-in-Extract-clause-complete : goal.returns-in-Extract-clause-complete
returns-in-Extract-clause-complete g c = λ told command order sound.
    let files = g.W.World.bytes_of in
    let e = c.in-Extract in
    let same = one_value (command_of (texts_of c.args.words.now)) command (command_in c.in_ok-inputs.field-0) order c.in_ok-inputs.ensures.exact ∙ ap command_in e.is in
    let given : IsReadable (files (first_of e.inputs)) (demand_in (choices_in e.choices)) = subst (λ k. IsSound k files) same sound in
    let here : IsReadable (files c.first-in-Extract.result.now) (demand_of c.new-extraction.result.asked) =
    subst (λ name. IsReadable (files name) (demand_of c.new-extraction.result.asked)) (sym c.first-in-Extract.ensures) (subst (IsReadable (files (first_of e.inputs))) (sym c.new-extraction.ensures.asked) given) in
    let i = c.new-extraction.result.file in
    let file = files c.first-in-Extract.result.now in
    let d = demand_of c.new-extraction.result.asked in
    owes_or c.extract.result (λ x. IsUnread x i file d) _ _ _ (λ x. read_not_due i file d x here) told c.extract.ensures.reason

pub returns-in-Check-clause-due : goal.returns-in-Check-clause-due
returns-in-Check-clause-due g c = λ told command due order is.
    let files = g.W.World.bytes_of in
    let e = c.in-Check in
    let same = one_value (command_of (texts_of c.args.words.now)) command (command_in c.in_ok-inputs.field-0) order c.in_ok-inputs.ensures.exact ∙ ap command_in e.is in
    let given : IsBroken due 0 (files (first_of e.inputs)) = subst (λ k. IsDue k files due) same is in
    let file = files c.first-in-Check.result.now in
    let here : IsBroken due 0 file = subst (λ name. IsBroken due 0 (files name)) (sym c.first-in-Check.ensures) given in
    stops_or_wider c.check.result due _ _ _ (λ rose. inr rose)
    (stops_or c.check.result (λ x. IsBroken x 0 file) due _ _ _ _ (broken_alone 0 file) (λ w. whole_not_broken 0 file (w.given told).reported.of) told
    c.check.ensures.done c.check.ensures.reason here)

pub returns-in-Check-clause-complete : goal.returns-in-Check-clause-complete
returns-in-Check-clause-complete g c = λ told command order sound.
    let files = g.W.World.bytes_of in
    let e = c.in-Check in
    let same = one_value (command_of (texts_of c.args.words.now)) command (command_in c.in_ok-inputs.field-0) order c.in_ok-inputs.ensures.exact ∙ ap command_in e.is in
    let given : IsWhole (files (first_of e.inputs)) = subst (λ k. IsSound k files) same sound in
    let file = files c.first-in-Check.result.now in
    let here : IsWhole file = subst (λ name. IsWhole (files name)) (sym c.first-in-Check.ensures) given in
    owes_or_wider c.check.result _ _ _ (λ rose. inr rose) (owes_or c.check.result (λ x. IsBroken x 0 file) _ _ _ (whole_not_broken 0 file here) told c.check.ensures.reason)
