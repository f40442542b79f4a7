-- What is read of the first bytes is what is read of all.
use Rattle.std.proofs.Common.{◌≡◌, true, false, List, ℕ, Bool, Err, ap, sym, subst, ◌∙◌}
use Rattle.std.proofs.lemmas.Bool.{false≢true}
use Rattle.exr_base.specs.Refusal.{Refuses}
use Rattle.exr_base.specs.declared.refusal.Refusal.{Refusal}
use Rattle.exr_attributes.specs.declared.fault.HeaderFault.{HeaderFault}
use Rattle.exr_header.specs.Head.{head_of}
use Rattle.exr_opening.specs.Opening.{is_end}
use Rattle.exr_opening.proofs.Growing.{ok_found, fault_found}
use Rattle.exr_opening.proofs.opening.head_in.Goals as goal
use Rattle.exr_opening.proofs.opening.head_in.Goals.{else-more-via-then-more+else-is_end, else-more-via-else-more}

pub returns-in-Ok-clause-found : goal.returns-in-Ok-clause-found
returns-in-Ok-clause-found c = λ content front. ok_found c.args.bytes.now content c.args.more _ front c.in-Ok.ensures.settled c.in-Ok.ensures.exact

pub returns-else-more-clause-found : goal.returns-else-more-clause-found
returns-else-more-clause-found c = λ content front.
    let fault = c.in-Err-Fault.fault in
    let read : head_of c.args.bytes.now ≡ Err fault = subst (λ (x : Refusal HeaderFault). Refuses x (head_of c.args.bytes.now)) c.in-Err-Fault.field-0-is c.in-Err-Fault.ensures.exact in
    let other : c.args.more ≡ true → is_end fault ≡ false = λ is. elim c.else-more.branch [
      | else-more-via-then-more+else-is_end w ↦ sym w.is_end.ensures ∙ w.if-is_end.false
      | else-more-via-else-more w ↦ absurd (false≢true (sym w.if-more.false ∙ is))
    ] in
    fault_found c.args.bytes.now content c.args.more fault front c.in-Err-Fault.ensures.settled other read
