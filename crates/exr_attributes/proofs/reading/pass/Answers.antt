use Rattle.std.proofs.Common.{◌≡◌, Some, None, Err, ap, ◌∙◌, sym, subst}
use Rattle.exr_attributes.specs.declared.fault.HeaderFault.{HeaderFault}
use Rattle.exr_attributes.specs.Pass.{IsPass}
use Rattle.exr_attributes.specs.Reading.{next_at}
use Rattle.exr_attributes.proofs.Heads.{came}
use Rattle.exr_attributes.proofs.Passes.{sets_out, takes_in, ends_closed, ends_broken, ends_past}
use Rattle.exr_attributes.proofs.reading.pass.Goals as goal

pub loop-i-init : goal.loop-i-init
loop-i-init c = sets_out c.args.from.now c.args.entries.now.items c.args.starts.now.items c.requires.none c.requires.no_places

pub loop-i-preserved : goal.loop-i-preserved
loop-i-preserved c =
    let next : next_at c.loop-i.from ≡ came c.next.new.from (Some c.in-Ok-Some.entry) = c.in-Ok-Some.ensures ∙ ap (came c.next.new.from) c.in-Ok-Some.field-0-is in
    let more = takes_in c.args.from.now c.loop-i.from c.next.new.from c.loop-i._i c.loop-i.entries.items c.loop-i.starts.items c.in-Ok-Some.entry c.loop-i-test.true c.loop-i.invariant next c.bytes-name.ensures.named c.bytes-kind.ensures.named c.bytes-value.ensures.sized in
    rw (c.in_ok-push.ensures.items, c.in_ok-push-2.ensures.items, c.at-start.ensures) more

pub returns-in-Ok-None : goal.returns-in-Ok-None
returns-in-Ok-None c =
    let next : next_at c.loop-i.from ≡ came c.next.new.from None = c.in-Ok-None.ensures ∙ ap (came c.next.new.from) c.in-Ok-None.field-0-is in
    ends_closed c.args.from.now c.loop-i.from c.next.new.from c.loop-i._i c.loop-i.entries.items c.loop-i.starts.items c.loop-i-test.true c.loop-i.invariant next

pub returns-in-Err-Fault : goal.returns-in-Err-Fault
returns-in-Err-Fault c =
    let next : next_at c.loop-i.from ≡ Err c.in-Err-Fault.fault = rw c.in-Err-Fault.field-0-is at c.in-Err-Fault.ensures in
    let broken = ends_broken c.args.from.now c.loop-i.from c.next.new.from c.loop-i._i c.loop-i.entries.items c.loop-i.starts.items c.in-Err-Fault.fault c.loop-i-test.true c.loop-i.invariant next in
    subst (λ (f : HeaderFault). IsPass c.args.from.now c.next.new.from c.loop-i.entries.items c.loop-i.starts.items (Some f)) (sym c.in-Err-Fault.fault-is) broken

pub returns : goal.returns
returns c = ends_past c.args.from.now c.loop-i.from c.loop-i._i c.loop-i.entries.items c.loop-i.starts.items c.past.result c.loop-i-test.false c.loop-i.invariant c.past.ensures
