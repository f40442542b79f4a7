use Rattle.std.proofs.Common.{◌∙◌, ap, sym, arith}
use Rattle.exr_attributes.proofs.Heads.{ended_with}
use Rattle.exr_attributes.proofs.Passes.{closed_is, closed_lawful, broken_is, second_is, second_within}
use Rattle.exr_attributes.proofs.reading.header.Goals as goal

pub index-requires : goal.index-requires
index-requires c =
    let within = second_within c.args.from.now c.pass.new.from c.pass.new.entries.items c.as_slice.result.now c.pass.new.starts.items c.in_ok-fault.fault c.in_ok-second.field-0 c.in-Some.second c.in_ok-fault.ensures c.as_slice.ensures.value c.in_ok-second.ensures c.in-Some.is in
    let len = c.pass.new.starts.ok.0 in
    omega (arith, within, len)

pub of-requires : goal.of-requires
of-requires c =
    closed_lawful c.args.from.now c.pass.new.from c.pass.new.entries.items c.as_slice.result.now c.pass.new.starts.items c.in_ok-fault.fault c.in_ok-second.field-0 c.in_ok-fault.ensures c.as_slice.ensures.value c.in_ok-second.ensures c.in_default.is

pub returns-in-None : goal.returns-in-None
returns-in-None c =
    closed_is c.args.from.now c.pass.new.from c.pass.new.entries.items c.as_slice.result.now c.pass.new.starts.items c.in_ok-fault.fault c.in_ok-second.field-0 c.in_ok-fault.ensures c.as_slice.ensures.value c.in_ok-second.ensures c.in_default.is c.in-None.is
    ∙ ap (ended_with c.pass.new.from) (sym c.of.ensures)

pub returns-in-Some : goal.returns-in-Some
returns-in-Some c =
    second_is c.args.from.now c.pass.new.from c.pass.new.entries.items c.as_slice.result.now c.pass.new.starts.items c.in_ok-fault.fault c.in_ok-second.field-0 c.in-Some.second c.index.result.now c.in_ok-fault.ensures c.as_slice.ensures.value c.in_ok-second.ensures c.in-Some.is c.index.ensures

pub returns-in-Some-fault : goal.returns-in-Some-fault
returns-in-Some-fault c =
    broken_is c.args.from.now c.pass.new.from c.pass.new.entries.items c.as_slice.result.now c.pass.new.starts.items c.in_ok-fault.fault c.in_ok-second.field-0 c.in-Some-fault.fault c.in_ok-fault.ensures c.as_slice.ensures.value c.in_ok-second.ensures c.in_default.is c.in-Some-fault.is
