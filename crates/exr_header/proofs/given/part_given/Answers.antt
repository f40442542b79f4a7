use Rattle.exr_attributes.specs.Spelling.{AreAttributes}
use Rattle.exr_header.proofs.Judged.{judged_attributes}
use Rattle.exr_header.proofs.given.part_given.Goals as goal

pub returns-clause-attributes : goal.returns-clause-attributes
returns-clause-attributes c =
    let all : AreAttributes c.args.map = record { lawful = c.entries-entries.ensures.lawful; sizes = c.entries-entries.ensures.sized } in
    judged_attributes c.args.flags c.args.earlier.now c.in_ok-kind.kind c.args.map c.judged.result all c.judged.ensures.exact
