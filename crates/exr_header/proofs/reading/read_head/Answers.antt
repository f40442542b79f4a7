use Rattle.std.proofs.Common.{arith}
use Rattle.exr_attributes.specs.Spelling.{IsBytes}
use Rattle.exr_header.proofs.Found.{found_so, read_so}
use Rattle.exr_header.proofs.Settled.{gives_inside, is_settled}
use Rattle.exr_header.proofs.reading.read_head.Goals as goal

pub returns-clause-found : goal.returns-clause-found
returns-clause-found c =
    let are : IsBytes c.args.bytes.now = λ i. omega (arith, c.type_inv.bytes i) in
    found_so (λ x. (x.0, x.1)) c.args.bytes.now c.front_head.result are c.front_head.ensures

pub returns-clause-again : goal.returns-clause-again
returns-clause-again c =
    λ front rest h e spelled. read_so (λ x. (x.0, x.1)) c.args.bytes.now front rest h c.front_head.result c.front_head.ensures e spelled

pub returns-clause-inside : goal.returns-clause-inside
returns-clause-inside c = gives_inside (λ x. (x.0, x.1)) c.args.bytes.now c.front_head.result c.front_head.ensures

pub returns-clause-settled : goal.returns-clause-settled
returns-clause-settled c = is_settled c.args.bytes.now
