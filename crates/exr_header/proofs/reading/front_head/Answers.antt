use Rattle.std.proofs.Common.{◌≡◌, Ok, subst, take, arith}
use Rattle.exr_base.specs.Cursor.{Position}
use Rattle.exr_attributes.specs.Spelling.{IsBytes}
use Rattle.exr_header.specs.Head.{Head, head_from, head_at}
use Rattle.exr_header.proofs.Found.{head_found}
use Rattle.exr_header.proofs.Rewritten.{written_again}
use Rattle.exr_header.proofs.reading.front_head.Goals as goal

pub invariant_of-result : goal.invariant_of-result
invariant_of-result c =
    let bytes = c.args.bytes.now in
    let h : Head = head_from c.in_ok-multi.multi c.in_ok-multi.parts.items in
    let are : IsBytes bytes = λ i. omega (arith, c.type_inv.bytes i) in
    let read = subst (λ (p : Position). head_at p ≡ Ok (h, c.head.new.from)) c.new-from.ensures c.in_ok-multi.ensures.exact in
    record {
      pictures = c.in_ok-multi.ensures.pictures;
      spelled = written_again (take c.head.new.from.at bytes) h (head_found bytes h c.head.new.from are read);
    }
