-- A request that is refused is the reason.
use Rattle.std.proofs.Common.{IsTrue, sym, subst}
use Rattle.exr_outside.specs.Count.{Rose}
use Rattle.exr_asked.specs.Demand.{demand_of}
use Rattle.exr_request.specs.Request.{IsRefusal}
use Rattle.exr_tools.specs.Run.{IsUnread, HasReason}
use Rattle.exr_tools.proofs.Granting.{refused_reason}
use Rattle.exr_tools.proofs.extract.stream_pieces.Goals as goal

pub returns-in-Err-clause-reason : goal.returns-in-Err-clause-reason
returns-in-Err-clause-reason g c =
    let means = g.S.Source.means in
    let s = c.args.stream.now in
    let file = means.content s.source in
    let d = demand_of c.args.extraction.now.asked in
    let rose = Rose (means.faults s.source) (means.faults s.source) in
    subst (λ stop. HasReason stop (λ _. ⊥) (λ due. IsTrue means.tells → IsUnread due c.args.extraction.now.file file d) rose ⊥) (sym c.from.ensures)
    (refused_reason c.in-Err.refusal c.args.extraction.now.file file d s.head s.head_bytes (IsTrue means.tells) rose c.requires.head (subst (λ head. IsRefusal head d c.in-Err.refusal) c.head.ensures.head c.in-Err.ensures.refused))
