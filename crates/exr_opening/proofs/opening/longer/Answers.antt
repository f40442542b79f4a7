-- The bytes before and the piece are the front.
use Rattle.std.proofs.Common.{◌≡◌, ◌-◌, ◌++◌, length, take, drop, ap, ◌∙◌, arith}
use Rattle.exr_opening.proofs.Pieces.{joined}
use Rattle.exr_opening.proofs.opening.longer.Goals as goal

pub returns-clause-bytes : goal.returns-clause-bytes
returns-clause-bytes g c = λ told front.
    let content = g.S.Source.means.content c.args.source.now in
    let at : c.len-at.result ≡ length c.args.bytes.items = omega arith in
    let part = c.deref.ensures.value ∙ c.in_ok-piece.ensures.bytes told ∙ ap (λ n. take (c.args.wanted - n) (drop n content)) at in
    c.in_ok-extend_from_slice.ensures.items ∙ joined content c.args.bytes.items c.deref.result.now c.args.wanted front c.requires.few part
