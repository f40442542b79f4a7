use Rattle.std.proofs.Common.{◌≡◌, length, ap, ◌∙◌, arith}
use Rattle.std.proofs.Common.{Vec, ℕ, ◌+◌, Global}
use Rattle.exr_tools.proofs.Pieces.{next_counted}
use Rattle.exr_tools.proofs.extract.size_of_pieces.Goals as goal

pub loop-piece-preserved : goal.loop-piece-preserved
loop-piece-preserved c =
    let piece = c.piece-item.result in
    let so_far = c.loop-piece.invariant in
    let small = so_far.small in
    let few = c.len.type_inv in
    let long : c.len.result ≡ length piece.items = (let l = c.len.ensures in omega (arith, l, piece.ok.0)) in
    record {
      counted =
          ap (λ n. c.loop-piece.size + n) (long ∙ ap (λ (v : Vec ℕ Global). length v.items) c.piece-item.is)
          ∙ next_counted c.args.pieces.now c.loop-piece.piece-index piece c.loop-piece.size c.loop-piece-test.true so_far.counted;
      small = omega (arith, small, few);
    }
