use Rattle.std.proofs.Common.{◌+◌, arith, rules, length-drop}
use Rattle.std.proofs.lemmas.List.{take_rest}
use Rattle.exr_outside.proofs.Pieces.{take-read, drop-read}
use Rattle.exr_outside.proofs.transfer.read_full.Goals as goal

pub loop-count-preserved : goal.loop-count-preserved
loop-count-preserved g c =
    let before = c.loop-count.invariant in
    record {
      within = search rules;
      inside = λ tells.
          let piece = rw (before.same.content tells) at (c.in_ok-more.ensures.piece tells) in
          let content = g.S.Source.means.content c.args.source.now in
          omega (arith, before.inside tells, piece.within, length-drop (c.args.pos + c.loop-count.count) content);
      bytes = λ tells.
          let piece = rw (before.same.content tells) at (c.in_ok-more.ensures.piece tells) in
          take-read (g.S.Source.means.content c.args.source.now) _ _ _ _ _ _ before.within (omega (arith, c.in_ok-more.ensures.bound)) (before.bytes tells) piece.bytes;
      rest = λ tells.
          let piece = c.in_ok-more.ensures.piece tells in
          drop-read _ _ _ _ _ before.within (before.rest tells) (rw take_rest at piece.rest);
      same = search rules;
      later = search rules;
    }
