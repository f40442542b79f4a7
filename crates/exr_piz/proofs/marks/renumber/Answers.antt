use Rattle.std.proofs.Common.{get_or, arith}
use Rattle.std.proofs.lemmas.List.{get_or_default}
use Rattle.std.proofs.lemmas.List.Edits.{map_over_more}
use Rattle.exr_piz.proofs.marks.renumber.Goals as goal

pub loop-word-preserved : goal.loop-word-preserved
loop-word-preserved c =
    let l = c.loop-word in
    let word = get_or l.words l.word-index 0 in
    map_over_more (λ w. get_or c.args.ranks.now w 0) c.args.words.now l.words l.word-index word (omega (arith, l.auto.words)) l.invariant (get_or_default l.words l.word-index 0 word (omega (arith, l.auto.words)))
