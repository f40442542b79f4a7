use Rattle.std.proofs.Common.{ap, ◌∙◌, arith}
use Rattle.exr_huffman.proofs.Rested.{count_of_window}
use Rattle.exr_huffman.proofs.data.take_count.Goals as goal
use Rattle.exr_huffman.proofs.data.take_count.Goals.{then-window-lt8, else-window-lt8}

pub returns-clause-value : goal.returns-clause-value
returns-clause-value c =
    let w = c.if-window-lt8.window in
    elim c.if-window-lt8.branch [
      | then-window-lt8 v ↦
          let bytes = ap (λ x. x.bytes.now) v.window-is ∙ v.refill.ensures.bytes in
          let at = ap (λ x. x.at) v.window-is ∙ v.refill.ensures.at in
          let have = ap (λ x. x.have) v.window-is ∙ v.refill.ensures.have in
          rw (← bytes, ← at) (count_of_window w.bytes.now w.at w.have w.window w.within (omega (arith, have)) w.filled)
      | else-window-lt8 v ↦
          let bytes = ap (λ x. x.bytes.now) v.window-is in
          let at = ap (λ x. x.at) v.window-is in
          let have = ap (λ x. x.have) v.window-is in
          rw (← bytes, ← at) (count_of_window w.bytes.now w.at w.have w.window w.within (omega (arith, have, v.if-window-lt8.false)) w.filled)
    ]
