use Rattle.std.proofs.Common.{◌≡◌, ◌+◌, drop, get_or, ap, ◌∙◌, arith}
use Rattle.std.proofs.lemmas.List.{length-drop}
use Rattle.exr_packing.proofs.Runs.{equals_at-most, equals_near, two_equal}
use Rattle.exr_packing.proofs.writing.repeats_after.Goals as goal
use Rattle.exr_packing.proofs.writing.repeats_after.Goals.{then-next-word-via-then-next-word, then-next-word-via-else-next-word+then-second-word}

pub returns-then-words-at-lt3-clause-many : goal.returns-then-words-at-lt3-clause-many
returns-then-words-at-lt3-clause-many c =
    let words = c.args.words.now in
    let at = c.args.at in
    λ more. absurd (omega (arith, more, (equals_at-most (get_or words at 0) (drop (at + 1) words)).1, length-drop (at + 1) words, c.if-words-at-lt3.true))

pub returns-then-next-word-clause-many : goal.returns-then-next-word-clause-many
returns-then-next-word-clause-many c =
    let words = c.args.words.now in
    let at = c.args.at in
    λ more.
    let first : get_or words (at + 1) 0 ≡ get_or words at 0 = ap (λ i. get_or words i 0) (let e : at + 1 ≡ at + 1 + 0 = omega arith in e) ∙ equals_near words at 0 (omega (arith, more)) in
    let second : get_or words (at + 2) 0 ≡ get_or words at 0 = ap (λ i. get_or words i 0) (let e : at + 2 ≡ at + 1 + 1 = omega arith in e) ∙ equals_near words at 1 more in
    elim c.then-next-word.branch [
      | then-next-word-via-then-next-word w ↦ absurd (w.if-next-word.true first)
      | then-next-word-via-else-next-word+then-second-word w ↦ absurd (w.if-second-word.true second)
    ]

pub returns-clause-few : goal.returns-clause-few
returns-clause-few c =
    let words = c.args.words.now in
    let at = c.args.at in
    λ few. absurd (omega (arith, few, two_equal words at (omega (arith, c.if-words-at-lt3.false)) c.if-next-word.false c.if-second-word.false))
