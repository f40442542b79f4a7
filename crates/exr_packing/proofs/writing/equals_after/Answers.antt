use Rattle.std.proofs.Common.{◌+◌, ◌-◌, length, take, drop, get_or, ap, ◌∙◌, arith}
use Rattle.std.proofs.lemmas.List.{take_rest}
use Rattle.exr_packing.specs.Packed.{equals_at}
use Rattle.exr_packing.proofs.Runs.{counted_behind}
use Rattle.exr_packing.proofs.writing.equals_after.Goals as goal

pub returns-then-rest-count : goal.returns-then-rest-count
returns-then-rest-count c =
    let words = c.args.words.now in
    let at = c.args.at in
    let known = c.equals.invariant in
    counted_behind (get_or words at 0) (take (length words - (at + 1)) (drop (at + 1) words)) c.equals.count known.within known.few known.equal (λ less more. c.if-rest-count.true) ∙ ap (equals_at (get_or words at 0)) (take_rest words (at + 1))

pub returns-else-count-rest : goal.returns-else-count-rest
returns-else-count-rest c =
    let words = c.args.words.now in
    let at = c.args.at in
    let known = c.equals.invariant in
    counted_behind (get_or words at 0) (take (length words - (at + 1)) (drop (at + 1) words)) c.equals.count known.within known.few known.equal (λ less more. absurd (omega (arith, c.if-count-rest.false))) ∙ ap (equals_at (get_or words at 0)) (take_rest words (at + 1))

pub returns-after-equals : goal.returns-after-equals
returns-after-equals c =
    let words = c.args.words.now in
    let at = c.args.at in
    let known = c.equals.invariant in
    counted_behind (get_or words at 0) (take (length words - (at + 1)) (drop (at + 1) words)) c.equals.count known.within known.few known.equal (λ less more. absurd (omega (arith, c.equals-test.false))) ∙ ap (equals_at (get_or words at 0)) (take_rest words (at + 1))
