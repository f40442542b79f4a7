-- A longer front.
use Rattle.std.proofs.Common.{◌≡◌, ◌≤◌, length, take, ap, sym, ◌∙◌, arith}
use Rattle.exr_opening.proofs.Pieces.{own_length, same_still}
use Rattle.exr_opening.proofs.opening.head_within.Goals as goal

pub grow-preserved : goal.grow-preserved
grow-preserved g c =
    let short = c.in_ok-bytes.ensures.short in
    record {
      front = λ told.
          let same = c.grow.invariant.same.content told in
          let before = c.grow.invariant.front told ∙ ap (take (length c.grow.bytes.items)) (sym same) in
          own_length _ _ _ (c.in_ok-bytes.ensures.bytes told before ∙ ap (take c.grow.wanted) same);
      fewer = omega arith;
      wanted = omega arith;
      some = λ lt. omega (arith, c.grow.invariant.some);
      same = same_still g.S.Source.means _ _ _ c.grow.invariant.same c.longer.ensures.same;
      later = omega arith;
    }

pub returns-in-Some-clause-same : goal.returns-in-Some-clause-same
returns-in-Some-clause-same g c = same_still g.S.Source.means _ _ _ c.grow.invariant.same c.longer.ensures.same
