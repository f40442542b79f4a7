use Rattle.std.proofs.Common.{◌≡◌, ℕ, ◌*◌, subst, arith}
use Rattle.exr_deep.specs.Steps.{AreInts}
use Rattle.exr_deep.proofs.Running.{are_ints_if}
use Rattle.exr_deep.proofs.sizes.count_samples.Goals as goal

pub returns-clause-ints : goal.returns-clause-ints
returns-clause-ints c =
    let whole : c.loop-row.row ≡ c.args.rows = omega arith in
    are_ints_if c.args.width (c.args.rows * c.args.width) c.args.counts.now (omega arith)
    (subst (λ (rows : ℕ). AreInts c.args.width c.args.counts.now (rows * c.args.width)) whole c.loop-row.invariant.ints)
