use Rattle.std.proofs.Common.{◌≡◌, ℕ, ◌*◌, Err, subst, rules, arith}
use Rattle.exr_deep.specs.declared.fault.DeepFault.TheVariants as fault
use Rattle.exr_deep.specs.Counts.{counts_in}
use Rattle.exr_deep.specs.Steps.{AreCounted}
use Rattle.exr_deep.proofs.Reading.{no_fall, fall_found, all_counted, counted_in, fall_in}
use Rattle.exr_deep.proofs.Running.{are_ints_if}
use Rattle.exr_deep.proofs.Again.{ints_read}
use Rattle.exr_deep.proofs.counts.fill_counts.Goals as goal

pub returns-in_err-fill_row-clause-exact : goal.returns-in_err-fill_row-clause-exact
returns-in_err-fill_row-clause-exact c =
    let pixels = c.args.rows * c.args.width in
    let found : counts_in c.args.width c.args.table.now pixels ≡ Err (fault.CountsFall c.in_err-fill_row.field-0.0) =
    fall_in c.args.width c.args.table.now pixels c.in_err-fill_row.field-0.0
    (fall_found c.args.width pixels c.in_err-fill_row.field-0.0 c.args.table.now (omega (arith, c.requires.pixels, c.in_err-fill_row.ensures.small)) c.in_err-fill_row.ensures.counted) in
    search (rules, found)

pub returns-clause-exact : goal.returns-clause-exact
returns-clause-exact c =
    let pixels = c.args.rows * c.args.width in
    let counts = c.loop-row.counts in
    let whole : c.loop-row.row ≡ c.args.rows = omega arith in
    let are = subst (λ (rows : ℕ). AreCounted c.args.width c.args.table.now (rows * c.args.width) counts) whole c.loop-row.invariant.counted in
    counted_in c.args.width c.args.table.now pixels counts (no_fall c.args.width pixels c.args.table.now counts are) (all_counted c.args.width pixels c.args.table.now counts (omega arith) are)

pub returns-clause-ints : goal.returns-clause-ints
returns-clause-ints c =
    let whole : c.loop-row.row ≡ c.args.rows = omega arith in
    are_ints_if c.args.width (c.args.rows * c.args.width) c.loop-row.counts (omega arith)
    (ints_read c.args.width c.args.rows c.args.table.now c.loop-row.counts (omega arith)
    (subst (λ (rows : ℕ). AreCounted c.args.width c.args.table.now (rows * c.args.width) c.loop-row.counts) whole c.loop-row.invariant.counted))
