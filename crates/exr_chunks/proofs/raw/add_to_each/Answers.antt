-- The bytes of a group, chunk by chunk.
use Rattle.std.proofs.Common.{◌+◌, ◌/◌, length, arith}
use Rattle.exr_chunks.proofs.Dense.{one_more, just_least, next_early, next_late, chunk_fits, chunk_added, moved}
use Rattle.exr_chunks.proofs.raw.add_to_each.Goals.{then-before-rest, else-before-rest}
use Rattle.exr_chunks.proofs.raw.add_to_each.Goals as goal

pub overflow_mul-sizes : goal.overflow_mul-sizes
overflow_mul-sizes c =
    let are = c.loop-i.invariant in
    let count = one_more c.args.group.ys c.args.rows c.loop-i.before c.loop-i.i are.first c.if-before-rest.true in
    let fits = chunk_fits c.args.group.ys c.args.rows c.args.group.bytes c.loop-i.before c.loop-i.i (length c.args.sizes.now) (c.args.rows / c.args.group.ys + 1) c.args.sizes.now c.loop-i.sizes are c.loop-i-test.true count in
    omega (arith, fits)

pub overflow_add-sizes-then-before-rest : goal.overflow_add-sizes-then-before-rest
overflow_add-sizes-then-before-rest c =
    let are = c.loop-i.invariant in
    let count = one_more c.args.group.ys c.args.rows c.loop-i.before c.loop-i.i are.first c.if-before-rest.true in
    let fits = chunk_fits c.args.group.ys c.args.rows c.args.group.bytes c.loop-i.before c.loop-i.i (length c.args.sizes.now) (c.args.rows / c.args.group.ys + 1) c.args.sizes.now c.loop-i.sizes are c.loop-i-test.true count in
    omega (arith, fits)

pub overflow_mul-sizes-else-before-rest : goal.overflow_mul-sizes-else-before-rest
overflow_mul-sizes-else-before-rest c =
    let are = c.loop-i.invariant in
    let count = just_least c.args.group.ys c.args.rows c.loop-i.before c.loop-i.i are.first c.if-before-rest.false in
    let fits = chunk_fits c.args.group.ys c.args.rows c.args.group.bytes c.loop-i.before c.loop-i.i (length c.args.sizes.now) (c.args.rows / c.args.group.ys) c.args.sizes.now c.loop-i.sizes are c.loop-i-test.true count in
    omega (arith, fits)

pub overflow_add-sizes-else-before-rest : goal.overflow_add-sizes-else-before-rest
overflow_add-sizes-else-before-rest c =
    let are = c.loop-i.invariant in
    let count = just_least c.args.group.ys c.args.rows c.loop-i.before c.loop-i.i are.first c.if-before-rest.false in
    let fits = chunk_fits c.args.group.ys c.args.rows c.args.group.bytes c.loop-i.before c.loop-i.i (length c.args.sizes.now) (c.args.rows / c.args.group.ys) c.args.sizes.now c.loop-i.sizes are c.loop-i-test.true count in
    omega (arith, fits)

pub loop-i-preserved : goal.loop-i-preserved
loop-i-preserved c =
    let are = c.loop-i.invariant in
    let s = c.args.group.ys in
    let rows = c.args.rows in
    let b = c.args.group.bytes in
    let len = length c.args.sizes.now in
    let old = c.args.sizes.now in
    elim c.if-before-rest.branch [
      | then-before-rest w ↦
          let count = one_more s rows c.loop-i.before c.loop-i.i are.first w.if-before-rest.true in
          let first = next_early s rows c.loop-i.before c.loop-i.i are.first w.if-before-rest.true in
          moved s rows b _ c.if-before-rest.before (c.loop-i.i + 1) len old _ c.if-before-rest.sizes w.before-is w.sizes-is
          (chunk_added s rows b c.loop-i.before _ c.loop-i.i len (rows / s + 1) old c.loop-i.sizes are c.loop-i-test.true count first)
      | else-before-rest w ↦
          let count = just_least s rows c.loop-i.before c.loop-i.i are.first w.if-before-rest.false in
          let first = next_late s rows c.loop-i.before c.loop-i.i are.first w.if-before-rest.false in
          moved s rows b _ c.if-before-rest.before (c.loop-i.i + 1) len old _ c.if-before-rest.sizes w.before-is w.sizes-is
          (chunk_added s rows b c.loop-i.before _ c.loop-i.i len (rows / s) old c.loop-i.sizes are c.loop-i-test.true count first)
    ]
