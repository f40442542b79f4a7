-- The bytes of a group, line by line.
use Rattle.std.proofs.Common.{◌≡◌, ◌*◌, ◌%◌, ◌≤◌, ℕ, length, refl, ◌∙◌, arith, slice_index}
use Rattle.std.proofs.lemmas.List.{length-set}
use Rattle.exr_chunks.proofs.Cycles.{nothing_added, next_whole, add_fits, one_added, all_added}
use Rattle.exr_chunks.proofs.raw.add_to_lines.Goals as goal

zero_whole : (s : ℕ) → 0 % s ≡ 0
zero_whole s = omega arith

pub samples-init : goal.samples-init
samples-init c = record {
  sampled = c.requires.sampled;
  some = c.requires.some;
  whole = zero_whole c.args.group.ys;
  long = refl;
  sizes_so_far = λ i within. nothing_added c.args.group.ys c.args.rows i (slice_index c.args.sizes.now i) c.args.group.bytes;
  small = c.requires.small;
}

pub overflow_add-sizes : goal.overflow_add-sizes
overflow_add-sizes c =
    let fits = add_fits c.args.group.ys c.args.rows c.args.group.bytes c.samples.line (length c.args.sizes.now) c.args.sizes.now c.samples.sizes c.samples.invariant c.samples-test.true in
    omega (arith, fits)

pub samples-preserved : goal.samples-preserved
samples-preserved c =
    let are = c.samples.invariant in
    record {
      sampled = are.sampled;
      some = are.some;
      whole = next_whole c.args.group.ys c.samples.line are.sampled are.whole;
      long = length-set c.samples.sizes _ _ ∙ are.long;
      sizes_so_far = λ i within. one_added c.args.group.ys c.args.rows c.args.group.bytes c.samples.line (length c.args.sizes.now) i c.args.sizes.now c.samples.sizes are c.samples-test.true within;
      small = are.small;
    }

pub returns-clause-more : goal.returns-clause-more
returns-clause-more c = λ i within.
    let over : length c.args.sizes.now * c.args.rows ≤ c.samples.line = omega (arith, c.samples-test.false) in
    all_added c.args.group.ys c.args.rows c.args.group.bytes c.samples.line (length c.args.sizes.now) i c.args.sizes.now c.samples.sizes c.samples.invariant over within
