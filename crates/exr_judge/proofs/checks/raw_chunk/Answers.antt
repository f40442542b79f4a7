use Rattle.std.proofs.Common.{arith, ◌<◌, ◌*◌, ◌^◌, ◌≤◌}
use Rattle.std.proofs.lemmas.List.Elements.{All-same}
use Rattle.exr_base.specs.Shape.{IsSampled}
use Rattle.exr_judge.proofs.Sides.{table_small}
use Rattle.exr_judge.proofs.checks.raw_chunk.Goals as goal

pub overflow_mul-result-then-is_deep : goal.overflow_mul-result-then-is_deep
overflow_mul-result-then-is_deep c =
    let a : c.from.result ≤ 2 ^ 20 = omega arith in
    let b : c.from-then-is_deep.result ≤ 2 ^ 20 = omega arith in
    let small : 4 * (c.from.result * c.from-then-is_deep.result) < 2 ^ 64 = table_small c.from.result c.from-then-is_deep.result a b in
    omega (arith, small)

pub raw_size-requires : goal.raw_size-requires
raw_size-requires c = record {
  few = rw c.as_slice.ensures.value c.requires.shape.few;
  sampled = All-same IsSampled c.as_slice.result.now c.args.header.now.channels c.as_slice.ensures.value c.as_slice.ensures.sampled;
  within = c.first_region.ensures.region;
}
