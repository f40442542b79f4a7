use Rattle.std.proofs.Common.{◌≡◌, ◌≤ℤ◌, arith}
use Rattle.std.specs.Int.{w32}
use Rattle.std.proofs.lemmas.Int.{ints, to_z-of_z}
use mir.Val.{SFits}
use Rattle.exr_base.specs.Sampling.{span_of}
use Rattle.exr_chunks.proofs.Pieces.{side_to, place_from, place_before}
use Rattle.exr_chunks.proofs.sides.offset.Goals as goal

pub span-requires : goal.span-requires
span-requires c =
    let f0 : SFits w32 c.args.from = c.ranges.from in
    let f1 : SFits w32 c.args.place = c.ranges.place in
    let f2 : SFits w32 c.args.to = c.ranges.to in
    let low : c.args.from ≤ℤ c.args.place = omega (arith, ints) in
    let high : c.args.place ≤ℤ c.args.to = omega (arith, ints) in
    simp to_z-of_z (side_to c.args.from c.args.to c.args.place c.requires low high)

pub returns-clause-exact : goal.returns-clause-exact
returns-clause-exact c =
    let f0 : SFits w32 c.args.from = c.ranges.from in
    let f1 : SFits w32 c.args.place = c.ranges.place in
    let f2 : SFits w32 c.args.to = c.ranges.to in
    let low : c.args.from ≤ℤ c.args.place = omega (arith, ints) in
    let is : c.span.result ≡ span_of c.args.from c.args.place = simp to_z-of_z at c.span.ensures.exact in
    place_from c.args.from c.args.place c.span.result low is

pub returns-clause-within : goal.returns-clause-within
returns-clause-within c =
    let f0 : SFits w32 c.args.from = c.ranges.from in
    let f1 : SFits w32 c.args.place = c.ranges.place in
    let f2 : SFits w32 c.args.to = c.ranges.to in
    let low : c.args.from ≤ℤ c.args.place = omega (arith, ints) in
    let high : c.args.place ≤ℤ c.args.to = omega (arith, ints) in
    let is : c.span.result ≡ span_of c.args.from c.args.place = simp to_z-of_z at c.span.ensures.exact in
    place_before c.args.from c.args.to c.args.place c.span.result c.requires low high is
