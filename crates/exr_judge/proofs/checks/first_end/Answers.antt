use Rattle.std.proofs.Common.{arith}
use Rattle.std.proofs.lemmas.Int.{ints, to_z-of_z}
use Rattle.std.specs.Int.{w32}
use mir.Val.{SFits}
use Rattle.exr_judge.proofs.Sides.{first_end_is, end_within}
use Rattle.exr_judge.proofs.checks.first_end.Goals as goal

pub returns-clause-exact : goal.returns-clause-exact
returns-clause-exact c =
    let f1 : SFits w32 c.args.from = c.ranges.from in
    let f2 : SFits w32 c.args.to = c.ranges.to in
    let s = simp to_z-of_z at c.span.ensures in
    let few = c.requires.side.few in
    first_end_is c.args.from c.args.to c.span.result c.min.result c.args.most _ s c.min.ensures (omega (arith, ints))

pub returns-clause-side : goal.returns-clause-side
returns-clause-side c =
    let f1 : SFits w32 c.args.from = c.ranges.from in
    let f2 : SFits w32 c.args.to = c.ranges.to in
    let s = simp to_z-of_z at c.span.ensures in
    let few = c.requires.side.few in
    end_within c.args.from c.args.to c.args.most _ c.requires.ordered c.requires.side c.requires.some (first_end_is c.args.from c.args.to c.span.result c.min.result c.args.most _ s c.min.ensures (omega (arith, ints)))
