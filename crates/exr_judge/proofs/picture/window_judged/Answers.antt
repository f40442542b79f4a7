use Rattle.std.proofs.Common.{rules, arith, ◌≤ℤ◌}
use Rattle.std.specs.Int.{w32}
use Rattle.std.proofs.lemmas.Int.{ints, to_z-of_z}
use mir.Val.{SFits, of_z, to_z}
use Rattle.exr_judge.specs.Picture.{AreCoordinates}
use Rattle.exr_base.proofs.Sides.{side_within}
use Rattle.exr_judge.proofs.picture.window_judged.Goals as goal

pub returns-clause-region : goal.returns-clause-region
returns-clause-region c =
    let f0 : SFits w32 c.args.window.x0 = search rules in
    let f1 : SFits w32 c.args.window.x1 = search rules in
    let g0 : SFits w32 c.args.window.y0 = search rules in
    let g1 : SFits w32 c.args.window.y1 = search rules in
    let ordered : c.args.window.x0 ≤ℤ c.args.window.x1 = grind (arith, ints, c.if-window.false) in
    let falling : c.args.window.y0 ≤ℤ c.args.window.y1 = grind (arith, ints, c.if-window-2.false) in
    let first : AreCoordinates (to_z w32 (of_z w32 c.args.window.x0)) (to_z w32 (of_z w32 c.args.window.y0)) = c.if-not-are_coordinates.ensures.within in
    let second : AreCoordinates (to_z w32 (of_z w32 c.args.window.x1)) (to_z w32 (of_z w32 c.args.window.y1)) = c.if-not-are_coordinates-2.ensures.within in
    let a = simp to_z-of_z at first in
    let b = simp to_z-of_z at second in
    let across = simp to_z-of_z at c.span.ensures in
    let down = simp to_z-of_z at c.span-else-span.ensures in
    record {
      columns = side_within c.args.window.x0 c.args.window.x1 c.span.result ordered a.left b.right across c.if-span.false;
      rows = side_within c.args.window.y0 c.args.window.y1 c.span-else-span.result falling a.top b.bottom down c.if-span-2.false;
    }
