use Rattle.std.proofs.Common.{rules}
use Rattle.exr_base.specs.Boxes.{is_side_inside}
use Rattle.exr_base.proofs.Logic.{both_true}
use Rattle.exr_base.proofs.shape.Box2i.is_inside.Goals as goal

pub returns-then-is_side_inside : goal.returns-then-is_side_inside
returns-then-is_side_inside c = both_true c.is_side_inside.result c.is_side_inside-then-is_side_inside.result (is_side_inside c.args.self.x0 c.args.self.x1 c.args.other.x0 c.args.other.x1) (is_side_inside c.args.self.y0 c.args.self.y1 c.args.other.y0 c.args.other.y1) c.if-is_side_inside.true (search rules) (search rules)
