use Rattle.std.proofs.Common.{◌<◌, ◌-◌, arith}
use Rattle.exr_chunks.proofs.Listed.{IsPartAt}
use Rattle.exr_chunks.proofs.Turning.{at_turn_is}
use Rattle.exr_chunks.proofs.geometry.Geometry.at_turn.Goals as goal

pub returns-clause-exact : goal.returns-clause-exact
returns-clause-exact c =
    let hs = c.args.self.now in
    let part = c.part_at_turn-part.result in
    let p = c.part-here.result.now in
    let at : IsPartAt hs part p = record { is_part = c.part-here.ensures.is_part; header = c.part-here.ensures.header; first = c.part-here.ensures.first; count = c.part-here.ensures.count } in
    let first = at.first in
    let count = at.count in
    let low = c.part_at_turn-part.ensures.low in
    let high = c.part_at_turn-part.ensures.high in
    let inside : c.args.turn - p.first < p.count = omega (arith, first, count, low, high) in
    at_turn_is hs part c.args.turn c.mirrored.result p at c.part_at_turn-part.ensures.within low inside c.mirrored.ensures.exact
