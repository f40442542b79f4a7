use Rattle.std.proofs.Common.{◌<◌, subst, sym}
use Rattle.exr_chunks.proofs.Listed.{IsPartAt}
use Rattle.exr_chunks.proofs.Turning.{chunk_turn, only_turn}
use Rattle.exr_chunks.proofs.geometry.Geometry.turn_of.Goals as goal

pub returns-clause-exact : goal.returns-clause-exact
returns-clause-exact c =
    let p = c.part-here.result.now in
    let at : IsPartAt c.args.self.now c.args.part p = record { is_part = c.part-here.ensures.is_part; header = c.part-here.ensures.header; first = c.part-here.ensures.first; count = c.part-here.ensures.count } in
    (chunk_turn c.args.self.now c.args.part c.args.index c.mirrored.result p at c.requires.part (subst (λ n. c.args.index < n) (sym c.part-here.ensures.count) c.requires.index) c.mirrored.ensures.exact).1

pub returns-clause-only : goal.returns-clause-only
returns-clause-only c = λ turn there.
    let p = c.part-here.result.now in
    let at : IsPartAt c.args.self.now c.args.part p = record { is_part = c.part-here.ensures.is_part; header = c.part-here.ensures.header; first = c.part-here.ensures.first; count = c.part-here.ensures.count } in
    only_turn c.args.self.now c.args.part c.args.index c.mirrored.result turn p at c.requires.part (subst (λ n. c.args.index < n) (sym c.part-here.ensures.count) c.requires.index) c.mirrored.ensures.exact there
