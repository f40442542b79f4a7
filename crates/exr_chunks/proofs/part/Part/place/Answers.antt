use Rattle.std.proofs.Common.{rules, refl}
use Rattle.std.specs.Int.{w32}
use Rattle.std.proofs.lemmas.Int.{to_z-of_z}
use mir.Val.{SFits}
use Rattle.exr_chunks.proofs.Parts.{cut, line_is, tile_is}
use Rattle.exr_chunks.proofs.part.Part.place.Goals as goal

pub nonzero_rem-result : goal.nonzero_rem-result
nonzero_rem-result c = (cut c.args.self.now c.args.index c.requires.part c.requires.within).across

pub nonzero_div-result : goal.nonzero_div-result
nonzero_div-result c = (cut c.args.self.now c.args.index c.requires.part c.requires.within).across

pub returns-in-None : goal.returns-in-None
returns-in-None c =
    let y : SFits w32 c.region.result.y0 = search rules in
    simp to_z-of_z (line_is c.args.self.now c.args.index c.region.result.y0 c.region.result c.region.ensures.exact c.in-None.is refl)

pub returns-in-Some : goal.returns-in-Some
returns-in-Some c = tile_is c.args.self.now c.args.index c.in-Some.field-0 c.requires.part c.in-Some.is
