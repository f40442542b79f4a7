use Rattle.std.proofs.Common.{rules}
use Rattle.std.specs.Int.{w32}
use Rattle.std.proofs.lemmas.Int.{to_z-of_z}
use mir.Val.{SFits}
use Rattle.exr_chunks.proofs.Parts.{rows_side, row_size}
use Rattle.exr_chunks.proofs.part.Part.rows_met.Goals as goal

pub pieces_met-requires-clause-side : goal.pieces_met-requires-clause-side
pieces_met-requires-clause-side c =
    let f0 : SFits w32 c.args.self.now.window.y0 = search rules in
    let f1 : SFits w32 c.args.self.now.window.y1 = search rules in
    simp to_z-of_z (rows_side c.args.self.now c.requires)

pub pieces_met-requires-clause-some : goal.pieces_met-requires-clause-some
pieces_met-requires-clause-some c = (row_size c.args.self.now c.requires).some

pub returns : goal.returns
returns c =
    let f0 : SFits w32 c.args.self.now.window.y0 = search rules in
    let f1 : SFits w32 c.args.self.now.window.y1 = search rules in
    let f2 : SFits w32 c.args.window.y0 = search rules in
    let f3 : SFits w32 c.args.window.y1 = search rules in
    simp to_z-of_z at c.pieces_met.ensures
