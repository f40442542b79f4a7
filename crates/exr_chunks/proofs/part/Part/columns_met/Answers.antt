use Rattle.std.proofs.Common.{rules}
use Rattle.std.specs.Int.{w32}
use Rattle.std.proofs.lemmas.Int.{to_z-of_z}
use mir.Val.{SFits}
use Rattle.exr_chunks.proofs.Windows.{columns_side}
use Rattle.exr_chunks.proofs.part.Part.columns_met.Goals as goal

pub pieces_met-requires-clause-side : goal.pieces_met-requires-clause-side
pieces_met-requires-clause-side c =
    let f0 : SFits w32 c.args.self.now.window.x0 = search rules in
    let f1 : SFits w32 c.args.self.now.window.x1 = search rules in
    simp to_z-of_z (columns_side c.args.self.now c.requires)

pub returns : goal.returns
returns c =
    let f0 : SFits w32 c.args.self.now.window.x0 = search rules in
    let f1 : SFits w32 c.args.self.now.window.x1 = search rules in
    let f2 : SFits w32 c.args.window.x0 = search rules in
    let f3 : SFits w32 c.args.window.x1 = search rules in
    simp to_z-of_z at c.pieces_met.ensures
