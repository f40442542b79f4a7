use Rattle.std.proofs.Common.{rules, ◌<◌, sym, subst}
use Rattle.std.specs.Int.{w32}
use Rattle.std.proofs.lemmas.Int.{to_z-of_z}
use mir.Val.{SFits}
use Rattle.exr_chunks.specs.Part.{header_of}
use Rattle.exr_base.specs.Boxes.{IsInside}
use Rattle.exr_chunks.proofs.Pixels.{region_inside}
use Rattle.exr_chunks.proofs.Parts.{AreEnds, cut, region_is, region_sides}
use Rattle.exr_chunks.proofs.part.Part.region.Goals as goal

pub nonzero_rem-column : goal.nonzero_rem-column
nonzero_rem-column c = (cut c.args.self.now c.args.index c.requires.part c.requires.within).across

pub nonzero_div-row : goal.nonzero_div-row
nonzero_div-row c = (cut c.args.self.now c.args.index c.requires.part c.requires.within).across

pub start-requires : goal.start-requires
start-requires c =
    let f0 : SFits w32 c.args.self.now.window.x0 = search rules in
    let f1 : SFits w32 c.args.self.now.window.x1 = search rules in
    let k = cut c.args.self.now c.args.index c.requires.part c.requires.within in
    record { side = simp to_z-of_z k.columns; within = simp to_z-of_z k.column }

pub start-requires-2 : goal.start-requires-2
start-requires-2 c =
    let f0 : SFits w32 c.args.self.now.window.y0 = search rules in
    let f1 : SFits w32 c.args.self.now.window.y1 = search rules in
    let k = cut c.args.self.now c.args.index c.requires.part c.requires.within in
    record { side = simp to_z-of_z k.rows; within = simp to_z-of_z k.row }

pub end-requires : goal.end-requires
end-requires c =
    let f0 : SFits w32 c.args.self.now.window.x0 = search rules in
    let f1 : SFits w32 c.args.self.now.window.x1 = search rules in
    let k = cut c.args.self.now c.args.index c.requires.part c.requires.within in
    record { side = simp to_z-of_z k.columns; some = k.column_size.some; small = k.column_size.small; within = simp to_z-of_z k.column }

pub end-requires-2 : goal.end-requires-2
end-requires-2 c =
    let f0 : SFits w32 c.args.self.now.window.y0 = search rules in
    let f1 : SFits w32 c.args.self.now.window.y1 = search rules in
    let k = cut c.args.self.now c.args.index c.requires.part c.requires.within in
    record { side = simp to_z-of_z k.rows; some = k.row_size.some; small = k.row_size.small; within = simp to_z-of_z k.row }

pub returns : goal.returns
returns c =
    let p = c.args.self.now in
    let f0 : SFits w32 p.window.x0 = search rules in
    let f1 : SFits w32 p.window.x1 = search rules in
    let g0 : SFits w32 p.window.y0 = search rules in
    let g1 : SFits w32 p.window.y1 = search rules in
    let r0 : SFits w32 c.start.result = search rules in
    let r1 : SFits w32 c.start-2.result = search rules in
    let s0 : SFits w32 c.end.result = search rules in
    let s1 : SFits w32 c.end-2.result = search rules in
    let k = cut p c.args.index c.requires.part c.requires.within in
    let ends : AreEnds p c.args.index c.start.result c.start-2.result c.end.result c.end-2.result = record {
      left = simp to_z-of_z at c.start.ensures;
      top = simp to_z-of_z at c.start-2.ensures;
      right = simp to_z-of_z at c.end.ensures;
      bottom = simp to_z-of_z at c.end-2.ensures;
    } in
    let is = region_is p c.args.index c.start.result c.start-2.result c.end.result c.end-2.result c.requires.part ends in
    record {
      exact = simp to_z-of_z is;
      inside = simp to_z-of_z (subst (IsInside (header_of p).window) (sym is) (region_inside (header_of p) c.args.index c.requires.part.picture (subst (λ n. c.args.index < n) c.requires.part.count c.requires.within)));
      region = simp to_z-of_z (region_sides p c.args.index c.start.result c.start-2.result c.end.result c.end-2.result k ends);
    }
