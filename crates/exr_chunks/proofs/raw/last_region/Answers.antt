-- The last chunk begins where the whole ones end, and ends with the window.
use Rattle.std.proofs.Common.{◌≡◌, ◌-◌, ◌*◌, ◌<◌, rules, sym, subst, arith}
use Rattle.std.specs.Int.{w32}
use Rattle.std.proofs.lemmas.Int.{to_z-of_z}
use mir.Val.{SFits}
use Rattle.exr_base.specs.declared.shape.Box2i.{Box2i}
use Rattle.exr_base.specs.Sampling.{span_of}
use Rattle.exr_chunks.specs.Region.{start_of}
use Rattle.exr_chunks.proofs.InLines.{some_chunk, begins, last_region}
use Rattle.exr_chunks.proofs.raw.last_region.Goals as goal

pub overflow_sub-whole : goal.overflow_sub-whole
overflow_sub-whole c = some_chunk c.args.header.now c.args.rows c.args.count c.requires

pub start-requires-clause-within : goal.start-requires-clause-within
start-requires-clause-within c =
    let h = c.args.header.now in
    let w = c.window-window.result in
    let g0 : SFits w32 w.y0 = search rules in
    let g1 : SFits w32 w.y1 = search rules in
    let one = some_chunk h c.args.rows c.args.count c.requires in
    let within = begins h c.args.rows c.args.count (c.args.count - 1) c.requires (omega (arith, one)) in
    simp to_z-of_z (subst (λ (b : Box2i). (c.args.count - 1) * c.args.rows < span_of b.y0 b.y1) (sym c.window-window.ensures) within)

pub returns : goal.returns
returns c =
    let w = c.window-window.result in
    let f0 : SFits w32 w.x0 = search rules in
    let f1 : SFits w32 w.x1 = search rules in
    let g0 : SFits w32 w.y0 = search rules in
    let g1 : SFits w32 w.y1 = search rules in
    let s0 : SFits w32 c.start.result = search rules in
    let top : c.start.result ≡ start_of w.y0 c.args.rows (c.args.count - 1) = simp to_z-of_z at c.start.ensures in
    simp to_z-of_z (sym (last_region c.args.header.now c.args.rows c.args.count c.start.result w c.requires c.window-window.ensures top))
