use Rattle.std.proofs.Common.{rules, ap, sym, subst, w32, ◌≡◌, ◌∙◌, ◌<◌, ℤ, List, length, to_z, of_z, true, false}
use Rattle.exr_layout.specs.declared.placement.Placement.{Placement}
use Rattle.exr_layout.specs.Place.{placements_of}
use Rattle.exr_frame.specs.Rows.{IsLineOf, has_line, filled_byte}
use Rattle.exr_frame.proofs.Rowed.{row_nothing, none_on_line, line_held}
use Rattle.exr_frame.proofs.scattering.fill_line.Goals as goal

pub fill_row-requires-clause-line : goal.fill_row-requires-clause-line
fill_row-requires-clause-line c =
    let lt : c.args.number < length (placements_of c.args.layout.now.planes) = subst (λ (l : List Placement). c.args.number < length l) c.requires.plan c.requires.slice in
    let same : to_z w32 (of_z w32 c.args.y) ≡ c.args.y = search rules in
    let here : has_line c.args.layout.now c.args.number c.args.y ≡ true = ap (has_line c.args.layout.now c.args.number) (sym same) ∙ sym c.has_line.ensures ∙ c.if-has_line.true in
    subst (λ (z : ℤ). IsLineOf c.args.layout.now c.args.region c.args.number z) (sym same) (line_held c.args.layout.now c.args.region c.args.number c.args.y lt here c.requires.above c.requires.below)

pub returns-else-has_line : goal.returns-else-has_line
returns-else-has_line c =
    let same : to_z w32 (of_z w32 c.args.y) ≡ c.args.y = search rules in
    let none : has_line c.args.layout.now c.args.number c.args.y ≡ false = ap (has_line c.args.layout.now c.args.number) (sym same) ∙ sym c.has_line.ensures ∙ c.if-has_line.false in
    row_nothing c.args.layout.now c.args.region c.args.number c.args.y (filled_byte (placements_of c.args.layout.now.planes)) c.args.into.now (none_on_line c.args.layout.now c.args.region c.args.number c.args.y none)
