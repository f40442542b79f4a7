use Rattle.std.proofs.Common.{◌≡◌, ◌≢◌, ◌<◌, ℕ, ◌+ℤ◌, pos, refl, sym, ◌∙◌, rules}
use Rattle.std.specs.Int.{w32}
use Rattle.std.proofs.lemmas.Int.{to_z-of_z}
use Rattle.std.proofs.lemmas.Option.{none-some}
use mir.Val.{SFits}
use Rattle.exr_base.specs.Sampling.{span_of}
use Rattle.exr_chunks.proofs.Pieces.{same_offset}
use Rattle.exr_chunks.proofs.Parts.{rows_side, row_size}
use Rattle.exr_chunks.proofs.Indexes.{starts, line_found}
use Rattle.exr_chunks.proofs.part.Part.index_of_line.Goals as goal

pub offset-requires : goal.offset-requires
offset-requires c =
    let f0 : SFits w32 c.args.self.now.window.y0 = search rules in
    let f1 : SFits w32 c.args.self.now.window.y1 = search rules in
    simp to_z-of_z (rows_side c.args.self.now c.requires)

pub returns-in-Some-clause-none : goal.returns-in-Some-clause-none
returns-in-Some-clause-none c = λ none i within e.
    let s = starts c.args.self.now c.args.y i c.requires within e in
    none-some c.in-Some.field-0 (sym s.none ∙ c.in-Some.is)

pub returns-then-lines-self-eq0-clause-found : goal.returns-then-lines-self-eq0-clause-found
returns-then-lines-self-eq0-clause-found c =
    let w = c.args.self.now.window in
    let f0 : SFits w32 w.y0 = search rules in
    let f1 : SFits w32 w.y1 = search rules in
    let f2 : SFits w32 c.args.y = c.ranges.y in
    let is : c.args.y ≡ w.y0 +ℤ pos c.in-Some-offset.lines = simp to_z-of_z at c.in-Some-offset.ensures.exact in
    let low : c.in-Some-offset.lines < span_of w.y0 w.y1 = simp to_z-of_z at c.in-Some-offset.ensures.within in
    line_found c.args.self.now c.args.y c.in-Some-offset.lines _ c.requires c.in-None.is (row_size c.args.self.now c.requires).some is low c.if-lines-self-eq0.true refl

pub returns-else-lines-self-eq0-clause-none : goal.returns-else-lines-self-eq0-clause-none
returns-else-lines-self-eq0-clause-none c = λ none i within e.
    let w = c.args.self.now.window in
    let f0 : SFits w32 w.y0 = search rules in
    let f1 : SFits w32 w.y1 = search rules in
    let f2 : SFits w32 c.args.y = c.ranges.y in
    let is : c.args.y ≡ w.y0 +ℤ pos c.in-Some-offset.lines = simp to_z-of_z at c.in-Some-offset.ensures.exact in
    let s = starts c.args.self.now c.args.y i c.requires within e in
    c.if-lines-self-eq0.false (same_offset c.args.y w.y0 s.lines c.in-Some-offset.lines c.args.self.now.rows s.is is s.whole)

pub returns-in-None-offset-clause-none : goal.returns-in-None-offset-clause-none
returns-in-None-offset-clause-none c = λ none i within e.
    let w = c.args.self.now.window in
    let f0 : SFits w32 w.y0 = search rules in
    let f1 : SFits w32 w.y1 = search rules in
    let f2 : SFits w32 c.args.y = c.ranges.y in
    let s = starts c.args.self.now c.args.y i c.requires within e in
    let off : (n : ℕ) → n < span_of w.y0 w.y1 → c.args.y ≢ w.y0 +ℤ pos n = simp to_z-of_z at (c.in-None-offset.ensures.none refl) in
    off s.lines s.within s.is
