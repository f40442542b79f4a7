use Rattle.std.proofs.Common.{◌≡◌, ℕ, refl, sym, ◌∙◌, arith}
use Rattle.exr_chunks.specs.declared.part.Part.{Part}
use Rattle.exr_chunks.specs.declared.place.Place.TheVariants.{Tile}
use Rattle.exr_chunks.specs.Part.{header_of}
use Rattle.exr_chunks.specs.Region.{IsIndexOf}
use Rattle.std.proofs.lemmas.Option.{none-some}
use Rattle.std.proofs.lemmas.Nat.{mul-add-lt}
use Rattle.exr_chunks.proofs.Parts.{product}
use Rattle.exr_chunks.proofs.Indexes.{tile_at, tile_found}
use Rattle.exr_chunks.proofs.part.Part.index_of_tile.Goals as goal

pub returns-in-None-clause-none : goal.returns-in-None-clause-none
returns-in-None-clause-none c = λ none i within e.
    let t = tile_at c.args.self.now i c.args.tx c.args.ty c.args.lx c.args.ly c.requires within e in
    none-some t.tiles (sym c.in-None.is ∙ t.some)

pub returns-then-lx-ne0-clause-none : goal.returns-then-lx-ne0-clause-none
returns-then-lx-ne0-clause-none c = λ none i within e.
    let t = tile_at c.args.self.now i c.args.tx c.args.ty c.args.lx c.args.ly c.requires within e in
    let z = t.no_column in
    omega arith

pub returns-then-ly-ne0-clause-none : goal.returns-then-ly-ne0-clause-none
returns-then-ly-ne0-clause-none c = λ none i within e.
    let t = tile_at c.args.self.now i c.args.tx c.args.ty c.args.lx c.args.ly c.requires within e in
    let z = t.no_row in
    omega arith

pub returns-then-tx-self-clause-none : goal.returns-then-tx-self-clause-none
returns-then-tx-self-clause-none c = λ none i within e.
    let t = tile_at c.args.self.now i c.args.tx c.args.ty c.args.lx c.args.ly c.requires within e in
    let z = t.left in
    omega arith

pub returns-then-ty-self-clause-none : goal.returns-then-ty-self-clause-none
returns-then-ty-self-clause-none c = λ none i within e.
    let t = tile_at c.args.self.now i c.args.tx c.args.ty c.args.lx c.args.ly c.requires within e in
    let z = t.above in
    omega arith

pub overflow_mul-result : goal.overflow_mul-result
overflow_mul-result c =
    let p = c.args.self.now in
    let all = product p c.requires in
    let few = c.requires.few in
    let small = mul-add-lt c.args.ty p.across c.args.tx p.down c.if-ty-self.false c.if-tx-self.false in
    omega (arith, small, all, few)

pub overflow_add-result : goal.overflow_add-result
overflow_add-result c =
    let p = c.args.self.now in
    let all = product p c.requires in
    let few = c.requires.few in
    let small = mul-add-lt c.args.ty p.across c.args.tx p.down c.if-ty-self.false c.if-tx-self.false in
    omega (arith, small, all, few)

same_tile : (p : Part) (tx ty lx ly i : ℕ) → lx ≡ 0 → ly ≡ 0 → IsIndexOf (header_of p) (Tile tx ty 0 0) i → IsIndexOf (header_of p) (Tile tx ty lx ly) i
same_tile p tx ty lx ly i x y found = rw (x, y) found

pub returns-else-ty-self-clause-found : goal.returns-else-ty-self-clause-found
returns-else-ty-self-clause-found c =
    let p = c.args.self.now in
    let lx : c.args.lx ≡ 0 = omega arith in
    let ly : c.args.ly ≡ 0 = omega arith in
    same_tile p c.args.tx c.args.ty c.args.lx c.args.ly _ lx ly (tile_found p c.in-Some.field-0 c.args.tx c.args.ty _ c.requires c.in-Some.is c.if-tx-self.false c.if-ty-self.false refl)
