use Rattle.std.proofs.Common.{◌≡◌, ◌++◌, ℕ, List, append_assoc, rules, ap, ◌∙◌}
use Rattle.std.specs.Prelude.{codes}
use Rattle.std.specs.Int.{w32}
use Rattle.std.proofs.lemmas.Int.{to_z-of_z}
use mir.Val.{SFits, of_z, to_z}
use Rattle.exr_base.specs.declared.shape.Box2i.{Box2i}
use Rattle.exr_header.specs.Show.{corner}
use Rattle.exr_header.proofs.show.put_window.Goals as goal

joined : (to word a b : List ℕ) → ((to ++ word) ++ a) ++ b ≡ to ++ ((word ++ a) ++ b)
joined to word a b = simp append_assoc

pub returns : goal.returns
returns c =
    let w = c.window-window.result in
    let f0 : SFits w32 w.x0 = search rules in
    let f1 : SFits w32 w.y0 = search rules in
    let f2 : SFits w32 w.x1 = search rules in
    let f3 : SFits w32 w.y1 = search rules in
    let a0 : c.put_corner.new.to.items ≡ c.extend_from_slice.new.self.items ++ corner (to_z w32 (of_z w32 w.x0)) (to_z w32 (of_z w32 w.y0)) = c.in_ok-put_corner.ensures in
    let b0 : c.put_corner-2.new.to.items ≡ c.put_corner.new.to.items ++ corner (to_z w32 (of_z w32 w.x1)) (to_z w32 (of_z w32 w.y1)) = c.in_ok-put_corner-2.ensures in
    let a = simp to_z-of_z at a0 in
    let b = simp to_z-of_z at b0 in
    let front = c.args.to.now.items in
    let put : c.put_corner-2.new.to.items ≡ front ++ ((codes " window" ++ corner w.x0 w.y0) ++ corner w.x1 w.y1) = rw (b, a, c.in_ok-extend_from_slice.ensures.items) (joined front (codes " window") (corner w.x0 w.y0) (corner w.x1 w.y1)) in
    put ∙ ap (λ (w : Box2i). front ++ ((codes " window" ++ corner w.x0 w.y0) ++ corner w.x1 w.y1)) c.window-window.ensures
