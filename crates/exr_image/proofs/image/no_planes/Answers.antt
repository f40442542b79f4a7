use Rattle.std.proofs.Common.{ℕ, List, [], ◌∷◌, ◌++◌, Vec, Global, map, replicate, ap, ◌∙◌}
use Rattle.std.proofs.lemmas.List.{map_push, replicate_more}
use Rattle.exr_image.proofs.image.no_planes.Goals as goal

pub loop-preserved : goal.loop-preserved
loop-preserved c =
    let view : Vec ℕ Global → List ℕ = λ plane. plane.items in
    ap (map view) c.in_ok-push.ensures.items
    ∙ map_push view c.loop.planes.items c.new.result
    ∙ ap (λ (l : List (List ℕ)). l ++ c.new.result.items ∷ []) c.loop.invariant
    ∙ ap (λ (l : List ℕ). replicate c.loop.counter [] ++ l ∷ []) c.new.ensures.items
    ∙ replicate_more c.loop.counter []
