-- Counts, then planes.
use Rattle.std.proofs.Common.{◌≡◌, ◌++◌, ℕ, List, [], ◌∷◌, map, Vec, Global, refl, ap, ◌∙◌}
use Rattle.std.specs.Int.{w32, to_le_bytes}
use Rattle.std.specs.List.{flat_map, concat}
use Rattle.exr_image.proofs.image.DeepImage.into_pieces.Goals as goal

joined : (planes : List (Vec ℕ Global)) → flat_map (λ plane. plane.items) planes ≡ concat (map (λ plane. plane.items) planes)
joined [] = refl
joined (plane ∷ planes) = ap (λ l. plane.items ++ l) (joined planes)

pub returns : goal.returns
returns c =
    let image = c.args.self in
    let counts = c.in_ok-counts.ensures ∙ ap (flat_map (to_le_bytes w32)) c.deref.ensures.value in
    ap (flat_map (λ plane. plane.items)) c.in_ok-insert.ensures.items
    ∙ (λ i. counts i ++ joined image.channels.items i)
