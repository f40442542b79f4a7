use Rattle.std.proofs.Common.{◌≡◌, ℕ, ltb, eqb, cond, not, max, length, map, replicate, ◌%◌, ◌^◌, sym, ap, ◌∙◌}
use Rattle.std.specs.List.{list_all}
use Rattle.std.proofs.lemmas.Simd.{length-zip2}
use lib.Lanes.{top, mask_l}
use Rattle.exr_b44.proofs.Depths.{larger, larger_is, zip2_flip, no_lane, none_above, all-append}
use Rattle.exr_b44.proofs.writing.are_sixes.Goals as goal

pub returns : goal.returns
returns c =
    let near = c.args.near in
    let far = c.args.far in
    let same : length near ≡ length far = c.fits-near.0 ∙ sym c.fits-far.0 in
    let long : length (larger near far) ≡ 8 = ap length (larger_is near far) ∙ length-zip2 max near far same ∙ c.fits-near.0 in
    ap (λ lanes. eqb (mask_l (map (top 15) lanes) % 2 ^ 64) 0) (zip2_flip (λ (a b : ℕ). cond (ltb a b) 65535 0) (replicate 8 63) (larger near far))
    ∙ no_lane (λ (a b : ℕ). ltb b a) (larger near far) 63 long
    ∙ ap (λ xs. list_all not (map (λ (x : ℕ). ltb 63 x) xs)) (larger_is near far)
    ∙ none_above near far same ∙ sym (all-append (λ x. ltb x 64) near far)
