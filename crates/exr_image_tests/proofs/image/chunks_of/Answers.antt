use Rattle.std.proofs.Common.{[], ◌∷◌, sym, subst, arith}
use Rattle.std.proofs.lemmas.Int.{ints}
use Rattle.std.proofs.lemmas.List.Elements.{All-nil, All-cons, All-same}
use Rattle.exr_base.specs.Shape.{IsRegion}
use Rattle.exr_image.specs.declared.chunk.DeepChunk.{DeepChunk}
use Rattle.exr_image.specs.Image.{AreCovering}
use Rattle.exr_image_tests.specs.declared.image.TheConstants.{ALL}
use Rattle.exr_image_tests.proofs.Covered.{four_cover}
use Rattle.exr_image_tests.proofs.image.chunks_of.Goals as goal

pub returns-clause-regions : goal.returns-clause-regions
returns-clause-regions c =
    let a = c.in_ok-first.first in
    let b = c.in_ok-second.second in
    let d = c.in_ok-third.third in
    let e = c.in_ok-fourth.fourth in
    All-same (λ (chunk : DeepChunk). IsRegion chunk.region) c.in_ok-chunks.chunks.items (a ∷ b ∷ d ∷ e ∷ []) c.in_ok-chunks.ensures.items
    (All-cons (λ (chunk : DeepChunk). IsRegion chunk.region) a (b ∷ d ∷ e ∷ []) c.in_ok-first.ensures.region
    (All-cons (λ (chunk : DeepChunk). IsRegion chunk.region) b (d ∷ e ∷ []) c.in_ok-second.ensures.region
    (All-cons (λ (chunk : DeepChunk). IsRegion chunk.region) d (e ∷ []) c.in_ok-third.ensures.region
    (All-cons (λ (chunk : DeepChunk). IsRegion chunk.region) e [] c.in_ok-fourth.ensures.region (All-nil (λ (chunk : DeepChunk). IsRegion chunk.region))))))

pub returns-clause-covering : goal.returns-clause-covering
returns-clause-covering c =
    let cut = c.args.cut in
    subst (AreCovering ALL) (sym c.in_ok-chunks.ensures.items)
    (four_cover ALL cut.x cut.y c.in_ok-first.first c.in_ok-second.second c.in_ok-third.third c.in_ok-fourth.fourth
    (λ x y p q r s. c.in_ok-first.ensures.has x y (omega (arith, ints, p)) (omega (arith, ints, q)) (omega (arith, ints, r)) (omega (arith, ints, s)))
    (λ x y p q r s. c.in_ok-second.ensures.has x y (omega (arith, ints, p)) (omega (arith, ints, q)) (omega (arith, ints, r)) (omega (arith, ints, s)))
    (λ x y p q r s. c.in_ok-third.ensures.has x y (omega (arith, ints, p)) (omega (arith, ints, q)) (omega (arith, ints, r)) (omega (arith, ints, s)))
    (λ x y p q r s. c.in_ok-fourth.ensures.has x y (omega (arith, ints, p)) (omega (arith, ints, q)) (omega (arith, ints, r)) (omega (arith, ints, s))))
