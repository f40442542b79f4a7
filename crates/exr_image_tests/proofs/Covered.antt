-- Four boxes that a picture is cut into have all its pixels.
use Rattle.std.proofs.Common.{[], ◌∷◌, arith, ℤ, pos, ◌+ℤ◌, ◌≤ℤ◌, ◌<ℤ◌}
use Rattle.std.proofs.lemmas.Int.{ints, by_lt_z}
use Rattle.exr_base.specs.declared.shape.Box2i.{Box2i}
use Rattle.exr_base.specs.Boxes.{IsWithin}
use Rattle.exr_image.specs.declared.chunk.DeepChunk.{DeepChunk}
use Rattle.exr_image.specs.Image.{AreCovering}

pub four_cover : (all : Box2i) (column line : ℤ) (a b d e : DeepChunk)
    → ((x y : ℤ) → all.x0 ≤ℤ x → x <ℤ column → all.y0 ≤ℤ y → y <ℤ line → IsWithin a.region x y)
    → ((x y : ℤ) → column ≤ℤ x → x <ℤ (all.x1 +ℤ pos 1) → all.y0 ≤ℤ y → y <ℤ line → IsWithin b.region x y)
    → ((x y : ℤ) → all.x0 ≤ℤ x → x <ℤ column → line ≤ℤ y → y <ℤ (all.y1 +ℤ pos 1) → IsWithin d.region x y)
    → ((x y : ℤ) → column ≤ℤ x → x <ℤ (all.x1 +ℤ pos 1) → line ≤ℤ y → y <ℤ (all.y1 +ℤ pos 1) → IsWithin e.region x y)
    → AreCovering all (a ∷ b ∷ d ∷ e ∷ [])
four_cover all column line a b d e first second third fourth = λ x y is.
    let x_end : x <ℤ (all.x1 +ℤ pos 1) = (let h = is.right in omega (arith, ints)) in
    let y_end : y <ℤ (all.y1 +ℤ pos 1) = (let h = is.bottom in omega (arith, ints)) in
    by_lt_z x column
    (λ left. by_lt_z y line
    (λ above. record { number = 0; there = omega arith; has = λ _. first x y is.left left is.top above })
    (λ below. record { number = 2; there = omega arith; has = λ _. third x y is.left left below y_end }))
    (λ right. by_lt_z y line
    (λ above. record { number = 1; there = omega arith; has = λ _. second x y right x_end is.top above })
    (λ below. record { number = 3; there = omega arith; has = λ _. fourth x y right x_end below y_end }))
