use Rattle.std.proofs.Common.{◌≡◌, ℕ, ◌+◌, ◌-◌, ◌%◌, ◌<◌, ◌≤◌, List, ◌++◌, length, get_or, ap, arith}
use Rattle.std.proofs.lemmas.List.{get_or_append_left, get_or-append_right}
use Rattle.exr_b44.specs.Lanes.{turned, wrapped_of}
use Rattle.exr_b44.proofs.Vectors.{whole8, sixteen}
use Rattle.exr_b44.proofs.writing.differences.Goals as goal

left : (xs ys : List ℕ) (k n : ℕ) → length xs ≡ 8 → k < 8 → ((get_or (xs ++ ys) k 0 + 32) % 65536 + (65536 - n)) % 65536 ≡ ((get_or xs k 0 + 32) % 65536 + (65536 - n)) % 65536
left xs ys k n long lt = ap (λ x. ((x + 32) % 65536 + (65536 - n)) % 65536) (get_or_append_left xs ys 0 k (omega arith))

right : (xs ys : List ℕ) (k n : ℕ) → length xs ≡ 8 → 8 ≤ k → ((get_or (xs ++ ys) k 0 + 32) % 65536 + (65536 - n)) % 65536 ≡ ((get_or ys (k - 8) 0 + 32) % 65536 + (65536 - n)) % 65536
right xs ys k n long le = ap (λ x. ((x + 32) % 65536 + (65536 - n)) % 65536) (get_or-append_right xs ys 8 k 0 long le)

pub returns : goal.returns
unfolding turned wrapped_of
returns c =
    let near = c.args.near in
    let far = c.args.far in
    let a = λ (k n : ℕ) (lt : k < 8). left near near k n c.fits-near.0 lt in
    let b = λ (k n : ℕ) (lt : k < 8). left near far k n c.fits-near.0 lt in
    let d = λ (k n : ℕ) (le : 8 ≤ k). right near far k n c.fits-near.0 le in
    rw (whole8 near c.fits-near.0, whole8 far c.fits-far.0)
    (sixteen (a 0 _ (omega arith)) (a 0 _ (omega arith)) (a 1 _ (omega arith)) (a 2 _ (omega arith)) (a 0 _ (omega arith)) (a 1 _ (omega arith)) (a 2 _ (omega arith)) (a 3 _ (omega arith))
    (b 4 _ (omega arith)) (b 5 _ (omega arith)) (b 6 _ (omega arith)) (b 7 _ (omega arith)) (d 8 _ (omega arith)) (d 9 _ (omega arith)) (d 10 _ (omega arith)) (d 11 _ (omega arith)))
