use Rattle.std.proofs.Common.{◌≡◌, ℕ, get_or, refl, arith}
use Rattle.std.proofs.lemmas.List.{get_or_read}
use Rattle.exr_b44.proofs.Vectors.{whole8, eight}
use Rattle.exr_b44.proofs.Numbers.{shifted, place_0, place_4, place_8, place_12, with_zero, second, third, fourth}
use Rattle.exr_b44.proofs.reading.columns.Goals as goal

pub returns-clause-near : goal.returns-clause-near
returns-clause-near c =
    let six = c.args.six in
    let f = c.args.first in
    let s = get_or six 0 0 in
    let is : c.index.result.now ≡ s = get_or_read six 0 _ (omega (arith, c.fits-six.0)) c.index.ensures 0 in
    let up = λ (k : ℕ). shifted (get_or six k 0) s _ is c.requires.shift in
    let a = place_0 f in
    let b = place_4 f _ _ (up 1) in
    let d = place_8 f _ _ _ _ (up 1) (up 2) in
    let e = place_12 f _ _ _ _ _ _ (up 1) (up 2) (up 3) in
    rw (whole8 six c.fits-six.0)
    (eight (with_zero _ _ a) (with_zero _ _ b) (with_zero _ _ d) (with_zero _ _ e)
    (second _ _ _ _ _ (up 4) a (omega arith)) (second _ _ _ _ _ (up 5) b (omega arith)) (second _ _ _ _ _ (up 6) d (omega arith)) (second _ _ _ _ _ (up 7) e (omega arith)))

pub returns-clause-far : goal.returns-clause-far
returns-clause-far c =
    let six = c.args.six in
    let more = c.args.more in
    let f = c.args.first in
    let s = get_or six 0 0 in
    let is : c.index.result.now ≡ s = get_or_read six 0 _ (omega (arith, c.fits-six.0)) c.index.ensures 0 in
    let up = λ (k : ℕ). shifted (get_or six k 0) s _ is c.requires.shift in
    let far = λ (k : ℕ). shifted (get_or more k 0) s _ is c.requires.shift in
    let a = second _ _ _ _ _ (up 4) (place_0 f) refl in
    let b = second _ _ _ _ _ (up 5) (place_4 f _ _ (up 1)) refl in
    let d = second _ _ _ _ _ (up 6) (place_8 f _ _ _ _ (up 1) (up 2)) refl in
    let e = second _ _ _ _ _ (up 7) (place_12 f _ _ _ _ _ _ (up 1) (up 2) (up 3)) refl in
    rw (whole8 six c.fits-six.0, whole8 more c.fits-more.0)
    (eight (third _ _ _ _ _ (far 0) a (omega arith)) (third _ _ _ _ _ (far 1) b (omega arith)) (third _ _ _ _ _ (far 2) d (omega arith)) (third _ _ _ _ _ (far 3) e (omega arith))
    (fourth _ _ _ _ _ _ _ (far 0) (far 4) a (omega arith)) (fourth _ _ _ _ _ _ _ (far 1) (far 5) b (omega arith)) (fourth _ _ _ _ _ _ _ (far 2) (far 6) d (omega arith)) (fourth _ _ _ _ _ _ _ (far 3) (far 7) e (omega arith)))
