use Rattle.std.proofs.Common.{◌<◌, ℕ, ◌∷◌, drop, replicate, sym, ap, ◌∙◌, arith}
use Rattle.std.proofs.lemmas.List.{get_or_append_left, get_or-append_right}
use Rattle.exr_b44.proofs.Vectors.{whole8, eight}
use Rattle.exr_b44.proofs.writing.with_shift.Goals as goal

pub returns-clause-exact : goal.returns-clause-exact
returns-clause-exact c =
    let near = c.args.near in
    let s = c.args.shift in
    let all = replicate 8 s in
    let long = c.fits-near.0 in
    let left = λ (k : ℕ) (lt : k < 8). get_or_append_left near all 0 k (omega arith) in
    eight (get_or-append_right near all 8 8 0 long (omega arith)) (left 1 (omega arith)) (left 2 (omega arith)) (left 3 (omega arith)) (left 4 (omega arith)) (left 5 (omega arith)) (left 6 (omega arith)) (left 7 (omega arith))
    ∙ ap (λ l. s ∷ drop 1 l) (sym (whole8 near long))
