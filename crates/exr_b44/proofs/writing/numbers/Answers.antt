use Rattle.std.proofs.Common.{◌≡◌, ℕ, ◌<◌, ◌≤◌, inl, inr, List, length, get_or, map, Fits, w16, ap, ◌∙◌, arith}
use Rattle.std.proofs.lemmas.Bool.{cases_lt}
use Rattle.std.proofs.lemmas.List.{get_or-map, get_or_past, length-map}
use lib.Lanes.{Each1}
use Rattle.exr_b44.specs.Cell.{ordered}
use Rattle.exr_b44.proofs.Vectors.{whole8, eight, words_fit}
use Rattle.exr_b44.proofs.Depths.{numbered, ordered_range}
use Rattle.exr_b44.proofs.writing.numbers.Goals as goal

pub returns-clause-exact : goal.returns-clause-exact
returns-clause-exact c =
    let xs = c.args.halves in
    let small : (k : ℕ) → k < 8 → get_or xs k 0 < 65536 = λ k lt. words_fit xs k c.fits-halves.0 c.fits-halves.1 lt in
    rw (whole8 xs c.fits-halves.0)
    (eight (numbered _ (small 0 (omega arith))) (numbered _ (small 1 (omega arith))) (numbered _ (small 2 (omega arith))) (numbered _ (small 3 (omega arith)))
    (numbered _ (small 4 (omega arith))) (numbered _ (small 5 (omega arith))) (numbered _ (small 6 (omega arith))) (numbered _ (small 7 (omega arith))))

ordered_all : (xs out : List ℕ) → length xs ≡ 8 → Each1 (Fits w16) xs → out ≡ map ordered xs → (k : ℕ) → k < 8 → (1024 ≤ get_or out k 0) × (get_or out k 0 ≤ 64511)
ordered_all xs out long fit is k lt =
    let same : get_or out k 0 ≡ ordered (get_or xs k 0) = ap (λ l. get_or l k 0) is ∙ get_or-map ordered xs k 0 0 (omega arith) in
    let range = ordered_range (get_or xs k 0) (words_fit xs k long fit lt) in
    (omega (arith, range.0), omega (arith, range.1))

pub returns-clause-low : goal.returns-clause-low
returns-clause-low c k lt = (ordered_all c.args.halves _ c.fits-halves.0 c.fits-halves.1 (returns-clause-exact c) k lt).0

ordered_high : (xs out : List ℕ) → length xs ≡ 8 → Each1 (Fits w16) xs → out ≡ map ordered xs → (k : ℕ) → get_or out k 0 ≤ 64511
ordered_high xs out long fit is k =
    elim (cases_lt k 8) [
      | inl lt ↦ (ordered_all xs out long fit is k lt).1
      | inr past ↦ omega (arith, get_or_past out k 0 (omega (arith, ap length is, length-map xs ordered)))
    ]

pub returns-clause-high : goal.returns-clause-high
returns-clause-high c k = ordered_high c.args.halves _ c.fits-halves.0 c.fits-halves.1 (returns-clause-exact c) k
