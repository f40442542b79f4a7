-- What is past the multiple before leads to the first one.
use Rattle.std.proofs.Common.{◌≡◌, ◌≢◌, pos, ◌+ℤ◌, ◌-ℤ◌, to_z, of_z, w64, arith, subst}
use Rattle.std.proofs.lemmas.Int.{ints}
use Rattle.exr_base.specs.Sampling.{IsFirstSample}
use Rattle.exr_base.proofs.Multiples.{first_found}
use Rattle.exr_base.proofs.sampling.first_sample.Goals as goal
use Rattle.exr_base.proofs.sampling.first_sample.Goals.{After-rem_euclid-past}

facts : (c : After-rem_euclid-past) → (c.rem_euclid-past.result ≡ pos 0 → IsFirstSample c.args.sampling c.args.from c.args.from) × (c.rem_euclid-past.result ≢ pos 0 → IsFirstSample c.args.sampling c.args.from (c.args.from +ℤ (pos c.args.sampling -ℤ c.rem_euclid-past.result)))
facts c =
    let f : to_z w64 (of_z w64 c.from.result) ≡ c.args.from = omega (arith, ints) in
    let s : to_z w64 (of_z w64 c.from-2.result) ≡ pos c.args.sampling = omega (arith, ints) in
    first_found c.args.sampling c.args.from c.rem_euclid-past.result (omega arith) (rw (f, s) at c.rem_euclid-past.ensures.value)

pub returns-then-past-eq0 : goal.returns-then-past-eq0
returns-then-past-eq0 c =
    let e : c.args.from ≡ to_z w64 (of_z w64 c.from-then-past-eq0.result) = omega (arith, ints) in
    subst (IsFirstSample c.args.sampling c.args.from) e ((facts (goal.at.returns-then-past-eq0 c).After-rem_euclid-past).0 (omega (arith, ints)))

pub returns-else-past-eq0 : goal.returns-else-past-eq0
returns-else-past-eq0 c =
    let e : c.args.from +ℤ (pos c.args.sampling -ℤ c.rem_euclid-past.result)
    ≡ to_z w64 (of_z w64 (to_z w64 (of_z w64 c.from-else-past-eq0.result) +ℤ to_z w64 (of_z w64 (to_z w64 (of_z w64 c.from-else-past-eq0-2.result) -ℤ to_z w64 (of_z w64 c.rem_euclid-past.result))))) = omega (arith, ints) in
    subst (IsFirstSample c.args.sampling c.args.from) e ((facts (goal.at.returns-else-past-eq0 c).After-rem_euclid-past).1 (omega (arith, ints)))
