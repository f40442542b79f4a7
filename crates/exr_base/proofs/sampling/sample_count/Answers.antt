-- The two quotients differ by the count, which is no more than the places between.
use Rattle.std.proofs.Common.{◌≡◌, pos, ◌-ℤ◌, to_z, of_z, w64, arith, rules}
use Rattle.std.proofs.lemmas.Int.{ints}
use Rattle.exr_base.proofs.Multiples.{Counted, counted, each_place}
use Rattle.exr_base.proofs.sampling.sample_count.Goals as goal
use Rattle.exr_base.proofs.sampling.sample_count.Goals.{After-div_euclid-last}

facts : (c : After-div_euclid-last) → Counted c.args.sampling c.args.from c.args.to c.div_euclid-before.result c.div_euclid-last.result
facts c =
    let s : to_z w64 (of_z w64 c.from-2.result) ≡ pos c.args.sampling = omega (arith, ints) in
    let s' : to_z w64 (of_z w64 c.from-4.result) ≡ pos c.args.sampling = omega (arith, ints) in
    let f : to_z w64 (of_z w64 (to_z w64 (of_z w64 c.from.result) -ℤ pos 1)) ≡ c.args.from -ℤ pos 1 = omega (arith, ints) in
    let t : to_z w64 (of_z w64 c.from-3.result) ≡ c.args.to = omega (arith, ints) in
    counted c.args.sampling c.args.from c.args.to c.div_euclid-before.result c.div_euclid-last.result (omega arith) c.requires.from_low c.requires.from_high c.requires.to_low c.requires.to_high (rw (f, s) at c.div_euclid-before.ensures) (rw (t, s') at c.div_euclid-last.ensures)

pub returns-then-sampling-eq1 : goal.returns-then-sampling-eq1
returns-then-sampling-eq1 c = each_place c.args.sampling c.args.from c.args.to c.span.result c.if-sampling-eq1.true (search rules)

pub overflow_sub-result : goal.overflow_sub-result
overflow_sub-result c = let f = facts c in omega (arith, ints)

pub overflow_cast-result : goal.overflow_cast-result
overflow_cast-result c = let f = facts c in omega (arith, ints)

pub returns : goal.returns
returns c = let f = facts c in omega (arith, ints)
