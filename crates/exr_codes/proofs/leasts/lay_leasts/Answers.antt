use Rattle.std.proofs.Common.{◌≡◌, ◌-◌, ap, inl, inr, arith}
use Rattle.std.proofs.lemmas.Bool.{cases_lt}
use Rattle.exr_codes.specs.Codes.{weight_above}
use Rattle.exr_codes.proofs.Intervals.{weight_above_mono, weight_above-zero}
use Rattle.exr_codes.proofs.Orders.{weight_above-longest}
use Rattle.exr_codes.proofs.leasts.lay_leasts.Goals as goal

pub lengths-init : goal.lengths-init
lengths-init c =
    let longest = weight_above-longest c.args.lengths.now c.requires.complete.short in
    record {
      small = omega arith;
      here = omega (arith, longest);
      each = λ front below. absurd (omega arith);
    }

pub lay-requires-clause-ordered : goal.lay-requires-clause-ordered
lay-requires-clause-ordered c =
    let len = c.lengths.len in
    let known = c.lengths.invariant in
    let first = c.requires.starts.first (len - 1) (omega (arith, known.small)) in
    omega (arith, first, known.here, weight_above_mono (len - 1) len c.args.lengths.now (omega arith))

pub lay-requires-clause-within : goal.lay-requires-clause-within
lay-requires-clause-within c =
    let lengths = c.args.lengths.now in
    let len = c.lengths.len in
    let first = c.requires.starts.first (len - 1) (omega (arith, c.lengths.invariant.small)) in
    omega (arith, first, weight_above_mono 0 (len - 1) lengths (omega arith), weight_above-zero lengths, c.requires.complete.full, c.requires.size)

pub lengths-preserved : goal.lengths-preserved
lengths-preserved c =
    let lengths = c.args.lengths.now in
    let len = c.lengths.len in
    let known = c.lengths.invariant in
    let first = c.requires.starts.first (len - 1) (omega (arith, known.small)) in
    record {
      small = omega (arith, known.small);
      here = rw first;
      each = rw first (λ front below. elim (cases_lt front c.lengths.from) [
        | inl before ↦ rw (c.lay.ensures.kept front before) (known.each front before)
        | inr here ↦ rw (c.lay.ensures.laid front here (rw first below)) (record {
          some = c.lengths-test.true;
          small = known.small;
          above = omega arith;
        })
      ]);
    }

pub returns : goal.returns
returns c =
    let lengths = c.args.lengths.now in
    let known = c.lengths.invariant in
    let none : c.lengths.len ≡ 0 = omega (arith, c.lengths-test.false) in
    record {
      size = omega (arith, c.lengths.auto.leasts, c.requires.size);
      each = λ front within. known.each front (omega (arith, known.here, ap (λ l. weight_above l lengths) none, weight_above-zero lengths, c.requires.complete.full));
    }
