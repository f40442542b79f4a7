use Rattle.std.proofs.Common.{◌≡◌, ◌+◌, ◌-◌, ◌^◌, ◌<◌, ◌≤◌, ◌∷◌, [], List, ℕ, Some, ap, ◌∙◌, arith, length, min, replicate, take}
use Rattle.std.proofs.lemmas.List.{length-replicate, length-set, take_more_set}
use Rattle.std.specs.List.{sum_by}
use Rattle.exr_codes.specs.Codes.{weight_of}
use Rattle.exr_codes.proofs.Filling.{begun_length, begun_zeros, taken_zeros, filled_all, full_by_total}
use Rattle.exr_codes.proofs.Reading.{read_none, read_long, read_more, read_done}
use Rattle.exr_codes.proofs.table.fill_lengths.Goals as goal

pub items-preserved-in-Some-Length : goal.items-preserved-in-Some-Length
items-preserved-in-Some-Length c =
    let known = c.items.invariant in
    let lengths = c.items.lengths in
    let count = c.items.count in
    let len = c.in-Some-Length.len in
    let all = length lengths in
    let item = rw c.in-Some-Length.field-0-is at c.in-Some-Length.ensures.value in
    let small = rw c.in-Some-Length.field-0-is at c.in-Some-Length.ensures.fits in
    let inside : count < all = c.items-test.true in
    let more = read_more all c.items.reader c.args.reader.now (take count lengths) (all - count) known.so_far (omega arith) (len ∷ []) c.take_item.new.reader item (omega arith) in
    let fewer : (all - count) - 1 ≡ all - (count + 1) = omega arith in
    record {
      begun = begun_length lengths count c.items.total known.begun len c.with_weight-total.result inside small c.with_weight-total.ensures;
      so_far = rw (length-set lengths count len, take_more_set lengths count len inside, ← fewer) more;
    }

pub returns-then-zeros-lengths-clause-value : goal.returns-then-zeros-lengths-clause-value
returns-then-zeros-lengths-clause-value c =
    let known = c.items.invariant in
    let lengths = c.items.lengths in
    let count = c.items.count in
    let all = length lengths in
    let zeros = c.in-Some-Zeros.zeros in
    let item = rw c.in-Some-Zeros.field-0-is at c.in-Some-Zeros.ensures.value in
    rw (← c.items.auto.lengths) (read_long all c.items.reader c.args.reader.now (take count lengths) (all - count) known.so_far (omega (arith, c.items-test.true)) (replicate zeros 0) c.take_item.new.reader item (rw length-replicate c.if-zeros-lengths.true))

pub items-preserved : goal.items-preserved
items-preserved c =
    let known = c.items.invariant in
    let lengths = c.items.lengths in
    let count = c.items.count in
    let all = length lengths in
    let zeros = c.in-Some-Zeros.zeros in
    let item = rw c.in-Some-Zeros.field-0-is at c.in-Some-Zeros.ensures.value in
    let fits : zeros ≤ all - count = c.if-zeros-lengths.false in
    let more = read_more all c.items.reader c.args.reader.now (take count lengths) (all - count) known.so_far (omega (arith, c.items-test.true)) (replicate zeros 0) c.take_item.new.reader item (rw length-replicate fits) in
    let fewer : (all - count) - length (replicate zeros 0) ≡ all - (count + zeros) = rw length-replicate (omega arith) in
    record {
      begun = begun_zeros lengths count c.items.total known.begun zeros fits;
      so_far = rw (taken_zeros lengths count c.items.total known.begun zeros fits, ← fewer) more;
    }

pub returns-in-None-clause-value : goal.returns-in-None-clause-value
returns-in-None-clause-value c =
    let known = c.items.invariant in
    let all = length c.items.lengths in
    rw (← c.items.auto.lengths) (read_none all c.items.reader c.args.reader.now (take c.items.count c.items.lengths) (all - c.items.count) known.so_far (omega (arith, c.items-test.true)) c.in-None.ensures.value)

pub returns-clause-value : goal.returns-clause-value
returns-clause-value c =
    let known = c.items.invariant in
    let lengths = c.items.lengths in
    let all = length lengths in
    let done : all ≤ c.items.count = c.items-test.false in
    rw (← c.items.auto.lengths) (read_done all c.items.reader c.args.reader.now (take c.items.count lengths) (all - c.items.count) known.so_far (omega arith) ∙ ap (λ (xs : List ℕ). Some (xs, c.items.reader)) (filled_all lengths c.items.count c.items.total known.begun done))

pub returns-clause-full : goal.returns-clause-full
returns-clause-full c =
    let known = c.items.invariant.begun in
    let lengths = c.items.lengths in
    full_by_total lengths c.items.total (known.sum ∙ ap (λ (xs : List ℕ). min (sum_by weight_of xs) (2 ^ 58 + 1)) (filled_all lengths c.items.count c.items.total known c.items-test.false))
