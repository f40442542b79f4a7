use Rattle.std.proofs.Common.{◌≡◌, ◌-◌, ◌*◌, ◌/◌, ◌%◌, ◌^◌, sym, ap, ap₂, ◌∙◌, arith, mod-eq_of_lt}
use Rattle.std.proofs.lemmas.List.{length-set}
use Rattle.exr_codes.specs.Codes.{weight_above, count_of}
use Rattle.exr_codes.proofs.Intervals.{weight_above-less}
use Rattle.exr_codes.proofs.Orders.{get_or-zeros, weight_above-longest, weight_fits, filled_down}
use Rattle.exr_encoder.proofs.encoder.firsts_of.Goals as goal

pub lengths-init : goal.lengths-init
lengths-init c =
    let lengths = c.args.lengths.now in
    let none = weight_above-longest lengths c.requires.complete.short in
    record {
      small = omega arith;
      size = omega arith;
      taken = sym none;
      first = λ len from to. get_or-zeros 59 len ∙ sym (ap (λ m. weight_above m lengths / 2 ^ (58 - m)) (let e : len ≡ 58 = omega arith in e) ∙ ap (λ w. w / 2 ^ (58 - 58)) none);
    }

pub overflow_add-taken : goal.overflow_add-taken
overflow_add-taken c =
    let lengths = c.args.lengths.now in
    let len = c.lengths.len in
    let known = c.lengths.invariant in
    let count = c.requires.counts len c.lengths-test.true known.small in
    let fits = weight_fits lengths len c.requires.complete c.lengths-test.true in
    let whole : count_of len lengths * 2 ^ (58 - len) % 2 ^ 64 ≡ count_of len lengths * 2 ^ (58 - len) = mod-eq_of_lt (omega arith) in
    rw (count, known.taken, whole) (omega arith)

pub lengths-preserved : goal.lengths-preserved
lengths-preserved c =
    let some = c.lengths-test.true in
    let known = c.lengths.invariant in
    let len = c.lengths.len in
    let lengths = c.args.lengths.now in
    let count = c.requires.counts len some known.small in
    let fits = weight_fits lengths len c.requires.complete some in
    let whole : count_of len lengths * 2 ^ (58 - len) % 2 ^ 64 ≡ count_of len lengths * 2 ^ (58 - len) = mod-eq_of_lt (omega arith) in
    let shift : 59 - len ≡ 58 - (len - 1) = omega (arith, some, known.small) in
    let less = sym (weight_above-less len lengths some) in
    record {
      small = omega (arith, known.small);
      size = length-set c.lengths.firsts _ _ ∙ known.size;
      taken = rw (count, known.taken, whole) less;
      first = filled_down (λ m. weight_above m lengths / 2 ^ (58 - m)) c.lengths.firsts len 58 _ some known.small known.size (rw (count, known.taken, whole) (ap₂ (λ w e. w / 2 ^ e) less shift)) known.first;
    }
