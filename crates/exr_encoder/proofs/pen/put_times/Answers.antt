use Rattle.std.proofs.Common.{◌≡◌, ◌-◌, ◌++◌, List, Bool, sym, ap, ◌∙◌, arith, append_assoc, append-nil}
use Rattle.exr_base.specs.Bits.{bits_of}
use Rattle.exr_encoder.specs.Writing.{written, times_bits}
use Rattle.exr_encoder.proofs.Pens.{times_none, times_one, times_less}
use Rattle.exr_encoder.proofs.pen.put_times.Goals as goal

pub copies-preserved : goal.copies-preserved
copies-preserved c =
    let a = c.args in
    let l = c.copies in
    let some = c.copies-test.true in
    let bits = bits_of a.len a.number in
    let before = written l.pen.at l.pen.have l.pen.pending l.out in
    let later = times_bits (l.left - 1) bits in
    record {
      within = omega (arith, l.invariant.within);
      on = omega (arith, c.put.ensures.on, l.invariant.on, times_less a.len l.left some);
      so_far = ap (λ (front : List Bool). front ++ later) c.put.ensures.bits ∙ append_assoc before bits later ∙ ap (λ (back : List Bool). before ++ back) (sym (times_one l.left bits some)) ∙ l.invariant.so_far;
    }

pub returns-clause-bits : goal.returns-clause-bits
returns-clause-bits c =
    let a = c.args in
    let l = c.copies in
    let bits = bits_of a.len a.number in
    let before = written l.pen.at l.pen.have l.pen.pending l.out in
    let none : l.left ≡ 0 = omega (arith, c.copies-test.false) in
    sym (append-nil before) ∙ ap (λ (back : List Bool). before ++ back) (sym (ap (λ n. times_bits n bits) none ∙ times_none bits)) ∙ l.invariant.so_far
