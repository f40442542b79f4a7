use Rattle.std.proofs.Common.{ℕ, Bool, ◌+◌, ◌*◌, ◌^◌, ◌<◌, eqb, get_or, refl, sym, arith}
use Rattle.std.proofs.lemmas.Nat.{pow_below}
use Rattle.exr_piz.proofs.Numbers.{number_with-none, number_with-below}
use Rattle.exr_piz.proofs.Marking.{bit_more}
use Rattle.exr_piz.proofs.marks.byte_at.Goals as goal

pub loop-i-init : goal.loop-i-init
loop-i-init c = record { few = omega arith; so_far = sym (number_with-none (λ i. eqb (get_or c.args.marks.now (8 * c.args.at + i) 0) 1)) }

pub loop-i-preserved : goal.loop-i-preserved
loop-i-preserved c =
    let test : ℕ → Bool = λ i. eqb (get_or c.args.marks.now (8 * c.args.at + i) 0) 1 in
    let l = c.loop-i in
    let small : 2 ^ l.i < 256 = pow_below l.i 8 c.loop-i-test.true in
    let now = bit_more test l.byte (get_or c.args.marks.now (8 * c.args.at + l.i) 0) l.i (c.requires.marks (8 * c.args.at + l.i)) c.loop-i-test.true small refl l.invariant.so_far in
    record { few = omega (arith, now, number_with-below test (l.i + 1)); so_far = now }
