use Rattle.std.proofs.Common.{rules, ◌≡◌, ◌-◌, ◌*◌, ◌%◌, ◌^◌, take, sym, ◌∙◌, arith, mod-eq_of_lt}
use Rattle.std.proofs.lemmas.List.{take_more_set}
use Rattle.exr_base.proofs.BitLists.{bytes_of-whole, bytes_of-filled, filled_below}
use Rattle.exr_encoder.specs.Writing.{written}
use Rattle.exr_encoder.proofs.Pens.{front_is_bytes}
use Rattle.exr_encoder.proofs.pen.Pen.finish.Goals as goal

pub returns-then-self-eq0-clause-bytes : goal.returns-then-self-eq0-clause-bytes
unfolding written
returns-then-self-eq0-clause-bytes c =
    let pen = c.args.self in
    sym (bytes_of-whole (take pen.at c.args.out.now) pen.have pen.pending (front_is_bytes c.args.out.now pen.at (λ k. (c.type_inv.out k).fits)) c.if-self-eq0.true)

pub overflow_cast-out-2 : goal.overflow_cast-out-2
overflow_cast-out-2 c =
    let pen = c.args.self in
    let below = filled_below pen.have pen.pending (omega arith) pen.below in
    let is : pen.pending * 2 ^ (8 - pen.have) % 2 ^ 64 ≡ pen.pending * 2 ^ (8 - pen.have) = mod-eq_of_lt (omega (arith, below)) in
    rw is (omega (arith, below))

pub returns-clause-bytes : goal.returns-clause-bytes
unfolding written
returns-clause-bytes c =
    let pen = c.args.self in
    let out = c.args.out.now in
    let below = filled_below pen.have pen.pending (omega arith) pen.below in
    let is : pen.pending * 2 ^ (8 - pen.have) % 2 ^ 64 ≡ pen.pending * 2 ^ (8 - pen.have) = mod-eq_of_lt (omega (arith, below)) in
    rw is (take_more_set out pen.at (pen.pending * 2 ^ (8 - pen.have)) c.requires.room ∙ sym (bytes_of-filled (take pen.at out) pen.have pen.pending (front_is_bytes out pen.at (search rules)) (omega (arith, c.if-self-eq0.false)) pen.few pen.below))
