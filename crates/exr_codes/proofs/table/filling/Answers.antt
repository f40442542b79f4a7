use Rattle.std.proofs.Common.{◌≡◌, refl, sym, ap, ◌∙◌, arith, take, length}
use Rattle.exr_base.specs.Bits.{number_of}
use Rattle.exr_codes.proofs.Reading.{number_of-empty, number_of-first, at_least, filling_whole, filling_one, filling_none}
use Rattle.exr_codes.proofs.table.filling.Goals as goal

pub returns-in-Some : goal.returns-in-Some
returns-in-Some c = sym (filling_whole c.args.reader.now (at_least _ 8 c.in-Some.ensures.none.1))

pub bits-init : goal.bits-init
bits-init c = record { few = c.in_default.ensures.none.0 refl; same = ap number_of c.in_default.ensures.kept }

pub returns-then-bit-ne0 : goal.returns-then-bit-ne0
returns-then-bit-ne0 c =
    let bits = c.bits.reader in
    let one = at_least bits 1 c.in-Some-take.ensures.none.1 in
    sym (filling_one c.args.reader.now (rw (← c.bits.invariant.same) ((number_of-first bits one).1 (rw (← c.in-Some-take.ensures.value) c.if-bit-ne0.true))))

pub bits-preserved : goal.bits-preserved
bits-preserved c =
    let bits = c.bits.reader in
    let one = at_least bits 1 c.in-Some-take.ensures.none.1 in
    let zero : number_of (take 1 bits) ≡ 0 = sym c.in-Some-take.ensures.value ∙ c.if-bit-ne0.false in
    record {
      few = c.bits.invariant.few;
      same = rw c.in-Some-take.ensures.rest ((number_of-first bits one).0 zero ∙ c.bits.invariant.same);
    }

pub returns : goal.returns
returns c =
    let bits = c.bits.reader in
    let none : length bits ≡ 0 = let few = c.in_default-take.ensures.none.0 refl in omega arith in
    let zero : number_of bits ≡ 0 = number_of-empty bits none in
    sym (filling_none c.args.reader.now c.bits.invariant.few (sym c.bits.invariant.same ∙ zero))
