use Rattle.std.proofs.Common.{arith}
use Rattle.exr_layout.proofs.Counted.{slice_small}
use Rattle.exr_layout.proofs.Rests.{slices_err, slices_ok, slices_all}
use Rattle.exr_layout.proofs.validation.slices_end.Goals as goal

pub returns-then-slice-ended-clause-exact : goal.returns-then-slice-ended-clause-exact
returns-then-slice-ended-clause-exact c =
    slices_err c.args.first c.loop-slice.number c.loop-slice.ended c.loop-slice.slice-index c.args.slices.now c.slice-item.result c.loop-slice-test.true c.slice-item.is c.if-slice-ended.true c.loop-slice.invariant.rest

pub loop-slice-preserved : goal.loop-slice-preserved
loop-slice-preserved c = record {
  rest = rw c.bytes.ensures (slices_ok c.args.first c.loop-slice.number c.loop-slice.ended c.loop-slice.slice-index c.args.slices.now c.slice-item.result c.loop-slice-test.true c.slice-item.is c.if-slice-ended.false c.loop-slice.invariant.rest);
  number = omega arith;
  begun = λ h. absurd (omega arith);
  small = slice_small c.args.slices.now c.loop-slice.slice-index c.slice-item.result c.bytes.result c.requires.near c.loop-slice-test.true c.slice-item.is c.bytes.ensures;
}

pub returns-clause-exact : goal.returns-clause-exact
returns-clause-exact c =
    slices_all c.args.first c.loop-slice.number c.loop-slice.ended c.loop-slice.slice-index c.args.slices.now c.loop-slice-test.false c.loop-slice.invariant.rest
