use Rattle.std.proofs.Common.{length, ap, ◌∙◌, arith}
use Rattle.exr_packing.proofs.Weighing.{lengths_complete, length-lengths_of}
use Rattle.exr_packing.proofs.plan.plan_for.Goals as goal

pub write_table-requires : goal.write_table-requires
write_table-requires c = λ k. rw (c.deref.ensures.value ∙ c.in_ok-lengths.ensures.lengths) (omega (arith, (lengths_complete c.args.words.now c.requires.some c.requires.most).1 k))

pub new-requires-clause-complete : goal.new-requires-clause-complete
new-requires-clause-complete c = rw c.in_ok-lengths.ensures.lengths ((lengths_complete c.args.words.now c.requires.some c.requires.most).0)

pub new-requires-clause-few : goal.new-requires-clause-few
new-requires-clause-few c = omega (arith, ap length c.in_ok-lengths.ensures.lengths, length-lengths_of c.args.words.now c.requires.some c.requires.most, c.requires.greatest)
