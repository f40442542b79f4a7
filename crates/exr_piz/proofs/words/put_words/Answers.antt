use Rattle.std.proofs.Common.{length, ap, ◌∙◌, arith}
use Rattle.exr_piz.specs.Words.{bytes_from}
use Rattle.exr_piz.proofs.Spelling.{words_all}
use Rattle.exr_piz.proofs.Restoring.{bytes_again}
use Rattle.exr_piz.proofs.words.put_words.Goals as goal

pub returns-clause-exact : goal.returns-clause-exact
returns-clause-exact c = words_all c.args.bytes.now c.loop-k.words (omega (arith, c.requires, c.loop-k.auto.words)) (λ j within. c.loop-k.invariant j (omega (arith, c.loop-k.auto.words, c.loop-k-test.false)))

pub returns-clause-restores : goal.returns-clause-restores
returns-clause-restores c = ap bytes_from (returns-clause-exact c) ∙ bytes_again c.args.bytes.now (length c.loop-k.words) (omega (arith, c.requires, c.loop-k.auto.words)) (λ i. (c.type_inv.bytes i).fits)
