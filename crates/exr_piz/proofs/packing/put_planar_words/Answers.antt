-- The words are those of their bytes.
use Rattle.std.proofs.Common.{rules, ap, ◌∙◌}
use Rattle.exr_piz.specs.Words.{words_from}
use Rattle.exr_piz.proofs.Spelling.{length-bytes_from, words_of_bytes}
use Rattle.exr_piz.proofs.packing.put_planar_words.Goals as goal

pub put_planar_in-requires-clause-planar : goal.put_planar_in-requires-clause-planar
put_planar_in-requires-clause-planar c = length-bytes_from c.args.words.now ∙ c.requires.words

pub returns-clause-exact : goal.returns-clause-exact
returns-clause-exact c = words_of_bytes _ (λ k. (c.type_inv.words k).fits) ∙ ap words_from (search rules)
