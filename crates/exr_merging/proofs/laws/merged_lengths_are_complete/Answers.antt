use Rattle.exr_merging.proofs.Merging.{are_complete, has_code}
use Rattle.exr_merging.proofs.laws.merged_lengths_are_complete.Goals as goal

pub returns-clause-complete : goal.returns-clause-complete
returns-clause-complete c = (are_complete c.args.weights.now c.requires.two c.requires.light).0

pub returns-clause-short : goal.returns-clause-short
returns-clause-short c = (are_complete c.args.weights.now c.requires.two c.requires.light).1

pub returns-clause-coded : goal.returns-clause-coded
returns-clause-coded c = has_code c.args.weights.now c.requires.two c.requires.light
