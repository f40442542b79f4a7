use Rattle.exr_header.proofs.Spelled.{nothing_behind, same_head}
use Rattle.exr_header.proofs.laws.spellings_are_prefix_free.Goals as goal

pub returns-clause-prefix : goal.returns-clause-prefix
returns-clause-prefix c = λ front rest g h a b. nothing_behind front rest g h a b

pub returns-clause-same : goal.returns-clause-same
returns-clause-same c = λ bytes g h a b. same_head bytes g h a b
