-- What was read keeps to its limits.
use Rattle.exr_words.proofs.Within.{keys_within}
use Rattle.exr_words.proofs.words.read_words.Goals as goal

pub returns-clause-within : goal.returns-clause-within
returns-clause-within c = keys_within c.in-Some-verb_of.verb _ c.read_keys.result c.read_keys.ensures
