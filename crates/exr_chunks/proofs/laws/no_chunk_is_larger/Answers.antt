use Rattle.exr_chunks.proofs.Largest.{no_larger, judges_first, judged_for_all}
use Rattle.exr_chunks.proofs.laws.no_chunk_is_larger.Goals as goal

pub returns : goal.returns
returns c = record { first = judges_first; others = no_larger; judged = judged_for_all }
