use Rattle.exr_encoder.proofs.Spelled.{read_again}
use Rattle.exr_encoder.proofs.laws.table_is_read_again.Goals as goal

pub returns : goal.returns
returns c = read_again c.args.lengths.now c.requires
