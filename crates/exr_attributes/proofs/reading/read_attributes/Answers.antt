use Rattle.exr_attributes.proofs.Laws.{is_found, is_again}
use Rattle.exr_attributes.proofs.reading.read_attributes.Goals as goal

pub returns-clause-found : goal.returns-clause-found
returns-clause-found c = λ bytes. is_found c.args.from.now c.header.new.from c.header.result bytes c.header.ensures

pub returns-clause-again : goal.returns-clause-again
returns-clause-again c = λ es rest spelled. is_again c.args.from.now c.header.new.from es rest c.header.result spelled c.header.ensures
