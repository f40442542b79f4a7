use Rattle.exr_desk.proofs.Keeping.{seen, partial_of}
use Rattle.exr_desk.proofs.filing.Filing.into_stop.Goals as goal

pub returns-clause-partial : goal.returns-clause-partial
returns-clause-partial g c = partial_of g.K.Printer.means c.args.self (seen g.K.Printer.means c.self.view_is c.self.invariant).desk
