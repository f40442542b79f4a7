use Rattle.std.proofs.Common.{◌≡◌, ◌-◌, length, true}
use Rattle.exr_desk.specs.Order.{BeginsWith}
use Rattle.exr_desk.specs.Desk.{IsSameDesk}
use Rattle.exr_desk.proofs.filing.Filing.write_rising.Given as goal

abbrev pub invariant-chunks : goal.invariant-chunks
invariant-chunks g l = record {
  same : IsSameDesk g.K.Printer.means l.fn.self l.self;
  progress : BeginsWith l.fn.self.taken l.self.taken;
  still : l.fn.self.broken ≡ true → l.self ≡ l.fn.self;
}

abbrev pub decreases-chunks : goal.decreases-chunks
decreases-chunks g l = length l.self.entries - length l.self.taken
