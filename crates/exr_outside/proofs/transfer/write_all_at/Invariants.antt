use Rattle.std.proofs.Common.{◌≡◌, ◌-◌, ◌≤◌, IsTrue, length, take}
use Rattle.exr_outside.specs.Sink.{replaced}
use Rattle.exr_outside.proofs.transfer.write_all_at.Given as goal

abbrev pub invariant-loop-taken : goal.invariant-loop-taken
invariant-loop-taken g l = record {
  within : l.taken ≤ length l.bytes;
  held : IsTrue g.K.Printer.means.tells
      → g.K.Printer.means.holds l.sink ≡ replaced l.pos (take l.taken l.bytes) (g.K.Printer.means.holds l.fn.sink);
  name : g.K.Printer.means.name l.sink ≡ g.K.Printer.means.name l.fn.sink;
  later : g.K.Printer.means.faults l.fn.sink ≤ g.K.Printer.means.faults l.sink;
}

abbrev pub decreases-loop-taken : goal.decreases-loop-taken
decreases-loop-taken g l = length l.bytes - l.taken
