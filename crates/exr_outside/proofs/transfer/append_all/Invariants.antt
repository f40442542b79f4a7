use Rattle.std.proofs.Common.{◌≡◌, ◌-◌, ◌≤◌, ◌++◌, IsTrue, length, take}
use Rattle.exr_outside.proofs.transfer.append_all.Given as goal

abbrev pub invariant-loop-taken : goal.invariant-loop-taken
invariant-loop-taken g l = record {
  within : l.taken ≤ length l.bytes;
  held : IsTrue g.P.Printer.means.tells
      → g.P.Printer.means.holds l.printer ≡ g.P.Printer.means.holds l.fn.printer ++ take l.taken l.bytes;
  name : g.P.Printer.means.name l.printer ≡ g.P.Printer.means.name l.fn.printer;
  later : g.P.Printer.means.faults l.fn.printer ≤ g.P.Printer.means.faults l.printer;
}

abbrev pub decreases-loop-taken : goal.decreases-loop-taken
decreases-loop-taken g l = length l.bytes - l.taken
