use Rattle.std.proofs.Common.{◌≡◌, ◌≤◌, ◌++◌, IsTrue, take}
use Rattle.exr_tools.proofs.Pieces.{bytes_of}
use Rattle.exr_tools.proofs.extract.append_pieces.Given as goal

abbrev pub invariant-loop-piece : goal.invariant-loop-piece
invariant-loop-piece g l = record {
  added : IsTrue g.P.Printer.means.tells → g.P.Printer.means.holds l.printer ≡ g.P.Printer.means.holds l.initial.printer ++ bytes_of (take l.piece-index l.pieces);
  name : g.P.Printer.means.name l.printer ≡ g.P.Printer.means.name l.initial.printer;
  later : g.P.Printer.means.faults l.initial.printer ≤ g.P.Printer.means.faults l.printer;
}
