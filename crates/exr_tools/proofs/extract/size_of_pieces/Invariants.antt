use Rattle.std.proofs.Common.{◌≡◌, ◌≤◌, ◌*◌, ◌^◌, length, take}
use Rattle.exr_tools.proofs.Pieces.{bytes_of}
use Rattle.exr_tools.proofs.extract.size_of_pieces.Given as goal

abbrev pub invariant-loop-piece : goal.invariant-loop-piece
invariant-loop-piece l = record {
  counted : l.size ≡ length (bytes_of (take l.piece-index l.pieces));
  small : l.size ≤ 2 ^ 64 * l.piece-index;
}
