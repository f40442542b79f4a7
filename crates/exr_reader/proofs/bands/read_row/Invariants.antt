use Rattle.std.proofs.Common.{◌≡◌, ◌≤◌, ◌+◌, ◌^◌, IsTrue, None, length}
use Rattle.exr_stream.specs.Stream.{file_of, IsSameStream}
use Rattle.exr_reader.specs.Deep.{AreDeepChunks, AreRead}
use Rattle.exr_reader.proofs.bands.read_row.Given as goal

-- the chunks so far, with not too many bytes
abbrev pub invariant-loop-rank : goal.invariant-loop-rank
invariant-loop-rank g l = record {
  many : l.from + length l.row.items ≡ l.rank;
  chunks : AreDeepChunks (IsTrue g.S.Source.means.tells) (file_of g.S.Source.means l.initial.stream) l.what.part l.what.chunks.now l.from l.row.items;
  read : IsTrue g.S.Source.means.tells → AreRead (file_of g.S.Source.means l.initial.stream) l.what.part l.what.window l.what.chunks.now l.rank l.size;
  most : l.size ≤ 2 ^ 42;
  same : IsSameStream g.S.Source.means l.initial.stream l.stream;
  later : g.S.Source.means.faults l.initial.stream.source ≤ g.S.Source.means.faults l.stream.source;
  rest : l.jobs.begun ≡ None;
}
