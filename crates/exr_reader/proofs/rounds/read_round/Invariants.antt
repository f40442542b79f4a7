use Rattle.std.proofs.Common.{◌≡◌, ◌+◌, ◌≤◌, IsTrue, None, length, map}
use Rattle.exr_stream.specs.Stream.{file_of, IsSameStream}
use Rattle.exr_reader.specs.Window.{AreRaw}
use Rattle.exr_reader.proofs.rounds.read_round.Given as goal

-- the raw content of the chunks so far
abbrev pub invariant-loop-rank : goal.invariant-loop-rank
invariant-loop-rank g l = record {
  many : l.rank ≡ l.from + length l.raws.items;
  raws : AreRaw (IsTrue g.S.Source.means.tells) (file_of g.S.Source.means l.initial.stream) l.part l.chunks l.from (map (λ raw. raw.items) l.raws.items);
  same : IsSameStream g.S.Source.means l.initial.stream l.stream;
  later : g.S.Source.means.faults l.initial.stream.source ≤ g.S.Source.means.faults l.stream.source;
  done : l.jobs.begun ≡ None;
}
