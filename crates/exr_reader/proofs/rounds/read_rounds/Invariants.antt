use Rattle.std.proofs.Common.{◌≡◌, ◌*◌, ◌≤◌, IsTrue, None, length}
use Rattle.exr_stream.specs.Stream.{file_of, IsSameStream}
use Rattle.exr_reader.specs.Window.{target_of, ArePut, HaveDataOf}
use Rattle.exr_reader.proofs.rounds.read_rounds.Given as goal

-- the chunks of the rounds so far have raw content, and their samples were put
abbrev pub invariant-loop-rounds : goal.invariant-loop-rounds
invariant-loop-rounds g l = record {
  put : IsTrue g.S.Source.means.tells → ArePut (target_of g.S.Source.means l.initial.stream l.target.part l.target.layout.now l.target.plan.now) l.chunks (l.rounds * l.round) l.initial.into l.into;
  chunks : IsTrue g.S.Source.means.tells → HaveDataOf (file_of g.S.Source.means l.initial.stream) l.target.part l.chunks (l.rounds * l.round);
  same : IsSameStream g.S.Source.means l.initial.stream l.stream;
  later : g.S.Source.means.faults l.initial.stream.source ≤ g.S.Source.means.faults l.stream.source;
  size : length l.into ≡ l.target.layout.now.buffer;
  done : l.jobs.begun ≡ None;
}
