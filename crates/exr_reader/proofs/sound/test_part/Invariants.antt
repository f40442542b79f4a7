use Rattle.std.proofs.Common.{◌≡◌, ◌≤◌, IsTrue}
use Rattle.exr_stream.specs.Stream.{file_of, IsSameStream}
use Rattle.exr_reader.specs.Check.{unread_among, AreSound}
use Rattle.exr_reader.proofs.sound.test_part.Given as goal

-- the chunks so far are sound, and so many of them are unread
abbrev pub invariant-loop-index : goal.invariant-loop-index
invariant-loop-index g l = record {
  few : l.unread ≤ l.index;
  unread : IsTrue g.S.Source.means.tells → l.unread ≡ unread_among (file_of g.S.Source.means l.initial.stream) l.part l.index;
  sound : IsTrue g.S.Source.means.tells → AreSound (file_of g.S.Source.means l.initial.stream) l.part l.index;
  same : IsSameStream g.S.Source.means l.initial.stream l.stream;
  later : g.S.Source.means.faults l.initial.stream.source ≤ g.S.Source.means.faults l.stream.source;
}
