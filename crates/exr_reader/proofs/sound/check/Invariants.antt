use Rattle.std.proofs.Common.{◌≡◌, ◌≤◌, IsTrue, length, map}
use Rattle.std.specs.List.{range_with_len}
use Rattle.exr_stream.specs.Stream.{file_of, IsSameStream}
use Rattle.exr_reader.specs.Check.{unread_of, ArePartsSound}
use Rattle.exr_reader.proofs.sound.check.Given as goal

-- the parts so far are sound, and each has its count
abbrev pub invariant-loop-part : goal.invariant-loop-part
invariant-loop-part g l = record {
  many : length l.counts.items ≡ l.part;
  counts : IsTrue g.S.Source.means.tells → l.counts.items ≡ map (unread_of (file_of g.S.Source.means l.initial.stream)) (range_with_len 0 l.part);
  sound : IsTrue g.S.Source.means.tells → ArePartsSound (file_of g.S.Source.means l.initial.stream) l.part;
  same : IsSameStream g.S.Source.means l.initial.stream l.stream;
  later : g.S.Source.means.faults l.initial.stream.source ≤ g.S.Source.means.faults l.stream.source;
}
