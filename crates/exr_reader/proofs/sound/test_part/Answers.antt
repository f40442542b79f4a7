-- The chunks of a part, one after the other.
use Rattle.std.proofs.Common.{rules, ◌≡◌, true, IsTrue, sym, subst, arith}
use Rattle.exr_outside.specs.Count.{Rose}
use Rattle.exr_stream.specs.Chunk.{Opened}
use Rattle.exr_stream.specs.Stream.{file_of}
use Rattle.exr_reader.specs.Sample.{raw_of}
use Rattle.exr_reader.specs.Check.{is_unread, is_sound, IsUnsound, IsFirstUnsoundOf}
use Rattle.exr_reader.proofs.Same.{file_same, same_self, same_still}
use Rattle.exr_reader.proofs.Soundness.{unread_none, unread_more, sound_more, stop_by}
use Rattle.exr_reader.proofs.sound.test_part.Goals as goal

pub loop-index-init : goal.loop-index-init
loop-index-init g c = record {
  few = omega arith;
  unread = λ told. unread_none (file_of g.S.Source.means c.args.stream.now) c.args.part;
  sound = λ told i lt. absurd (omega (arith, lt));
  same = same_self g.S.Source.means c.args.stream.now;
  later = omega arith;
}

pub returns-in-Err-clause-cause : goal.returns-in-Err-clause-cause
returns-in-Err-clause-cause g c =
    let means = g.S.Source.means in
    let s = c.args.stream.now in
    let file = file_of means s in
    let part = c.args.part in
    let i = c.loop-index.index in
    let way = c.loop-index.invariant in
    stop_by c.in-Err.stop _ (λ p n fault. (p ≡ part) × (IsTrue means.tells → IsFirstUnsoundOf file part n fault)) _ (Rose (means.faults s.source) (means.faults c.test_chunk.new.stream.source))
    (λ p n fault has. (
      has.0,
      λ told. subst (λ k. IsFirstUnsoundOf file part k fault) (sym (has.1).0) (record {
        within = search rules;
        broken = subst (λ (o : Opened). IsUnsound (raw_of o part i) fault) (file_same means s c.loop-index.stream way.same told) ((has.1).1 told);
        before = way.sound told;
      }),
    ))
    (λ rose. let later = way.later in omega (arith, rose, later))
    c.in-Err.ensures.cause

pub loop-index-preserved : goal.loop-index-preserved
loop-index-preserved g c =
    let means = g.S.Source.means in
    let s = c.args.stream.now in
    let file = file_of means s in
    let i = c.loop-index.index in
    let way = c.loop-index.invariant in
    record {
      few = search rules;
      unread = λ told. unread_more file c.args.part i c.loop-index.unread _ c.in-Ok.is_unread
          (subst (λ (o : Opened). c.in-Ok.is_unread ≡ is_unread (raw_of o c.args.part i)) (file_same means s c.loop-index.stream way.same told) (c.in-Ok.ensures.unread told))
          (way.unread told) (search rules);
      sound = λ told. sound_more file c.args.part i (way.sound told)
          (subst (λ (o : Opened). is_sound (raw_of o c.args.part i) ≡ true) (file_same means s c.loop-index.stream way.same told) (c.in-Ok.ensures.sound told));
      same = same_still means s c.loop-index.stream c.test_chunk.new.stream way.same c.test_chunk.ensures.same;
      later = search rules;
    }
