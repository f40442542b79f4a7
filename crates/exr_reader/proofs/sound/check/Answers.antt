-- The parts of a file, one after the other.
use Rattle.std.proofs.Common.{rules, ◌≡◌, IsTrue, ℕ, List, [], ◌∷◌, ◌++◌, map, sym, ap, ◌∙◌, subst, arith}
use Rattle.std.specs.List.{range_with_len}
use Rattle.std.proofs.lemmas.List.FromFn.{map-range_with_len_more}
use Rattle.exr_chunks.specs.Heads.{chunk_count_of}
use Rattle.exr_outside.specs.Count.{Rose}
use Rattle.exr_stream.specs.Chunk.{Opened, header_in}
use Rattle.exr_stream.specs.Stream.{file_of}
use Rattle.exr_reader.specs.Check.{unread_of, AreSound, IsFirstUnsoundOf, IsFirstUnsound}
use Rattle.exr_reader.proofs.Same.{file_same, same_still}
use Rattle.exr_reader.proofs.Soundness.{parts_more, stop_by}
use Rattle.exr_reader.proofs.sound.check.Goals as goal

pub returns-in-Err-clause-cause : goal.returns-in-Err-clause-cause
returns-in-Err-clause-cause g c =
    let means = g.S.Source.means in
    let s = c.args.stream.now in
    let file = file_of means s in
    let way = c.loop-part.invariant in
    stop_by c.in-Err.stop _ (λ p n fault. IsTrue means.tells → IsFirstUnsound file p n fault) _ (Rose (means.faults s.source) (means.faults c.test_part.new.stream.source))
    (λ p n fault has told. subst (λ k. IsFirstUnsound file k n fault) (sym has.0) (record {
      there = search rules;
      chunk = subst (λ (o : Opened). IsFirstUnsoundOf o c.loop-part.part n fault) (file_same means s c.loop-part.stream way.same told) (has.1 told);
      earlier = way.sound told;
    }))
    (λ rose. let later = way.later in omega (arith, rose, later))
    c.in-Err.ensures.cause

pub loop-part-preserved : goal.loop-part-preserved
loop-part-preserved g c =
    let means = g.S.Source.means in
    let s = c.args.stream.now in
    let file = file_of means s in
    let part = c.loop-part.part in
    let way = c.loop-part.invariant in
    record {
      many = search rules;
      counts = λ told.
          let here : c.in-Ok.unread ≡ unread_of file part = subst (λ (o : Opened). c.in-Ok.unread ≡ unread_of o part) (file_same means s c.loop-part.stream way.same told) (c.in-Ok.ensures.unread told) in
          let pushed : c.push.new.self.items ≡ c.loop-part.counts.items ++ c.in-Ok.unread ∷ [] = search rules in
          pushed ∙ ap (λ (l : List ℕ). l ++ c.in-Ok.unread ∷ []) (way.counts told) ∙ ap (λ n. map (unread_of file) (range_with_len 0 part) ++ n ∷ []) here
          ∙ sym (map-range_with_len_more (unread_of file) 0 part part (omega arith));
      sound = λ told. parts_more file part (way.sound told)
          (subst (λ (o : Opened). AreSound o part (chunk_count_of (header_in o part))) (file_same means s c.loop-part.stream way.same told) (c.in-Ok.ensures.sound told));
      same = same_still means s c.loop-part.stream c.test_part.new.stream way.same c.test_part.ensures.same;
      later = search rules;
    }
