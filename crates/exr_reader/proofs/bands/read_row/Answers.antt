-- The chunks of the row, one after the other, until they are too many bytes.
use Rattle.std.proofs.Common.{rules, ◌<◌, IsTrue, length, slice_index, refl, sym, ap, ◌∙◌, subst, arith}
use Rattle.exr_outside.specs.Count.{Rose}
use Rattle.exr_block.specs.Body.{deep_content}
use Rattle.exr_deep.specs.Body.{content_of}
use Rattle.exr_stream.specs.Chunk.{Opened}
use Rattle.exr_stream.specs.Stream.{file_of}
use Rattle.exr_reader.specs.declared.deep.DeepStop.{DeepStop}
use Rattle.exr_reader.specs.Sample.{raw_of}
use Rattle.exr_reader.specs.Deep.{IsDeepChunk, AreDeepChunks, IsDeepFault, IsTooLarge, HasDeepCause}
use Rattle.exr_reader.proofs.Same.{file_same, same_self, same_still}
use Rattle.exr_reader.proofs.Deepening.{chunks_more, chunk_before, content_more, read_more, size_more, size_here, deep_cause_by}
use Rattle.exr_reader.proofs.bands.read_row.Goals as goal

pub loop-rank-init : goal.loop-rank-init
loop-rank-init g c = record {
  many = search rules;
  chunks = search rules;
  read = c.requires.read;
  most = search rules;
  same = same_self g.S.Source.means c.args.stream.now;
  later = omega arith;
  rest = search rules;
}

pub returns-in-Err-clause-cause : goal.returns-in-Err-clause-cause
returns-in-Err-clause-cause g c =
    let means = g.S.Source.means in
    let s = c.args.stream.now in
    let file = file_of means s in
    let part = c.args.what.now.part in
    let window = c.args.what.now.window in
    let list = c.args.what.now.chunks.now in
    let rank = c.loop-rank.rank in
    let i = slice_index list rank in
    let way = c.loop-rank.invariant in
    let rose = Rose (means.faults s.source) (means.faults c.read_deep_chunk-read.new.stream.source) in
    subst (λ (stop : DeepStop). HasDeepCause stop (λ n fault. IsTrue means.tells → IsDeepFault file part window list n fault) (λ n. IsTrue means.tells → IsTooLarge file part window list n) rose)
    (sym c.stop_of.ensures)
    (deep_cause_by c.in-Err.cause _ (λ n fault. IsTrue means.tells → IsDeepFault file part window list n fault) _ rose (λ n. IsTrue means.tells → IsTooLarge file part window list n)
    (λ n fault has told. record {
      rank = rank;
      first = record {
        within = search rules;
        index = sym has.0;
        found = ap (raw_of file part) has.0 ∙ sym (ap (λ (f : Opened). raw_of f part i) (file_same means s c.loop-rank.stream way.same told)) ∙ has.1 told;
        before = (way.read told).content;
      };
      small = (way.read told).small;
    })
    (λ up. let later = way.later in omega (arith, up, later))
    c.in-Err.ensures.cause)

pub returns-then-size-gt-MOST_BYTES-clause-cause : goal.returns-then-size-gt-MOST_BYTES-clause-cause
returns-then-size-gt-MOST_BYTES-clause-cause g c = λ told.
    let means = g.S.Source.means in
    let s = c.args.stream.now in
    let file = file_of means s in
    let part = c.args.what.now.part in
    let window = c.args.what.now.window in
    let list = c.args.what.now.chunks.now in
    let rank = c.loop-rank.rank in
    let i = slice_index list rank in
    let way = c.loop-rank.invariant in
    let is = chunk_before means s c.loop-rank.stream part i c.in-Ok.chunk way.same c.in-Ok.ensures.chunk in
    let within : rank < length list = search rules in
    let more = size_more file part window list rank within in
    let here = size_here file part i c.in-Ok.chunk (is.content told) in
    let so_far = (way.read told).is in
    let count = c.len.ensures in
    let over = c.if-size-gt-MOST_BYTES.true in
    record {
      rank = rank;
      within = within;
      index = refl;
      content = content_more file part list rank (way.read told).content (deep_content (content_of c.in-Ok.chunk.content), is.content told);
      small = (way.read told).small;
      large = omega (arith, more, here, so_far, count, over);
    }

pub loop-rank-preserved : goal.loop-rank-preserved
loop-rank-preserved g c =
    let means = g.S.Source.means in
    let s = c.args.stream.now in
    let file = file_of means s in
    let part = c.args.what.now.part in
    let list = c.args.what.now.chunks.now in
    let rank = c.loop-rank.rank in
    let i = slice_index list rank in
    let way = c.loop-rank.invariant in
    let chunk = c.in-Ok.chunk in
    let is = chunk_before means s c.loop-rank.stream part i chunk way.same c.in-Ok.ensures.chunk in
    let within : rank < length list = search rules in
    let count = c.len.ensures in
    let few = c.if-size-gt-MOST_BYTES.false in
    record {
      many = search rules;
      chunks = subst (AreDeepChunks (IsTrue means.tells) file part list c.args.from) (sym c.in_ok-push-in-Ok.ensures.items)
          (chunks_more (IsTrue means.tells) file part list c.args.from c.loop-rank.row.items chunk way.chunks (subst (λ n. IsDeepChunk (IsTrue means.tells) file part (slice_index list n) chunk) (sym way.many) is));
      read = λ told. read_more file part c.args.what.now.window list rank c.loop-rank.size _ chunk within (way.read told) (is.content told) (omega (arith, count)) (omega (arith, few));
      most = omega (arith, few);
      same = same_still means s c.loop-rank.stream c.read_deep_chunk-read.new.stream way.same c.read_deep_chunk-read.ensures.same;
      later = search rules;
      rest = search rules;
    }
