-- The tables that the geometry counts are those of the head.
use Rattle.std.proofs.Common.{◌≡◌, ◌*◌, length, take, drop, sum_by, sym, ap, ◌∙◌}
use Rattle.exr_chunks.specs.Heads.{chunk_count_of}
use Rattle.exr_chunks.proofs.Listed.{bare_counts}
use Rattle.exr_stream.proofs.front.Front.read.Goals as goal

pub returns-clause-content : goal.returns-clause-content
returns-clause-content g c = λ told.
    let content = g.S.Source.means.content c.args.source.now in
    let opened = c.in_ok-opened.ensures.opened told in
    let same = c.open_head.ensures.same.content told in
    let total : c.total.result ≡ sum_by chunk_count_of c.in_ok-opened.opened.head.parts =
    c.total.ensures.exact ∙ ap (sum_by chunk_count_of) c.in_ok-geometry.ensures.exact ∙ bare_counts c.in_ok-opened.opened.head.parts in
    record {
      head = opened.0;
      length = opened.1;
      tables =
          c.in_ok-tables.ensures.bytes told (opened.1 ∙ ap length (sym same))
          ∙ ap (λ n. take (8 * n) (drop c.in_ok-opened.opened.head_bytes (g.S.Source.means.content c.open_head.new.source))) total
          ∙ ap (λ l. take (8 * sum_by chunk_count_of c.in_ok-opened.opened.head.parts) (drop c.in_ok-opened.opened.head_bytes l)) same;
    }
