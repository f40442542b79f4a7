-- A line for each part, and `ok`.
use Rattle.std.proofs.Common.{rules, ◌≡◌, ◌++◌, [], ◌∷◌, length, ap, ◌∙◌}
use Rattle.std.specs.Prelude.{codes, slice_index}
use Rattle.std.specs.List.{flat_map, range_with_len}
use Rattle.exr_tools.specs.Texts.{part_line, line_of_part}
use Rattle.exr_tools.proofs.Lines.{lines_more, reported}
use Rattle.exr_tools.proofs.check.report_of.Goals as goal

pub returns : goal.returns
returns c =
    let way = c.loop-part.invariant in
    let parts = c.args.geometry.now in
    let unread = c.args.unread.now in
    let all : c.loop-part.part-counter ≡ length parts = search rules in
    c.in_ok-extend_from_slice-2.ensures.items ∙ ap (λ l. l ++ (codes "ok" ++ 10 ∷ [])) way.lines
    ∙ ap (λ n. flat_map (line_of_part parts unread) (range_with_len 0 n) ++ (codes "ok" ++ 10 ∷ [])) all ∙ reported parts unread

pub loop-part-preserved : goal.loop-part-preserved
loop-part-preserved c =
    let way = c.loop-part.invariant in
    let part = c.loop-part.part-counter in
    let parts = c.args.geometry.now in
    let unread = c.args.unread.now in
    record {
      lines = c.in_ok-extend_from_slice.ensures.items
          ∙ lines_more (line_of_part parts unread) c.loop-part.report.items c.as_bytes.result.now part way.lines
          (c.as_bytes.ensures.value ∙ c.in_ok-line.ensures.ok ∙ ap (λ n. part_line part n (slice_index unread part)) c.chunk_count-chunks.ensures);
    }
