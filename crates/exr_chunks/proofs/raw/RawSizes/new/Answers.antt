-- A part that is deep or in tiles has as many bytes for each pixel.
use Rattle.std.proofs.Common.{sym, ap, subst, ◌∙◌}
use Rattle.exr_chunks.specs.Heads.{is_deep}
use Rattle.exr_chunks.specs.RawBytes.{are_whole, IsPixel}
use Rattle.exr_chunks.proofs.Parts.{table_is, pixels_are, not_tiled}
use Rattle.exr_chunks.proofs.raw.RawSizes.new.Goals as goal

pub returns-then-is_deep : goal.returns-then-is_deep
returns-then-is_deep c =
    let deep = ap is_deep (sym c.kind.ensures) ∙ sym c.is_deep.ensures ∙ c.if-is_deep.true in
    record { some = tt; exact = λ i within. table_is c.args.header.now i deep }

pub lines_of-requires : goal.lines_of-requires
lines_of-requires c = record {
  picture = c.requires.picture;
  measured = c.requires.measured;
  in_lines = not_tiled c.args.header.now c.requires.measured.sampled (ap are_whole (sym c.channels.ensures) ∙ c.in-None.ensures);
  flat = ap is_deep (sym c.kind.ensures) ∙ sym c.is_deep.ensures ∙ c.if-is_deep.false;
  rows_are = c.requires.rows;
  count_is = c.requires.count;
}

pub returns-in-Some : goal.returns-in-Some
returns-in-Some c =
    let flat = ap is_deep (sym c.kind.ensures) ∙ sym c.is_deep.ensures ∙ c.if-is_deep.false in
    record { some = tt; exact = λ i within. pixels_are c.args.header.now i c.in-Some.bytes flat (subst (λ cs. IsPixel cs c.in-Some.bytes) c.channels.ensures c.in-Some.ensures) }
