-- Band by band: each row of chunks is cut from the window at a line, and its band follows the lines above.
use Rattle.std.proofs.Common.{rules, ◌≡◌, ◌+◌, ◌-ℤ◌, ◌+ℤ◌, true, pos, nat_abs, IsTrue, length, List, sym, ap, ◌∙◌, subst, arith, to_z, of_z, w32}
use Rattle.std.specs.List.{All}
use Rattle.std.proofs.lemmas.Int.{ints, to_z-of_z}
use mir.Val.{SFits}
use Rattle.exr_base.specs.declared.shape.Box2i.{Box2i}
use Rattle.exr_base.specs.declared.channel.Channel.{Channel}
use Rattle.exr_base.specs.Shape.{IsRegion, height_of}
use Rattle.exr_deep.specs.Body.{content_of}
use Rattle.exr_deep.specs.Deep.{fits}
use Rattle.exr_image.specs.Image.{AreBelow, AreCovering, AreFrom, HasRows}
use Rattle.exr_header.specs.Head.{Head}
use Rattle.exr_chunks.specs.Heads.{Header}
use Rattle.exr_chunks.specs.Region.{header_at}
use Rattle.exr_stream.specs.Chunk.{Opened}
use Rattle.exr_stream.specs.Stream.{file_of}
use Rattle.exr_reader.specs.Deep.{AreSmall, AreRead, AreCutAt, pixels_in}
use Rattle.exr_reader.proofs.Same.{file_same, same_self, same_still}
use Rattle.exr_reader.proofs.Deepening.{region_in, read_none, chunks_before, all_from, all_regions, all_fit}
use Rattle.exr_reader.proofs.Banded.{cut_first, cut_last, next_band, band_covered, band_below, lines_none, lines_more, lines_all}
use Rattle.exr_reader.proofs.bands.read_bands.Goals as goal

pub counts_size-size-requires : goal.counts_size-size-requires
counts_size-size-requires g c =
    region_in (header_at c.args.stream.now.head.parts c.args.what.now.part) c.args.what.now.window c.requires.met.picture c.requires.met.inside

pub rows-init : goal.rows-init
rows-init g c =
    let means = g.S.Source.means in
    let s = c.args.stream.now in
    let part = c.args.what.now.part in
    let w = c.args.what.now.window in
    let chunks = c.args.what.now.chunks.now in
    let file = file_of means s in
    let h = header_at s.head.parts part in
    let image = c.in_ok-image.image in
    let fits_top : SFits w32 w.y0 = search rules in
    let top = to_z-of_z w32 w.y0 fits_top in
    let rows = c.requires.met.inside.rows in
    let channels : c.channels.result.now ≡ h.channels = c.channels.ensures ∙ ap (λ (h : Header). h.channels) c.header.ensures.exact in
    record {
      many = c.in_ok-image.ensures.many ∙ ap length channels;
      image = λ told.
          subst (λ (cs : List Channel). HasRows (pixels_in file part) cs w (nat_abs (to_z w32 (of_z w32 w.y0) -ℤ w.y0)) image) channels
          (subst (λ n. HasRows (pixels_in file part) c.channels.result.now w n image) (sym (ap (λ z. nat_abs (z -ℤ w.y0)) top ∙ lines_none w)) (c.in_ok-image.ensures.none (pixels_in file part)));
      read = λ told. read_none file part w chunks c.counts_size-size.result c.counts_size-size.ensures.exact;
      most = c.counts_size-size.ensures.small;
      cut = subst (AreCutAt h w chunks 0) (sym top) (cut_first h w chunks);
      low = omega (arith, ints, top);
      high = omega (arith, ints, top, rows);
      within = omega arith;
      same = same_self means s;
      later = omega arith;
      rest = c.requires.rest;
    }

pub push_rows-requires-clause-region : goal.push_rows-requires-clause-region
push_rows-requires-clause-region g c =
    let way = c.rows.invariant in
    let next = next_band c.args.stream.now.head c.rows.stream.head c.args.what.now.part c.args.what.now.window c.region.result c.band_of-band.result c.args.what.now.chunks.now c.rows.rank c.row_behind-behind.result (to_z w32 c.rows.top-bits)
    way.same.head c.requires.met way.cut way.low c.region.ensures.exact c.band_of-band.ensures c.row_behind-behind.ensures in
    next.region

pub push_rows-requires-clause-regions : goal.push_rows-requires-clause-regions
push_rows-requires-clause-regions g c =
    let told = IsTrue g.S.Source.means.tells in
    subst (All (λ chunk. IsRegion chunk.region)) (sym c.deref.ensures.value)
    (all_regions told (file_of g.S.Source.means c.rows.stream) c.args.what.now.part c.args.what.now.chunks.now c.rows.rank c.in_ok-row.row.items c.in_ok-row.ensures.chunks)

pub push_rows-requires-clause-fits : goal.push_rows-requires-clause-fits
push_rows-requires-clause-fits g c =
    let told = IsTrue g.S.Source.means.tells in
    let part = c.args.what.now.part in
    let channels : c.channels-in-rows.result.now ≡ (header_at c.rows.stream.head.parts part).channels =
    c.channels-in-rows.ensures ∙ ap (λ (h : Header). h.channels) c.header-in-rows.ensures.exact ∙ ap (λ (head : Head). (header_at head.parts part).channels) c.read_row.ensures.same.head in
    subst (λ (cs : List Channel). All (λ chunk. fits cs chunk.region (content_of chunk.content) ≡ true) c.deref.result.now) (sym channels)
    (subst (All (λ chunk. fits (header_at c.rows.stream.head.parts part).channels chunk.region (content_of chunk.content) ≡ true)) (sym c.deref.ensures.value)
    (all_fit told (file_of g.S.Source.means c.rows.stream) part c.args.what.now.chunks.now c.rows.rank c.in_ok-row.row.items c.in_ok-row.ensures.chunks))

pub push_rows-requires-clause-covered : goal.push_rows-requires-clause-covered
push_rows-requires-clause-covered g c =
    let means = g.S.Source.means in
    let told = IsTrue means.tells in
    let s = c.args.stream.now in
    let part = c.args.what.now.part in
    let w = c.args.what.now.window in
    let chunks = c.args.what.now.chunks.now in
    let way = c.rows.invariant in
    let row = c.in_ok-row.row.items in
    let band = c.band_of-band.result in
    let line = to_z w32 c.rows.top-bits in
    let next = next_band s.head c.rows.stream.head part w c.region.result band chunks c.rows.rank c.row_behind-behind.result line way.same.head c.requires.met way.cut way.low c.region.ensures.exact c.band_of-band.ensures c.row_behind-behind.ensures in
    subst (AreCovering band) (sym c.deref.ensures.value)
    (band_covered told (file_of means s) part w band chunks c.rows.rank c.row_behind-behind.result line row c.requires.met way.cut next.next next.here next.placed way.low
    (chunks_before means s c.rows.stream part c.rows.rank chunks row way.same c.in_ok-row.ensures.chunks) c.in_ok-row.ensures.many)

pub line_below-top-requires : goal.line_below-top-requires
line_below-top-requires g c =
    let way = c.rows.invariant in
    let next = next_band c.args.stream.now.head c.rows.stream.head c.args.what.now.part c.args.what.now.window c.region.result c.band_of-band.result c.args.what.now.chunks.now c.rows.rank c.row_behind-behind.result (to_z w32 c.rows.top-bits)
    way.same.head c.requires.met way.cut way.low c.region.ensures.exact c.band_of-band.ensures c.row_behind-behind.ensures in
    next.region

pub rows-preserved : goal.rows-preserved
rows-preserved g c =
    let means = g.S.Source.means in
    let s = c.args.stream.now in
    let part = c.args.what.now.part in
    let w = c.args.what.now.window in
    let chunks = c.args.what.now.chunks.now in
    let file = file_of means s in
    let h = header_at s.head.parts part in
    let pixels = pixels_in file part in
    let way = c.rows.invariant in
    let row = c.in_ok-row.row.items in
    let band = c.band_of-band.result in
    let behind = c.row_behind-behind.result in
    let line = to_z w32 c.rows.top-bits in
    let old = c.rows.image in
    let new = c.push_rows.new.self in
    let n = nat_abs (line -ℤ w.y0) in
    let next = next_band s.head c.rows.stream.head part w c.region.result band chunks c.rows.rank behind line way.same.head c.requires.met way.cut way.low c.region.ensures.exact c.band_of-band.ensures c.row_behind-behind.ensures in
    let below_it = c.line_below-top.ensures in
    let fits_below : SFits w32 c.line_below-top.result = search rules in
    let top : to_z w32 (of_z w32 c.line_below-top.result) ≡ band.y1 +ℤ pos 1 = to_z-of_z w32 c.line_below-top.result fits_below ∙ below_it in
    let placed = next.placed in
    let placed_top = placed.top in
    let ordered = placed.ordered in
    let bottom = placed.bottom in
    let low = way.low in
    let read_later = c.read_row.ensures.later in
    let later = way.later in
    let channels : c.channels-in-rows.result.now ≡ h.channels =
    c.channels-in-rows.ensures ∙ ap (λ (h : Header). h.channels) c.header-in-rows.ensures.exact ∙ ap (λ (head : Head). (header_at head.parts part).channels) (c.read_row.ensures.same.head ∙ way.same.head) in
    let C = c.channels-in-rows.result.now in
    record {
      many = c.in_ok-push_rows.ensures.many ∙ ap length channels;
      image = λ told.
          let has = way.image told in
          let over = has.over in
          let are = chunks_before means s c.rows.stream part c.rows.rank chunks row way.same c.in_ok-row.ensures.chunks in
          let from = all_from (IsTrue means.tells) file part chunks c.rows.rank behind row told c.requires.met.picture c.requires.chunks c.in_ok-row.ensures.many c.row_behind-behind.ensures.within are in
          let count : n + height_of band ≡ nat_abs (to_z w32 (of_z w32 c.line_below-top.result) -ℤ w.y0) = lines_more w band line low placed ∙ ap (λ z. nat_abs (z -ℤ w.y0)) (sym top) in
          subst (λ m. HasRows pixels h.channels w m new) count
          (subst (λ (cs : List Channel). HasRows pixels cs w (n + height_of band) new) channels
          (subst (λ (v : Box2i). HasRows pixels C v (n + height_of band) new) over
          (c.in_ok-push_rows.ensures.rows pixels n
          (subst (λ (cs : List Channel). All (AreFrom cs pixels) c.deref.result.now) (sym channels) (subst (All (AreFrom h.channels pixels)) (sym c.deref.ensures.value) from))
          (subst (λ (v : Box2i). AreBelow v n band) (sym over) (band_below c.region.result w band line low c.band_of-band.ensures placed))
          (subst (λ (v : Box2i). HasRows pixels C v n old) (sym over) (subst (λ (cs : List Channel). HasRows pixels cs w n old) (sym channels) has)))));
      read = λ told. subst (λ (f : Opened). AreRead f part w chunks behind c.read_row.new.size) (file_same means s c.rows.stream way.same told) (c.in_ok-row.ensures.read told);
      most = c.in_ok-row.ensures.most;
      cut = subst (AreCutAt h w chunks behind) (sym top) next.next;
      low = omega (arith, ints, top, placed_top, ordered, low);
      high = omega (arith, ints, top, bottom);
      within = c.row_behind-behind.ensures.within;
      same = same_still means s c.rows.stream c.read_row.new.stream way.same c.read_row.ensures.same;
      later = omega (arith, read_later, later);
      rest = c.read_row.ensures.done;
    }

pub returns-clause-image : goal.returns-clause-image
returns-clause-image g c = λ told.
    let s = c.args.stream.now in
    let file = file_of g.S.Source.means s in
    let part = c.args.what.now.part in
    let w = c.args.what.now.window in
    let h = header_at s.head.parts part in
    let way = c.rows.invariant in
    let line = to_z w32 c.rows.top-bits in
    let last = cut_last h w c.args.what.now.chunks.now c.rows.rank line c.requires.met way.cut c.rows-test.false way.low way.high in
    subst (λ n. HasRows (pixels_in file part) h.channels w n c.rows.image) (lines_all w line last) (way.image told)

pub returns-clause-small : goal.returns-clause-small
returns-clause-small g c = λ told.
    let chunks = c.args.what.now.chunks.now in
    let way = c.rows.invariant in
    let all : c.rows.rank ≡ length chunks = (let a = way.within in let b = c.rows-test.false in omega (arith, a, b)) in
    subst (AreSmall (file_of g.S.Source.means c.args.stream.now) c.args.what.now.part c.args.what.now.window chunks) all (way.read told).small
