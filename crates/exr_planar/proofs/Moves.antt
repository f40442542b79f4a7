-- Rows that are written one after the other, each at its place.
use Rattle.std.proofs.Common.{◌≡◌, ◌≢◌, ◌+◌, ◌%◌, ◌<◌, ◌≤◌, ℕ, suc, ℤ, pos, ◌+ℤ◌, List, ◌++◌, length, take, drop, get_or, refl, sym, ap, ap₂, ◌∙◌, subst, inl, inr, ◌⊎◌, arith}
use Rattle.std.specs.List.{sum_by}
use Rattle.std.proofs.lemmas.List.{length-append, length-take, length-drop, length-take-le, drop-take, take_all, get_or_default}
use Rattle.std.proofs.lemmas.List.Sums.{sum_by_more, sum_by_more_le}
use Rattle.std.proofs.lemmas.Slice.{take-put_mid_below, drop-put_mid}
use Rattle.std.proofs.lemmas.Bool.{cases_eq}
use borrow.Rule.Slice.PartMut.{put_mid, post_of}
use Rattle.exr_base.specs.declared.shape.Box2i.{Box2i}
use Rattle.exr_base.specs.declared.channel.Channel.{Channel}
use Rattle.exr_base.specs.Channel.{no_channel, channel_at}
use Rattle.exr_base.proofs.RawSize.{by_channels}
use Rattle.exr_base.specs.Shape.{height_of, row_bytes_of, lines_bytes_of, raw_size_of, channel_bytes_of}
use Rattle.exr_planar.specs.declared.rows.Rows.{Rows}
use Rattle.exr_planar.specs.Planar.{joined, row_of, plane_of, planar_of, above_bytes_of, plane_place_of, planar_row_of, line_from_planar, raw_from_planar}
use Rattle.exr_planar.specs.Moving.{AreMoved, AreLinesMoved, rows_at}
use Rattle.exr_planar.proofs.Even.{row_even, place_even}
use Rattle.exr_planar.proofs.Joined.{joined_same, middle}
use Rattle.exr_planar.proofs.Grid.{AreSized, cut, swapped, cuts_sized, list_within, list_apart, columns_restore, columns_are, row_again, row_length, rows_length}
use Rattle.exr_planar.proofs.Orders.{row_size, raw_place, plane_place, raw_grid, planar_grid, raw_whole, planar_whole, lines_suc, above_none, row_is, planar_row_is}

-- ---- one write

written_here : (into piece : List ℕ) (at k size : ℕ) → at + k ≤ length into → length piece ≡ size → take size (drop at (put_mid at k into piece)) ≡ piece
written_here into piece at k size room long = middle (take at into) piece (post_of at k into) at size (length-take-le at into (omega arith)) long

written_elsewhere : (into piece : List ℕ) (at k place size : ℕ) → at + k ≤ length into → length piece ≡ k → (place + size ≤ at) ⊎ (at + k ≤ place)
    → take size (drop place (put_mid at k into piece)) ≡ take size (drop place into)
written_elsewhere into piece at k place size room long (inl before) =
    sym (drop-take place size (put_mid at k into piece))
    ∙ ap (drop place) (take-put_mid_below at k into piece (place + size) before (omega arith))
    ∙ drop-take place size into
written_elsewhere into piece at k place size room long (inr after) =
    ap (take size) (drop-put_mid at k into piece place after (omega arith) long)

written_long : (into piece : List ℕ) (at k : ℕ) → at + k ≤ length into → length piece ≡ k → length (put_mid at k into piece) ≡ length into
written_long into piece at k room long =
    let a = length-append (take at into) (piece ++ post_of at k into) in
    let b = length-append piece (post_of at k into) in
    let c = length-take-le at into (omega arith) in
    let d = length-drop k (drop at into) in
    let e = length-drop at into in
    omega arith

-- ---- rows of one line

-- the rows of channels that a function cuts from a list, at their places; no two overlap
pub record AreRows (to : List ℕ → ℕ → ℤ → List ℕ) (channels : List Channel) (region : Box2i) (size place : ℕ → ℕ → ℕ) (whole : ℕ) : Type 0 where
  pub cut : (l : List ℕ) (c n : ℕ) → to l c (region.y0 +ℤ pos n) ≡ take (size c n) (drop (place c n) l)
  pub within : (c n : ℕ) → c < length channels → n < height_of region → place c n + size c n ≤ whole
  pub apart : (c n d k : ℕ) → c < length channels → n < height_of region → d < length channels → k < height_of region → (d ≢ c) ⊎ (k ≢ n)
      → (place d k + size d k ≤ place c n) ⊎ (place c n + size c n ≤ place d k)

pub planar_rows : (channels : List Channel) (region : Box2i) → AreRows (planar_row_of channels region) channels region (swapped (row_size channels region)) (plane_place channels region) (raw_size_of channels region)
planar_rows channels region =
    let grid = planar_grid channels region in
    let size = swapped (row_size channels region) in
    let place = plane_place channels region in
    record {
      cut = λ l c n. planar_row_is channels region l c n;
      within = λ c n lt lt₂. let w = list_within (length channels) (height_of region) size place c n grid lt lt₂ in let e = planar_whole channels region in omega arith;
      apart = λ c n d k lt lt₂ lt₃ lt₄ ne. list_apart (length channels) (height_of region) size place d k c n grid lt₃ lt lt₄ lt₂ ne;
    }

pub raw_rows : (channels : List Channel) (region : Box2i) → AreRows (row_of channels region) channels region (swapped (row_size channels region)) (swapped (raw_place channels region)) (raw_size_of channels region)
raw_rows channels region =
    let grid = raw_grid channels region in
    let size = row_size channels region in
    let place = raw_place channels region in
    record {
      cut = λ l c n. row_is channels region l c n;
      within = λ c n lt lt₂. let w = list_within (height_of region) (length channels) size place n c grid lt₂ lt in let e = raw_whole channels region in omega arith;
      apart = λ c n d k lt lt₂ lt₃ lt₄ ne. list_apart (height_of region) (length channels) size place k d n c grid lt₄ lt₂ lt₃ lt (other ne);
    }
  where
    other : {A B : Type 0} → A ⊎ B → B ⊎ A
    other (inl a) = inr a
    other (inr b) = inl b

pub moved_begun : (from to : List ℕ → ℕ → ℤ → List ℕ) (channels : List Channel) (region : Box2i) (n : ℕ) (source old : List ℕ) → AreMoved from to channels region n 0 source old old
moved_begun from to channels region n source old = record {
  size = refl;
  moved = λ c lt. absurd (omega arith);
  others = λ c k lt lt₂ ne. refl;
}

-- one row more
pub moved_more : (from to : List ℕ → ℕ → ℤ → List ℕ) (channels : List Channel) (region : Box2i) (size place : ℕ → ℕ → ℕ) (whole n c at k : ℕ) (source old mid piece : List ℕ)
    → AreRows to channels region size place whole → c < length channels → n < height_of region → length mid ≡ whole → at ≡ place c n → k ≡ size c n → length piece ≡ k
    → piece ≡ from source c (region.y0 +ℤ pos n)
    → AreMoved from to channels region n c source old mid → AreMoved from to channels region n (c + 1) source old (put_mid at k mid piece)
moved_more from to channels region size place whole n c at k source old mid piece rows lt lt₂ all at_place of_size long is far =
    let within = rows.within c n lt lt₂ in
    let room : at + k ≤ length mid = omega arith in
    let kept : (d i : ℕ) → d < length channels → i < height_of region → (d ≢ c) ⊎ (i ≢ n) → to (put_mid at k mid piece) d (region.y0 +ℤ pos i) ≡ to mid d (region.y0 +ℤ pos i) =
    λ d i lt₃ lt₄ ne.
    let apart = rows.apart c n d i lt lt₂ lt₃ lt₄ ne in
    let beside : (place d i + size d i ≤ at) ⊎ (at + k ≤ place d i) = elim apart [ inl h ↦ inl (omega arith) | inr h ↦ inr (omega arith) ] in
    rows.cut (put_mid at k mid piece) d i ∙ written_elsewhere mid piece at k (place d i) (size d i) room long beside ∙ sym (rows.cut mid d i) in
    record {
      size = written_long mid piece at k room long ∙ far.size;
      moved = λ d lt₃. elim (cases_eq d c) [
        | inl e ↦
            let here : to (put_mid at k mid piece) c (region.y0 +ℤ pos n) ≡ piece =
            rows.cut (put_mid at k mid piece) c n
            ∙ ap₂ (λ (s p : ℕ). take s (drop p (put_mid at k mid piece))) (sym of_size) (sym at_place)
            ∙ written_here mid piece at k k room long in
            subst (λ (d : ℕ). to (put_mid at k mid piece) d (region.y0 +ℤ pos n) ≡ from source d (region.y0 +ℤ pos n)) (sym e) (here ∙ is)
        | inr ne ↦ kept d n (omega arith) lt₂ (inl ne) ∙ far.moved d (omega arith)
      ];
      others = λ d i lt₃ lt₄ ne. kept d i lt₃ lt₄ (inr ne) ∙ far.others d i lt₃ lt₄ ne;
    }

-- what the loop over a line's channels knows at channel number c: where its row stands, and where the next one's does
pub record IsAt (channels : List Channel) (region : Box2i) (n c at plane : ℕ) (rows : Rows) : Type 0 where
  pub begins : at ≡ raw_place channels region n c
  pub to : plane + rows.above ≡ plane_place channels region c n
  pub here : rows.here ≡ row_size channels region n c
  pub raw_room : at + rows.here ≤ raw_size_of channels region
  pub planar_room : plane + rows.above + rows.here ≤ raw_size_of channels region
  pub next : at + rows.here ≡ raw_place channels region n (c + 1)
  pub next_plane : plane + rows.all ≡ plane_place_of channels region (c + 1)
  pub plane_room : plane + rows.all ≤ raw_size_of channels region
  pub even_place : (plane + rows.above) % 2 ≡ 0
  pub even_size : rows.here % 2 ≡ 0

pub is_at : (channels : List Channel) (region : Box2i) (n c at plane : ℕ) (ch : Channel) (rows : Rows) → c < length channels → n < height_of region → ch ≡ get_or channels c ch → rows ≡ rows_at region n ch
    → at ≡ raw_place channels region n c → plane ≡ plane_place_of channels region c → IsAt channels region n c at plane rows
is_at channels region n c at plane ch rows lt lt₂ is sizes at_is plane_is =
    let same : ch ≡ channel_at channels c = is ∙ get_or_default channels c ch no_channel lt in
    let here : rows.here ≡ row_size channels region n c = ap (λ (r : Rows). r.here) sizes ∙ ap (λ (ch : Channel). row_bytes_of region (region.y0 +ℤ pos n) ch) same in
    let above : rows.above ≡ above_bytes_of region (region.y0 +ℤ pos n) (channel_at channels c) = ap (λ (r : Rows). r.above) sizes ∙ ap (λ (ch : Channel). above_bytes_of region (region.y0 +ℤ pos n) ch) same in
    let all : rows.all ≡ channel_bytes_of region (channel_at channels c) = ap (λ (r : Rows). r.all) sizes ∙ ap (λ (ch : Channel). channel_bytes_of region ch) same in
    let raw = (raw_rows channels region).within c n lt lt₂ in
    let planar = (planar_rows channels region).within c n lt lt₂ in
    let sums = sum_by_more (row_bytes_of region (region.y0 +ℤ pos n)) channels c no_channel lt in
    let planes = sum_by_more (channel_bytes_of region) channels c no_channel lt in
    let fits = sum_by_more_le (channel_bytes_of region) channels c no_channel lt in
    let whole = by_channels region channels in
    let to : plane + rows.above ≡ plane_place channels region c n = omega arith in
    record {
      begins = at_is;
      to = to;
      here = here;
      raw_room = omega arith;
      planar_room = omega arith;
      next = omega arith;
      next_plane = omega arith;
      plane_room = omega arith;
      even_place = ap (λ (p : ℕ). p % 2) to ∙ place_even channels region c (region.y0 +ℤ pos n);
      even_size = ap (λ (s : ℕ). s % 2) here ∙ row_even region (region.y0 +ℤ pos n) (channel_at channels c);
    }

-- after the last channel the next line begins
pub line_ends : (channels : List Channel) (region : Box2i) (n c at : ℕ) → length channels ≤ c → at ≡ raw_place channels region n c → at ≡ lines_bytes_of channels region (n + 1)
line_ends channels region n c at all at_is =
    let e = ap (sum_by (row_bytes_of region (region.y0 +ℤ pos n))) (take_all c channels all) in
    let f : n + 1 ≡ suc n = omega arith in
    let g = lines_suc channels region n in
    let h = ap (lines_bytes_of channels region) f in
    omega arith

-- a line begins where its first channel's row does
pub line_starts : (channels : List Channel) (region : Box2i) (n start : ℕ) → start ≡ lines_bytes_of channels region n → start ≡ raw_place channels region n 0
line_starts channels region n start e = omega arith

piece_long : (bytes : List ℕ) (from count : ℕ) → from + count ≤ length bytes → length (take count (drop from bytes)) ≡ count
piece_long bytes from count room =
    let a = length-take count (drop from bytes) in
    let b = length-drop from bytes in
    omega arith

-- a row more, to its plane
pub row_in_plane : (channels : List Channel) (region : Box2i) (n c at plane : ℕ) (rows : Rows) (raw old mid new : List ℕ) → IsAt channels region n c at plane rows → c < length channels → n < height_of region
    → length raw ≡ raw_size_of channels region → length old ≡ raw_size_of channels region
    → new ≡ take (plane + rows.above) mid ++ (take rows.here (drop at raw) ++ drop rows.here (drop (plane + rows.above) mid))
    → AreMoved (row_of channels region) (planar_row_of channels region) channels region n c raw old mid → AreMoved (row_of channels region) (planar_row_of channels region) channels region n (c + 1) raw old new
row_in_plane channels region n c at plane rows raw old mid new here lt lt₂ raw_long old_long is far =
    let room = here.raw_room in
    let mid_long = far.size in
    subst (AreMoved (row_of channels region) (planar_row_of channels region) channels region n (c + 1) raw old) (sym is)
    (moved_more (row_of channels region) (planar_row_of channels region) channels region (swapped (row_size channels region)) (plane_place channels region) (raw_size_of channels region) n c (plane + rows.above) rows.here raw old mid (take rows.here (drop at raw))
    (planar_rows channels region) lt lt₂ (omega arith) here.to here.here (piece_long raw at rows.here (omega arith))
    (ap₂ (λ (s p : ℕ). take s (drop p raw)) here.here here.begins ∙ sym (row_is channels region raw c n)) far)

-- and back
pub row_in_raw : (channels : List Channel) (region : Box2i) (n c at plane : ℕ) (rows : Rows) (planar old mid new : List ℕ) → IsAt channels region n c at plane rows → c < length channels → n < height_of region
    → length planar ≡ raw_size_of channels region → length old ≡ raw_size_of channels region
    → new ≡ take at mid ++ (take rows.here (drop (plane + rows.above) planar) ++ drop rows.here (drop at mid))
    → AreMoved (planar_row_of channels region) (row_of channels region) channels region n c planar old mid → AreMoved (planar_row_of channels region) (row_of channels region) channels region n (c + 1) planar old new
row_in_raw channels region n c at plane rows planar old mid new here lt lt₂ planar_long old_long is far =
    let room = here.planar_room in
    let mid_long = far.size in
    subst (AreMoved (planar_row_of channels region) (row_of channels region) channels region n (c + 1) planar old) (sym is)
    (moved_more (planar_row_of channels region) (row_of channels region) channels region (swapped (row_size channels region)) (swapped (raw_place channels region)) (raw_size_of channels region) n c at rows.here planar old mid (take rows.here (drop (plane + rows.above) planar))
    (raw_rows channels region) lt lt₂ (omega arith) here.begins here.here (piece_long planar (plane + rows.above) rows.here (omega arith))
    (ap₂ (λ (s p : ℕ). take s (drop p planar)) here.here here.to ∙ sym (planar_row_is channels region planar c n)) far)

-- ---- lines

pub lines_begun : (from to : List ℕ → ℕ → ℤ → List ℕ) (channels : List Channel) (region : Box2i) (source old : List ℕ) → AreLinesMoved from to channels region 0 source old old
lines_begun from to channels region source old = record { size = refl; moved = λ c k lt lt₂. absurd (omega arith) }

pub lines_more : (from to : List ℕ → ℕ → ℤ → List ℕ) (channels : List Channel) (region : Box2i) (n : ℕ) (source old mid new : List ℕ) → n < height_of region
    → AreLinesMoved from to channels region n source old mid → AreMoved from to channels region n (length channels) source mid new → AreLinesMoved from to channels region (n + 1) source old new
lines_more from to channels region n source old mid new lt far line = record {
  size = line.size ∙ far.size;
  moved = λ c k lt₂ lt₃. elim (cases_eq k n) [
    | inl e ↦ subst (λ (k : ℕ). to new c (region.y0 +ℤ pos k) ≡ from source c (region.y0 +ℤ pos k)) (sym e) (line.moved c lt₂)
    | inr ne ↦ line.others c k lt₂ (omega arith) ne ∙ far.moved c k lt₂ (omega arith)
  ];
}

-- ---- all lines

planar_joined : (channels : List Channel) (region : Box2i) (raw : List ℕ)
    → planar_of channels region raw ≡ joined (length channels) (λ c. joined (height_of region) (λ n. cut (row_size channels region) (raw_place channels region) raw n c))
unfolding planar_of plane_of
planar_joined channels region raw = joined_same (length channels) _ _ (λ c lt. joined_same (height_of region) _ _ (λ n lt₂. row_is channels region raw c n))

raw_joined : (channels : List Channel) (region : Box2i) (planar : List ℕ)
    → raw_from_planar channels region planar ≡ joined (height_of region) (λ n. joined (length channels) (λ c. cut (swapped (row_size channels region)) (plane_place channels region) planar c n))
unfolding raw_from_planar line_from_planar
raw_joined channels region planar = joined_same (height_of region) _ _ (λ n lt. joined_same (length channels) _ _ (λ c lt₂. planar_row_is channels region planar c n))

pub planar_whole_moved : (channels : List Channel) (region : Box2i) (raw old new : List ℕ) → length old ≡ raw_size_of channels region
    → AreLinesMoved (row_of channels region) (planar_row_of channels region) channels region (height_of region) raw old new → new ≡ planar_of channels region raw
planar_whole_moved channels region raw old new long moved =
    let size = moved.size in
    let e = planar_whole channels region in
    columns_are (height_of region) (length channels) (row_size channels region) (raw_place channels region) (plane_place channels region) raw new (raw_grid channels region) (planar_grid channels region) (omega arith)
    (λ n c lt lt₂. sym (planar_row_is channels region new c n) ∙ moved.moved c n lt₂ lt ∙ row_is channels region raw c n)
    ∙ sym (planar_joined channels region raw)

pub raw_whole_moved : (channels : List Channel) (region : Box2i) (planar old new : List ℕ) → length old ≡ raw_size_of channels region
    → AreLinesMoved (planar_row_of channels region) (row_of channels region) channels region (height_of region) planar old new → new ≡ raw_from_planar channels region planar
raw_whole_moved channels region planar old new long moved =
    let size = moved.size in
    let e = raw_whole channels region in
    columns_are (length channels) (height_of region) (swapped (row_size channels region)) (plane_place channels region) (raw_place channels region) planar new (planar_grid channels region) (raw_grid channels region) (omega arith)
    (λ c n lt lt₂. sym (row_is channels region new c n) ∙ moved.moved c n lt lt₂ ∙ planar_row_is channels region planar c n)
    ∙ sym (raw_joined channels region planar)

-- ---- each undoes the other

pub raw_again : (channels : List Channel) (region : Box2i) (raw : List ℕ) → length raw ≡ raw_size_of channels region → raw_from_planar channels region (planar_of channels region raw) ≡ raw
raw_again channels region raw long =
    let e = raw_whole channels region in
    ap (raw_from_planar channels region) (planar_joined channels region raw)
    ∙ raw_joined channels region (joined (length channels) (λ c. joined (height_of region) (λ n. cut (row_size channels region) (raw_place channels region) raw n c)))
    ∙ columns_restore (height_of region) (length channels) (row_size channels region) (raw_place channels region) (plane_place channels region) raw (raw_grid channels region) (planar_grid channels region) (omega arith)

pub planar_again : (channels : List Channel) (region : Box2i) (planar : List ℕ) → length planar ≡ raw_size_of channels region → planar_of channels region (raw_from_planar channels region planar) ≡ planar
planar_again channels region planar long =
    let e = planar_whole channels region in
    ap (planar_of channels region) (raw_joined channels region planar)
    ∙ planar_joined channels region (joined (height_of region) (λ n. joined (length channels) (λ c. cut (swapped (row_size channels region)) (plane_place channels region) planar c n)))
    ∙ columns_restore (length channels) (height_of region) (swapped (row_size channels region)) (plane_place channels region) (raw_place channels region) planar (planar_grid channels region) (raw_grid channels region) (omega arith)

-- ---- the planes of planar data

rows_sized : (channels : List Channel) (region : Box2i) (raw : List ℕ) → length raw ≡ raw_size_of channels region
    → AreSized (length channels) (height_of region) (swapped (row_size channels region)) (λ c n. cut (row_size channels region) (raw_place channels region) raw n c)
rows_sized channels region raw long =
    let e = raw_whole channels region in
    let sized = cuts_sized (height_of region) (length channels) (row_size channels region) (raw_place channels region) raw (raw_grid channels region) (omega arith) in
    record { each = λ c n lt lt₂. sized.each n c lt₂ lt }

pub planar_long : (channels : List Channel) (region : Box2i) (raw : List ℕ) → length raw ≡ raw_size_of channels region → length (planar_of channels region raw) ≡ raw_size_of channels region
planar_long channels region raw long =
    let e = planar_whole channels region in
    ap length (planar_joined channels region raw)
    ∙ rows_length (length channels) (height_of region) (swapped (row_size channels region)) (plane_place channels region) (λ c n. cut (row_size channels region) (raw_place channels region) raw n c) (length channels) (planar_grid channels region) (rows_sized channels region raw long) (omega arith)
    ∙ e

pub raw_long : (channels : List Channel) (region : Box2i) (planar : List ℕ) → length planar ≡ raw_size_of channels region → length (raw_from_planar channels region planar) ≡ raw_size_of channels region
raw_long channels region planar long =
    let e = raw_whole channels region in
    let f = planar_whole channels region in
    let sized = cuts_sized (length channels) (height_of region) (swapped (row_size channels region)) (plane_place channels region) planar (planar_grid channels region) (omega arith) in
    ap length (raw_joined channels region planar)
    ∙ rows_length (height_of region) (length channels) (row_size channels region) (raw_place channels region) (λ n c. cut (swapped (row_size channels region)) (plane_place channels region) planar c n) (height_of region) (raw_grid channels region)
    (record { each = λ n c lt lt₂. sized.each c n lt₂ lt }) (omega arith)
    ∙ e

plane_joined : (channels : List Channel) (region : Box2i) (raw : List ℕ) (c : ℕ) → plane_of channels region raw c ≡ joined (height_of region) (λ n. cut (row_size channels region) (raw_place channels region) raw n c)
unfolding plane_of
plane_joined channels region raw c = joined_same (height_of region) _ _ (λ n lt. row_is channels region raw c n)

plane_begins : (channels : List Channel) (region : Box2i) (c : ℕ) → plane_place channels region c 0 ≡ plane_place_of channels region c
plane_begins channels region c = let e = above_none region (channel_at channels c) in omega arith

plane_turns : (channels : List Channel) (region : Box2i) (c : ℕ) → c < length channels → plane_place channels region c 0 + channel_bytes_of region (channel_at channels c) ≡ plane_place channels region (suc c) 0
plane_turns channels region c lt =
    let a = plane_begins channels region c in
    let b = plane_begins channels region (suc c) in
    let s = sum_by_more (channel_bytes_of region) channels c no_channel lt in
    let e : c + 1 ≡ suc c = omega arith in
    let f = ap (plane_place_of channels region) e in
    omega arith

pub plane_in_planar : (channels : List Channel) (region : Box2i) (raw : List ℕ) (c : ℕ) → length raw ≡ raw_size_of channels region → c < length channels
    → take (channel_bytes_of region (channel_at channels c)) (drop (plane_place_of channels region c) (planar_of channels region raw)) ≡ plane_of channels region raw c
plane_in_planar channels region raw c long lt =
    ap₂ (λ (p : ℕ) (l : List ℕ). take (channel_bytes_of region (channel_at channels c)) (drop p l)) (sym (plane_begins channels region c)) (planar_joined channels region raw)
    ∙ row_again (length channels) (height_of region) (swapped (row_size channels region)) (plane_place channels region) (λ c n. cut (row_size channels region) (raw_place channels region) raw n c) c (channel_bytes_of region (channel_at channels c)) (planar_grid channels region) (rows_sized channels region raw long) lt (plane_turns channels region c lt)
    ∙ sym (plane_joined channels region raw c)

pub plane_long : (channels : List Channel) (region : Box2i) (raw : List ℕ) (c : ℕ) → length raw ≡ raw_size_of channels region → c < length channels → length (plane_of channels region raw c) ≡ channel_bytes_of region (channel_at channels c)
plane_long channels region raw c long lt =
    let grid = planar_grid channels region in
    let e = row_length (length channels) (height_of region) (swapped (row_size channels region)) (plane_place channels region) (λ c n. cut (row_size channels region) (raw_place channels region) raw n c) c (height_of region) grid (rows_sized channels region raw long) lt (omega arith) in
    let f = grid.turns c lt in
    let g = plane_turns channels region c lt in
    let h = ap length (plane_joined channels region raw c) in
    omega arith
