-- The chunks of a window in rows, and the window cut into the bands that these rows have.
use Rattle.std.proofs.Common.{◌≡◌, ◌≢◌, ℕ, zero, suc, ◌+◌, ◌-◌, ◌*◌, ◌/◌, ◌<◌, ◌≤◌, Bool, true, false, List, [], ◌∷◌, ◌++◌, length, slice_index, inl, inr, refl, sym, ap, subst, ◌∙◌, arith, ℤ, pos, ◌+ℤ◌, ◌-ℤ◌, ◌≤ℤ◌, ◌<ℤ◌, nat_abs}
use Rattle.std.specs.Int.{int_min, int_max}
use Rattle.std.proofs.lemmas.Bool.{and_parts, cases_lt}
use Rattle.std.proofs.lemmas.Int.{ints, clamps, by_lt_z}
use Rattle.std.proofs.lemmas.Nat.{le-div, mul-le}
use Rattle.std.proofs.Math.Nat.{div-mul-le_self}
use Rattle.std.proofs.lemmas.List.{get_or_append_left, get_or_push, length_push}
use Rattle.exr_base.specs.declared.shape.Box2i.{Box2i}
use Rattle.exr_base.specs.Boxes.{IsWithin}
use Rattle.exr_base.specs.Shape.{IsRegion, height_of}
use Rattle.exr_base.proofs.Logic.{le_true}
use Rattle.exr_base.proofs.Sides.{abs_pos, span_is}
use Rattle.exr_image.specs.declared.chunk.DeepChunk.{DeepChunk}
use Rattle.exr_image.specs.Image.{AreBelow, AreCovering}
use Rattle.exr_chunks.specs.Heads.{Header, IsPicture, chunk_width, chunk_height, chunk_count_of}
use Rattle.exr_chunks.specs.Pixels.{chunk_with}
use Rattle.exr_header.specs.Head.{Head}
use Rattle.exr_chunks.specs.Region.{header_at, across_of, row_of, start_of, region_of}
use Rattle.exr_chunks.specs.Window.{sides_meet, boxes_meet, meeting_among}
use Rattle.exr_chunks.proofs.Parts.{side_some, width_size, height_size}
use Rattle.exr_chunks.proofs.Pixels.{one_chunk, its_piece_within}
use Rattle.exr_stream.specs.Chunk.{Opened, header_in}
use Rattle.exr_reader.specs.Deep.{AreDeepChunks, IsMet, AreCutAt, AreRow, IsBand}
use Rattle.exr_reader.proofs.Deepening.{within_inside, side_in, region_in}
use Rattle.exr_reader.proofs.Meeting.{IsListed, list_more, list_kept, chunk_listed}

-- ---- the list of the chunks that a window meets

-- the indexes of a list rise, are below a number, and their chunks meet the window
pub record AreMeeting (h : Header) (w : Box2i) (n : ℕ) (list : List ℕ) : Type 0 where
  pub below : (r : ℕ) → r < length list → slice_index list r < n
  pub rise : (r s : ℕ) → r < s → s < length list → slice_index list r < slice_index list s
  pub meet : (r : ℕ) → r < length list → boxes_meet (region_of h (slice_index list r)) w ≡ true

one_more : (h : Header) (w : Box2i) (n : ℕ) (list : List ℕ) → boxes_meet (region_of h n) w ≡ true → AreMeeting h w n list → AreMeeting h w (suc n) (list ++ n ∷ [])
one_more h w n list meets are =
    let size = length_push list n in
    let before : (r : ℕ) → r < length list → slice_index (list ++ n ∷ []) r ≡ slice_index list r = λ r lt. get_or_append_left list (n ∷ []) 0 r lt in
    let last : (r : ℕ) → r ≡ length list → slice_index (list ++ n ∷ []) r ≡ n = λ r e. get_or_push list n 0 r (sym e) in
    record {
      below = λ r lt. elim (cases_lt r (length list)) [
        | inl low ↦ (let e = before r low in let b = are.below r low in omega (arith, e, b))
        | inr le ↦ (let e = last r (omega (arith, size, lt, le)) in omega (arith, e))
      ];
      rise = λ r s rs lt. elim (cases_lt s (length list)) [
        | inl low ↦
            let e = before r (omega (arith, rs, low)) in
            let f = before s low in
            let b = are.rise r s rs low in
            omega (arith, e, f, b)
        | inr le ↦
            let low : r < length list = omega (arith, size, rs, lt, le) in
            let e = before r low in
            let f = last s (omega (arith, size, lt, le)) in
            let b = are.below r low in
            omega (arith, e, f, b)
      ];
      meet = λ r lt. elim (cases_lt r (length list)) [
        | inl low ↦ ap (λ i. boxes_meet (region_of h i) w) (before r low) ∙ are.meet r low
        | inr le ↦ ap (λ i. boxes_meet (region_of h i) w) (last r (omega (arith, size, lt, le))) ∙ meets
      ];
    }

one_looked_at : (h : Header) (w : Box2i) (n : ℕ) (list : List ℕ) → AreMeeting h w n list → AreMeeting h w (suc n) list
one_looked_at h w n list are = record {
  below = λ r lt. (let b = are.below r lt in omega (arith, b));
  rise = are.rise;
  meet = are.meet;
}

meeting : (h : Header) (w : Box2i) (n : ℕ) → AreMeeting h w n (meeting_among h w n)
unfolding meeting_among
meeting h w zero = record { below = λ r lt. absurd (omega (arith, lt)); rise = λ r s rs lt. absurd (omega (arith, lt)); meet = λ r lt. absurd (omega (arith, lt)) }
meeting h w (suc n) =
    let so_far = meeting h w n in
    let l = meeting_among h w n in
    let P : Bool → Type 0 = λ b. boxes_meet (region_of h n) w ≡ b → AreMeeting h w (suc n) (meeting_among h w (suc n)) in
    (elim (boxes_meet (region_of h n) w) as P [
      | true ↦ λ is. subst (AreMeeting h w (suc n)) (sym (list_more h w n true is)) (one_more h w n l is so_far)
      | false ↦ λ is. subst (AreMeeting h w (suc n)) (sym (list_kept h w n is)) (one_looked_at h w n l so_far)
    ]) refl

pub met : (h : Header) (w : Box2i) (chunks : List ℕ) → IsMet h w chunks → AreMeeting h w (chunk_count_of h) chunks
met h w chunks is = subst (AreMeeting h w (chunk_count_of h)) (sym is.are) (meeting h w (chunk_count_of h))

-- a chunk has a line in the window
meeting_rows : (a b : Box2i) → boxes_meet a b ≡ true → int_max a.y0 b.y0 ≤ℤ int_min a.y1 b.y1
meeting_rows a b meets = le_true (int_max a.y0 b.y0) (int_min a.y1 b.y1) (and_parts (sides_meet a.x0 a.x1 b.x0 b.x1) (sides_meet a.y0 a.y1 b.y0 b.y1) meets).1

-- ---- rows of chunks

some_across : (h : Header) → IsPicture h → 0 < across_of h
some_across h picture =
    let w = h.window in
    omega (arith, its_piece_within w.x0 w.x1 w.x0 (chunk_width h) 0 (width_size h picture).some (side_some w.x0 w.x1 picture.columns picture.shape.within.columns))

row_rises : (h : Header) (i j : ℕ) → IsPicture h → i ≤ j → row_of h i ≤ row_of h j
row_rises h i j picture le =
    let across = across_of h in
    le-div (i / across) j across (some_across h picture) (let a = div-mul-le_self i across in omega (arith, a, le))

rows_rise : (h : Header) (i j : ℕ) → IsPicture h → i ≤ j → (region_of h i).y0 ≤ℤ (region_of h j).y0
unfolding region_of
rows_rise h i j picture le =
    let high = chunk_height h in
    let a = mul-le (row_of h i) high (row_of h j) high (row_rises h i j picture le) (omega arith) in
    omega (arith, ints, a)

-- chunks that begin at the same line end at the same
rows_same : (h : Header) (i j : ℕ) → (region_of h i).y0 ≡ (region_of h j).y0 → (region_of h i).y1 ≡ (region_of h j).y1
unfolding region_of
rows_same h i j same =
    let high = chunk_height h in
    let a : row_of h i * high ≡ row_of h j * high = omega (arith, ints, same) in
    ap (λ n. int_min (h.window.y0 +ℤ pos (n + high - 1)) h.window.y1) a

-- a chunk that begins at another line than one before it begins below that one's end
rows_apart : (h : Header) (i j : ℕ) → IsPicture h → i ≤ j → (region_of h j).y0 ≢ (region_of h i).y0 → (region_of h i).y1 <ℤ (region_of h j).y0
unfolding region_of
rows_apart h i j picture le other =
    let high = chunk_height h in
    let some = (height_size h picture).some in
    let rise = row_rises h i j picture le in
    elim (cases_lt (row_of h i) (row_of h j)) [
      | inl lt ↦
          let a = mul-le (row_of h i + 1) high (row_of h j) high (omega (arith, lt)) (omega arith) in
          let b : (row_of h i + 1) * high ≡ row_of h i * high + high = omega arith in
          omega (arith, ints, clamps, a, b, some)
      | inr ge ↦ absurd (other (ap (λ n. start_of h.window.y0 high n) (let e : row_of h j ≡ row_of h i = omega (arith, rise, ge) in e)))
    ]

-- ---- lines of a window

-- a line is one of a chunk of the list
record IsUnder (h : Header) (chunks : List ℕ) (y : ℤ) : Type 0 where
  rank : ℕ
  within : rank < length chunks
  top : (region_of h (slice_index chunks rank)).y0 ≤ℤ y
  bottom : y ≤ℤ (region_of h (slice_index chunks rank)).y1

under : (h : Header) (w : Box2i) (chunks : List ℕ) (x y : ℤ) → IsMet h w chunks → IsWithin w x y → IsUnder h chunks y
under h w chunks x y is pixel =
    let there = within_inside h.window w x y is.inside pixel in
    let listed = subst (λ l. IsListed l (chunk_with h x y)) (sym is.are) (chunk_listed h w x y is.picture there pixel) in
    let has = subst (λ i. IsWithin (region_of h i) x y) (sym listed.is) (one_chunk h is.picture x y there).has in
    record { rank = listed.rank; within = listed.within; top = has.top; bottom = has.bottom }

line_under : (h : Header) (w : Box2i) (chunks : List ℕ) (y : ℤ) → IsMet h w chunks → w.y0 ≤ℤ y → y ≤ℤ w.y1 → IsUnder h chunks y
line_under h w chunks y is low high =
    under h w chunks w.x0 y is (let a = is.inside.columns in record { left = omega (arith, ints); right = a; top = low; bottom = high })

pub cut_first : (h : Header) (w : Box2i) (chunks : List ℕ) → AreCutAt h w chunks 0 w.y0
cut_first h w chunks = record {
  above = λ r lt. absurd (omega (arith, lt));
  below = λ r le lt. omega (arith, ints, clamps);
}

-- the lines of the next row of chunks
pub record IsPlacedBand (window band : Box2i) (line : ℤ) : Type 0 where
  pub top : band.y0 ≡ line
  pub ordered : band.y0 ≤ℤ band.y1
  pub bottom : band.y1 ≤ℤ window.y1

pub band_placed : (h : Header) (w band : Box2i) (chunks : List ℕ) (rank : ℕ) (line : ℤ) → IsMet h w chunks → AreCutAt h w chunks rank line → rank < length chunks → w.y0 ≤ℤ line
    → IsBand (region_of h (slice_index chunks rank)) w band → IsPlacedBand w band line
band_placed h w band chunks rank line is cut there low here =
    let are = met h w chunks is in
    let region = region_of h (slice_index chunks rank) in
    let meet = meeting_rows region w (are.meet rank there) in
    let up = here.up in
    let down = here.down in
    let ordered : band.y0 ≤ℤ band.y1 = omega (arith, ints, meet, up, down) in
    let bottom : band.y1 ≤ℤ w.y1 = omega (arith, ints, clamps, down) in
    let below = cut.below rank (omega arith) there in
    let high : line ≤ℤ w.y1 = omega (arith, ints, below, up, ordered, bottom) in
    let on = line_under h w chunks line is low high in
    let top : band.y0 ≤ℤ line = elim (cases_lt on.rank rank) [
      | inl before ↦ absurd (let a = cut.above on.rank before in let b = on.bottom in omega (arith, ints, clamps, a, b, high))
      | inr ge ↦
          let rise : region.y0 ≤ℤ (region_of h (slice_index chunks on.rank)).y0 = elim (cases_lt rank on.rank) [
            | inl lt ↦ rows_rise h (slice_index chunks rank) (slice_index chunks on.rank) is.picture (let a = are.rise rank on.rank lt on.within in omega (arith, a))
            | inr le ↦ (let e : rank ≡ on.rank = omega (arith, le, ge) in subst (λ r. region.y0 ≤ℤ (region_of h (slice_index chunks r)).y0) e (omega (arith, ints)))
          ] in
          let t = on.top in
          omega (arith, ints, clamps, up, rise, t, low)
    ] in
    record {
      top = omega (arith, ints, top, below, up);
      ordered = ordered;
      bottom = bottom;
    }

pub cut_next : (h : Header) (w band : Box2i) (chunks : List ℕ) (rank behind : ℕ) (line : ℤ) → IsMet h w chunks → AreCutAt h w chunks rank line → AreRow h chunks rank behind
    → IsBand (region_of h (slice_index chunks rank)) w band → IsPlacedBand w band line → AreCutAt h w chunks behind (band.y1 +ℤ pos 1)
cut_next h w band chunks rank behind line is cut row here placed =
    let are = met h w chunks is in
    let region = region_of h (slice_index chunks rank) in
    let down = here.down in
    let top = placed.top in
    let ordered = placed.ordered in
    record {
      above = λ r lt. elim (cases_lt r rank) [
        | inl before ↦ (let a = cut.above r before in omega (arith, ints, a, top, ordered))
        | inr ge ↦ (let e = rows_same h (slice_index chunks r) (slice_index chunks rank) (row.beside r ge lt) in omega (arith, ints, clamps, e, down))
      ];
      below = λ r le lt.
          let next : behind < length chunks = omega (arith, le, lt) in
          let some = row.some in
          let a = are.rise rank behind some next in
          let apart = rows_apart h (slice_index chunks rank) (slice_index chunks behind) is.picture (omega (arith, a)) (row.last next) in
          let rise : (region_of h (slice_index chunks behind)).y0 ≤ℤ (region_of h (slice_index chunks r)).y0 = elim (cases_lt behind r) [
            | inl low ↦ rows_rise h (slice_index chunks behind) (slice_index chunks r) is.picture (let b = are.rise behind r low lt in omega (arith, b))
            | inr ge ↦ (let e : behind ≡ r = omega (arith, le, ge) in subst (λ n. (region_of h (slice_index chunks behind)).y0 ≤ℤ (region_of h (slice_index chunks n)).y0) e (omega (arith, ints)))
          ] in
          omega (arith, ints, clamps, down, apart, rise);
    }

pub cut_last : (h : Header) (w : Box2i) (chunks : List ℕ) (rank : ℕ) (line : ℤ) → IsMet h w chunks → AreCutAt h w chunks rank line → length chunks ≤ rank → w.y0 ≤ℤ line → line ≤ℤ (w.y1 +ℤ pos 1) → line ≡ w.y1 +ℤ pos 1
cut_last h w chunks rank line is cut all low high =
    let not_within : (line ≤ℤ w.y1) → ⊥ = λ within.
    let on = line_under h w chunks line is low within in
    let there = on.within in
    let a = cut.above on.rank (omega (arith, there, all)) in
    let b = on.bottom in
    omega (arith, ints, clamps, a, b, within) in
    by_lt_z w.y1 line
    (λ below. omega (arith, ints, below, high))
    (λ within. absurd (not_within within))

-- ---- the image of a band

pub band_region : (h : Header) (w band : Box2i) (chunks : List ℕ) (rank : ℕ) (line : ℤ) → IsMet h w chunks → w.y0 ≤ℤ line → IsBand (region_of h (slice_index chunks rank)) w band → IsPlacedBand w band line → IsRegion band
band_region h w band chunks rank line is low here placed =
    let whole = region_in h w is.picture is.inside in
    let top = placed.top in
    let columns = is.inside.columns in
    let left = here.left in
    let right = here.right in
    record {
      columns = side_in w.x0 w.x1 band.x0 band.x1 whole.columns (omega (arith, ints, left)) (omega (arith, ints, left, right, columns)) (omega (arith, ints, right));
      rows = side_in w.y0 w.y1 band.y0 band.y1 whole.rows (omega (arith, ints, top, low)) placed.ordered placed.bottom;
    }

pub band_covered : (told : Type 0) (file : Opened) (part : ℕ) (w band : Box2i) (chunks : List ℕ) (rank behind : ℕ) (line : ℤ) (row : List DeepChunk) → IsMet (header_in file part) w chunks
    → AreCutAt (header_in file part) w chunks rank line → AreCutAt (header_in file part) w chunks behind (band.y1 +ℤ pos 1) → IsBand (region_of (header_in file part) (slice_index chunks rank)) w band → IsPlacedBand w band line
    → w.y0 ≤ℤ line → AreDeepChunks told file part chunks rank row → rank + length row ≡ behind → AreCovering band row
band_covered told file part w band chunks rank behind line row is cut next here placed low are many = λ x y pixel.
    let h = header_in file part in
    let l = pixel.left in let r = pixel.right in let t = pixel.top in let b = pixel.bottom in
    let left = here.left in
    let right = here.right in
    let top = placed.top in
    let bottom = placed.bottom in
    let inside : IsWithin w x y = record { left = omega (arith, ints, l, left); right = omega (arith, ints, r, right); top = omega (arith, ints, t, top, low); bottom = omega (arith, ints, b, bottom) } in
    let there = within_inside h.window w x y is.inside inside in
    let listed = subst (λ list. IsListed list (chunk_with h x y)) (sym is.are) (chunk_listed h w x y is.picture there inside) in
    let n = listed.rank in
    let has = (one_chunk h is.picture x y there).has in
    let place = subst (λ i. IsWithin (region_of h i) x y) (sym listed.is) has in
    let has_top = place.top in
    let has_bottom = place.bottom in
    let ge : rank ≤ n = elim (cases_lt n rank) [
      | inl before ↦ absurd (let a = cut.above n before in let e = inside.bottom in omega (arith, ints, clamps, a, has_bottom, t, top, e))
      | inr le ↦ le
    ] in
    let lt : n < behind = elim (cases_lt n behind) [
      | inl before ↦ before
      | inr le ↦ absurd (let a = next.below n le listed.within in let e = inside.top in let last = here.down in omega (arith, ints, clamps, a, has_top, b, e))
    ] in
    record {
      number = n - rank;
      there = omega (arith, ge, lt, many);
      has = λ d.
          let chunk = are (n - rank) (omega (arith, ge, lt, many)) d in
          let at : rank + (n - rank) ≡ n = omega (arith, ge) in
          subst (λ (box : Box2i). IsWithin box x y) (sym (chunk.region ∙ ap (λ k. region_of h (slice_index chunks k)) at)) place;
    }

-- ---- how many lines there are so far

pub lines_none : (w : Box2i) → nat_abs (w.y0 -ℤ w.y0) ≡ 0
lines_none w = omega (arith, ints)

pub band_below : (region w band : Box2i) (line : ℤ) → w.y0 ≤ℤ line → IsBand region w band → IsPlacedBand w band line → AreBelow w (nat_abs (line -ℤ w.y0)) band
band_below region w band line low here placed =
    let lines = abs_pos (line -ℤ w.y0) (omega (arith, ints, low)) in
    let top = placed.top in
    record { left = here.left; right = here.right; top = omega (arith, ints, lines, top) }

pub lines_more : (w band : Box2i) (line : ℤ) → w.y0 ≤ℤ line → IsPlacedBand w band line → nat_abs (line -ℤ w.y0) + height_of band ≡ nat_abs ((band.y1 +ℤ pos 1) -ℤ w.y0)
lines_more w band line low placed =
    let top = placed.top in
    let ordered = placed.ordered in
    let before = abs_pos (line -ℤ w.y0) (omega (arith, ints, low)) in
    let after = abs_pos ((band.y1 +ℤ pos 1) -ℤ w.y0) (omega (arith, ints, low, top, ordered)) in
    let here = span_is band.y0 band.y1 (omega (arith, ints, ordered)) in
    omega (arith, ints, before, after, here, top)

pub lines_all : (w : Box2i) (line : ℤ) → line ≡ w.y1 +ℤ pos 1 → nat_abs (line -ℤ w.y0) ≡ height_of w
lines_all w line is = ap nat_abs (let e : line -ℤ w.y0 ≡ (w.y1 -ℤ w.y0) +ℤ pos 1 = omega (arith, ints, is) in e)

-- ---- the next band

-- a row of chunks, and its lines in the window
pub record IsNextBand (h : Header) (w band : Box2i) (chunks : List ℕ) (rank behind : ℕ) (line : ℤ) : Type 0 where
  pub here : IsBand (region_of h (slice_index chunks rank)) w band
  pub placed : IsPlacedBand w band line
  pub region : IsRegion band
  pub row : AreRow h chunks rank behind
  pub next : AreCutAt h w chunks behind (band.y1 +ℤ pos 1)

pub next_band : (old new : Head) (part : ℕ) (w region band : Box2i) (chunks : List ℕ) (rank behind : ℕ) (line : ℤ) → new ≡ old → IsMet (header_at old.parts part) w chunks → AreCutAt (header_at old.parts part) w chunks rank line
    → w.y0 ≤ℤ line → region ≡ region_of (header_at new.parts part) (slice_index chunks rank) → IsBand region w band → AreRow (header_at new.parts part) chunks rank behind
    → IsNextBand (header_at old.parts part) w band chunks rank behind line
next_band old new part w region band chunks rank behind line same is cut low exact band_here row_here =
    let h = header_at old.parts part in
    let here = subst (λ (box : Box2i). IsBand box w band) (exact ∙ ap (λ (head : Head). region_of (header_at head.parts part) (slice_index chunks rank)) same) band_here in
    let row = subst (λ (head : Head). AreRow (header_at head.parts part) chunks rank behind) same row_here in
    let some = row.some in
    let within = row.within in
    let placed = band_placed h w band chunks rank line is cut (omega (arith, some, within)) low here in
    record {
      here = here;
      placed = placed;
      region = band_region h w band chunks rank line is low here placed;
      row = row;
      next = cut_next h w band chunks rank behind line is cut row here placed;
    }
