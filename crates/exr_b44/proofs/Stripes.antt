-- Channels that have samples on each line, unpacked into raw data.
use Rattle.std.proofs.Common.{◌≡◌, ℕ, zero, suc, ℤ, pos, ◌+ℤ◌, nat_abs, ◌+◌, ◌*◌, ◌%◌, ◌<◌, ◌≤◌, inl, inr, cond, eqb, List, [], ◌∷◌, ◌++◌, length, get_or, take, drop, refl, sym, ap, subst, ◌∙◌, arith}
use Rattle.std.specs.Prelude.{Option, None, Some, IfSome}
use Rattle.std.specs.List.{sum_by}
use Rattle.std.proofs.lemmas.Bool.{cases_lt}
use Rattle.std.proofs.lemmas.Nat.{mul-add-lt}
use Rattle.std.proofs.lemmas.List.{ext_get_or, append-nil, drop_at, drop_all, take_all, get_or_default, get_or_append_left, get_or-take, get_or-drop, length-take, length-take-le, length-drop, length-append}
use Rattle.std.proofs.lemmas.List.Sums.{sum_by_more, sum_by_more_le, sum_by-cons}
use borrow.Rule.Slice.PartMut.{put_mid}
use Rattle.exr_base.specs.declared.shape.Box2i.{Box2i}
use Rattle.exr_base.specs.declared.channel.Channel.{Channel}
use Rattle.exr_base.specs.declared.channel.Kind.{Kind}
use Rattle.exr_base.specs.declared.channel.Kind.TheVariants.{Uint, Half, Float}
use Rattle.exr_base.specs.Channel.{bytes_of, no_channel, channel_at}
use Rattle.exr_base.specs.Shape.{height_of, row_bytes_of, lines_bytes_of, channel_bytes_of, raw_size_of}
use Rattle.exr_base.proofs.Multiples.{each_place}
use Rattle.exr_base.proofs.RawSize.{by_channels}
use Rattle.exr_planar.specs.Planar.{raw_from_planar}
use Rattle.exr_planar.proofs.Grid.{row_ordered}
use Rattle.exr_planar.proofs.Orders.{row_size, raw_place, plane_place, raw_grid, planar_grid, lines_none, lines_suc, above_none, row_is, planar_row_is}
use Rattle.exr_planar.proofs.Moves.{raw_rows, planar_rows, raw_whole_moved}
use Rattle.exr_b44.specs.declared.channel.Counts.{Counts}
use Rattle.exr_b44.specs.Lines.{RowsPut}
use Rattle.exr_b44.specs.Block.{columns_of, rows_of, packed_len, unpacked, channel_len, channels_len, channels_unpacked}
use Rattle.exr_b44.specs.Sizes.{AreOnEachLine, row_len_of}
use Rattle.exr_b44.proofs.Rows.{rows_taken}
use Rattle.exr_b44.proofs.Planes.{length-plane_of}
use Rattle.exr_b44.proofs.Channels.{Unpacking, unpacking_begun, unpacking_more, unpacking_done, bytes_more, unpacked_is, rest_unpacked}

-- samples that were copied as they are
pub copied : (result : Option ℕ) (kind : Kind) (columns rows line first : ℕ) (z old new : List ℕ) → unpacked kind columns rows z ≡ take (columns * rows * 4) z → bytes_of kind ≡ 4
    → IfSome result (λ _. RowsPut z old new line first (columns * 4) rows) → IfSome result (λ _. RowsPut (unpacked kind columns rows z) old new line first (columns * bytes_of kind) rows)
copied None kind columns rows line first z old new samples four put = put
copied (Some end) kind columns rows line first z old new samples four put =
    subst (λ l. RowsPut l old new line first (columns * bytes_of kind) rows) (sym samples)
    (subst (λ n. RowsPut (take (columns * rows * 4) z) old new line first (columns * n) rows) (sym four)
    (rows_taken z old new line first (columns * 4) rows (columns * rows * 4) (omega arith) put))

-- ---- lines of one size

pub each_more : (channels : List Channel) (c : Channel) (i : ℕ) → i < length channels → c ≡ get_or channels i c → c.ys ≡ 1 → ((k : ℕ) → k < i → (channel_at channels k).ys ≡ 1)
    → (k : ℕ) → k < i + 1 → (channel_at channels k).ys ≡ 1
each_more channels c i inside item one before k lt = elim (cases_lt k i) [
  | inl earlier ↦ before k earlier
  | inr here ↦
      let last : i ≡ k = omega arith in
      subst (λ k. (channel_at channels k).ys ≡ 1) last (ap (λ (c : Channel). c.ys) (sym (item ∙ get_or_default channels i c no_channel inside)) ∙ one)
]

pub lens_more : (region : Box2i) (channels : List Channel) (c : Channel) (i line more : ℕ) (counts : Counts) → i < length channels → c ≡ get_or channels i c → line ≡ sum_by (row_len_of region) (take i channels)
    → more ≡ counts.columns * bytes_of c.kind → counts.columns ≡ columns_of region c → line + more ≡ sum_by (row_len_of region) (take (i + 1) channels)
unfolding row_len_of
lens_more region channels c i line more counts inside item so_far here columns =
    (λ j. so_far j + (here ∙ (λ k. columns k * bytes_of c.kind)) j)
    ∙ ap (λ ch. sum_by (row_len_of region) (take i channels) + row_len_of region ch) item ∙ sym (sum_by_more (row_len_of region) channels i c inside)

row_is_whole : (region : Box2i) (y : ℤ) (c : Channel) → c.ys ≡ 1 → row_bytes_of region y c ≡ row_len_of region c
unfolding row_len_of
row_is_whole region y c one =
    let f : nat_abs y % 1 ≡ 0 = omega arith in
    ap (λ s. cond (eqb (nat_abs y % s) 0) (columns_of region c * bytes_of c.kind) 0) one ∙ ap (λ r. cond (eqb r 0) (columns_of region c * bytes_of c.kind) 0) f

rows_are_lines : (region : Box2i) (c : Channel) → c.ys ≡ 1 → rows_of region c ≡ height_of region
rows_are_lines region c one = sym (each_place c.ys region.y0 region.y1 (height_of region) one refl)

line_is_whole : (region : Box2i) (y : ℤ) (channels : List Channel) → AreOnEachLine channels → sum_by (row_bytes_of region y) channels ≡ sum_by (row_len_of region) channels
line_is_whole region y [] all = refl
line_is_whole region y (c ∷ channels) all =
    let rest : AreOnEachLine channels = record { each = λ k lt. all.each (suc k) (omega arith) } in
    sum_by-cons (row_bytes_of region y) c channels
    ∙ (λ i. row_is_whole region y c (all.each 0 (omega arith)) i + line_is_whole region y channels rest i)
    ∙ sym (sum_by-cons (row_len_of region) c channels)

front_on_each : (channels : List Channel) (n : ℕ) → AreOnEachLine channels → AreOnEachLine (take n channels)
front_on_each channels n all = record {
  each = λ k lt.
      let long = length-take n channels in
      ap (λ (c : Channel). c.ys) (get_or-take n channels k no_channel (omega arith)) ∙ all.each k (omega arith);
}

module _ (region : Box2i) (channels : List Channel) (line : ℕ) (all : AreOnEachLine channels) (line_is : line ≡ sum_by (row_len_of region) channels) where
  pub lines_are : (n : ℕ) → lines_bytes_of channels region n ≡ n * line
  lines_are zero = lines_none channels region ∙ omega arith
  lines_are (suc n) = omega (arith, lines_suc channels region n, lines_are n, line_is_whole region (region.y0 +ℤ pos n) channels all, line_is)

  row_place_is : (n c : ℕ) → raw_place channels region n c ≡ n * line + sum_by (row_len_of region) (take c channels)
  row_place_is n c = omega (arith, lines_are n, line_is_whole region (region.y0 +ℤ pos n) (take c channels) (front_on_each channels c all))

  row_size_is : (n c : ℕ) → c < length channels → row_size channels region n c ≡ row_len_of region (channel_at channels c)
  row_size_is n c lt = row_is_whole region (region.y0 +ℤ pos n) (channel_at channels c) (all.each c lt)

  plane_place_is : (c n : ℕ) → c < length channels → n ≤ height_of region → plane_place channels region c n ≡ sum_by (channel_bytes_of region) (take c channels) + n * row_len_of region (channel_at channels c)
  plane_place_is c zero lt le = omega (arith, above_none region (channel_at channels c))
  plane_place_is c (suc n) lt le = omega (arith, (planar_grid channels region).steps c n lt (omega arith), plane_place_is c n lt (omega arith), row_size_is n c lt)

same_piece : (xs ys : List ℕ) (a b w : ℕ) → a + w ≤ length xs → b + w ≤ length ys → ((j : ℕ) → j < w → get_or xs (a + j) 0 ≡ get_or ys (b + j) 0) → take w (drop a xs) ≡ take w (drop b ys)
same_piece xs ys a b w in_x in_y each =
    let long : length (take w (drop a xs)) ≡ w = length-take-le w (drop a xs) (omega (arith, length-drop a xs)) in
    let as_long : length (take w (drop b ys)) ≡ w = length-take-le w (drop b ys) (omega (arith, length-drop b ys)) in
    ext_get_or 0 (take w (drop a xs)) (take w (drop b ys)) (omega arith) (λ j inside.
    let lt : j < w = omega arith in
    get_or-take w (drop a xs) j 0 lt ∙ get_or-drop a xs j 0 ∙ each j lt ∙ sym (get_or-drop b ys j 0) ∙ sym (get_or-take w (drop b ys) j 0 lt))

-- ---- one channel more

unpacked_long : (kind : Kind) (columns rows : ℕ) (z : List ℕ) → packed_len kind columns rows z ≤ length z → length (unpacked kind columns rows z) ≡ columns * rows * bytes_of kind
unpacked_long Uint columns rows z there = length-take-le (columns * rows * 4) z there
unpacked_long Half columns rows z there = length-plane_of columns rows z ∙ omega arith
unpacked_long Float columns rows z there = length-take-le (columns * rows * 4) z there

pub unpacked_there : (kind : Kind) (columns rows at end : ℕ) (packed : List ℕ) → end ≤ length packed → end ≡ at + packed_len kind columns rows (drop at packed)
    → length (unpacked kind columns rows (drop at packed)) ≡ columns * rows * bytes_of kind
unpacked_there kind columns rows at end packed within is = unpacked_long kind columns rows (drop at packed) (omega (arith, length-drop at packed))

-- what the loop over channels knows at channel number i: its packed data, its place in a line, and the bytes of all rows before
pub record Laying (region : Box2i) (channels : List Channel) (packed raw : List ℕ) (i at first : ℕ) : Type 0 where
  pub begun : Unpacking region channels packed (channels_unpacked region channels packed) i at (sum_by (channel_bytes_of region) (take i channels))
  pub long : sum_by (channel_bytes_of region) (take i channels) ≤ length (channels_unpacked region channels packed)
  pub begins : first ≡ sum_by (row_len_of region) (take i channels)
  pub done : (c y b : ℕ) → c < i → y < height_of region → b < row_size channels region y c
      → get_or raw (raw_place channels region y c + b) 0 ≡ get_or (channels_unpacked region channels packed) (plane_place channels region c y + b) 0

pub laying_begun : (region : Box2i) (channels : List Channel) (packed raw : List ℕ) → Laying region channels packed raw 0 0 0
laying_begun region channels packed raw = record {
  begun = unpacking_begun region channels packed (channels_unpacked region channels packed);
  long = omega arith;
  begins = refl;
  done = λ c y b lt. absurd (omega arith);
}

-- a front of a list and what follows it
follows : (whole rest : List ℕ) (n : ℕ) → n ≤ length whole → take n whole ++ rest ≡ whole → drop n whole ≡ rest
follows whole rest n le is = ap (drop n) (sym is) ∙ drop_at (take n whole) rest n (length-take-le n whole le)

module _ (region : Box2i) (channels : List Channel) (packed raw : List ℕ) (c : Channel) (i at first line : ℕ) (counts : Counts)
    (inside : i < length channels) (item : c ≡ get_or channels i c) (columns : counts.columns ≡ columns_of region c) (rows : counts.rows ≡ rows_of region c)
    (all : AreOnEachLine channels) (line_is : line ≡ sum_by (row_len_of region) channels) (laid : Laying region channels packed raw i at first) where
  same : c ≡ channel_at channels i
  same = item ∙ get_or_default channels i c no_channel inside

  wide_is : counts.columns * bytes_of c.kind ≡ row_len_of region c
  unfolding row_len_of
  wide_is = ap (λ n. n * bytes_of c.kind) columns

  wide_there : counts.columns * bytes_of c.kind ≡ row_len_of region (channel_at channels i)
  wide_there = wide_is ∙ ap (row_len_of region) same

  pub first_more : first + counts.columns * bytes_of c.kind ≡ sum_by (row_len_of region) (take (i + 1) channels)
  first_more = omega (arith, laid.begins, wide_there, sum_by_more (row_len_of region) channels i no_channel inside)

  pub in_line : first + counts.columns * bytes_of c.kind ≤ line
  in_line = omega (arith, laid.begins, wide_there, line_is, sum_by_more_le (row_len_of region) channels i no_channel inside)

  pub all_lines : counts.rows ≡ height_of region
  all_lines = rows ∙ rows_are_lines region c (ap (λ (c : Channel). c.ys) same ∙ all.each i inside)

  pub raw_rooms : raw_size_of channels region ≡ counts.rows * line
  raw_rooms = lines_are region channels line all line_is (height_of region) ∙ ap (λ n. n * line) (sym all_lines)

  pub laying_more : (new : List ℕ) (end : ℕ) → end ≤ length packed → end ≡ at + packed_len c.kind counts.columns counts.rows (drop at packed)
      → RowsPut (unpacked c.kind counts.columns counts.rows (drop at packed)) raw new line first (counts.columns * bytes_of c.kind) counts.rows
      → Laying region channels packed new (i + 1) end (first + counts.columns * bytes_of c.kind)
  laying_more new end within is put =
      let planar = channels_unpacked region channels packed in
      let to = sum_by (channel_bytes_of region) (take i channels) in
      let piece = unpacked c.kind counts.columns counts.rows (drop at packed) in
      let size = counts.columns * counts.rows * bytes_of c.kind in
      let wide = counts.columns * bytes_of c.kind in
      let rest = channels_unpacked region (drop (i + 1) channels) (drop (channel_len region c (drop at packed)) (drop at packed)) in
      let here : piece ++ rest ≡ channels_unpacked region (drop i channels) (drop at packed) =
      ap (λ l. l ++ rest) (unpacked_is region channels packed planar c i at to counts inside item columns rows laid.begun)
      ∙ sym (rest_unpacked region channels packed planar c i at to counts inside item columns rows laid.begun)
      in
      let whole : take to planar ++ (piece ++ rest) ≡ planar = ap (λ l. take to planar ++ l) here ∙ laid.begun.rest in
      let behind : drop to planar ≡ piece ++ rest = follows planar (piece ++ rest) to laid.long whole in
      let counted : length piece ≡ size = unpacked_there c.kind counts.columns counts.rows at end packed within is in
      let room : to + size ≤ length planar = omega (arith, ap length behind, length-drop to planar, length-append piece rest, laid.long) in
      let again : put_mid to size planar piece ≡ planar =
      ap (λ l. take to planar ++ (piece ++ drop size l)) behind ∙ ap (λ l. take to planar ++ (piece ++ l)) (drop_at piece rest size counted) ∙ whole in
      let next = unpacking_more region channels packed planar c i at to counts inside item columns rows laid.begun piece size end refl within is counted room refl in
      let upto : to + size ≡ sum_by (channel_bytes_of region) (take (i + 1) channels) = (bytes_more region channels c i to size counts inside item refl refl columns rows).1 in
      record {
        begun = subst (λ n. Unpacking region channels packed planar (i + 1) end n) upto (subst (λ l. Unpacking region channels packed l (i + 1) end (to + size)) again next);
        long = omega arith;
        begins = first_more;
        done = λ d y b lt low narrow. elim (cases_lt d i) [
          | inl earlier ↦
              let left = sum_by (row_len_of region) (take d channels) in
              let ordered = row_ordered (height_of region) (length channels) (row_size channels region) (raw_place channels region) y (suc d) i (raw_grid channels region) low (omega arith) (omega arith) in
              let step = (raw_grid channels region).steps y d low (omega arith) in
              let place : raw_place channels region y d + b ≡ y * line + (left + b) = omega (arith, row_place_is region channels line all line_is y d) in
              let before : left + b < first = omega (arith, row_place_is region channels line all line_is y d, row_place_is region channels line all line_is y i, laid.begins) in
              ap (λ k. get_or new k 0) place ∙ put.others.kept y (left + b) (omega (arith, in_line)) (inl before) ∙ ap (λ k. get_or raw k 0) (sym place) ∙ laid.done d y b earlier low narrow
          | inr there ↦
              let last : i ≡ d = omega arith in
              let below : y < counts.rows = omega (arith, all_lines) in
              let in_row : b < wide = omega (arith, wide_there, row_size_is region channels line all line_is y i inside, ap (λ n. row_size channels region y n) last) in
              let k = y * wide + b in
              let in_piece : k < size = omega (arith, mul-add-lt y wide b counts.rows below in_row) in
              let place : raw_place channels region y i + b ≡ y * line + (first + b) = omega (arith, row_place_is region channels line all line_is y i, laid.begins) in
              let from : plane_place channels region i y + b ≡ to + k = omega (arith, plane_place_is region channels line all line_is i y inside (omega arith), ap (λ n. y * n) wide_there) in
              subst (λ d. get_or new (raw_place channels region y d + b) 0 ≡ get_or planar (plane_place channels region d y + b) 0) last
              (ap (λ k. get_or new k 0) place ∙ put.placed y b below in_row
              ∙ sym (ap (λ k. get_or planar k 0) from ∙ sym (get_or-drop to planar k 0) ∙ ap (λ l. get_or l k 0) behind ∙ get_or_append_left piece rest 0 k (omega arith)))
        ];
      }

-- all channels
pub laying_done : (region : Box2i) (channels : List Channel) (packed raw : List ℕ) (i at first : ℕ) → length channels ≤ i → length raw ≡ raw_size_of channels region → Laying region channels packed raw i at first
    → (at ≡ channels_len region channels packed) × (raw ≡ raw_from_planar channels region (channels_unpacked region channels packed))
unfolding channels_unpacked
laying_done region channels packed raw i at first last long laid =
    let planar = channels_unpacked region channels packed in
    let to = sum_by (channel_bytes_of region) (take i channels) in
    let none : drop i channels ≡ [] = drop_all i channels last in
    let whole : take i channels ≡ channels = take_all i channels last in
    let front : take to planar ≡ planar = sym (append-nil (take to planar)) ∙ ap (λ cs. take to planar ++ channels_unpacked region cs (drop at packed)) (sym none) ∙ laid.begun.rest in
    let to_is : to ≡ raw_size_of channels region = ap (sum_by (channel_bytes_of region)) whole ∙ sym (by_channels region channels) in
    let as_long : length planar ≡ raw_size_of channels region = sym (ap length front) ∙ length-take-le to planar laid.long ∙ to_is in (
      (unpacking_done region channels packed planar i at to last as_long laid.begun).0,
      raw_whole_moved channels region planar raw raw long (record {
        size = refl;
        moved = λ c k lt lt₂.
            row_is channels region raw c k
            ∙ same_piece raw planar (raw_place channels region k c) (plane_place channels region c k) (row_size channels region k c)
            (omega (arith, (raw_rows channels region).within c k lt lt₂)) (omega (arith, (planar_rows channels region).within c k lt lt₂))
            (λ b narrow. laid.done c k b (omega arith) lt₂ narrow)
            ∙ sym (planar_row_is channels region planar c k);
      }),
    )
