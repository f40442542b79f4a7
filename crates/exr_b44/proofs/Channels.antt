-- Channels one after the other.
use Rattle.std.proofs.Common.{◌≡◌, ℕ, zero, suc, ◌+◌, ◌*◌, ◌<◌, ◌≤◌, Bool, List, [], ◌∷◌, ◌++◌, length, get_or, take, drop, refl, sym, ap, ◌∙◌, arith}
use Rattle.std.specs.List.{sum_by}
use Rattle.std.proofs.lemmas.List.{drop_more, drop_all, take_all, append-nil, drop-drop, append_assoc}
use Rattle.std.proofs.lemmas.List.Sums.{sum_by_more, sum_by_more_le, sum_by-cons}
use Rattle.std.proofs.lemmas.Slice.{take-put_mid}
use borrow.Rule.Slice.PartMut.{put_mid}
use Rattle.exr_base.specs.declared.shape.Box2i.{Box2i}
use Rattle.exr_base.specs.declared.channel.Channel.{Channel}
use Rattle.exr_base.specs.declared.channel.Kind.{Kind}
use Rattle.exr_base.specs.declared.channel.Kind.TheVariants.{Uint, Half, Float}
use Rattle.exr_base.specs.Channel.{bytes_of}
use Rattle.exr_base.specs.Shape.{channel_bytes_of, raw_size_of}
use Rattle.exr_base.proofs.RawSize.{by_channels}
use Rattle.exr_b44.specs.declared.channel.Counts.{Counts}
use Rattle.exr_b44.specs.Cell.{cell_len}
use Rattle.exr_b44.specs.Plane.{cells_for, cells_len}
use Rattle.exr_b44.specs.Block.{columns_of, rows_of, packed_len, unpacked, packed_of, channel_len, channel_unpacked, channels_len, channels_unpacked, channel_packed, channels_packed}
use Rattle.exr_b44.specs.Sizes.{least_len, most_len, least_of, most_of}
use Rattle.exr_b44.proofs.Cells.{cell_len_some}

pub least_more : (region : Box2i) (channels : List Channel) (c : Channel) (i size more : ℕ) (counts : Counts) → i < length channels → c ≡ get_or channels i c → size ≡ sum_by (least_of region) (take i channels)
    → more ≡ least_len c.kind counts.columns counts.rows → counts.columns ≡ columns_of region c → counts.rows ≡ rows_of region c → size + more ≡ sum_by (least_of region) (take (i + 1) channels)
unfolding least_of
least_more region channels c i size more counts inside item so_far here columns rows =
    (λ j. so_far j + (here ∙ (λ k. least_len c.kind (columns k) (rows k))) j)
    ∙ ap (λ ch. sum_by (least_of region) (take i channels) + least_of region ch) item ∙ sym (sum_by_more (least_of region) channels i c inside)

pub most_more : (region : Box2i) (channels : List Channel) (c : Channel) (i size more : ℕ) (counts : Counts) → i < length channels → c ≡ get_or channels i c → size ≡ sum_by (most_of region) (take i channels)
    → more ≡ most_len c.kind counts.columns counts.rows → counts.columns ≡ columns_of region c → counts.rows ≡ rows_of region c → size + more ≡ sum_by (most_of region) (take (i + 1) channels)
unfolding most_of
most_more region channels c i size more counts inside item so_far here columns rows =
    (λ j. so_far j + (here ∙ (λ k. most_len c.kind (columns k) (rows k))) j)
    ∙ ap (λ ch. sum_by (most_of region) (take i channels) + most_of region ch) item ∙ sym (sum_by_more (most_of region) channels i c inside)

pub bytes_more : (region : Box2i) (channels : List Channel) (c : Channel) (i at size : ℕ) (counts : Counts) → i < length channels → c ≡ get_or channels i c → at ≡ sum_by (channel_bytes_of region) (take i channels)
    → size ≡ counts.columns * counts.rows * bytes_of c.kind → counts.columns ≡ columns_of region c → counts.rows ≡ rows_of region c
    → (size ≡ channel_bytes_of region c) × (at + size ≡ sum_by (channel_bytes_of region) (take (i + 1) channels)) × (at + size ≤ raw_size_of channels region)
bytes_more region channels c i at size counts inside item so_far here columns rows =
    let is : size ≡ channel_bytes_of region c = here ∙ (λ k. columns k * rows k * bytes_of c.kind) in
    let bytes : channel_bytes_of region c ≡ channel_bytes_of region (get_or channels i c) = ap (channel_bytes_of region) item in
    let next = sum_by_more (channel_bytes_of region) channels i c inside in
    let within = sum_by_more_le (channel_bytes_of region) channels i c inside in
    (is, omega arith, omega (arith, by_channels region channels))

pub most_within : (region : Box2i) (channels : List Channel) (c : Channel) (i to : ℕ) (counts : Counts) → i < length channels → c ≡ get_or channels i c → to ≤ sum_by (most_of region) (take i channels)
    → counts.columns ≡ columns_of region c → counts.rows ≡ rows_of region c → to + most_len c.kind counts.columns counts.rows ≤ sum_by (most_of region) (take (i + 1) channels)
unfolding most_of
most_within region channels c i to counts inside item so_far columns rows =
    let next = most_more region channels c i (sum_by (most_of region) (take i channels)) (most_len c.kind counts.columns counts.rows) counts inside item refl refl columns rows in
    omega arith

pub most_all : (region : Box2i) (channels : List Channel) (c : Channel) (i : ℕ) → i < length channels → sum_by (most_of region) (take (i + 1) channels) ≤ sum_by (most_of region) channels
most_all region channels c i inside = omega (arith, sum_by_more_le (most_of region) channels i c inside, sum_by_more (most_of region) channels i c inside)

-- the rest of the channels, and what is left of the packed data
first_rest : (channels : List Channel) (c : Channel) (i : ℕ) → i < length channels → c ≡ get_or channels i c → drop i channels ≡ c ∷ drop (i + 1) channels
first_rest channels c i inside item = drop_more channels i c inside ∙ ap (λ ch. ch ∷ drop (i + 1) channels) (sym item)

-- one channel unpacked
pub record Unpacking (region : Box2i) (channels : List Channel) (packed planar : List ℕ) (i at to : ℕ) : Type 0 where
  pub within : at ≤ length packed
  pub to_is : to ≡ sum_by (channel_bytes_of region) (take i channels)
  pub rest_len : at + channels_len region (drop i channels) (drop at packed) ≡ channels_len region channels packed
  pub rest : take to planar ++ channels_unpacked region (drop i channels) (drop at packed) ≡ channels_unpacked region channels packed

pub unpacking_begun : (region : Box2i) (channels : List Channel) (packed planar : List ℕ) → Unpacking region channels packed planar 0 0 0
unpacking_begun region channels packed planar = record { within = omega arith; to_is = refl; rest_len = omega arith; rest = refl }

module _ (region : Box2i) (channels : List Channel) (packed planar : List ℕ) (c : Channel) (i at to : ℕ) (counts : Counts)
    (inside : i < length channels) (item : c ≡ get_or channels i c) (columns : counts.columns ≡ columns_of region c) (rows : counts.rows ≡ rows_of region c)
    (begun : Unpacking region channels packed planar i at to) where
  len_is : packed_len c.kind counts.columns counts.rows (drop at packed) ≡ channel_len region c (drop at packed)
  unfolding channel_len
  len_is = λ k. packed_len c.kind (columns k) (rows k) (drop at packed)

  pub unpacked_is : unpacked c.kind counts.columns counts.rows (drop at packed) ≡ channel_unpacked region c (drop at packed)
  unfolding channel_unpacked
  unpacked_is = λ k. unpacked c.kind (columns k) (rows k) (drop at packed)

  rest_is : channels_len region (drop i channels) (drop at packed) ≡ channel_len region c (drop at packed) + channels_len region (drop (i + 1) channels) (drop (channel_len region c (drop at packed)) (drop at packed))
  unfolding channels_len
  rest_is = ap (λ cs. channels_len region cs (drop at packed)) (first_rest channels c i inside item)

  pub rest_unpacked : channels_unpacked region (drop i channels) (drop at packed)
      ≡ channel_unpacked region c (drop at packed) ++ channels_unpacked region (drop (i + 1) channels) (drop (channel_len region c (drop at packed)) (drop at packed))
  unfolding channels_unpacked
  rest_unpacked = ap (λ cs. channels_unpacked region cs (drop at packed)) (first_rest channels c i inside item)

  pub cut_off : length packed < at + packed_len c.kind counts.columns counts.rows (drop at packed) → length packed < channels_len region channels packed
  cut_off short = omega (arith, begun.rest_len, rest_is, len_is)

  pub unpacking_more : (new : List ℕ) (size end : ℕ) → size ≡ counts.columns * counts.rows * bytes_of c.kind → end ≤ length packed → end ≡ at + packed_len c.kind counts.columns counts.rows (drop at packed)
      → length new ≡ size → to + size ≤ length planar → new ≡ unpacked c.kind counts.columns counts.rows (drop at packed) → Unpacking region channels packed (put_mid to size planar new) (i + 1) end (to + size)
  unpacking_more new size end sized within is long room samples =
      let next : drop (channel_len region c (drop at packed)) (drop at packed) ≡ drop end packed = drop-drop (channel_len region c (drop at packed)) at packed ∙ ap (λ n. drop n packed) (omega (arith, is, len_is)) in
      let front : take (to + size) (put_mid to size planar new) ≡ take to planar ++ new = take-put_mid to size planar new (to + size) (omega arith) (omega arith) in
      let more = bytes_more region channels c i to size counts inside item begun.to_is sized columns rows in
      record {
        within = within;
        to_is = more.1;
        rest_len = omega (arith, begun.rest_len, rest_is, len_is, is, ap (channels_len region (drop (i + 1) channels)) next);
        rest =
            (λ k. front k ++ channels_unpacked region (drop (i + 1) channels) (sym next k))
            ∙ append_assoc (take to planar) new (channels_unpacked region (drop (i + 1) channels) (drop (channel_len region c (drop at packed)) (drop at packed)))
            ∙ ap (λ l. take to planar ++ (l ++ channels_unpacked region (drop (i + 1) channels) (drop (channel_len region c (drop at packed)) (drop at packed)))) (samples ∙ unpacked_is)
            ∙ ap (λ l. take to planar ++ l) (sym rest_unpacked) ∙ begun.rest;
      }

-- one channel packed
pub record Packing (region : Box2i) (flat : Bool) (channels : List Channel) (planar into : List ℕ) (i at to : ℕ) : Type 0 where
  pub at_is : at ≡ sum_by (channel_bytes_of region) (take i channels)
  pub few : to ≤ sum_by (most_of region) (take i channels)
  pub rest : take to into ++ channels_packed region flat (drop i channels) (drop at planar) ≡ channels_packed region flat channels planar

pub packing_begun : (region : Box2i) (flat : Bool) (channels : List Channel) (planar into : List ℕ) → Packing region flat channels planar into 0 0 0
packing_begun region flat channels planar into = record { at_is = refl; few = omega arith; rest = refl }

pub packing_more : (region : Box2i) (flat : Bool) (channels : List Channel) (planar into new samples : List ℕ) (c : Channel) (i at to size end : ℕ) (counts : Counts) → i < length channels → c ≡ get_or channels i c
    → counts.columns ≡ columns_of region c → counts.rows ≡ rows_of region c → size ≡ counts.columns * counts.rows * bytes_of c.kind → samples ≡ take size (drop at planar)
    → take end new ≡ take to into ++ packed_of c.kind counts.columns counts.rows flat samples → end ≤ to + most_len c.kind counts.columns counts.rows
    → Packing region flat channels planar into i at to → Packing region flat channels planar new (i + 1) (at + size) end
unfolding channels_packed channel_packed
packing_more region flat channels planar into new samples c i at to size end counts inside item columns rows sized cut written most begun =
    let more = bytes_more region channels c i at size counts inside item begun.at_is sized columns rows in
    let next : drop (channel_bytes_of region c) (drop at planar) ≡ drop (at + size) planar = ap (λ n. drop n (drop at planar)) (sym more.0) ∙ drop-drop size at planar in
    let packed : packed_of c.kind counts.columns counts.rows flat samples ≡ channel_packed region flat c (take (channel_bytes_of region c) (drop at planar)) =
    (λ k. packed_of c.kind (columns k) (rows k) flat ((cut ∙ ap (λ n. take n (drop at planar)) more.0) k)) in
    let rest : channels_packed region flat (drop i channels) (drop at planar)
    ≡ channel_packed region flat c (take (channel_bytes_of region c) (drop at planar)) ++ channels_packed region flat (drop (i + 1) channels) (drop (channel_bytes_of region c) (drop at planar)) =
    ap (λ cs. channels_packed region flat cs (drop at planar)) (first_rest channels c i inside item) in
    record {
      at_is = more.1;
      few = omega (arith, most, most_within region channels c i to counts inside item begun.few columns rows);
      rest =
          (λ k. (written ∙ ap (λ l. take to into ++ l) packed) k ++ channels_packed region flat (drop (i + 1) channels) (sym next k))
          ∙ append_assoc (take to into) (channel_packed region flat c (take (channel_bytes_of region c) (drop at planar))) (channels_packed region flat (drop (i + 1) channels) (drop (channel_bytes_of region c) (drop at planar)))
          ∙ ap (λ l. take to into ++ l) (sym rest) ∙ begun.rest;
    }

-- no cells are shorter than three bytes each
pub cells_least : (n : ℕ) (z : List ℕ) → 3 * n ≤ cells_len n z
unfolding cells_len
cells_least zero z = omega arith
cells_least (suc n) z = omega (arith, cell_len_some z, cells_least n (drop (cell_len z) z))

kind_least : (kind : Kind) (columns rows : ℕ) (z : List ℕ) → least_len kind columns rows ≤ packed_len kind columns rows z
kind_least Uint columns rows z = omega arith
kind_least Half columns rows z = cells_least (cells_for columns * cells_for rows) z
kind_least Float columns rows z = omega arith

pub least_le : (region : Box2i) (channels : List Channel) (z : List ℕ) → sum_by (least_of region) channels ≤ channels_len region channels z
unfolding channels_len channel_len least_of
least_le region [] z = omega arith
least_le region (c ∷ channels) z =
    omega (arith, sum_by-cons (least_of region) c channels, kind_least c.kind (columns_of region c) (rows_of region c) z, least_le region channels (drop (channel_len region c z) z))

-- all channels
pub unpacking_done : (region : Box2i) (channels : List Channel) (packed planar : List ℕ) (i at to : ℕ) → length channels ≤ i → length planar ≡ raw_size_of channels region → Unpacking region channels packed planar i at to
    → (at ≡ channels_len region channels packed) × (planar ≡ channels_unpacked region channels packed)
unfolding channels_len channels_unpacked
unpacking_done region channels packed planar i at to last long done =
    let none : drop i channels ≡ [] = drop_all i channels last in
    let whole : take i channels ≡ channels = take_all i channels last in
    let size : to ≡ length planar = done.to_is ∙ ap (sum_by (channel_bytes_of region)) whole ∙ sym (by_channels region channels) ∙ sym long in
    let all : take to planar ≡ planar = take_all to planar (omega arith) in (
      let e : channels_len region (drop i channels) (drop at packed) ≡ 0 = ap (λ cs. channels_len region cs (drop at packed)) none in omega (arith, done.rest_len),
      sym (append-nil planar) ∙ (λ k. sym all k ++ channels_unpacked region (sym none k) (drop at packed)) ∙ done.rest,
    )

pub packing_done : (region : Box2i) (flat : Bool) (channels : List Channel) (planar into : List ℕ) (i at to : ℕ) → length channels ≤ i → Packing region flat channels planar into i at to
    → take to into ≡ channels_packed region flat channels planar
unfolding channels_packed
packing_done region flat channels planar into i at to last done =
    let none : drop i channels ≡ [] = drop_all i channels last in
    sym (append-nil (take to into)) ∙ ap (λ cs. take to into ++ channels_packed region flat cs (drop at planar)) (sym none) ∙ done.rest
