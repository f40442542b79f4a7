-- Each raw byte of a region is one of a sample: its line, its channel, its column.
use Rattle.std.proofs.Common.{◌≡◌, ◌+◌, ◌-◌, ◌*◌, ◌/◌, ◌%◌, ◌<◌, ◌≤◌, ℕ, zero, suc, ℤ, pos, ◌+ℤ◌, ◌-ℤ◌, ◌≤ℤ◌, nat_abs, Bool, true, false, cond, List, [], ◌∷◌, length, take, get_or, Option, Some, None, refl, sym, ap, ◌∙◌, subst, inl, inr, arith, slice_index}
use Rattle.std.specs.Prelude.{IsSome}
use Rattle.std.specs.List.{sum_by}
use Rattle.std.proofs.lemmas.Bool.{cases_lt}
use Rattle.std.proofs.lemmas.Grind.{same_number_lists}
use Rattle.std.proofs.lemmas.Int.{ints}
use Rattle.std.proofs.lemmas.List.Sums.{sum_by-cons}
use Rattle.std.proofs.lemmas.Nat.{div-add-mod', mod_below, div_below}
use Rattle.exr_base.specs.declared.shape.Box2i.{Box2i}
use Rattle.exr_base.specs.declared.channel.Channel.{Channel}
use Rattle.exr_base.specs.declared.channel.Kind.{Kind}
use Rattle.exr_base.specs.declared.channel.Kind.TheVariants.{Uint, Half, Float}
use Rattle.exr_base.specs.Channel.{bytes_of}
use Rattle.exr_base.specs.Sampling.{is_multiple, multiples_among, span_of, sample_count_of}
use Rattle.exr_base.specs.Shape.{IsRegion, row_bytes_of, line_bytes_of, lines_bytes_of, raw_size_of, height_of}
use Rattle.exr_layout.specs.Plan.{Matching}
use Rattle.exr_frame.specs.Gather.{IsGathered}
use Rattle.exr_layout.specs.Validation.{Frame}
use Rattle.exr_base.specs.Sampling.{count_before}
use Rattle.exr_base.specs.Boxes.{IsWithin}
use Rattle.exr_layout.specs.Place.{placements_of, placement_at, place_of, Byte}
use Rattle.exr_base.specs.Channel.{channel_at}
use Rattle.exr_base.specs.Boxes.{is_inside}
use Rattle.exr_layout.specs.Plan.{IsFull, IsPlanOf}
use Rattle.exr_base.specs.Shape.{raw_place_of}
use Rattle.exr_frame.specs.Buffer.{IsCopied, IsInRegion, byte_of, chunk_byte}
use Rattle.exr_frame.proofs.Channelled.{channel_of_slice, kind_bytes, spot_listed}
use Rattle.exr_layout.proofs.Columns.{multiple_numbered}
use Rattle.exr_frame.proofs.Gathered.{inside_of}

-- ---- a byte's line

pub record OfLine (part : List Channel) (region : Box2i) (n i : ℕ) : Type 0 where
  pub line : ℕ
  pub early : line < n
  pub behind : lines_bytes_of part region line ≤ i
  pub before : i < lines_bytes_of part region line + line_bytes_of part region (region.y0 +ℤ pos line)

pub line_of_byte : (part : List Channel) (region : Box2i) (n i : ℕ) → i < lines_bytes_of part region n → OfLine part region n i
unfolding lines_bytes_of
line_of_byte part region zero i h = absurd (omega arith)
line_of_byte part region (suc n) i h =
    elim (cases_lt i (lines_bytes_of part region n)) [
      | inl lt ↦ let l = line_of_byte part region n i lt in record { line = l.line; early = omega (arith, l.early); behind = l.behind; before = l.before }
      | inr ge ↦ record { line = n; early = omega arith; behind = ge; before = h }
    ]

-- ---- its channel

pub record OfChannel (g : Channel → ℕ) (part : List Channel) (i : ℕ) : Type 0 where
  pub channel : ℕ
  pub listed : channel < length part
  pub behind : sum_by g (take channel part) ≤ i
  pub before : i < sum_by g (take channel part) + g (channel_at part channel)

pub channel_of_byte : (g : Channel → ℕ) (part : List Channel) (i : ℕ) → i < sum_by g part → OfChannel g part i
channel_of_byte g [] i h = absurd (omega arith)
channel_of_byte g (x ∷ xs) i h =
    let whole = sum_by-cons g x xs in
    elim (cases_lt i (g x)) [
      | inl lt ↦ record { channel = 0; listed = omega arith; behind = omega arith; before = omega arith }
      | inr ge ↦
          let l = channel_of_byte g xs (i - g x) (omega arith) in
          let front = sum_by-cons g x (take l.channel xs) in
          record { channel = suc l.channel; listed = omega (arith, l.listed); behind = omega (arith, l.behind, front); before = omega (arith, l.before, front) }
    ]

-- ---- its column

kind_some : (kind : Kind) → 0 < bytes_of kind
kind_some Uint = omega arith
kind_some Half = omega arith
kind_some Float = omega arith

pub record OfSample (region : Box2i) (y : ℤ) (d : Channel) (i : ℕ) : Type 0 where
  pub x : ℤ
  pub byte : ℕ
  pub line : is_multiple d.ys y ≡ true
  pub column : is_multiple d.xs x ≡ true
  pub left : region.x0 ≤ℤ x
  pub right : x ≤ℤ region.x1
  pub small : byte < bytes_of d.kind
  pub place : count_before d.xs region.x0 x * bytes_of d.kind + byte ≡ i

sampled_line : (b : Bool) (n i : ℕ) → i < cond b n 0 → (b ≡ true) × (i < n)
sampled_line true n i h = (refl, h)
sampled_line false n i h = absurd (omega arith)

inner : (from to : ℤ) (m : ℕ) → (from -ℤ pos 1) ≤ℤ to → m < span_of from to → (from ≤ℤ (from +ℤ pos m)) × ((from +ℤ pos m) ≤ℤ to) × (nat_abs ((from +ℤ pos m) -ℤ from) ≡ m)
inner from to m ends h = (omega (arith, ints), omega (arith, ints), omega (arith, ints))

pub sample_of_byte : (region : Box2i) (y : ℤ) (d : Channel) (i : ℕ) → IsRegion region → i < row_bytes_of region y d → OfSample region y d i
sample_of_byte region y d i is h =
    let size = bytes_of d.kind in
    let some = kind_some d.kind in
    let on = sampled_line (is_multiple d.ys y) (sample_count_of d.xs region.x0 region.x1 * size) i h in
    let column : i / size < sample_count_of d.xs region.x0 region.x1 = div_below i size (sample_count_of d.xs region.x0 region.x1) some on.1 in
    let m = multiple_numbered d.xs region.x0 (span_of region.x0 region.x1) (i / size) column in
    let c = inner region.x0 region.x1 m.at is.columns.ends m.within in
    let whole = div-add-mod' i size in
    let count : count_before d.xs region.x0 (region.x0 +ℤ pos m.at) ≡ i / size = ap (multiples_among d.xs region.x0) c.2 ∙ m.count in
    record {
      x = region.x0 +ℤ pos m.at;
      byte = i % size;
      line = on.0;
      column = m.here;
      left = c.0;
      right = c.1;
      small = mod_below i size some;
      place = ap (λ n. n * size + i % size) count ∙ omega arith;
    }

-- ---- in all

pub record OfRaw (part : List Channel) (region : Box2i) (i : ℕ) : Type 0 where
  pub channel : ℕ
  pub x : ℤ
  pub y : ℤ
  pub byte : ℕ
  pub listed : channel < length part
  pub within : IsWithin region x y
  pub column : is_multiple (channel_at part channel).xs x ≡ true
  pub line : is_multiple (channel_at part channel).ys y ≡ true
  pub small : byte < bytes_of (channel_at part channel).kind
  pub place : raw_place_of part region channel x y + byte ≡ i

less : (i a b : ℕ) → a ≤ i → i < a + b → i - a < b
less i a b h k = omega arith

joined : (a b c d i : ℕ) → a ≤ i → b ≤ i - a → c + d ≡ i - a - b → a + b + c + d ≡ i
joined a b c d i h k e = omega arith

pub sample_of_raw : (part : List Channel) (region : Box2i) (i : ℕ) → IsRegion region → i < raw_size_of part region → OfRaw part region i
unfolding raw_place_of
sample_of_raw part region i is h =
    let l = line_of_byte part region (height_of region) i h in
    let y = region.y0 +ℤ pos l.line in
    let rows = inner region.y0 region.y1 l.line is.rows.ends l.early in
    let a = lines_bytes_of part region l.line in
    let c = channel_of_byte (row_bytes_of region y) part (i - a) (less i a (line_bytes_of part region y) l.behind l.before) in
    let b = sum_by (row_bytes_of region y) (take c.channel part) in
    let d = channel_at part c.channel in
    let s = sample_of_byte region y d (i - a - b) is (less (i - a) b (row_bytes_of region y d) c.behind c.before) in
    let at : lines_bytes_of part region (nat_abs (y -ℤ region.y0)) ≡ a = ap (lines_bytes_of part region) rows.2 in
    record {
      channel = c.channel;
      x = s.x;
      y = y;
      byte = s.byte;
      listed = c.listed;
      within = record { left = s.left; right = s.right; top = rows.0; bottom = rows.1 };
      column = s.column;
      line = s.line;
      small = s.small;
      place = ap (λ n. n + b + count_before d.xs region.x0 s.x * bytes_of d.kind + s.byte) at ∙ joined a b (count_before d.xs region.x0 s.x * bytes_of d.kind) s.byte i l.behind c.behind s.place;
    }

-- ---- a buffer that has all of them

some_slice : (o : Option ℕ) → IsSome o → (s : ℕ) × (o ≡ Some s)
some_slice (Some s) h = (s, refl)
some_slice None h = absurd (cc)

pub record Held (f : Frame) (part : List Channel) (plan : Matching) (region : Box2i) (i : ℕ) : Type 0 where
  pub channel : ℕ
  pub at : Byte
  pub in_region : IsInRegion f.window (placements_of f.planes) region at
  pub has_channel : get_or plan.channels at.slice None ≡ Some channel
  pub place : raw_place_of part region channel at.x at.y + at.byte ≡ i

pub held : (f : Frame) (part : List Channel) (plan : Matching) (region : Box2i) (i : ℕ) → IsPlanOf f part plan → IsFull plan → is_inside region f.window ≡ true → IsRegion region → i < raw_size_of part region → Held f part plan region i
held f part plan region i is full within region_is h =
    let r = sample_of_raw part region i region_is h in
    let inside = inside_of region f.window within in
    let s = some_slice (get_or plan.slices r.channel None) (full.each r.channel (omega (arith, r.listed, is.count))) in
    let back = is.channels s.0 r.channel s.1 in
    let ch = channel_of_slice f part plan s.0 r.channel is back in
    let d = channel_at part r.channel in
    let x = placement_at (placements_of f.planes) s.0 in
    record {
      channel = r.channel;
      at = record { slice = s.0; x = r.x; y = r.y; byte = r.byte };
      in_region = record {
        named = record {
          slice = spot_listed f part plan r.channel s.0 is s.1;
          within = record {
            left = omega (arith, ints, inside.left, r.within.left);
            right = omega (arith, ints, inside.right, r.within.right);
            top = omega (arith, ints, inside.top, r.within.top);
            bottom = omega (arith, ints, inside.bottom, r.within.bottom);
          };
          column = ap (λ n. is_multiple n r.x) (sym ch.columns) ∙ r.column;
          line = ap (λ n. is_multiple n r.y) (sym ch.rows) ∙ r.line;
          byte = subst (λ n. r.byte < n) (kind_bytes d.kind x.kind ch.kind) r.small;
        };
        within = r.within;
      };
      has_channel = back;
      place = r.place;
    }

-- what was put is what is read
pub given_back : (f : Frame) (part : List Channel) (plan : Matching) (region : Box2i) (raw old new again : List ℕ) → IsPlanOf f part plan → IsFull plan → is_inside region f.window ≡ true → IsRegion region → length raw ≡ raw_size_of part region
    → IsCopied (IsInRegion f.window (placements_of f.planes) region) (place_of f.window (placements_of f.planes)) (chunk_byte part region raw (placements_of f.planes) plan.channels) old new
    → IsGathered f.window (placements_of f.planes) part region plan.channels new again → again ≡ raw
unfolding chunk_byte
given_back f part plan region raw old new again is full within region_is size p g =
    same_number_lists again raw (g.size ∙ sym size) (λ i h.
    let k = held f part plan region i is full within region_is (subst (λ n. i < n) g.size h) in
    ap (slice_index again) (sym k.place) ∙ g.bytes k.at k.channel k.in_region k.has_channel ∙ p.copied k.at k.in_region
    ∙ ap (λ (o : Option ℕ). byte_of part region raw (placement_at (placements_of f.planes) k.at.slice) o k.at) k.has_channel
    ∙ ap (slice_index raw) k.place)
