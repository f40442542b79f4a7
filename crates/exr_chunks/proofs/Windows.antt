-- The chunks that a window meets, from its corners.
use Rattle.std.proofs.Common.{◌≡◌, ℕ, zero, suc, ◌+◌, ◌-◌, ◌*◌, ◌/◌, ◌%◌, ◌^◌, ◌<◌, ◌≤◌, Bool, true, false, cond, ◌&&◌, List, [], ◌∷◌, ◌++◌, refl, sym, ap, ◌∙◌, arith, ℤ, pos, ◌+ℤ◌, ◌≤ℤ◌, mul_comm}
use Rattle.std.specs.Prelude.{int_le}
use Rattle.std.specs.Int.{int_min, int_max}
use Rattle.std.proofs.Math.Nat.{div-mul-le_self}
use Rattle.std.proofs.lemmas.Nat.{mul-le, div-mul-add, mod-mul-add, le-div, div_below, div-add-mod', mul-add-lt, mod_below}
use Rattle.std.proofs.lemmas.List.{append-nil}
use Rattle.std.proofs.lemmas.Int.{ints, clamps}
use Rattle.exr_base.specs.declared.shape.Box2i.{Box2i}
use Rattle.exr_base.specs.Sampling.{span_of}
use Rattle.exr_base.specs.Shape.{IsSide}
use Rattle.exr_base.proofs.Logic.{true_le}
use Rattle.exr_chunks.specs.declared.part.Part.{Part}
use Rattle.exr_chunks.specs.declared.window.Run.{Run}
use Rattle.exr_chunks.specs.Heads.{Header, pieces, chunk_count_of}
use Rattle.exr_chunks.specs.Part.{header_of, IsPart}
use Rattle.exr_chunks.specs.Region.{start_of, end_of, region_of}
use Rattle.exr_chunks.specs.Window.{sides_meet, boxes_meet, meeting_among, piece_meets, IsRun, AreColumns, IsRow, chunks_of_window}
use Rattle.exr_chunks.proofs.Pieces.{side_to, place_from, place_before}
use Rattle.exr_chunks.proofs.Indexes.{piece_of}
use Rattle.exr_chunks.proofs.Parts.{product, down_here, region_is}

-- indexes that do not meet the window add nothing
pub none_more : (h : Header) (w : Box2i) (a n : ℕ) → ((k : ℕ) → a ≤ k → k < a + n → boxes_meet (region_of h k) w ≡ false) → meeting_among h w (a + n) ≡ meeting_among h w a
unfolding meeting_among
none_more h w a zero misses =
    let e : a + zero ≡ a = omega arith in
    ap (meeting_among h w) e
none_more h w a (suc n) misses =
    let e : a + suc n ≡ suc (a + n) = omega arith in
    let here : boxes_meet (region_of h (a + n)) w ≡ false = misses (a + n) (omega arith) (omega arith) in
    let before = none_more h w a n (λ k low high. misses k low (omega (arith, high))) in
    ap (meeting_among h w) e ∙ ap (λ (b : Bool). meeting_among h w (a + n) ++ cond b ((a + n) ∷ []) []) here ∙ append-nil (meeting_among h w (a + n)) ∙ before

none_to : (h : Header) (w : Box2i) (a b : ℕ) → a ≤ b → ((k : ℕ) → a ≤ k → k < b → boxes_meet (region_of h k) w ≡ false) → meeting_among h w b ≡ meeting_among h w a
none_to h w a b low misses =
    let e : b ≡ a + (b - a) = omega (arith, low) in
    ap (meeting_among h w) e ∙ none_more h w a (b - a) (λ k from to. misses k from (omega (arith, to, low)))

-- one that does is added
pub one_meets : (h : Header) (w : Box2i) (k : ℕ) → boxes_meet (region_of h k) w ≡ true → meeting_among h w (k + 1) ≡ meeting_among h w k ++ k ∷ []
unfolding meeting_among
one_meets h w k here =
    let e : k + 1 ≡ suc k = omega arith in
    ap (meeting_among h w) e ∙ ap (λ (b : Bool). meeting_among h w k ++ cond b (k ∷ []) []) here

no_chunks : (h : Header) (w : Box2i) → meeting_among h w 0 ≡ []
unfolding meeting_among
no_chunks h w = refl

-- ---- one side

-- a window from `low` to `high`, in places from the side's first one on
pub record IsCutSide (from to wfrom wto : ℤ) (low high : ℕ) : Type 0 where
  pub low_is : from +ℤ pos low ≡ int_max from wfrom
  pub high_is : from +ℤ pos high ≡ int_min to wto
  pub ordered : low ≤ high

le_false : (a b : ℤ) → (b +ℤ pos 1) ≤ℤ a → int_le a b ≡ false
le_false a b h = grind (arith, ints)

meets_here : (from to wfrom wto : ℤ) (low high s e : ℕ) → IsCutSide from to wfrom wto low high → s ≤ high → low ≤ e → s ≤ e → sides_meet (from +ℤ pos s) (int_min (from +ℤ pos e) to) wfrom wto ≡ true
meets_here from to wfrom wto low high s e side sh le se =
    true_le (int_max (from +ℤ pos s) wfrom) (int_min (int_min (from +ℤ pos e) to) wto) (omega (arith, ints, clamps, side.low_is, side.high_is, side.ordered, sh, le, se))

misses_below : (from to wfrom wto : ℤ) (low high s e : ℕ) → IsCutSide from to wfrom wto low high → e < low → sides_meet (from +ℤ pos s) (int_min (from +ℤ pos e) to) wfrom wto ≡ false
misses_below from to wfrom wto low high s e side h =
    le_false (int_max (from +ℤ pos s) wfrom) (int_min (int_min (from +ℤ pos e) to) wto) (omega (arith, ints, clamps, side.low_is, side.high_is, side.ordered, h))

misses_above : (from to wfrom wto : ℤ) (low high s e : ℕ) → IsCutSide from to wfrom wto low high → high < s → sides_meet (from +ℤ pos s) (int_min (from +ℤ pos e) to) wfrom wto ≡ false
misses_above from to wfrom wto low high s e side h =
    le_false (int_max (from +ℤ pos s) wfrom) (int_min (int_min (from +ℤ pos e) to) wto) (omega (arith, ints, clamps, side.low_is, side.high_is, side.ordered, h))

misses_all : (from to wfrom wto : ℤ) (s e : ℕ) → (int_min to wto +ℤ pos 1) ≤ℤ int_max from wfrom → sides_meet (from +ℤ pos s) (int_min (from +ℤ pos e) to) wfrom wto ≡ false
misses_all from to wfrom wto s e h = le_false (int_max (from +ℤ pos s) wfrom) (int_min (int_min (from +ℤ pos e) to) wto) (omega (arith, ints, clamps, h))

pub empty_run : (from to : ℤ) (size : ℕ) (wfrom wto : ℤ) → (int_min to wto +ℤ pos 1) ≤ℤ int_max from wfrom → IsRun from to size wfrom wto (record { first = 0; behind = 0 })
empty_run from to size wfrom wto h = record {
  ordered = omega arith;
  within = omega arith;
  met = λ k low high. absurd (omega (arith, high));
  before = λ k low. absurd (omega (arith, low));
  behind_it = λ k high. misses_all from to wfrom wto (k * size) (k * size + size - 1) h;
}

-- the place `n` stands in piece `n / size`
piece_low : (n size k : ℕ) → 1 ≤ size → k ≤ n / size → k * size ≤ n
piece_low n size k some h = omega (arith, mul-le k size (n / size) size h (omega arith), div-mul-le_self n size)

piece_high : (n size k : ℕ) → 1 ≤ size → n / size < k → n < k * size
piece_high n size k some h = omega (arith, mul-le (n / size + 1) size k size (omega (arith, h)) (omega arith), div-add-mod' n size, mod_below n size some)

pub a_run : (from to : ℤ) (size : ℕ) (wfrom wto : ℤ) (low high : ℕ) → 1 ≤ size → high < span_of from to → IsCutSide from to wfrom wto low high → IsRun from to size wfrom wto (record { first = low / size; behind = high / size + 1 })
a_run from to size wfrom wto low high some inside side =
    let here = piece_low high size (high / size) some (omega arith) in
    let bound : high / size < pieces size (span_of from to) = piece_of size (span_of from to) (high / size) some (omega (arith, here, inside)) in
    let begins : low / size * size ≤ low = div-mul-le_self low size in
    let first : low / size ≤ high / size = le-div (low / size) high size some (omega (arith, begins, side.ordered)) in
    record {
      ordered = omega (arith, first);
      within = omega (arith, bound);
      met = λ k from_here to_here.
          let a = piece_low high size k some (omega (arith, to_here)) in
          let b = piece_high low size (k + 1) some (omega (arith, from_here)) in
          meets_here from to wfrom wto low high (k * size) (k * size + size - 1) side a (omega (arith, b, some)) (omega (arith, some));
      before = λ k h.
          let b = piece_low low size (k + 1) some (omega (arith, h)) in
          misses_below from to wfrom wto low high (k * size) (k * size + size - 1) side (omega (arith, b, some));
      behind_it = λ k h.
          let a = piece_high high size k some (omega (arith, h)) in
          misses_above from to wfrom wto low high (k * size) (k * size + size - 1) side a;
    }

pub run_is : (from to : ℤ) (size : ℕ) (wfrom wto low high : ℤ) (a b : ℕ) → IsSide from to → 1 ≤ size → low ≡ int_max from wfrom → high ≡ int_min to wto → low ≤ℤ high → a ≡ span_of from low → b ≡ span_of from high
    → IsRun from to size wfrom wto (record { first = (a - 1) / size; behind = (b - 1) / size + 1 })
run_is from to size wfrom wto low high a b side some is_low is_high ordered ea eb =
    let from_low : from ≤ℤ low = omega (arith, ints, clamps, is_low) in
    let from_high : from ≤ℤ high = omega (arith, ints, from_low, ordered) in
    let high_to : high ≤ℤ to = omega (arith, ints, clamps, is_high) in
    let pa = place_from from low a from_low ea in
    let pb = place_from from high b from_high eb in
    let inside = place_before from to high b side from_high high_to eb in
    a_run from to size wfrom wto (a - 1) (b - 1) some inside (record { low_is = sym pa ∙ is_low; high_is = sym pb ∙ is_high; ordered = omega (arith, ints, pa, pb, ordered) })

-- the ends of the cut window
pub low_side : (from to wfrom wto low high : ℤ) → IsSide from to → low ≡ int_max from wfrom → high ≡ int_min to wto → low ≤ℤ high → IsSide from low
low_side from to wfrom wto low high side is_low is_high ordered =
    side_to from to low side (omega (arith, ints, clamps, is_low)) (omega (arith, ints, clamps, is_high, ordered))

pub high_side : (from to wfrom wto low high : ℤ) → IsSide from to → low ≡ int_max from wfrom → high ≡ int_min to wto → low ≤ℤ high → IsSide from high
high_side from to wfrom wto low high side is_low is_high ordered =
    side_to from to high side (omega (arith, ints, clamps, is_low, ordered)) (omega (arith, ints, clamps, is_high))

-- ---- rows of chunks

pub across_here : (p : Part) → IsPart p → p.across ≡ pieces p.columns (span_of p.window.x0 p.window.x1)
unfolding header_of
across_here p part = part.across ∙ ap (λ n. pieces n (span_of p.window.x0 p.window.x1)) (sym part.columns)

column_meets : Part → Box2i → ℕ → Bool
column_meets p w k = piece_meets p.window.x0 p.window.x1 p.columns w.x0 w.x1 k

row_meets : Part → Box2i → ℕ → Bool
row_meets p w k = piece_meets p.window.y0 p.window.y1 p.rows w.y0 w.y1 k

meets_by : (p : Part) (w : Box2i) (i : ℕ) → IsPart p → boxes_meet (region_of (header_of p) i) w ≡ (column_meets p w (i % p.across) && row_meets p w (i / p.across))
unfolding column_meets row_meets
meets_by p w i part =
    let is = region_is p i (start_of p.window.x0 p.columns (i % p.across)) (start_of p.window.y0 p.rows (i / p.across)) (end_of p.window.x0 p.window.x1 p.columns (i % p.across)) (end_of p.window.y0 p.window.y1 p.rows (i / p.across)) part (record { left = refl; top = refl; right = refl; bottom = refl }) in
    ap (λ (b : Box2i). boxes_meet b w) (sym is)

meets_at : (p : Part) (w : Box2i) (row column : ℕ) → IsPart p → column < p.across → boxes_meet (region_of (header_of p) (row * p.across + column)) w ≡ (column_meets p w column && row_meets p w row)
meets_at p w row column part left =
    meets_by p w (row * p.across + column) part
    ∙ ap (λ n. column_meets p w n && row_meets p w ((row * p.across + column) / p.across)) (mod-mul-add row p.across column left)
    ∙ ap (λ n. column_meets p w column && row_meets p w n) (div-mul-add row p.across column left)

and_false : (a b : Bool) → b ≡ false → (a && b) ≡ false
and_false false b h = refl
and_false true b h = h

-- columns of a row that the window does not meet
off_columns : (p : Part) (w : Box2i) (row a b : ℕ) → IsPart p → a ≤ b → b ≤ p.across → ((k : ℕ) → a ≤ k → k < b → column_meets p w k ≡ false) → meeting_among (header_of p) w (row * p.across + b) ≡ meeting_among (header_of p) w (row * p.across + a)
off_columns p w row a b part ab b_in off = none_to (header_of p) w (row * p.across + a) (row * p.across + b) (omega (arith, ab)) (λ k low high.
    let column = k - row * p.across in
    let e : k ≡ row * p.across + column = omega (arith, low) in
    let left : column < p.across = omega (arith, low, high, b_in) in
    ap (λ n. boxes_meet (region_of (header_of p) n) w) e ∙ meets_at p w row column part left ∙ ap (λ t. t && row_meets p w row) (off column (omega (arith, low)) (omega (arith, low, high))))

positive : (n b k : ℕ) → k < b * n → 0 < n
positive zero b k h = absurd (omega (arith, h))
positive (suc n) b k h = omega arith

by_le : {P : Type 0} (a b : ℕ) → (a ≤ b → P) → (b < a → P) → P
by_le zero b low high = low (omega arith)
by_le (suc a) zero low high = high (omega arith)
by_le (suc a) (suc b) low high = by_le a b (λ h. low (omega (arith, h))) (λ h. high (omega (arith, h)))

-- rows that the window does not meet
off_rows : (p : Part) (w : Box2i) (a b : ℕ) → IsPart p → a ≤ b → ((k : ℕ) → a ≤ k → k < b → row_meets p w k ≡ false) → meeting_among (header_of p) w (b * p.across) ≡ meeting_among (header_of p) w (a * p.across)
off_rows p w a b part ab off = none_to (header_of p) w (a * p.across) (b * p.across) (mul-le a p.across b p.across ab (omega arith)) (λ k low high.
    let some : 0 < p.across = positive p.across b k high in
    let above : k / p.across < b = div_below k p.across b some high in
    let below : a ≤ k / p.across = le-div a k p.across some low in
    meets_by p w k part ∙ and_false (column_meets p w (k % p.across)) (row_meets p w (k / p.across)) (off (k / p.across) below above))

pub row_begins : (p : Part) (w : Box2i) (r : Run) (row : ℕ) (out : List ℕ) → IsPart p → AreColumns p w r → out ≡ meeting_among (header_of p) w (row * p.across) → out ≡ meeting_among (header_of p) w (row * p.across + r.first)
unfolding column_meets
row_begins p w r row out part columns e =
    let zero_more : row * p.across + 0 ≡ row * p.across = omega arith in
    let here = across_here p part in
    let within : r.behind ≤ p.across = omega (arith, here, columns.within) in
    e ∙ sym (off_columns p w row 0 r.first part (omega arith) (omega (arith, within, columns.ordered)) (λ k low high. columns.before k high) ∙ ap (meeting_among (header_of p) w) zero_more)

pub row_goes_on : (p : Part) (w : Box2i) (r : Run) (row column : ℕ) (out : List ℕ) → IsPart p → AreColumns p w r → IsRow p w row → r.first ≤ column → column < r.behind
    → out ≡ meeting_among (header_of p) w (row * p.across + column) → out ++ (row * p.across + column) ∷ [] ≡ meeting_among (header_of p) w (row * p.across + (column + 1))
unfolding column_meets row_meets
row_goes_on p w r row column out part columns met low high e =
    let here = across_here p part in
    let left : column < p.across = omega (arith, here, columns.within, high) in
    let next : row * p.across + (column + 1) ≡ row * p.across + column + 1 = omega arith in
    let both : boxes_meet (region_of (header_of p) (row * p.across + column)) w ≡ true = meets_at p w row column part left ∙ ap (λ t. t && row_meets p w row) (columns.met column low high) ∙ met.met in
    ap (λ xs. xs ++ (row * p.across + column) ∷ []) e ∙ sym (ap (meeting_among (header_of p) w) next ∙ one_meets (header_of p) w (row * p.across + column) both)

pub row_ends : (p : Part) (w : Box2i) (r : Run) (row : ℕ) (out : List ℕ) → IsPart p → AreColumns p w r → out ≡ meeting_among (header_of p) w (row * p.across + r.behind) → out ≡ meeting_among (header_of p) w ((row + 1) * p.across)
unfolding column_meets
row_ends p w r row out part columns e =
    let here = across_here p part in
    let within : r.behind ≤ p.across = omega (arith, here, columns.within) in
    let next : (row + 1) * p.across ≡ row * p.across + p.across = omega arith in
    e ∙ sym (ap (meeting_among (header_of p) w) next ∙ off_columns p w row r.behind p.across part within (omega arith) (λ k low high. columns.behind_it k low))

-- an index of a row is small
pub row_small : (p : Part) (row : ℕ) → IsPart p → row < p.down → row * p.across ≤ 2 ^ 20
row_small p row part above =
    let count = product p part in
    let low = mul-le row p.across p.down p.across (omega (arith, above)) (omega arith) in
    omega (arith, low, count, part.few, mul_comm p.down p.across)

pub index_small : (p : Part) (row column : ℕ) → IsPart p → row < p.down → column < p.across → row * p.across + column < 2 ^ 20
index_small p row column part above left =
    let count = product p part in
    let low = mul-add-lt row p.across column p.down above left in
    omega (arith, low, count, part.few)

-- ---- all chunks

count_here : (p : Part) → IsPart p → chunk_count_of (header_of p) ≡ p.down * p.across
count_here p part = sym part.count ∙ product p part ∙ mul_comm p.across p.down

pub all_columns_off : (p : Part) (w : Box2i) (r : Run) → IsPart p → AreColumns p w r → r.behind ≤ r.first → [] ≡ chunks_of_window (header_of p) w
unfolding column_meets
all_columns_off p w r part columns none =
    sym (none_to (header_of p) w 0 (chunk_count_of (header_of p)) (omega arith) (λ k low high.
    let off : column_meets p w (k % p.across) ≡ false = by_le r.first (k % p.across) (λ le. columns.behind_it (k % p.across) (omega (arith, le, none))) (λ lt. columns.before (k % p.across) lt) in
    meets_by p w k part ∙ ap (λ t. t && row_meets p w (k / p.across)) off) ∙ no_chunks (header_of p) w)

pub rows_begin : (p : Part) (w : Box2i) (r : Run) → IsPart p → IsRun p.window.y0 p.window.y1 p.rows w.y0 w.y1 r → [] ≡ meeting_among (header_of p) w (r.first * p.across)
unfolding row_meets
rows_begin p w r part rows =
    let zero_rows : 0 * p.across ≡ 0 = omega arith in
    sym (off_rows p w 0 r.first part (omega arith) (λ k low high. rows.before k high) ∙ ap (meeting_among (header_of p) w) zero_rows ∙ no_chunks (header_of p) w)

pub rows_end : (p : Part) (w : Box2i) (r : Run) (out : List ℕ) → IsPart p → IsRun p.window.y0 p.window.y1 p.rows w.y0 w.y1 r → out ≡ meeting_among (header_of p) w (r.behind * p.across) → out ≡ chunks_of_window (header_of p) w
unfolding row_meets
rows_end p w r out part rows e =
    let within : r.behind ≤ p.down = omega (arith, down_here p part, rows.within) in
    e ∙ sym (ap (meeting_among (header_of p) w) (count_here p part) ∙ off_rows p w r.behind p.down part within (λ k low high. rows.behind_it k low))

pub a_row : (p : Part) (w : Box2i) (r : Run) (row : ℕ) → IsPart p → IsRun p.window.y0 p.window.y1 p.rows w.y0 w.y1 r → r.first ≤ row → row < r.behind → IsRow p w row
a_row p w r row part rows low high = record { within = omega (arith, down_here p part, rows.within, high); met = rows.met row low high }

pub columns_side : (p : Part) → IsPart p → IsSide p.window.x0 p.window.x1
unfolding header_of
columns_side p part = part.picture.shape.within.columns
