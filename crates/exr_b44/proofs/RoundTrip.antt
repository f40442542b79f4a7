-- Unpacking what was packed.
use Rattle.std.proofs.Common.{◌≡◌, ℕ, zero, suc, ◌+◌, ◌-◌, ◌*◌, ◌/◌, ◌%◌, ◌<◌, ◌≤◌, min, inl, inr, Bool, true, false, cond, leb, eqb, ◌&&◌, List, [], ◌∷◌, ◌++◌, length, get_or, take, drop, map, replicate, Ok, refl, sym, ap, subst, ◌∙◌, arith}
use Rattle.std.specs.List.{flat_map, range_with_len, list_all, slice_range, sum_by}
use Rattle.std.proofs.lemmas.Bool.{cases_lt, false≢true, lt-leb, leb-true, and_parts}
use Rattle.std.proofs.lemmas.Nat.{mul-add-lt, mod_below, div_below}
use Rattle.std.proofs.lemmas.List.{append_assoc, take_at, drop_at, take-append-le, drop-append-le, get_or_append_left, get_or-map, get_or-take, get_or-drop, get_or_past, length-append, length-map, length-take-le, length-drop}
use Rattle.std.proofs.lemmas.List.FromFn.{fill_by_all, length-map-range_with_len, get_or-map-range_with_len, get_or-range_with_len}
use Rattle.std.proofs.lemmas.List.Concat.{flat_map-append}
use Rattle.std.proofs.lemmas.List.Sums.{fails_before_first, passes_at_first, sum_by-cons}
use Rattle.exr_base.specs.declared.shape.Box2i.{Box2i}
use Rattle.exr_base.specs.declared.channel.Channel.{Channel}
use Rattle.exr_base.specs.declared.channel.Kind.{Kind}
use Rattle.exr_base.specs.declared.channel.Kind.TheVariants.{Uint, Half, Float}
use Rattle.exr_base.specs.Channel.{bytes_of}
use Rattle.exr_base.specs.Shape.{channel_bytes_of}
use Rattle.exr_planar.specs.Planar.{planar_of, raw_from_planar}
use Rattle.exr_b44.specs.Cell.{ordered, greatest_of, below_of, depths_of, differences_of, fits, all_fit, shift_of, pairs, two_bytes, sixes_of_bytes, cell_of, cell_len, half_of, uncell_of, bytes_of_halves}
use Rattle.exr_b44.specs.Plane.{cells_for, half_in, cell_in, cells_of, cells_len, cell_at, half_at, plane_of}
use Rattle.exr_b44.specs.Block.{columns_of, rows_of, packed_len, unpacked, channel_len, channel_unpacked, channels_len, channels_unpacked, b44_of, packed_of, channel_packed, channels_packed, b44_pack_of, half_kept, kept, channel_kept, channels_kept, kept_of}
use Rattle.exr_b44.proofs.Cells.{flat_cell, long_cell, first_of, halves_by}
use Rattle.exr_b44.proofs.Depths.{greatest_le, below_small, twelve_fits, ordered_range}
use Rattle.exr_b44.proofs.Written.{CellAt, cell_by, long_bytes}
use Rattle.exr_b44.proofs.Taken.{range_add}
use Rattle.exr_b44.proofs.Blocks.{is_whole}

-- a list that is a cell whatever follows it
pub record IsCell (cell : List ℕ) : Type 0 where
  pub some : 3 ≤ length cell
  pub long : cell_len cell ≡ length cell

len_front : (cell rest : List ℕ) → IsCell cell → cell_len (cell ++ rest) ≡ length cell
len_front cell rest is = ap (λ b. cond (leb 52 b) 3 14) (get_or_append_left cell rest 0 2 is.some) ∙ is.long

uncell_front : (cell rest : List ℕ) → IsCell cell → uncell_of (cell ++ rest) ≡ uncell_of cell
uncell_front cell rest is =
    let some = is.some in
    let third : get_or (cell ++ rest) 2 0 ≡ get_or cell 2 0 = get_or_append_left cell rest 0 2 some in
    let a : get_or (cell ++ rest) 0 0 ≡ get_or cell 0 0 = get_or_append_left cell rest 0 0 (omega arith) in
    let b : get_or (cell ++ rest) 1 0 ≡ get_or cell 1 0 = get_or_append_left cell rest 0 1 (omega arith) in
    let first : first_of (cell ++ rest) ≡ first_of cell = λ i. 256 * a i + b i in
    elim (cases_lt (get_or cell 2 0) 52) [
      | inl lt ↦
          let len : cell_len cell ≡ 14 = rw (lt-leb 52 (get_or cell 2 0) lt) refl in
          let whole : length cell ≡ 14 = sym is.long ∙ len in
          let middle : slice_range (cell ++ rest) 2 14 ≡ slice_range cell 2 14 = ap (take 12) (drop-append-le 2 cell rest (omega arith)) ∙ take-append-le 12 (drop 2 cell) rest (omega (arith, length-drop 2 cell)) in
          long_cell (cell ++ rest) (omega arith)
          ∙ (λ i. let sixes = sixes_of_bytes (middle i) in halves_by (first i) (get_or sixes 0 0) (drop 1 sixes))
          ∙ sym (long_cell cell lt)
      | inr le ↦ flat_cell (cell ++ rest) (omega arith) ∙ ap (λ f. replicate 16 (half_of f)) first ∙ sym (flat_cell cell le)
    ]

-- ---- a packed cell is a cell

numbers_low : (halves : List ℕ) → ((k : ℕ) → get_or halves k 0 < 65536) → (k : ℕ) → k < length (map ordered halves) → 1024 ≤ get_or (map ordered halves) k 0
numbers_low halves small k inside =
    let lt : k < length halves = omega (arith, length-map halves ordered) in
    omega (arith, get_or-map ordered halves k 0 0 lt, (ordered_range (get_or halves k 0) (small k)).0)

numbers_high : (halves : List ℕ) → ((k : ℕ) → get_or halves k 0 < 65536) → (k : ℕ) → get_or (map ordered halves) k 0 ≤ 64511
numbers_high halves small k =
    elim (cases_lt k (length halves)) [
      | inl lt ↦ omega (arith, get_or-map ordered halves k 0 0 lt, (ordered_range (get_or halves k 0) (small k)).1)
      | inr past ↦ omega (arith, get_or_past (map ordered halves) k 0 (omega (arith, length-map halves ordered)))
    ]

below_fits : (halves : List ℕ) → ((k : ℕ) → get_or halves k 0 < 65536) → (k : ℕ) → get_or (below_of (map ordered halves)) k 0 < 63488
unfolding below_of
below_fits halves small k = below_small (map ordered halves) (greatest_of (map ordered halves)) (greatest_le (map ordered halves) 64511 (numbers_high halves small)) (numbers_low halves small) k

shift_fits : (below : List ℕ) → ((k : ℕ) → get_or below k 0 < 63488) → (shift_of below < 13) × (all_fit (depths_of below (shift_of below)) ≡ true)
unfolding shift_of
shift_fits below small =
    let p : ℕ → Bool = λ s. all_fit (depths_of below s) in
    let xs = range_with_len 0 16 in
    let at : (k : ℕ) → k < 16 → get_or xs k 0 ≡ k = λ k lt. get_or-range_with_len 0 16 k 0 lt ∙ omega arith in
    let twelve : all_fit (depths_of below 12) ≡ true = twelve_fits below (λ k. omega (arith, small k)) in
    elim (cases_lt 12 (shift_of below)) [
      | inl later ↦ absurd (false≢true (sym (fails_before_first p xs 12 0 later) ∙ twelve))
      | inr found ↦ (omega arith, ap p (sym (at (shift_of below) (omega arith))) ∙ passes_at_first p xs 0 (omega arith))
    ]

first_fits : (depths : List ℕ) → all_fit depths ≡ true → get_or depths 0 0 + 32 - get_or depths 4 0 < 64
unfolding all_fit
first_fits depths fit =
    let here = (and_parts (fits depths (0, 4)) (list_all (fits depths) (drop 1 pairs)) fit).0 in
    let both = and_parts (leb (get_or depths 4 0) (get_or depths 0 0 + 32)) (leb (get_or depths 0 0 + 32) (get_or depths 4 0 + 63)) here in
    let high = leb-true (get_or depths 0 0 + 32) (get_or depths 4 0 + 63) both.1 in
    omega arith

long_is_cell : (halves depths : List ℕ) (shift first : ℕ) → shift < 13 → all_fit depths ≡ true → IsCell (long_bytes halves shift first (32 ∷ differences_of depths))
unfolding differences_of
long_is_cell halves depths shift first few fit =
    let d = first_fits depths fit in
    record { some = omega arith; long = rw (lt-leb 52 (shift * 4 + (get_or depths 0 0 + 32 - get_or depths 4 0) / 16) (omega arith)) refl }

pub cell_of_is : (halves : List ℕ) (flat : Bool) → ((k : ℕ) → get_or halves k 0 < 65536) → IsCell (cell_of halves flat)
cell_of_is halves flat small =
    let below = below_of (map ordered halves) in
    let shift = shift_of below in
    let depths = depths_of below shift in
    let both = 32 ∷ differences_of depths in
    let at : CellAt halves shift (get_or depths 0 0) both = record { shift_is = refl; first_is = refl; both_is = refl } in
    let found = shift_fits below (below_fits halves small) in
    subst IsCell (sym (cell_by halves flat shift (get_or depths 0 0) both at))
    (by_level (flat && list_all (λ d. eqb d 32) both) (get_or (map ordered halves) 0 0) (long_bytes halves shift (get_or depths 0 0) both) (long_is_cell halves depths shift (get_or depths 0 0) found.0 found.1))
  where
    by_level : (level : Bool) (number : ℕ) (long : List ℕ) → IsCell long → IsCell (cond level (two_bytes number ++ 252 ∷ []) long)
    by_level true number long is = record { some = omega arith; long = refl }
    by_level false number long is = is

-- ---- cells one after the other

cells_of_len : (f : ℕ → List ℕ) → ((n : ℕ) → IsCell (f n)) → (a n m : ℕ) (rest : List ℕ) → cells_len n (flat_map f (range_with_len a (n + m)) ++ rest) ≡ length (flat_map f (range_with_len a n))
unfolding cells_len
cells_of_len f cells a zero m rest = refl
cells_of_len f cells a (suc n) m rest =
    let e : suc n + m ≡ suc (n + m) = omega arith in
    let later = flat_map f (range_with_len (a + 1) (n + m)) ++ rest in
    let z : flat_map f (range_with_len a (suc n + m)) ++ rest ≡ f a ++ later = ap (λ k. flat_map f (range_with_len a k) ++ rest) e ∙ append_assoc (f a) (flat_map f (range_with_len (a + 1) (n + m))) rest in
    let len : cell_len (f a ++ later) ≡ length (f a) = len_front (f a) later (cells a) in
    ap (cells_len (suc n)) z
    ∙ (λ i. len i + cells_len n (drop (len i) (f a ++ later)))
    ∙ ap (λ l. length (f a) + cells_len n l) (drop_at (f a) later (length (f a)) refl)
    ∙ ap (λ k. length (f a) + k) (cells_of_len f cells (a + 1) n m rest)
    ∙ sym (length-append (f a) (flat_map f (range_with_len (a + 1) n)))

cell_back : (f : ℕ → List ℕ) → ((n : ℕ) → IsCell (f n)) → (k n : ℕ) (rest : List ℕ) → k < n → cell_at (flat_map f (range_with_len 0 n) ++ rest) k ≡ uncell_of (f k)
cell_back f cells k n rest lt =
    let m = n - k - 1 in
    let count : n ≡ k + suc m = omega arith in
    let zero_plus : 0 + k ≡ k = omega arith in
    let front = flat_map f (range_with_len 0 k) in
    let later = flat_map f (range_with_len (k + 1) m) ++ rest in
    let z : flat_map f (range_with_len 0 n) ++ rest ≡ front ++ (f k ++ later) =
    ap (λ c. flat_map f (range_with_len 0 c) ++ rest) count
    ∙ ap (λ l. flat_map f l ++ rest) (range_add 0 k (suc m) ∙ ap (λ a. range_with_len 0 k ++ range_with_len a (suc m)) zero_plus)
    ∙ ap (λ l. l ++ rest) (flat_map-append f (range_with_len 0 k) (range_with_len k (suc m)))
    ∙ append_assoc front (f k ++ flat_map f (range_with_len (k + 1) m)) rest
    ∙ ap (λ l. front ++ l) (append_assoc (f k) (flat_map f (range_with_len (k + 1) m)) rest)
    in
    let len : cells_len k (flat_map f (range_with_len 0 n) ++ rest) ≡ length front = ap (λ c. cells_len k (flat_map f (range_with_len 0 c) ++ rest)) count ∙ cells_of_len f cells 0 k (suc m) rest in
    (λ i. uncell_of (drop (len i) (z i))) ∙ ap uncell_of (drop_at front (f k ++ later) (length front) refl) ∙ uncell_front (f k) later (cells k)

-- ---- the samples of a channel

map_same : (f g : ℕ → ℕ) (n : ℕ) → ((k : ℕ) → k < n → f k ≡ g k) → map f (range_with_len 0 n) ≡ map g (range_with_len 0 n)
map_same f g n same = fill_by_all g (map f (range_with_len 0 n)) n 0 (length-map-range_with_len f 0 n) (λ k lt. get_or-map-range_with_len f 0 n k k 0 lt (omega arith) ∙ same k lt)

halves_small : (nx ny : ℕ) (rows : List ℕ) (n : ℕ) → ((k : ℕ) → get_or rows k 0 < 256) → (k : ℕ) → get_or (cell_in nx ny rows n) k 0 < 65536
halves_small nx ny rows n small k = each k (range_with_len 0 16)
  where
    each : (k : ℕ) (xs : List ℕ) → get_or (map (λ j. half_in rows nx (min (4 * (n % cells_for nx) + j % 4) (nx - 1)) (min (4 * (n / cells_for nx) + j / 4) (ny - 1))) xs) k 0 < 65536
    each k [] = omega arith
    each zero (j ∷ xs) =
        let at = 2 * (min (4 * (n / cells_for nx) + j / 4) (ny - 1) * nx + min (4 * (n % cells_for nx) + j % 4) (nx - 1)) in
        omega (arith, small at, small (at + 1))
    each (suc k) (j ∷ xs) = each k xs

some_place : (nx ny n : ℕ) → n < nx * ny → 0 < nx
some_place nx ny n lt = elim (cases_lt 0 nx) [ inl some ↦ some | inr none ↦ let e : nx ≡ 0 = omega arith in absurd (omega (arith, ap (λ m. m * ny) e)) ]

plane_back : (nx ny : ℕ) (flat : Bool) (rows rest : List ℕ) → ((k : ℕ) → get_or rows k 0 < 256) → plane_of nx ny (cells_of nx ny flat rows ++ rest) ≡ kept Half nx ny flat rows
unfolding plane_of cells_of
plane_back nx ny flat rows rest small =
    let f : ℕ → List ℕ = λ n. cell_of (cell_in nx ny rows n) flat in
    let across = cells_for nx in
    let down = cells_for ny in
    let cells : (n : ℕ) → IsCell (f n) = λ n. cell_of_is (cell_in nx ny rows n) flat (halves_small nx ny rows n small) in
    let z = flat_map f (range_with_len 0 (across * down)) ++ rest in
    ap bytes_of_halves (map_same (λ n. half_at nx z (n % nx) (n / nx)) (λ n. half_kept nx ny flat rows (n % nx) (n / nx)) (nx * ny) (λ n lt.
    let some = some_place nx ny n lt in
    let x = n % nx in
    let y = n / nx in
    let right : x < nx = mod_below n nx some in
    let below : y < ny = div_below n nx ny some (omega arith) in
    let number = y / 4 * across + x / 4 in
    let inside : number < across * down = omega (arith, mul-add-lt (y / 4) across (x / 4) down (omega arith) (omega arith)) in
    ap (λ cell. get_or cell (y % 4 * 4 + x % 4) 0) (cell_back f cells number (across * down) rest inside)))

len_back : (nx ny : ℕ) (flat : Bool) (rows rest : List ℕ) → ((k : ℕ) → get_or rows k 0 < 256) → cells_len (cells_for nx * cells_for ny) (cells_of nx ny flat rows ++ rest) ≡ length (cells_of nx ny flat rows)
unfolding cells_of
len_back nx ny flat rows rest small =
    let f : ℕ → List ℕ = λ n. cell_of (cell_in nx ny rows n) flat in
    let cells : (n : ℕ) → IsCell (f n) = λ n. cell_of_is (cell_in nx ny rows n) flat (halves_small nx ny rows n small) in
    let count = cells_for nx * cells_for ny in
    let e : count ≡ count + 0 = omega arith in
    ap (λ c. cells_len count (flat_map f (range_with_len 0 c) ++ rest)) e ∙ cells_of_len f cells 0 count 0 rest

kind_len : (kind : Kind) (columns rows : ℕ) (flat : Bool) (samples rest : List ℕ) → length samples ≡ columns * rows * bytes_of kind → ((k : ℕ) → get_or samples k 0 < 256)
    → packed_len kind columns rows (packed_of kind columns rows flat samples ++ rest) ≡ length (packed_of kind columns rows flat samples)
kind_len Uint columns rows flat samples rest long small = sym long
kind_len Half columns rows flat samples rest long small = len_back columns rows flat samples rest small
kind_len Float columns rows flat samples rest long small = sym long

kind_back : (kind : Kind) (columns rows : ℕ) (flat : Bool) (samples rest : List ℕ) → length samples ≡ columns * rows * bytes_of kind → ((k : ℕ) → get_or samples k 0 < 256)
    → unpacked kind columns rows (packed_of kind columns rows flat samples ++ rest) ≡ kept kind columns rows flat samples
kind_back Uint columns rows flat samples rest long small = take_at samples rest (columns * rows * 4) long
kind_back Half columns rows flat samples rest long small = plane_back columns rows flat samples rest small
kind_back Float columns rows flat samples rest long small = take_at samples rest (columns * rows * 4) long

-- ---- channels

channel_back : (region : Box2i) (flat : Bool) (c : Channel) (samples rest : List ℕ) → length samples ≡ channel_bytes_of region c → ((k : ℕ) → get_or samples k 0 < 256)
    → (channel_len region c (channel_packed region flat c samples ++ rest) ≡ length (channel_packed region flat c samples)) × (channel_unpacked region c (channel_packed region flat c samples ++ rest) ≡ channel_kept region flat c samples)
unfolding channel_len channel_unpacked channel_packed channel_kept
channel_back region flat c samples rest long small =
    (kind_len c.kind (columns_of region c) (rows_of region c) flat samples rest long small, kind_back c.kind (columns_of region c) (rows_of region c) flat samples rest long small)

pub channels_back : (region : Box2i) (flat : Bool) (channels : List Channel) (planar : List ℕ) → sum_by (channel_bytes_of region) channels ≤ length planar → ((k : ℕ) → get_or planar k 0 < 256)
    → (channels_len region channels (channels_packed region flat channels planar) ≡ length (channels_packed region flat channels planar)) × (channels_unpacked region channels (channels_packed region flat channels planar) ≡ channels_kept region flat channels planar)
unfolding channels_len channels_unpacked channels_packed channels_kept
channels_back region flat [] planar long small = (refl, refl)
channels_back region flat (c ∷ channels) planar long small =
    let size = channel_bytes_of region c in
    let sizes = sum_by-cons (channel_bytes_of region) c channels in
    let samples = take size planar in
    let left = drop size planar in
    let packed = channel_packed region flat c samples in
    let later = channels_packed region flat channels left in
    let here = channel_back region flat c samples later (length-take-le size planar (omega arith)) (λ k. elim (cases_lt k size) [
      | inl lt ↦ subst (λ b. b < 256) (sym (get_or-take size planar k 0 lt)) (small k)
      | inr past ↦ subst (λ b. b < 256) (sym (get_or_past samples k 0 (omega (arith, length-take-le size planar (omega arith))))) (omega arith)
    ]) in
    let rest = channels_back region flat channels left (omega (arith, length-drop size planar)) (λ k. subst (λ b. b < 256) (sym (get_or-drop size planar k 0)) (small (size + k))) in
    let gone : drop (channel_len region c (packed ++ later)) (packed ++ later) ≡ later = ap (λ n. drop n (packed ++ later)) here.0 ∙ drop_at packed later (length packed) refl in (
      (λ i. here.0 i + channels_len region channels (gone i)) ∙ ap (λ n. length packed + n) rest.0 ∙ sym (length-append packed later),
      (λ i. here.1 i ++ channels_unpacked region channels (gone i)) ∙ ap (λ l. channel_kept region flat c samples ++ l) rest.1,
    )

pub b44_back : (channels : List Channel) (region : Box2i) (flat : Bool) (raw : List ℕ) → sum_by (channel_bytes_of region) channels ≤ length (planar_of channels region raw) → ((k : ℕ) → get_or (planar_of channels region raw) k 0 < 256)
    → b44_of channels region (b44_pack_of channels region flat raw) ≡ Ok (kept_of channels region flat raw)
unfolding b44_pack_of kept_of
b44_back channels region flat raw long small =
    let planar = planar_of channels region raw in
    let back = channels_back region flat channels planar long small in
    is_whole channels region (channels_packed region flat channels planar) (channels_kept region flat channels planar) (raw_from_planar channels region (channels_kept region flat channels planar)) back.0 (sym back.1) refl
