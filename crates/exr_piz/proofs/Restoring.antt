-- Packing undone: the wavelet of each plane, ranks, and the bytes of words.
use Rattle.std.proofs.Common.{◌≡◌, ℕ, zero, suc, ◌+◌, ◌-◌, ◌*◌, ◌/◌, ◌%◌, ◌^◌, ◌<◌, ◌≤◌, inl, inr, Bool, true, false, ◌&&◌, ◌||◌, eqb, List, [], ◌∷◌, ◌++◌, length, take, drop, get_or, map, reverse, refl, sym, ap, ap₂, ◌∙◌, arith, zero-add}
use Rattle.std.specs.Int.{w16, to_le_bytes, from_le_bytes}
use Rattle.std.specs.List.{range_with_len, sum_by}
use Rattle.std.proofs.Math.Nat.{add-mul-div_right, div-eq_of_lt, zero-div}
use Rattle.std.proofs.Math.Seq.{take-add}
use Rattle.std.proofs.lemmas.Bool.{eq-eqb, eqb-true, le-leb, lt-leb, cases_lt}
use Rattle.std.proofs.lemmas.Nat.{div-mul-add, mod-mul-add, mod_below, le_bytes_2}
use Rattle.std.proofs.lemmas.List.{nil_from_length, take_all, take_at, drop_at, take-append-drop, length-take, length-drop, length-map, get_or-map, get_or-take, get_or-drop, get_or_past}
use Rattle.std.proofs.lemmas.List.FromFn.{get_or-map-range_with_len, map-range_with_len_more}
use Rattle.std.proofs.lemmas.List.Folds.{list_any_at}
use Rattle.std.proofs.lemmas.List.Sums.{prefix_len_passes, sum_by-cons}
use Rattle.std.proofs.lemmas.Grind.{same_number_lists}
use Rattle.exr_base.specs.declared.shape.Box2i.{Box2i}
use Rattle.exr_base.specs.declared.channel.Channel.{Channel}
use Rattle.exr_base.specs.declared.channel.Kind.{Kind}
use Rattle.exr_base.specs.declared.channel.Kind.TheVariants.{Uint, Half, Float}
use Rattle.exr_base.specs.Channel.{bytes_of}
use Rattle.exr_wavelet.specs.Level.{Matrix}
use Rattle.exr_wavelet.specs.Wave.{wave_of, unwave_of}
use Rattle.exr_wavelet.specs.Places.{words_of}
use Rattle.exr_wavelet.proofs.Waves.{unwave_of-wave_of}
use Rattle.exr_piz.specs.Values.{passing_below, occurs, is_marked, is_present, values_of, is_used, is_set, map_byte, map_bytes, first_byte_of, last_byte_of, stored_map_of, rank_of, greatest_rank_of}
use Rattle.exr_piz.specs.Words.{words_from, bytes_from}
use Rattle.exr_piz.specs.Planes.{columns_of, lines_of, sample_words_of, channel_words_of, planes_by, channels_by}
use Rattle.exr_piz.proofs.Passing.{length-passing, passing-same, passing-at_rank, rank-below}
use Rattle.exr_piz.proofs.Numbers.{test-number_with}
use Rattle.exr_piz.proofs.Mapping.{map_at, length-map_bytes, turned_at, used_by_bit}
use Rattle.exr_piz.proofs.Spelling.{bytes_none, bytes_push}
use Rattle.exr_piz.proofs.Turning.{place_parts, place_plane, place_within, place_there, length-planes_by, channels_by-none, channels_by-cons}

-- ---- the wavelet

plane_at : (turn : ℕ → ℕ → Matrix → Matrix) (nx ny step : ℕ) (words : List ℕ) (k : ℕ) → k < nx * ny * step → get_or (planes_by turn nx ny step words) k 0 ≡ turn nx ny (words_of words (k % step) nx step) (k / step % nx) (k / step / nx)
unfolding planes_by
plane_at turn nx ny step words k within = get_or-map-range_with_len (λ j. turn nx ny (words_of words (j % step) nx step) (j / step % nx) (j / step / nx)) 0 (nx * ny * step) k k 0 within (omega arith)

sample_of : (p m step : ℕ) → p < step → (p + m * step) / step ≡ m
sample_of p m step few = add-mul-div_right p m (let some : 0 < step = omega arith in some) ∙ ap (λ q. q + m) (div-eq_of_lt few) ∙ zero-add m

word_at : (turn : ℕ → ℕ → Matrix → Matrix) (nx ny step p : ℕ) (words : List ℕ) (x y : ℕ) → p < step → x < nx → y < ny → words_of (planes_by turn nx ny step words) p nx step x y ≡ turn nx ny (words_of words p nx step) x y
word_at turn nx ny step p words x y few column line =
    let k = p + (y * nx + x) * step in
    let sample = sample_of p (y * nx + x) step few in
    plane_at turn nx ny step words k (place_within p x y nx ny step few column line)
    ∙ ap (λ q. turn nx ny (words_of words q nx step) (k / step % nx) (k / step / nx)) (place_plane p (y * nx + x) step few)
    ∙ ap (λ m. turn nx ny (words_of words p nx step) (m % nx) (m / nx)) sample
    ∙ ap (λ m. turn nx ny (words_of words p nx step) m ((y * nx + x) / nx)) (mod-mul-add y nx x column)
    ∙ ap (λ m. turn nx ny (words_of words p nx step) x m) (div-mul-add y nx x column)

planes_again : (max nx ny step : ℕ) (words : List ℕ) → 1 ≤ step → max < 65536 → length words ≡ nx * ny * step → ((k : ℕ) → get_or words k 0 ≤ max) → planes_by (unwave_of max) nx ny step (planes_by (wave_of max) nx ny step words) ≡ words
planes_again max nx ny step words some small size most =
    let coded = planes_by (wave_of max) nx ny step words in
    let long = length-planes_by (unwave_of max) nx ny step coded in
    same_number_lists (planes_by (unwave_of max) nx ny step coded) words (omega arith) (λ k low.
    let within : k < nx * ny * step = omega arith in
    let there = place_there k nx ny step some within in
    let few : k % step < step = mod_below k step some in
    plane_at (unwave_of max) nx ny step coded k within
    ∙ unwave_of-wave_of max nx ny (words_of words (k % step) nx step) (words_of coded (k % step) nx step) small (λ x y _ _. most (k % step + (y * nx + x) * step))
    (λ x y column line. word_at (wave_of max) nx ny step (k % step) words x y few column line) (k / step % nx) (k / step / nx) there.column there.line
    ∙ ap (λ j. get_or words j 0) (sym (place_parts k nx step)))

some_words : (kind : Kind) → 1 ≤ bytes_of kind / 2
some_words Uint = omega arith
some_words Half = omega arith
some_words Float = omega arith

pub channels_again : (max : ℕ) (region : Box2i) (channels : List Channel) (words : List ℕ) → max < 65536 → length words ≡ sum_by (channel_words_of region) channels → ((k : ℕ) → get_or words k 0 ≤ max)
    → channels_by (unwave_of max) region channels (channels_by (wave_of max) region channels words) ≡ words
channels_again max region [] words small size most = channels_by-none (unwave_of max) region (channels_by (wave_of max) region [] words) ∙ sym (nil_from_length words size)
channels_again max region (c ∷ cs) words small size most =
    let nx = columns_of region c in
    let ny = lines_of region c in
    let step = sample_words_of c in
    let n = channel_words_of region c in
    let total = sum_by-cons (channel_words_of region) c cs in
    let front = take n words in
    let back = drop n words in
    let front_size : length front ≡ n = let e = length-take n words in omega arith in
    let back_size : length back ≡ sum_by (channel_words_of region) cs = let e = length-drop n words in omega arith in
    let coded = planes_by (wave_of max) nx ny step front in
    let others = channels_by (wave_of max) region cs back in
    let coded_size : length coded ≡ n = length-planes_by (wave_of max) nx ny step front in
    ap (channels_by (unwave_of max) region (c ∷ cs)) (channels_by-cons (wave_of max) region c cs words)
    ∙ channels_by-cons (unwave_of max) region c cs (coded ++ others)
    ∙ ap₂ (λ (a b : List ℕ). planes_by (unwave_of max) nx ny step a ++ channels_by (unwave_of max) region cs b) (take_at coded others n coded_size) (drop_at coded others n coded_size)
    ∙ ap₂ ◌++◌ (planes_again max nx ny step front (some_words c.kind) small front_size (λ k. bounded_take n words k max most)) (channels_again max region cs back small back_size (λ k. rw (get_or-drop n words k 0) (most (n + k))))
    ∙ take-append-drop n words
  where
    bounded_take : (n : ℕ) (words : List ℕ) (k max : ℕ) → ((j : ℕ) → get_or words j 0 ≤ max) → get_or (take n words) k 0 ≤ max
    bounded_take n words k max most = elim (cases_lt k n) [
      | inl inside ↦ rw (get_or-take n words k 0 inside) (most k)
      | inr past ↦ rw (get_or_past (take n words) k 0 (let e = length-take n words in omega arith)) (omega arith)
    ]

-- ---- the value map

zero_before : (words : List ℕ) (b : ℕ) → b < first_byte_of words → map_byte words b ≡ 0
unfolding first_byte_of
zero_before words b before =
    let low : b < 8192 = omega arith in
    sym (map_at words 8192 b low) ∙ eqb-true (get_or (map_bytes words 8192) b 0) 0 (prefix_len_passes (λ x. eqb x 0) (map_bytes words 8192) b 0 (omega arith))

zero_behind : (words : List ℕ) (b : ℕ) → last_byte_of words < b → b < 8192 → map_byte words b ≡ 0
unfolding last_byte_of
zero_behind words b behind low =
    let whole = map_bytes words 8192 in
    let size = length-map_bytes words 8192 in
    let k = 8191 - b in
    sym (map_at words 8192 b low) ∙ sym (turned_at whole k b (omega arith)) ∙ eqb-true (get_or (reverse whole) k 0) 0 (prefix_len_passes (λ x. eqb x 0) (reverse whole) k 0 (omega arith))

pub last_low : (words : List ℕ) → last_byte_of words ≤ 8191
unfolding last_byte_of
last_low words = omega arith

pub first_low : (words : List ℕ) → first_byte_of words ≤ 8191
unfolding first_byte_of
first_low words = omega arith

pub length-stored_map : (words : List ℕ) → length (stored_map_of words) ≡ last_byte_of words + 1 - first_byte_of words
unfolding stored_map_of
length-stored_map words =
    let first = first_byte_of words in
    let n = last_byte_of words + 1 - first in
    let low = last_low words in
    let size = length-map_bytes words 8192 in
    let a = length-take n (drop first (map_bytes words 8192)) in
    let b = length-drop first (map_bytes words 8192) in
    omega arith

stored_at : (words : List ℕ) (b : ℕ) → first_byte_of words ≤ b → b ≤ last_byte_of words → get_or (stored_map_of words) (b - first_byte_of words) 0 ≡ map_byte words b
unfolding stored_map_of
stored_at words b after before =
    let first = first_byte_of words in
    let whole = map_bytes words 8192 in
    let low = last_low words in
    get_or-take (last_byte_of words + 1 - first) (drop first whole) (b - first) 0 (omega arith) ∙ get_or-drop first whole (b - first) 0
    ∙ ap (λ j. get_or whole j 0) (let e : first + (b - first) ≡ b = omega arith in e) ∙ map_at words 8192 b (omega arith)

byte_there : (words : List ℕ) (b : ℕ) → b < 8192 → first_byte_of words ≤ b → get_or (stored_map_of words) (b - first_byte_of words) 0 ≡ map_byte words b
byte_there words b low after = elim (cases_lt (last_byte_of words) b) [
  | inl behind ↦ get_or_past (stored_map_of words) (b - first_byte_of words) 0 (let e = length-stored_map words in omega arith) ∙ sym (zero_behind words b behind low)
  | inr inside ↦ stored_at words b after inside
]

bit_of : (words : List ℕ) (v : ℕ) → eqb (map_byte words (v / 8) / 2 ^ (v % 8) % 2) 1 ≡ is_set words v
bit_of words v =
    test-number_with (λ i. is_set words (8 * (v / 8) + i)) 8 (v % 8) (omega arith)
    ∙ ap (is_set words) (let e : 8 * (v / 8) + v % 8 ≡ v = omega arith in e)

no_bit : (byte n : ℕ) → byte ≡ 0 → eqb (byte / n % 2) 1 ≡ false
no_bit byte n zero_byte = ap (λ b. eqb (b / n % 2) 1) zero_byte ∙ ap (λ q. eqb (q % 2) 1) (zero-div n)

marked_set : (words : List ℕ) (v : ℕ) → v < 65536 → is_marked (first_byte_of words) (stored_map_of words) v ≡ is_set words v
marked_set words v low = elim (cases_lt (v / 8) (first_byte_of words)) [
  | inl before ↦
      ap (λ (t : Bool). t && eqb (get_or (stored_map_of words) (v / 8 - first_byte_of words) 0 / 2 ^ (v % 8) % 2) 1) (lt-leb (first_byte_of words) (v / 8) before)
      ∙ sym (no_bit (map_byte words (v / 8)) (2 ^ (v % 8)) (zero_before words (v / 8) before)) ∙ bit_of words v
  | inr there ↦
      ap (λ (t : Bool). t && eqb (get_or (stored_map_of words) (v / 8 - first_byte_of words) 0 / 2 ^ (v % 8) % 2) 1) (le-leb (first_byte_of words) (v / 8) there)
      ∙ ap (λ b. eqb (b / 2 ^ (v % 8) % 2) 1) (byte_there words (v / 8) (omega arith) there) ∙ bit_of words v
]

present_used : (words : List ℕ) (v : ℕ) → v < 65536 → is_present (first_byte_of words) (stored_map_of words) v ≡ is_used words v
present_used words v low = ap (λ (t : Bool). eqb v 0 || t) (marked_set words v low) ∙ used_by_bit (eqb v 0) (occurs words v)

pub values_are : (words : List ℕ) → values_of (first_byte_of words) (stored_map_of words) ≡ passing_below (is_used words) 65536
unfolding values_of
values_are words = passing-same (is_present (first_byte_of words) (stored_map_of words)) (is_used words) 65536 (λ v low. present_used words v low)

-- ---- ranks

or_true : (a b : Bool) → b ≡ true → (a || b) ≡ true
or_true true b is = refl
or_true false b is = is

word_used : (words : List ℕ) (k : ℕ) → k < length words → is_used words (get_or words k 0) ≡ true
word_used words k within =
    let w = get_or words k 0 in
    or_true (eqb w 0) (occurs words w) (list_any_at (λ x. eqb x w) words k 0 within (eq-eqb w w refl))

pub rank_most : (words : List ℕ) (k : ℕ) → ((j : ℕ) → get_or words j 0 < 65536) → get_or (map (rank_of words) words) k 0 ≤ greatest_rank_of words
unfolding rank_of greatest_rank_of
rank_most words k small = elim (cases_lt k (length words)) [
  | inl within ↦
      let below = rank-below (is_used words) (get_or words k 0) 65536 (small k) (word_used words k within) in
      rw (get_or-map (λ w. length (passing_below (is_used words) w)) words k 0 0 within) (omega arith)
  | inr past ↦ rw (get_or_past (map (λ w. length (passing_below (is_used words) w)) words) k 0 (let e = length-map words (λ w. length (passing_below (is_used words) w)) in omega arith)) (omega arith)
]

pub greatest_low : (words : List ℕ) → greatest_rank_of words < 65536
unfolding greatest_rank_of
greatest_low words = let most = length-passing (is_used words) 65536 in omega arith

value_again : (words : List ℕ) (k : ℕ) → k < length words → get_or words k 0 < 65536 → get_or (passing_below (is_used words) 65536) (rank_of words (get_or words k 0)) 0 ≡ get_or words k 0
unfolding rank_of
value_again words k within small = passing-at_rank (is_used words) (get_or words k 0) 65536 small (word_used words k within)

pub ranks_again : (words : List ℕ) → ((k : ℕ) → get_or words k 0 < 65536) → map (λ r. get_or (passing_below (is_used words) 65536) r 0) (map (rank_of words) words) ≡ words
ranks_again words small =
    let value = λ (r : ℕ). get_or (passing_below (is_used words) 65536) r 0 in
    let ranks = map (rank_of words) words in
    let size : length (map value ranks) ≡ length words = length-map ranks value ∙ length-map words (rank_of words) in
    same_number_lists (map value ranks) words size (λ k low.
    let within : k < length words = omega arith in
    get_or-map value ranks k 0 0 (let e = length-map words (rank_of words) in omega arith) ∙ ap value (get_or-map (rank_of words) words k 0 0 within) ∙ value_again words k within (small k))

-- ---- bytes

pair_again : (bytes : List ℕ) (n : ℕ) → 2 * n + 2 ≤ length bytes → ((i : ℕ) → get_or bytes i 0 < 256) → to_le_bytes w16 (from_le_bytes w16 (take 2 (drop (2 * n) bytes))) ≡ take 2 (drop (2 * n) bytes)
pair_again bytes n within small =
    let pair = take 2 (drop (2 * n) bytes) in
    let a = length-take 2 (drop (2 * n) bytes) in
    let b = length-drop (2 * n) bytes in
    le_bytes_2 pair (from_le_bytes w16 pair) (omega arith) (λ i. low_in i) refl
  where
    low_in : (i : ℕ) → get_or (take 2 (drop (2 * n) bytes)) i 0 < 256
    low_in i = elim (cases_lt i 2) [
      | inl inside ↦ rw (get_or-take 2 (drop (2 * n) bytes) i 0 inside, get_or-drop (2 * n) bytes i 0) (small (2 * n + i))
      | inr past ↦ rw (get_or_past (take 2 (drop (2 * n) bytes)) i 0 (let e = length-take 2 (drop (2 * n) bytes) in omega arith)) (omega arith)
    ]

first_bytes : (bytes : List ℕ) (n : ℕ) → 2 * n ≤ length bytes → ((i : ℕ) → get_or bytes i 0 < 256) → bytes_from (map (λ k. from_le_bytes w16 (take 2 (drop (2 * k) bytes))) (range_with_len 0 n)) ≡ take (2 * n) bytes
first_bytes bytes zero within small = bytes_none
first_bytes bytes (suc n) within small =
    let word = λ (k : ℕ). from_le_bytes w16 (take 2 (drop (2 * k) bytes)) in
    ap (λ m. bytes_from (map word (range_with_len 0 m))) (let e : suc n ≡ n + 1 = omega arith in e)
    ∙ ap bytes_from (map-range_with_len_more word 0 n n (omega arith))
    ∙ bytes_push (map word (range_with_len 0 n)) (word n)
    ∙ ap₂ ◌++◌ (first_bytes bytes n (omega arith) small) (pair_again bytes n (omega arith) small)
    ∙ sym (ap (λ m. take m bytes) (let e : 2 * suc n ≡ 2 * n + 2 = omega arith in e) ∙ take-add (2 * n) 2 bytes)

pub bytes_again : (bytes : List ℕ) (n : ℕ) → length bytes ≡ 2 * n → ((i : ℕ) → get_or bytes i 0 < 256) → bytes_from (words_from bytes) ≡ bytes
unfolding words_from
bytes_again bytes n size small =
    let half : length bytes / 2 ≡ n = omega arith in
    ap (λ m. bytes_from (map (λ k. from_le_bytes w16 (take 2 (drop (2 * k) bytes))) (range_with_len 0 m))) half
    ∙ first_bytes bytes n (omega arith) small ∙ take_all (2 * n) bytes (omega arith)
