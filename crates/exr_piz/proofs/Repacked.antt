-- Packed data read again: its parts, its words, and the raw data.
use Rattle.std.proofs.Common.{◌≡◌, ℕ, ◌+◌, ◌-◌, ◌*◌, ◌/◌, ◌^◌, ◌<◌, List, [], ◌∷◌, ◌++◌, length, take, drop, get_or, map, Ok, refl, sym, ap, ap₂, ◌∙◌, arith, append_assoc, length-append}
use Rattle.std.specs.Int.{w16, w32, to_le_bytes, from_le_bytes}
use Rattle.std.specs.List.{sum_by}
use Rattle.std.proofs.lemmas.List.{take_at, take_all, drop_at, drop-drop, length-map}
use Rattle.std.proofs.lemmas.List.Sums.{sum_by-cons}
use Rattle.std.proofs.lemmas.Nat.{from_le_bytes-to_le_bytes_2, from_le_bytes-to_le_bytes_4}
use Rattle.exr_base.specs.declared.shape.Box2i.{Box2i}
use Rattle.exr_base.specs.declared.channel.Channel.{Channel}
use Rattle.exr_base.specs.Shape.{raw_size_of}
use Rattle.exr_base.proofs.RawSize.{by_channels}
use Rattle.exr_huffman.specs.Blocks.{huffman_words_of}
use Rattle.exr_planar.specs.Planar.{raw_from_planar}
use Rattle.exr_wavelet.specs.Level.{Matrix}
use Rattle.exr_wavelet.specs.Wave.{wave_of}
use Rattle.exr_piz.specs.Values.{passing_below, is_used, first_byte_of, last_byte_of, stored_map_of, map_front_of, rank_of, greatest_rank_of}
use Rattle.exr_piz.specs.Words.{bytes_from}
use Rattle.exr_piz.specs.Planes.{columns_of, lines_of, sample_words_of, channel_words_of, planes_by, channels_by}
use Rattle.exr_piz.specs.Stored.{parts_of}
use Rattle.exr_piz.specs.Piz.{or_huffman, restored_from, piz_of, block_of, packed_words_of}
use Rattle.exr_piz.proofs.Cutting.{cut_whole}
use Rattle.exr_piz.proofs.Restoring.{channels_again, last_low, first_low, length-stored_map, values_are, greatest_low, rank_most, ranks_again}
use Rattle.exr_piz.proofs.Turning.{words_twice, length-planes_by, channels_by-none, channels_by-cons}
use Rattle.exr_piz.proofs.Unpacked.{even_size, restored_words}

-- ---- the parts of five lists, one after the other

joined_right : (a b c d e : List ℕ) → a ++ b ++ c ++ d ++ e ≡ a ++ (b ++ (c ++ (d ++ e)))
joined_right a b c d e = simp append_assoc

module _ (a b c d e : List ℕ) (packed : List ℕ) (is : packed ≡ a ++ (b ++ (c ++ (d ++ e)))) (a_two : length a ≡ 2) (b_two : length b ≡ 2) (d_four : length d ≡ 4) where
  pub first_two : take 2 packed ≡ a
  first_two = ap (take 2) is ∙ take_at a (b ++ (c ++ (d ++ e))) 2 a_two

  after_two : drop 2 packed ≡ b ++ (c ++ (d ++ e))
  after_two = ap (drop 2) is ∙ drop_at a (b ++ (c ++ (d ++ e))) 2 a_two

  pub second_two : take 2 (drop 2 packed) ≡ b
  second_two = ap (take 2) after_two ∙ take_at b (c ++ (d ++ e)) 2 b_two

  after_four : drop 4 packed ≡ c ++ (d ++ e)
  after_four = sym (drop-drop 2 2 packed) ∙ ap (drop 2) after_two ∙ drop_at b (c ++ (d ++ e)) 2 b_two

  pub the_map : take (length c) (drop 4 packed) ≡ c
  the_map = ap (take (length c)) after_four ∙ take_at c (d ++ e) (length c) refl

  after_map : drop (4 + length c) packed ≡ d ++ e
  after_map = sym (drop-drop (length c) 4 packed) ∙ ap (drop (length c)) after_four ∙ drop_at c (d ++ e) (length c) refl

  pub the_length : take 4 (drop (4 + length c) packed) ≡ d
  the_length = ap (take 4) after_map ∙ take_at d e 4 d_four

  pub the_block : (n : ℕ) → n ≡ length e → take n (drop (8 + length c) packed) ≡ e
  the_block n size =
      ap (λ m. take n (drop m packed)) (let q : 8 + length c ≡ 4 + length c + 4 = omega arith in q)
      ∙ ap (take n) (sym (drop-drop 4 (4 + length c) packed) ∙ ap (drop 4) after_map ∙ drop_at d e 4 d_four)
      ∙ take_all n e (omega arith)

  pub whole_size : length packed ≡ 8 + length c + length e
  whole_size = ap length is ∙ simp length-append (omega arith)

two_long : (n : ℕ) → length (to_le_bytes w16 n) ≡ 2
two_long n = refl

four_long : (n : ℕ) → length (to_le_bytes w32 n) ≡ 4
four_long n = refl

-- ---- the parts of packed words

pub parts_again : (channels : List Channel) (region : Box2i) (words : List ℕ) → length (block_of channels region words) < 2 ^ 31
    → parts_of (packed_words_of channels region words) ≡ Ok (record { first = first_byte_of words; map = stored_map_of words; block = block_of channels region words })
unfolding packed_words_of map_front_of
parts_again channels region words small =
    let first = first_byte_of words in
    let last = last_byte_of words in
    let a = to_le_bytes w16 first in
    let b = to_le_bytes w16 last in
    let c = stored_map_of words in
    let e = block_of channels region words in
    let d = to_le_bytes w32 (length e) in
    let packed = a ++ b ++ c ++ d ++ e in
    let is : packed ≡ a ++ (b ++ (c ++ (d ++ e))) = joined_right a b c d e in
    let f_low = first_low words in
    let l_low = last_low words in
    let stored = length-stored_map words in
    let size = whole_size a b c d e packed is (two_long first) (two_long last) (four_long (length e)) in
    let map_is = the_map a b c d e packed is (two_long first) (two_long last) (four_long (length e)) in
    let block_is = the_block a b c d e packed is (two_long first) (two_long last) (four_long (length e)) (length e) refl in
    cut_whole packed c e first last (length c) (length e)
    (record {
      long = omega arith;
      first_is = sym (ap (from_le_bytes w16) (first_two a b c d e packed is (two_long first) (two_long last) (four_long (length e))) ∙ from_le_bytes-to_le_bytes_2 first (omega arith));
      last_is = sym (ap (from_le_bytes w16) (second_two a b c d e packed is (two_long first) (two_long last) (four_long (length e))) ∙ from_le_bytes-to_le_bytes_2 last (omega arith));
      first_low = f_low;
      last_low = l_low;
      size_is = stored;
      there = omega arith;
      number_is = sym (ap (from_le_bytes w32) (the_length a b c d e packed is (two_long first) (two_long last) (four_long (length e))) ∙ from_le_bytes-to_le_bytes_4 (length e) (omega arith));
    })
    small (omega arith) (sym map_is) (sym block_is)

-- ---- packed words

pub length-channels_by : (turn : ℕ → ℕ → Matrix → Matrix) (region : Box2i) (channels : List Channel) (words : List ℕ) → length (channels_by turn region channels words) ≡ sum_by (channel_words_of region) channels
length-channels_by turn region [] words = ap length (channels_by-none turn region words)
length-channels_by turn region (c ∷ cs) words =
    let n = channel_words_of region c in
    let front = planes_by turn (columns_of region c) (lines_of region c) (sample_words_of c) (take n words) in
    let whole = ap length (channels_by-cons turn region c cs words) in
    let parts = length-append front (channels_by turn region cs (drop n words)) in
    let first = length-planes_by turn (columns_of region c) (lines_of region c) (sample_words_of c) (take n words) in
    let others = length-channels_by turn region cs (drop n words) in
    let total = sum_by-cons (channel_words_of region) c cs in
    omega arith

front_long : (words : List ℕ) → length (map_front_of words) ≡ 4 + length (stored_map_of words)
unfolding map_front_of
front_long words =
    let a = to_le_bytes w16 (first_byte_of words) in
    let b = to_le_bytes w16 (last_byte_of words) in
    omega (arith, length-append (a ++ b) (stored_map_of words), length-append a b, two_long (first_byte_of words), two_long (last_byte_of words))

pub front_small : (words : List ℕ) → length (map_front_of words) < 2 ^ 32
front_small words =
    let size = front_long words in
    let stored = length-stored_map words in
    let low = last_low words in
    omega arith

-- the raw data of words through the wavelet
by_values : (channels : List Channel) (region : Box2i) (words : List ℕ) → length words ≡ sum_by (channel_words_of region) channels → ((k : ℕ) → get_or words k 0 < 65536)
    → restored_from channels region (passing_below (is_used words) 65536) (channels_by (wave_of (greatest_rank_of words)) region channels (map (rank_of words) words)) ≡ raw_from_planar channels region (bytes_from words)
unfolding restored_from greatest_rank_of
by_values channels region words total small =
    let values = passing_below (is_used words) 65536 in
    let ranks = map (rank_of words) words in
    ap (λ (ws : List ℕ). raw_from_planar channels region (bytes_from (map (λ r. get_or values r 0) ws)))
    (channels_again (length values - 1) region channels ranks (greatest_low words) (length-map words (rank_of words) ∙ total) (λ k. rank_most words k small))
    ∙ ap (λ (ws : List ℕ). raw_from_planar channels region (bytes_from ws)) (ranks_again words small)

-- the words of a block are those that were packed, through the wavelet
pub words_again : (channels : List Channel) (region : Box2i) (words coded : List ℕ) → 2 * length words ≡ raw_size_of channels region → ((k : ℕ) → get_or words k 0 < 65536)
    → coded ≡ channels_by (wave_of (greatest_rank_of words)) region channels (map (rank_of words) words)
    → length (block_of channels region words) < 2 ^ 31 → huffman_words_of (block_of channels region words) (length coded) ≡ Ok coded
    → piz_of channels region (packed_words_of channels region words) ≡ Ok (raw_from_planar channels region (bytes_from words))
words_again channels region words coded size small is short read =
    let first = first_byte_of words in
    let stored = stored_map_of words in
    let block = block_of channels region words in
    let total : length words ≡ sum_by (channel_words_of region) channels = omega (arith, size, by_channels region channels, words_twice region channels) in
    let long : length coded ≡ length words = ap length is ∙ length-channels_by (wave_of (greatest_rank_of words)) region channels (map (rank_of words) words) ∙ sym total in
    let half : raw_size_of channels region / 2 ≡ length coded = omega arith in
    let found : or_huffman (huffman_words_of block (raw_size_of channels region / 2)) ≡ Ok coded = ap (λ n. or_huffman (huffman_words_of block n)) half ∙ ap or_huffman read in
    restored_words channels region (packed_words_of channels region words) coded (record { first = first; map = stored; block = block }) (raw_size_of channels region) (parts_again channels region words short) refl found
    ∙ ap (λ (raw : List ℕ). Ok raw) (ap₂ (λ (values ranks : List ℕ). restored_from channels region values ranks) (values_are words) is ∙ by_values channels region words total small)

pub words_even : (channels : List Channel) (region : Box2i) (raw : List ℕ) → length raw ≡ raw_size_of channels region → 2 * (length raw / 2) ≡ raw_size_of channels region
words_even channels region raw size = let even = even_size channels region in omega arith
