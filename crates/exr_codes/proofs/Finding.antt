-- What a decoder's tables say is the code that begins a window.
use Rattle.std.proofs.Common.{◌≡◌, ℕ, ◌+◌, ◌-◌, ◌*◌, ◌/◌, ◌^◌, ◌<◌, ◌≤◌, List, length, get_or, sym, ap, ◌∙◌, arith}
use Rattle.std.proofs.Math.Nat.{add-mul-div_right, lt-div-mul-add}
use Rattle.std.proofs.lemmas.Nat.{pow_pos, div_below, shr-shr}
use Rattle.std.proofs.lemmas.List.{get_or_read}
use Rattle.exr_codes.specs.Codes.{weight_above, count_of, code_number, IsComplete}
use Rattle.exr_codes.specs.Decoding.{count_above, IsRanked, IsInOrder, IsLeast, AreLeasts}
use Rattle.exr_codes.specs.Windows.{IsCodeAt}
use Rattle.exr_codes.proofs.Intervals.{weight_above-less, weight_above_exact}
use Rattle.exr_codes.proofs.Orders.{count_above-less, count_above_mono}

-- a rank in the codes of one length gives the code's number
pub number_of_rank : (lengths : List ℕ) (len rank k : ℕ) → IsRanked lengths len rank k → code_number lengths k ≡ weight_above len lengths / 2 ^ (58 - len) + rank
unfolding code_number
number_of_rank lengths len rank k ranked =
    rw ranked.has_len (ap (λ n. weight_above len lengths / 2 ^ (58 - len) + n) ranked.has_rank)

module _ (lengths : List ℕ) (complete : IsComplete lengths) (window len : ℕ) (some : 0 < len) (small : len ≤ 58) (from : weight_above len lengths ≤ window / 2 ^ 6) (to : window / 2 ^ 6 < weight_above (len - 1) lengths) where
  -- the rank of the code among those of its length
  pub rank_below : (window / 2 ^ 6 - weight_above len lengths) / 2 ^ (58 - len) < count_of len lengths
  rank_below = div_below (window / 2 ^ 6 - weight_above len lengths) (2 ^ (58 - len)) (count_of len lengths) (pow_pos (58 - len)) (omega (arith, weight_above-less len lengths some))

  pub found_ranked : (k : ℕ) → IsRanked lengths len ((window / 2 ^ 6 - weight_above len lengths) / 2 ^ (58 - len)) k → IsCodeAt lengths window k len
  found_ranked k ranked =
      let w = 2 ^ (58 - len) in
      let first = weight_above len lengths in
      let exact = weight_above_exact lengths complete len small in
      let split : window / 2 ^ 6 ≡ (window / 2 ^ 6 - first) + first / w * w = omega arith in
      let shift : 64 - len ≡ 6 + (58 - len) = omega arith in
      let value : window / 2 ^ (64 - len) ≡ (window / 2 ^ 6 - first) / w + first / w =
      ap (λ n. window / 2 ^ n) shift ∙ sym (shr-shr window 6 (58 - len)) ∙ ap (λ n. n / w) split ∙ add-mul-div_right (window / 2 ^ 6 - first) (first / w) (pow_pos (58 - len)) in
      record {
        is_there = ranked.is_there;
        has_bits = some;
        is_len = ranked.has_len;
        begins = value ∙ omega (arith, number_of_rank lengths len ((window / 2 ^ 6 - first) / w) k ranked);
      }

-- the place of a rank stands within the codes in order
pub place_below : (lengths sorted : List ℕ) (len rank : ℕ) → IsInOrder lengths sorted → 0 < len → rank < count_of len lengths → count_above len lengths + rank < length sorted
place_below lengths sorted len rank in_order some below =
    omega (arith, in_order.size, count_above-less len lengths some, count_above_mono 0 (len - 1) lengths (omega arith))

-- what is read at the front of a window is its least length
pub least_read : (lengths leasts : List ℕ) (window least : ℕ) → AreLeasts lengths leasts → window / 2 ^ 52 < 4096 → least ≡ get_or leasts (window / 2 ^ 52) least → IsLeast lengths (window / 2 ^ 52) least
least_read lengths leasts window least are below read =
    let within : window / 2 ^ 52 < length leasts = omega (arith, are.size) in
    rw (get_or_read leasts (window / 2 ^ 52) least within read 0) (are.each (window / 2 ^ 52) below)

-- the window of a front lies below the codes that are shorter than its least length
pub below_shorter : (lengths : List ℕ) (window least : ℕ) → IsLeast lengths (window / 2 ^ 52) least → window / 2 ^ 6 < weight_above (least - 1) lengths
below_shorter lengths window least is =
    let value = window / 2 ^ 6 in
    let same : window / 2 ^ 52 ≡ value / 2 ^ 46 = sym (shr-shr window 6 46) in
    let below : value < value / 2 ^ 46 * 2 ^ 46 + 2 ^ 46 = lt-div-mul-add (pow_pos 46) in
    omega (arith, is.above, same)
