-- The bytes of groups of channels, chunk by chunk, and when they come again.
use Rattle.std.proofs.Common.{◌≡◌, ℕ, ◌+◌, ◌*◌, ◌/◌, ◌%◌, ◌^◌, ◌<◌, ◌≤◌, pos, eqb, true, refl, sym, ap, ap₂, subst, ◌∙◌, inl, inr, arith, List, [], ◌∷◌, length, get_or, set, take, slice_index, All}
use Rattle.std.proofs.lemmas.Nat.{div-add-mod', mod_below, mul-le, div_below}
use Rattle.std.proofs.Math.Nat.{mod-eq_of_lt}
use Rattle.std.proofs.lemmas.Bool.{cases_lt}
use Rattle.std.proofs.lemmas.List.{get_or-set_same, get_or-set_other}
use Rattle.std.proofs.lemmas.List.Elements.{All-head, All-tail, All-take, All-more}
use Rattle.std.proofs.lemmas.List.Sums.{sum_by-cons, sum_by_more, sum_by-take-le}
use Rattle.exr_base.specs.declared.channel.Channel.{Channel}
use Rattle.exr_base.specs.declared.shape.Box2i.{Box2i}
use Rattle.exr_base.specs.Sampling.{is_multiple, multiples_among}
use Rattle.exr_chunks.specs.declared.groups.Group.{Group}
use Rattle.exr_chunks.specs.RawBytes.{row_bytes, weighed, weighed_channels, IsGrouped, samples_in, group_bytes, groups_bytes, IsPeriod, IsCycle}
use Rattle.exr_chunks.proofs.Repeats.{more_whole, no_rest, as_many, so_far, so_far_none, so_far_all, so_far_most, so_far_here, so_far_before, so_far_behind}

-- ---- the bytes of one group, added to a list of sizes

pub nothing_added : (s rows i n b : ℕ) → n ≡ n + so_far s rows 0 i * b
nothing_added s rows i n b = rw (so_far_none s rows i) (omega arith)

pub next_whole : (s line : ℕ) → 0 < s → line % s ≡ 0 → (line + s) % s ≡ 0
next_whole s line some whole =
    let turned : line + s ≡ 1 * s + line = omega arith in
    ap (λ k. k % s) turned ∙ more_whole s 1 line some ∙ whole

-- what is known in the midst of adding: the first len sizes have what the lines so far add to the old ones
pub record AreAdded (s rows b line len : ℕ) (old sizes : List ℕ) : Type 0 where
  pub sampled : 0 < s
  pub some : 0 < rows
  pub whole : line % s ≡ 0
  pub long : length sizes ≡ len
  pub sizes_so_far : (i : ℕ) → i < len → slice_index sizes i ≡ slice_index old i + so_far s rows line i * b
  pub small : (i : ℕ) → i < len → slice_index old i + samples_in rows i s * b ≤ 2 ^ 26

-- the piece of a line
record IsPieceOf (rows line k : ℕ) : Type 0 where
  low : k * rows ≤ line
  high : line < k * rows + rows

piece_of_line : (rows line : ℕ) → 0 < rows → IsPieceOf rows line (line / rows)
piece_of_line rows line some = record {
  low = omega (arith, div-add-mod' line rows);
  high = omega (arith, div-add-mod' line rows, mod_below line rows some);
}

pub add_fits : (s rows b line len : ℕ) (old sizes : List ℕ) → AreAdded s rows b line len old sizes → line < len * rows → slice_index sizes (line / rows) + b ≤ 2 ^ 26
add_fits s rows b line len old sizes are within =
    let k : ℕ = line / rows in
    let below : k < len = div_below line rows len are.some within in
    let piece = piece_of_line rows line are.some in
    let here = so_far_here s rows line k are.sampled are.whole piece.low piece.high in
    let most = so_far_most s rows (line + s) k are.sampled in
    let product : (so_far s rows line k + 1) * b ≤ samples_in rows k s * b = mul-le (so_far s rows line k + 1) b (samples_in rows k s) b (omega (arith, here, most)) (omega arith) in
    let now = are.sizes_so_far k below in
    let bound = are.small k below in
    omega (arith, product, now, bound)

pub one_added : (s rows b line len i : ℕ) (old sizes : List ℕ) → AreAdded s rows b line len old sizes → line < len * rows → i < len → slice_index (set sizes (line / rows) (slice_index sizes (line / rows) + b)) i ≡ slice_index old i + so_far s rows (line + s) i * b
one_added s rows b line len i old sizes are within at =
    let k : ℕ = line / rows in
    let below : k < len = div_below line rows len are.some within in
    let piece = piece_of_line rows line are.some in
    let now = are.sizes_so_far i at in
    elim (cases_lt i k) [
      | inl lt ↦
          let end : (i + 1) * rows ≤ k * rows = mul-le (i + 1) rows k rows (omega (arith, lt)) (omega arith) in
          let same = so_far_before s rows line i (omega (arith, end, piece.low)) in
          get_or-set_other sizes k i _ 0 (omega (arith, lt)) ∙ now ∙ ap (λ n. slice_index old i + n * b) (sym same)
      | inr le ↦ elim (cases_lt k i) [
        | inl lt ↦
            let begin : (k + 1) * rows ≤ i * rows = mul-le (k + 1) rows i rows (omega (arith, lt)) (omega arith) in
            let same = so_far_behind s rows line i are.sampled are.whole (omega (arith, begin, piece.high)) in
            get_or-set_other sizes k i _ 0 (omega (arith, lt)) ∙ now ∙ ap (λ n. slice_index old i + n * b) (sym same)
        | inr ge ↦
            let here : k ≡ i = omega (arith, le, ge) in
            let more = so_far_here s rows line k are.sampled are.whole piece.low piece.high in
            let old_here = are.sizes_so_far k below in
            let product : so_far s rows (line + s) k * b ≡ (so_far s rows line k + 1) * b = ap (λ n. n * b) more in
            let set_here = get_or-set_same sizes k (slice_index sizes k + b) 0 (omega (arith, are.long, below)) in
            subst (λ j. slice_index (set sizes k (slice_index sizes k + b)) j ≡ slice_index old j + so_far s rows (line + s) j * b) here (omega (arith, set_here, old_here, product))
      ]
    ]

pub all_added : (s rows b line len i : ℕ) (old sizes : List ℕ) → AreAdded s rows b line len old sizes → len * rows ≤ line → i < len → slice_index sizes i ≡ slice_index old i + samples_in rows i s * b
all_added s rows b line len i old sizes are over at =
    let end : (i + 1) * rows ≤ len * rows = mul-le (i + 1) rows len rows (omega (arith, at)) (omega arith) in
    are.sizes_so_far i at ∙ ap (λ n. slice_index old i + n * b) (so_far_all s rows line i are.sampled (omega (arith, end, over)))

-- ---- when the samples come again

times_again : (s rows step result q m : ℕ) → result ≡ q * step → step * rows ≡ m * s → result * rows ≡ q * m * s
times_again s rows step result q m a b =
    let c : q * step * rows ≡ q * (step * rows) = omega arith in
    let d : q * (m * s) ≡ q * m * s = omega arith in
    ap (λ n. n * rows) a ∙ c ∙ ap (λ n. q * n) b ∙ d

multiple_again : (s rows step result : ℕ) → 0 < s → result % step ≡ 0 → (step * rows) % s ≡ 0 → (result * rows) % s ≡ 0
multiple_again s rows step result some a b =
    let x : result ≡ result / step * step = omega (arith, div-add-mod' result step, a) in
    let y : step * rows ≡ step * rows / s * s = omega (arith, div-add-mod' (step * rows) s, b) in
    ap (λ n. n % s) (times_again s rows step result (result / step) (step * rows / s) x y) ∙ no_rest s (result / step * (step * rows / s)) some

-- a multiple of a period is one
pub period_more : (groups : List Group) (i rows step result : ℕ) (d : Group) → i < length groups → All (λ g. 1 ≤ g.ys) groups → IsPeriod (take i groups) rows step → result % step ≡ 0 → (result * rows) % (get_or groups i d).ys ≡ 0 → IsPeriod (take (i + 1) groups) rows result
period_more groups i rows step result d within sampled before whole here =
    let earlier : IsPeriod (take i groups) rows result = λ k e lt.
    multiple_again (get_or (take i groups) k e).ys rows step result (All-take (λ (g : Group). 1 ≤ g.ys) i groups sampled k e lt) whole (before k e lt) in
    All-more (λ (g : Group). (result * rows) % g.ys ≡ 0) groups i d within earlier here

-- a multiple of a step that is not 0 is no less than the step
pub step_below : (step result most : ℕ) → 1 ≤ step → 1 ≤ result → result % step ≡ 0 → result < most → step < most
step_below step result most some more whole lt =
    let x : result ≡ result / step * step = omega (arith, div-add-mod' result step, whole) in
    elim (cases_lt 0 (result / step)) [
      | inl l ↦
          let y : 1 * step ≤ result / step * step = mul-le 1 step (result / step) step (omega (arith, l)) (omega arith) in
          omega (arith, x, y, lt)
      | inr le ↦
          let none : result / step ≡ 0 = omega (arith, le) in
          let y : result / step * step ≡ 0 * step = ap (λ n. n * step) none in
          absurd (omega (arith, x, y, more))
    ]

samples_again : (s rows count i : ℕ) → 0 < s → (count * rows) % s ≡ 0 → samples_in rows (i % count) s ≡ samples_in rows i s
samples_again s rows count i some whole =
    let q : ℕ = i / count in
    let m : ℕ = count * rows / s in
    let a : count * rows ≡ m * s = omega (arith, div-add-mod' (count * rows) s, whole) in
    let b : q * count * rows ≡ q * m * s = times_again s rows count (q * count) q m refl a in
    let c : i * rows ≡ (q * count + i % count) * rows = ap (λ n. n * rows) (omega (arith, div-add-mod' i count)) in
    let d : q * count * rows + i % count * rows ≡ i * rows = omega (arith, c) in
    let multiple : is_multiple s (pos (q * count * rows)) ≡ true = ap (λ n. eqb (n % s) 0) b ∙ ap (λ n. eqb n 0) (no_rest s (q * m) some) in
    sym (as_many s (pos (q * count * rows)) (i % count * rows) rows some multiple) ∙ ap (λ n. multiples_among s (pos n) rows) d

-- groups whose samplings weigh the same have the same bytes
weighed_same : (f h : ℕ → ℕ) (groups : List Group) → All (λ g. f g.ys ≡ h g.ys) groups → weighed f groups ≡ weighed h groups
weighed_same f h [] same = refl
weighed_same f h (g ∷ gs) same =
    let one : f g.ys * g.bytes ≡ h g.ys * g.bytes = ap (λ n. n * g.bytes) (All-head (λ (x : Group). f x.ys ≡ h x.ys) g gs same) in
    let others = weighed_same f h gs (All-tail (λ (x : Group). f x.ys ≡ h x.ys) g gs same) in
    sum_by-cons (λ (x : Group). f x.ys * x.bytes) g gs ∙ ap₂ (λ (m n : ℕ). m + n) one others ∙ sym (sum_by-cons (λ (x : Group). h x.ys * x.bytes) g gs)

bytes_again : (groups : List Group) (rows count i : ℕ) → All (λ g. 1 ≤ g.ys) groups → IsPeriod groups rows count → groups_bytes groups rows (i % count) ≡ groups_bytes groups rows i
bytes_again groups rows count i sampled again =
    weighed_same (samples_in rows (i % count)) (samples_in rows i) groups (λ k d lt.
    samples_again (get_or groups k d).ys rows count i (sampled k d lt) (again k d lt))

pub cycle_is : (groups : List Group) (rows whole count : ℕ) (cycle : List ℕ) → All (λ g. 1 ≤ g.ys) groups → 1 ≤ count → count ≤ whole → (count < whole → IsPeriod groups rows count) → length cycle ≡ count → ((i : ℕ) → i < count → slice_index cycle i ≡ groups_bytes groups rows i) → IsCycle groups rows whole cycle
cycle_is groups rows whole count cycle sampled some within again long sizes = record {
  some = λ more. omega (arith, some, long);
  exact = λ i below.
      let at : slice_index cycle (i % length cycle) ≡ slice_index cycle (i % count) = ap (λ n. slice_index cycle (i % n)) long in
      let here = sizes (i % count) (mod_below i count some) in
      elim (cases_lt count whole) [
        | inl lt ↦ at ∙ here ∙ bytes_again groups rows count i sampled (again lt)
        | inr le ↦
            let same : i % count ≡ i = mod-eq_of_lt (omega (arith, le, below)) in
            at ∙ here ∙ ap (groups_bytes groups rows) same
      ];
}

-- ---- the groups so far

-- one group more
pub group_more : (groups : List Group) (rows k i : ℕ) (d : Group) → k < length groups → groups_bytes (take (k + 1) groups) rows i ≡ groups_bytes (take k groups) rows i + group_bytes rows i (get_or groups k d)
group_more groups rows k i d within = sum_by_more (group_bytes rows i) groups k d within

pub groups_small : (groups : List Group) (rows k i : ℕ) (d : Group) → k < length groups → groups_bytes groups rows i ≤ 2 ^ 26 → groups_bytes (take k groups) rows i + group_bytes rows i (get_or groups k d) ≤ 2 ^ 26
groups_small groups rows k i d within small =
    let more = group_more groups rows k i d within in
    let less = sum_by-take-le (group_bytes rows i) groups (k + 1) in
    omega (arith, more, less, small)

-- ---- channels by groups

row_weighed : (window : Box2i) (c : Channel) → row_bytes window c ≡ 1 * row_bytes window c
row_weighed window c = omega arith

-- the channels so far and one more have few bytes on a line
pub rows_small : (window : Box2i) (cs : List Channel) (groups : List Group) (k : ℕ) (c : Channel) → k < length cs → c ≡ get_or cs k c → weighed_channels (λ _. 1) window cs ≤ 2 ^ 26 → IsGrouped window (take k cs) groups → weighed (λ _. 1) groups + row_bytes window c ≤ 2 ^ 26
rows_small window cs groups k c within read small grouped =
    let here : row_bytes window c ≡ 1 * row_bytes window (get_or cs k c) = ap (row_bytes window) read ∙ row_weighed window (get_or cs k c) in
    let so_far = grouped.same (λ _. 1) in
    let more = sum_by_more (λ (x : Channel). 1 * row_bytes window x) cs k c within in
    let less = sum_by-take-le (λ (x : Channel). 1 * row_bytes window x) cs (k + 1) in
    omega (arith, here, so_far, more, less, small)

pub grouped_more : (window : Box2i) (cs : List Channel) (groups new : List Group) (k b : ℕ) (c : Channel) → k < length cs → c ≡ get_or cs k c → b ≡ row_bytes window c → IsGrouped window (take k cs) groups → All (λ g. 1 ≤ g.ys) new → ((weight : ℕ → ℕ) → weighed weight new ≡ weighed weight groups + weight c.ys * b) → IsGrouped window (take (k + 1) cs) new
grouped_more window cs groups new k b c within read bytes grouped sampled more = record {
  sampled = sampled;
  same = λ weight.
      let f : Channel → ℕ = λ x. weight x.ys * row_bytes window x in
      let here : weight c.ys * b ≡ f (get_or cs k c) = ap (λ n. weight c.ys * n) bytes ∙ ap f read in
      more weight ∙ ap₂ (λ (m n : ℕ). m + n) (grouped.same weight) here ∙ sym (sum_by_more f cs k c within);
}
