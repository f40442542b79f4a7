use Rattle.std.proofs.Common.{◌≡◌, ◌+◌, ◌-◌, ◌≤◌, length, take, drop, get_or, sym, ap, ◌∙◌, arith, inl, inr}
use Rattle.std.proofs.lemmas.Bool.{cases_eq, cases_lt}
use Rattle.std.proofs.lemmas.List.{length-set, length-take, length-drop, get_or-set_same, get_or-set_other}
use Rattle.exr_codes.proofs.Intervals.{count_of_more}
use Rattle.exr_codes.proofs.Orders.{count_of-none, count_of-le, count_of_other, get_or-zeros}
use Rattle.exr_encoder.specs.Spelling.{zeros_at}
use Rattle.exr_encoder.proofs.Codes.{count_of-passed}
use Rattle.exr_encoder.proofs.Spelled.{zeros_at-most, zeros_from-some, zeros_from-none}
use Rattle.exr_encoder.proofs.encoder.put_ranks.Goals as goal

pub entries-init : goal.entries-init
entries-init c = record {
  within = omega arith;
  size = c.requires.size;
  counts_size = omega arith;
  counted = λ len some small. get_or-zeros 59 len ∙ sym (count_of-none len);
  ranked = λ k below some. absurd (omega arith);
}

pub overflow_add-counts : goal.overflow_add-counts
overflow_add-counts c =
    let lengths = c.args.lengths.now in
    let k = c.entries.entry in
    let len = get_or lengths k 0 in
    omega (arith, c.entries.invariant.counted len c.if-len-gt0.true (c.requires.short k), count_of-le len (take k lengths), length-take k lengths, c.requires.few, c.entries-test.true)

pub entries-preserved-then-len-gt0 : goal.entries-preserved-then-len-gt0
entries-preserved-then-len-gt0 c =
    let lengths = c.args.lengths.now in
    let k = c.entries.entry in
    let len = get_or lengths k 0 in
    let known = c.entries.invariant in
    let within = c.entries-test.true in
    let some = c.if-len-gt0.true in
    let here = known.counted len some (c.requires.short k) in
    record {
      within = omega (arith, within);
      size = length-set c.entries.ranks _ _ ∙ known.size;
      counts_size = length-set c.entries.counts _ _ ∙ known.counts_size;
      counted = λ m some_m small. elim (cases_eq m len) [
        | inl same ↦ rw same (get_or-set_same c.entries.counts len (get_or c.entries.counts len 0 + 1) 0 (omega (arith, known.counts_size, c.requires.short k)) ∙ ap (λ n. n + 1) here ∙ sym (count_of_more len lengths k within (omega arith)))
        | inr other ↦ get_or-set_other c.entries.counts len m (get_or c.entries.counts len 0 + 1) 0 other ∙ known.counted m some_m small ∙ sym (count_of_other m lengths k within (λ e. other (sym e)))
      ];
      ranked = λ j below some_j. elim (cases_eq j k) [
        | inl same ↦ rw same (get_or-set_same c.entries.ranks k (get_or c.entries.counts len 0) 0 (omega (arith, known.size, within)) ∙ here)
        | inr other ↦ get_or-set_other c.entries.ranks k j (get_or c.entries.counts len 0) 0 other ∙ known.ranked j (omega arith) some_j
      ];
    }

pub overflow_add-entry-else-len-gt0 : goal.overflow_add-entry-else-len-gt0
overflow_add-entry-else-len-gt0 c =
    let lengths = c.args.lengths.now in
    omega (arith, c.zeros_from-entry.ensures, zeros_at-most (drop c.entries.entry lengths), length-drop c.entries.entry lengths)

pub entries-smaller : goal.entries-smaller
entries-smaller c =
    let lengths = c.args.lengths.now in
    let k = c.entries.entry in
    let none : get_or lengths k 0 ≡ 0 = omega (arith, c.if-len-gt0.false) in
    omega (arith, c.zeros_from-entry.ensures, zeros_from-some lengths k c.entries-test.true none, c.entries-test.true)

pub entries-preserved : goal.entries-preserved
entries-preserved c =
    let lengths = c.args.lengths.now in
    let k = c.entries.entry in
    let count = zeros_at (drop k lengths) in
    let known = c.entries.invariant in
    let most = zeros_at-most (drop k lengths) in
    let within : k + count ≤ length lengths = omega (arith, most, length-drop k lengths, c.entries-test.true) in
    rw c.zeros_from-entry.ensures (record {
      within = within;
      size = known.size;
      counts_size = known.counts_size;
      counted = λ len some small. known.counted len some small ∙ sym (count_of-passed len lengths k count some within (λ j below. zeros_from-none lengths k j below));
      ranked = λ j below some_j. elim (cases_lt j k) [
        | inl before ↦ known.ranked j before some_j
        | inr past ↦
            let none = zeros_from-none lengths k (j - k) (omega (arith, below)) in
            let there : k + (j - k) ≡ j = omega (arith, past) in
            absurd (omega (arith, some_j, none, ap (λ i. get_or lengths i 0) there))
      ];
    })
