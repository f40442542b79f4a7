use Rattle.std.proofs.Common.{◌≡◌, ℕ, ◌+◌, ◌-◌, ◌<◌, ◌≤◌, eqb, length, take, slice_index, count_by}
use Rattle.exr_packing.proofs.words.count_words.Given as goal

abbrev pub invariant-pairs : goal.invariant-pairs
invariant-pairs l = record {
  within : l.at ≤ length l.words;
  counted : (k : ℕ) → k < length l.counts → slice_index l.counts k ≡ count_by (λ w. eqb w (l.least + k)) (take l.at l.words);
}

abbrev pub decreases-pairs : goal.decreases-pairs
decreases-pairs l = length l.words - l.at
