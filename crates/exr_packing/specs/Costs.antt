-- How many bits codes take.
use Rattle.std.specs.Prelude.{ℕ, zero, suc, ◌+◌, ◌-◌, ◌*◌, ◌<◌, ◌≤◌, List, length, slice_index}
use Rattle.std.specs.List.{sum_by}

-- what the first entries take, each as often as its weight says (own)
unfoldable pub cost_below : List ℕ → List ℕ → ℕ → ℕ
cost_below weights lengths zero = 0
cost_below weights lengths (suc n) = cost_below weights lengths n + slice_index weights n * slice_index lengths n

-- what the codes of words take (own)
unfoldable pub cost_of : ℕ → List ℕ → List ℕ → ℕ
cost_of least lengths words = sum_by (λ w. slice_index lengths (w - least)) words

-- each word has a code (own)
abbrev pub AreCoded : ℕ → List ℕ → List ℕ → Type 0
AreCoded least lengths words = (k : ℕ) → k < length words → (least ≤ slice_index words k) × (0 < slice_index lengths (slice_index words k - least))
