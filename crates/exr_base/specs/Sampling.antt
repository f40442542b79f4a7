-- The places at which a channel has samples: the multiples of its sampling.
use Rattle.std.specs.Prelude.{◌≡◌, ◌==◌, ◌%◌, ◌+◌, ◌-◌, ◌/◌, ℕ, zero, suc, ℤ, pos, ◌+ℤ◌, ◌-ℤ◌, ◌≤ℤ◌, ◌<ℤ◌, nat_abs, Bool, IsTrue, false, if◌then◌else◌}

abbrev pub is_multiple : ℕ → ℤ → Bool
is_multiple sampling z = (nat_abs z % sampling) == 0

-- how many of the n places from `from` on are multiples of the sampling
unfoldable pub multiples_among : ℕ → ℤ → ℕ → ℕ
multiples_among sampling from zero = 0
multiples_among sampling from (suc n) =
    multiples_among sampling from n + (if is_multiple sampling (from +ℤ pos n) then 1 else 0)

-- how many places there are from one to another, both included
abbrev pub span_of : ℤ → ℤ → ℕ
span_of from to = nat_abs ((to -ℤ from) +ℤ pos 1)

-- how many multiples of the sampling there are from one place to another, both included
abbrev pub sample_count_of : ℕ → ℤ → ℤ → ℕ
sample_count_of sampling from to = multiples_among sampling from (span_of from to)

-- how many multiples of the sampling there are from one place on and before another
abbrev pub count_before : ℕ → ℤ → ℤ → ℕ
count_before sampling from to = multiples_among sampling from (nat_abs (to -ℤ from))

-- how many pieces of some size cover a length
abbrev pub pieces : ℕ → ℕ → ℕ
pieces size length = (length + size - 1) / size

-- the least multiple of the sampling that is at least `from`
pub record IsFirstSample (sampling : ℕ) (from first : ℤ) : Type 0 where
  pub multiple : IsTrue (is_multiple sampling first)
  pub not_before : from ≤ℤ first
  pub least : (z : ℤ) → from ≤ℤ z → z <ℤ first → is_multiple sampling z ≡ false
