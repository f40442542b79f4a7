-- The order in which chunks are written: a list of turns. File Layout, "lineOrder", for the heads whose chunks may stand in
-- any order; every other file has them by rising turn.
use Rattle.std.specs.Prelude.{◌≡◌, ℕ, ◌<◌, Bool, true, false, List, ◌++◌, length, nat_eq}
use Rattle.std.specs.List.{IsDistinct, range_with_len}
use Rattle.std.specs.Set.{is_member}

-- whether a turn is in an order
abbrev pub has : List ℕ → ℕ → Bool
has order turn = is_member nat_eq order turn

-- the beginning of an order of n turns: each at most once, and by rising turn 0, 1, .. where the order is not free
pub record IsBegun (n : ℕ) (free : Bool) (order : List ℕ) : Type 0 where
  pub below : (turn : ℕ) → has order turn ≡ true → turn < n
  pub once : IsDistinct nat_eq order
  pub rising : free ≡ false → order ≡ range_with_len 0 (length order)

-- an order of n turns that is allowed: each of them once, and by rising turn where the order is not free
pub record IsAllowed (n : ℕ) (free : Bool) (order : List ℕ) : Type 0 where
  pub begun : IsBegun n free order
  pub all : (turn : ℕ) → turn < n → has order turn ≡ true

-- an order begins with these turns
abbrev pub BeginsWith : List ℕ → List ℕ → Type 0
BeginsWith first order = (rest : List ℕ) × (order ≡ first ++ rest)
