-- What whole transfers leave: bytes read from a place on as far as there are any, and a list that was cut short.
use Rattle.std.specs.Prelude.{◌≡◌, ℕ, ◌-◌, ◌≤◌, min, List, ◌++◌, length, take, drop}
use Rattle.exr_outside.specs.Sink.{replaced}

-- as many bytes of the content from pos on as there are and fit stand at the front of new, and the rest is old's
pub record Fills (content : List ℕ) (pos : ℕ) (old new : List ℕ) (count : ℕ) : Type 0 where
  pub reached : count ≡ min (length old) (length content - pos)
  pub bytes : take count new ≡ take count (drop pos content)
  pub rest : drop count new ≡ drop count old

-- a first part of the bytes, at least this many, was added at the end
abbrev pub AddsAtLeast : ℕ → List ℕ → List ℕ → List ℕ → Type 0
AddsAtLeast taken bytes old new = (k : ℕ) × (taken ≤ k) × (new ≡ old ++ take k bytes)

-- a first part of the bytes, at least this many, was put in the place of those from pos on
abbrev pub ReplacesAtLeast : ℕ → ℕ → List ℕ → List ℕ → List ℕ → Type 0
ReplacesAtLeast taken pos bytes old new = (k : ℕ) × (taken ≤ k) × (new ≡ replaced pos (take k bytes) old)
