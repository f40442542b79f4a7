-- What a printer and a sink mean, and what a write of one piece leaves.
use Rattle.std.specs.Prelude.{◌≡◌, ℕ, ◌+◌, ◌<◌, ◌≤◌, Bool, List, ◌++◌, length, take, drop}

-- the meaning of a type of printers or sinks
pub record SinkMeaning (S : Type 0) : Type 0 where
  -- whether the bytes below are what these sinks hold, so that clauses may rest on them; false for files of the system
  pub tells : Bool
  pub name : S → List ℕ
  pub holds : S → List ℕ
  -- how often a sink has failed
  pub faults : S → ℕ

-- of a piece this many bytes were taken: some of them, unless there are none
pub record TakesSome (wanted count : ℕ) : Type 0 where
  pub within : count ≤ wanted
  pub some : 0 < wanted → 0 < count

-- a first part of the bytes was added at the end
abbrev pub AddsPrefix : List ℕ → List ℕ → List ℕ → Type 0
AddsPrefix bytes old new = (k : ℕ) × (new ≡ old ++ take k bytes)

-- the list with these bytes in the place of those from pos on
abbrev pub replaced : ℕ → List ℕ → List ℕ → List ℕ
replaced pos bytes old = take pos old ++ bytes ++ drop (pos + length bytes) old

-- a first part of the bytes was put in the place of those from pos on
abbrev pub ReplacesPrefix : ℕ → List ℕ → List ℕ → List ℕ → Type 0
ReplacesPrefix pos bytes old new = (k : ℕ) × (new ≡ replaced pos (take k bytes) old)
