-- The chunks that a desk accepted (own): pairs of a turn and the bytes of its chunk, in the order in which they came. A
-- turn is the position of a chunk in the write order of the file.
use Rattle.std.specs.Prelude.{◌≡◌, ℕ, ◌<◌, ◌==◌, if◌then◌else◌, List, [], ◌∷◌, Option, Some, None, IsSome}

-- the chunk of a turn
abbrev pub chunk_of : List (ℕ × List ℕ) → ℕ → Option (List ℕ)
chunk_of [] turn = None
chunk_of (c ∷ cs) turn = if c.0 == turn then Some c.1 else chunk_of cs turn

-- a chunk and those after it; nothing, where it is not there
abbrev pub in_front : Option (List ℕ) → List (List ℕ) → List (List ℕ)
in_front None later = []
in_front (Some chunk) later = chunk ∷ later

-- the chunks of some turns in their order, up to the first turn that has none
abbrev pub chunks_at : List (ℕ × List ℕ) → List ℕ → List (List ℕ)
chunks_at accepted [] = []
chunks_at accepted (turn ∷ order) = in_front (chunk_of accepted turn) (chunks_at accepted order)

-- the first of n turns that has no chunk
pub record IsFirstMissing (n : ℕ) (accepted : List (ℕ × List ℕ)) (turn : ℕ) : Type 0 where
  pub below : turn < n
  pub missing : chunk_of accepted turn ≡ None
  pub earlier : (u : ℕ) → u < turn → IsSome (chunk_of accepted u)

-- each of n turns has a chunk
abbrev pub IsComplete : ℕ → List (ℕ × List ℕ) → Type 0
IsComplete n accepted = (turn : ℕ) → turn < n → IsSome (chunk_of accepted turn)
