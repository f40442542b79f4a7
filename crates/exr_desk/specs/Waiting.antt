-- Chunks that wait to be written.
use Rattle.std.specs.Prelude.{◌≡◌, ◌⊎◌, ℕ, ◌<◌, ◌≤◌, ◌^◌, Bool, true, false, List, [], ◌∷◌, ◌++◌, Option, Some, None, IsSome, length, slice_index_or}
use Rattle.exr_desk.specs.declared.waiting.Place.{Place}
use Rattle.exr_desk.specs.declared.waiting.Place.TheVariants as place
use Rattle.exr_desk.specs.Accepted.{chunk_of}
use Rattle.exr_desk.specs.Order.{has, IsBegun}

-- how many turns there are, the chunks that were accepted, and the turns whose chunk was taken, in their order
pub record WaitingState : Type 0 where
  pub turns : ℕ
  pub accepted : List (ℕ × List ℕ)
  pub taken : List ℕ

-- nothing was accepted
abbrev pub no_chunk_of : ℕ → WaitingState
no_chunk_of turns = record { turns = turns; accepted = []; taken = [] }

-- the chunk of a turn was taken
pub record Takes (old : WaitingState) (turn : ℕ) (chunk : List ℕ) (new : WaitingState) : Type 0 where
  pub is : chunk_of old.accepted turn ≡ Some chunk
  pub fresh : has old.taken turn ≡ false
  pub small : length chunk ≤ 2 ^ 30
  pub after : new ≡ record old { taken = old.taken ++ turn ∷ [] }

-- a turn has no chunk that waits
pub record CannotTake (old : WaitingState) (turn : ℕ) (new : WaitingState) : Type 0 where
  pub reason : (chunk_of old.accepted turn ≡ None) ⊎ (has old.taken turn ≡ true)
  pub same : new ≡ old

-- what is kept at a turn with this chunk, which was taken or not
abbrev pub IsPlaceOf : Place → Option (List ℕ) → Bool → Type 0
IsPlaceOf place.Free chunk taken = (chunk ≡ None) × (taken ≡ false)
IsPlaceOf (place.Waits packed) chunk taken = (chunk ≡ Some packed.bytes.items) × (taken ≡ false) × (length packed.bytes.items ≤ 2 ^ 30)
IsPlaceOf place.Taken chunk taken = IsSome chunk × (taken ≡ true)

-- what is kept, by turn
pub record IsWaiting (places : List Place) (accepted : List (ℕ × List ℕ)) (taken : List ℕ) : Type 0 where
  pub few : length places < 2 ^ 32
  pub begun : IsBegun (length places) true taken
  pub kept : (turn : ℕ) (d : Place) → turn < length places → IsPlaceOf (slice_index_or places turn d) (chunk_of accepted turn) (has taken turn)
