-- A desk: what contracts see of it, what always holds of it, and its answers (own).
use Rattle.std.specs.Prelude.{◌≡◌, ◌⊎◌, ℕ, ◌+◌, ◌*◌, ◌<◌, ◌≤◌, ◌^◌, Bool, true, false, if◌then◌else◌, IsTrue, IsSome, MatchBool, List, [], ◌∷◌, ◌++◌, length, take}
use Rattle.exr_base.specs.declared.refusal.Refusal.{Refusal}
use Rattle.exr_base.specs.declared.refusal.Refusal.TheVariants as refusal
use Rattle.exr_outside.specs.Count.{Rose, rise_of}
use Rattle.exr_outside.specs.Sink.{SinkMeaning}
use Rattle.exr_desk.specs.declared.stop.DeskCause.{DeskCause}
use Rattle.exr_desk.specs.declared.stop.DeskCause.TheVariants as cause
use Rattle.exr_desk.specs.declared.stop.Placed.{Placed}
use Rattle.exr_desk.specs.declared.stop.Placed.TheVariants as placed
use Rattle.exr_desk.specs.declared.stop.WriteFault.{WriteFault}
use Rattle.exr_desk.specs.Accepted.{chunk_of, chunks_at, IsFirstMissing, IsComplete}
use Rattle.exr_desk.specs.Order.{has, IsBegun, BeginsWith}
use Rattle.exr_desk.specs.File.{IsFront, joined, offsets_from}

-- what contracts see of a desk over sinks of a type
pub record DeskState (S : Type 0) : Type 0 where
  -- the front, and where the table entry of each turn is in it
  pub front : List ℕ
  pub entries : List ℕ
  -- whether chunks are written in any order, and not by rising turn
  pub free : Bool
  -- how often the sink had failed before the desk was opened
  pub begun : ℕ
  -- the turns and the chunks that were accepted, in the order in which they came
  pub accepted : List (ℕ × List ℕ)
  -- the turns whose chunks were taken to be written, in that order
  pub taken : List ℕ
  -- whether an append has failed, which was that of the last turn taken; all others were written
  pub broken : Bool
  pub sink : S

-- the state with each field in its place
abbrev pub desk_of : {S : Type 0} → List ℕ → List ℕ → Bool → ℕ → List (ℕ × List ℕ) → List ℕ → Bool → S → DeskState S
desk_of front entries free begun accepted taken broken sink = record {
  front = front;
  entries = entries;
  free = free;
  begun = begun;
  accepted = accepted;
  taken = taken;
  broken = broken;
  sink = sink;
}

-- the chunks that were taken to be written, in their order
abbrev pub chunks_of : {S : Type 0} → DeskState S → List (List ℕ)
chunks_of d = chunks_at d.accepted d.taken

-- what holds of every desk
pub record IsDesk {S : Type 0} (means : SinkMeaning S) (d : DeskState S) : Type 0 where
  pub is_front : IsFront d.front d.entries
  pub order : IsBegun (length d.entries) d.free d.taken
  -- each turn taken has a chunk
  pub given : length (chunks_of d) ≡ length d.taken
  -- the sink holds the front and the chunks that were written
  pub whole : IsTrue means.tells → d.broken ≡ false → means.holds d.sink ≡ d.front ++ joined (chunks_of d)
  -- after a failure it holds the front and a first part of the chunks that were taken
  pub cut : IsTrue means.tells → d.broken ≡ true → (k : ℕ) × (means.holds d.sink ≡ d.front ++ take k (joined (chunks_of d)))
  pub failed : d.broken ≡ true → Rose d.begun (means.faults d.sink)
  pub later : d.begun ≤ means.faults d.sink

-- the chunk of a turn can be written: it is there and was not taken, and the turn is the next one or the order is free
pub record CanWrite {S : Type 0} (d : DeskState S) (turn : ℕ) : Type 0 where
  pub below : turn < length d.entries
  pub there : IsSome (chunk_of d.accepted turn)
  pub fresh : has d.taken turn ≡ false
  pub next : (d.free ≡ true) ⊎ (turn ≡ length d.taken)

-- every chunk that can be written was written, unless an append has failed
abbrev pub IsSettled : {S : Type 0} → DeskState S → Type 0
IsSettled d = d.broken ≡ false → (turn : ℕ) → CanWrite d turn → ⊥

-- the same desk, as far as it was given: the same sink by name, which has not failed less often
pub record IsSameDesk {S : Type 0} (means : SinkMeaning S) (old new : DeskState S) : Type 0 where
  pub front : new.front ≡ old.front
  pub entries : new.entries ≡ old.entries
  pub free : new.free ≡ old.free
  pub begun : new.begun ≡ old.begun
  pub accepted : new.accepted ≡ old.accepted
  pub name : means.name new.sink ≡ means.name old.sink
  pub later : means.faults old.sink ≤ means.faults new.sink

-- the desk with one chunk more, at a turn that had none
abbrev pub with_chunk : {S : Type 0} → DeskState S → ℕ → List ℕ → DeskState S
with_chunk d turn chunk = record d { accepted = d.accepted ++ (turn, chunk) ∷ [] }

-- a chunk was accepted, and what could be written was written; a broken desk writes no more
pub record Accepts {S : Type 0} (means : SinkMeaning S) (old : DeskState S) (turn : ℕ) (chunk : List ℕ) (new : DeskState S) : Type 0 where
  pub same : IsSameDesk means (with_chunk old turn chunk) new
  pub settled : IsSettled new
  pub progress : BeginsWith old.taken new.taken
  pub still : old.broken ≡ true → new ≡ with_chunk old turn chunk

-- the number that stands for what became of the chunk of a turn: 4 where it was taken to be written, 2 where it waits
abbrev pub word_of : {S : Type 0} → DeskState S → ℕ → ℕ
word_of d turn = if has d.taken turn then 4 else 2

-- where the chunk of a turn is
abbrev pub IsAt : {S : Type 0} → SinkMeaning S → DeskState S → ℕ → Placed → Type 0
IsAt means d turn placed.Written = (d.broken ≡ false) × (has d.taken turn ≡ true)
IsAt means d turn (placed.Waits first) = (d.broken ≡ false) × (d.free ≡ false) × (first < turn) × IsFirstMissing (length d.entries) d.accepted first
IsAt means d turn (placed.Broken faults) = (d.broken ≡ true) × (0 < faults) × (faults ≡ rise_of d.begun (means.faults d.sink))

-- why a desk was not opened: memory ran out before anything was written, or the sink failed
abbrev pub IsOpenStop : {S : Type 0} → SinkMeaning S → S → Refusal WriteFault → S → Type 0
IsOpenStop means old refusal.NoMemory new = new ≡ old
IsOpenStop means old (refusal.Fault fault) new = Rose (means.faults old) (means.faults new) × (IsTrue means.tells → fault.at ≤ length (means.holds new))

-- why a file was not finished
abbrev pub IsStop : {S : Type 0} → SinkMeaning S → DeskState S → DeskCause → S → Type 0
IsStop means d (cause.Missing turn) sink = IsFirstMissing (length d.entries) d.accepted turn × (sink ≡ d.sink)
IsStop means d (cause.WriteFault at) sink = IsComplete (length d.entries) d.accepted × Rose d.begun (means.faults sink) × (IsTrue means.tells → at ≤ length (means.holds sink))

-- ---- what a desk keeps beside

-- where each chunk that was written begins, and how many bytes were appended
pub record IsKept {S : Type 0} (means : SinkMeaning S) (d : DeskState S) (n : ℕ) (starts : List ℕ) (room appended : ℕ) : Type 0 where
  pub desk : IsDesk means d
  pub turns : n ≡ length d.entries
  pub begins : d.broken ≡ false → starts ≡ offsets_from (length d.front) (chunks_of d)
  pub roomy : length d.entries ≤ room
  pub exact : d.broken ≡ false → appended ≡ length d.front + length (joined (chunks_of d))
  pub small : appended ≤ 2 ^ 40 + 2 ^ 30 * length d.taken
  pub held : IsTrue means.tells → appended ≤ length (means.holds d.sink)

-- every chunk but that of one turn was written that can be, where the order is free
abbrev pub IsSettledBut : {S : Type 0} → ℕ → DeskState S → Type 0
IsSettledBut turn d = d.broken ≡ false → d.free ≡ true → (u : ℕ) → CanWrite d u → u ≡ turn

-- one chunk more was taken to be written, or there was none to write
abbrev pub WritesNext : {S : Type 0} → Bool → DeskState S → DeskState S → Type 0
WritesNext more old new = MatchBool more ((length old.taken < length old.entries) × (new.taken ≡ old.taken ++ length old.taken ∷ [])) ((new ≡ old) × IsSettled old)
