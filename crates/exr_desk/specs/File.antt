-- The file that is made of a front and chunks, whole and as far as its writing came. File Layout, "Component Four: Offset
-- Tables" and "Component Five: Pixel Data"; what a file holds when its writing has failed is our own.
use Rattle.std.specs.Prelude.{◌≡◌, ◌⊎◌, ℕ, ◌+◌, ◌<◌, ◌≤◌, ◌^◌, Bool, List, [], ◌∷◌, ◌++◌, length, take, slice_index}
use Rattle.std.specs.Int.{w64, to_le_bytes}
use Rattle.std.specs.List.{flat_map}
use Rattle.exr_outside.specs.Sink.{replaced}
use Rattle.exr_desk.specs.Accepted.{chunks_at, IsFirstMissing}
use Rattle.exr_desk.specs.Order.{IsAllowed, BeginsWith}

-- the front of a file and the places of its table entries, by turn: each entry's eight bytes lie in the front
pub record IsFront (front entries : List ℕ) : Type 0 where
  pub size : length front ≤ 2 ^ 40
  pub few : length entries < 2 ^ 32
  pub inside : (turn : ℕ) → turn < length entries → slice_index entries turn + 8 ≤ length front

-- chunks one after another
abbrev pub joined : List (List ℕ) → List ℕ
joined chunks = flat_map (λ chunk. chunk) chunks

-- where each chunk begins, if the first begins at an offset
unfoldable pub offsets_from : ℕ → List (List ℕ) → List ℕ
offsets_from offset [] = []
offsets_from offset (chunk ∷ chunks) = offset ∷ offsets_from (offset + length chunk) chunks

-- the front with a number at the table entry of each of some turns, in eight bytes, the low byte first
unfoldable pub filled : List ℕ → List ℕ → List ℕ → List ℕ → List ℕ
filled entries [] numbers front = front
filled entries (turn ∷ turns) [] front = front
filled entries (turn ∷ turns) (number ∷ numbers) front = filled entries turns numbers (replaced (slice_index entries turn) (to_le_bytes w64 number) front)

-- the front with the offset of each chunk at the entry of its turn, where the chunks follow the front in this order
abbrev pub with_offsets : List ℕ → List ℕ → List (ℕ × List ℕ) → List ℕ → List ℕ
with_offsets front entries accepted order = filled entries order (offsets_from (length front) (chunks_at accepted order)) front

-- the whole file: the front with the offset of each chunk at the entry of its turn, and the chunks in this order
abbrev pub filed : List ℕ → List ℕ → List (ℕ × List ℕ) → List ℕ → List ℕ
filed front entries accepted order = with_offsets front entries accepted order ++ joined (chunks_at accepted order)

-- each byte is that of one list or of the other
pub record IsMixture (one other bytes : List ℕ) : Type 0 where
  pub size : length bytes ≡ length one
  pub each : (k : ℕ) → (slice_index bytes k ≡ slice_index one k) ⊎ (slice_index bytes k ≡ slice_index other k)

-- the front, and a first part of the chunks in this order up to the first turn without one; no entry is filled in where a
-- turn has no chunk, else some bytes of entries may be
pub record HasFront (front entries : List ℕ) (accepted : List (ℕ × List ℕ)) (order file : List ℕ) : Type 0 where
  pub table : List ℕ
  pub count : ℕ
  pub bytes : file ≡ table ++ take count (joined (chunks_at accepted order))
  pub entered : IsMixture front (with_offsets front entries accepted order) table
  pub unfilled : (turn : ℕ) → IsFirstMissing (length entries) accepted turn → table ≡ front

-- what a file holds when its writing has failed: a first part of the front, or the front and a first part of the chunks
-- in an allowed order, which begins with the turns that were taken to be written
pub record IsPartial (front entries : List ℕ) (free : Bool) (accepted : List (ℕ × List ℕ)) (taken file : List ℕ) : Type 0 where
  pub order : List ℕ
  pub allowed : IsAllowed (length entries) free order
  pub begins : BeginsWith taken order
  pub holds : ((k : ℕ) × (file ≡ take k front)) ⊎ HasFront front entries accepted order file
