-- What the validation of a header says of the raw sizes of its chunks.
use Rattle.std.specs.Prelude.{◌≡◌, ◌≤◌, ◌<◌, ◌^◌, ◌↔◌, ℕ, IsTrue, All, None, false}
use Rattle.exr_chunks.specs.Heads.{Header, IsPicture, is_tiled, is_sampled_well, raw_chunk_of, chunk_count_of}
use Rattle.exr_chunks.specs.Region.{chunk_bytes_of}

-- the samplings of all channels fit the kind of part and the data window
abbrev pub AreSampledWell : Header → Type 0
AreSampledWell h = All (λ c. IsTrue (is_sampled_well h c)) h.channels

-- the samplings fit, the first chunk has at most 2^26 raw bytes, and a part in lines has no tiles
pub record IsMeasured (h : Header) : Type 0 where
  pub sampled : AreSampledWell h
  pub lines : is_tiled h.kind ≡ false → h.tiles ≡ None
  pub small : raw_chunk_of h ≤ 2 ^ 26

-- the size that is validated is the raw size of the first chunk
abbrev pub JudgesTheFirst : Header → Type 0
JudgesTheFirst h = IsPicture h → chunk_bytes_of h 0 ≡ raw_chunk_of h

-- and no other chunk has more
abbrev pub HasNoLarger : Header → Type 0
HasNoLarger h = IsPicture h → AreSampledWell h → (i : ℕ) → i < chunk_count_of h → chunk_bytes_of h i ≤ raw_chunk_of h

-- so the first passes 2^26 exactly where one of all does
abbrev pub IsJudgedForAll : Header → Type 0
IsJudgedForAll h =
    IsPicture h → AreSampledWell h → (2 ^ 26 < raw_chunk_of h) ↔ ((i : ℕ) × (i < chunk_count_of h) × (2 ^ 26 < chunk_bytes_of h i))
