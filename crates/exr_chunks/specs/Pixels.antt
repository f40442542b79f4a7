-- Which chunk has a pixel. File Layout, "Chunk Layout"; Technical Introduction, "Tiles".
use Rattle.std.specs.Prelude.{◌≡◌, ◌+◌, ◌*◌, ◌/◌, ◌<◌, ◌-ℤ◌, ℕ, ℤ, nat_abs}
use Rattle.exr_base.specs.Boxes.{IsWithin}
use Rattle.exr_chunks.specs.Heads.{Header, IsPicture, chunk_width, chunk_height, chunk_count_of}
use Rattle.exr_chunks.specs.Region.{across_of, region_of}

-- the chunk of a part that has a pixel of the data window: the rows of chunks above it, and the chunks to its left
abbrev pub chunk_with : Header → ℤ → ℤ → ℕ
chunk_with h x y = nat_abs (y -ℤ h.window.y0) / chunk_height h * across_of h + nat_abs (x -ℤ h.window.x0) / chunk_width h

-- it is one of the part's, its region has the pixel, and no other's has it
pub record HasOneChunk (h : Header) (x y : ℤ) : Type 0 where
  pub within : chunk_with h x y < chunk_count_of h
  pub has : IsWithin (region_of h (chunk_with h x y)) x y
  pub alone : (i : ℕ) → i < chunk_count_of h → IsWithin (region_of h i) x y → i ≡ chunk_with h x y

-- so it is for each pixel of a part's data window
abbrev pub HasOneChunkEach : Header → Type 0
HasOneChunkEach h = IsPicture h → (x y : ℤ) → IsWithin h.window x y → HasOneChunk h x y
