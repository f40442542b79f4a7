use Rattle.std.proofs.Common.{◌≡◌, ◌≤◌, ◌<◌, ◌-◌, ℕ, length, slice_index}
use Rattle.exr_chunks.specs.Region.{header_at, region_of}
use Rattle.exr_reader.proofs.bands.row_behind.Given as goal

-- the chunks so far stand beside the first one
abbrev pub invariant-beside : goal.invariant-beside
invariant-beside g l = record {
  some : l.rank < l.behind;
  within : l.behind ≤ length l.what.chunks.now;
  beside : (r : ℕ) → l.rank ≤ r → r < l.behind → (region_of (header_at l.stream.head.parts l.what.part) (slice_index l.what.chunks.now r)).y0
      ≡ (region_of (header_at l.stream.head.parts l.what.part) (slice_index l.what.chunks.now l.rank)).y0;
}

abbrev pub decreases-beside : goal.decreases-beside
decreases-beside g l = length l.what.chunks.now - l.behind
