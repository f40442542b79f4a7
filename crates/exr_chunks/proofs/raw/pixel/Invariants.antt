use Rattle.std.proofs.Common.{◌*◌, ◌≤◌, take}
use Rattle.exr_chunks.specs.RawBytes.{IsPixel}
use Rattle.exr_chunks.proofs.raw.pixel.Given as goal

-- the channels so far have a sample at each pixel, and these are their bytes
abbrev pub invariant-loop-channel : goal.invariant-loop-channel
invariant-loop-channel l = record {
  pixel : IsPixel (take l.channel-index l.channels) l.bytes;
  small : l.bytes ≤ 4 * l.channel-index;
}
