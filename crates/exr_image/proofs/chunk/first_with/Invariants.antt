use Rattle.std.proofs.Common.{◌≡◌, false}
use Rattle.std.specs.List.{AllWithin}
use Rattle.exr_image.specs.declared.chunk.DeepChunk.{DeepChunk}
use Rattle.exr_image.specs.Pieces.{has_pixel}
use Rattle.exr_image.proofs.chunk.first_with.Given as goal

-- no chunk so far has the pixel
abbrev pub invariant-loop-number : goal.invariant-loop-number
invariant-loop-number l = AllWithin (λ (chunk : DeepChunk). has_pixel chunk.region l.pixel ≡ false) l.chunks l.from l.number
