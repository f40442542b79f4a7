use Rattle.std.proofs.Common.{◌≡◌, true}
use Rattle.std.specs.List.{AllWithin}
use Rattle.exr_deep.specs.Body.{content_of}
use Rattle.exr_deep.specs.Deep.{fits}
use Rattle.exr_image.specs.declared.chunk.DeepChunk.{DeepChunk}
use Rattle.exr_image_tests.proofs.image.all_fit.Given as goal

abbrev pub invariant-loop-chunk : goal.invariant-loop-chunk
invariant-loop-chunk l = AllWithin (λ (chunk : DeepChunk). fits l.channels chunk.region (content_of chunk.content) ≡ true) l.chunks 0 l.chunk-index
