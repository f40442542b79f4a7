use Rattle.std.proofs.Common.{◌≡◌, vec_len}
use Rattle.std.specs.List.{All}
use Rattle.exr_base.specs.Shape.{IsSampled}
use Rattle.exr_image_tests.proofs.image.channels_of.Given as goal

abbrev pub invariant-loop-kind : goal.invariant-loop-kind
invariant-loop-kind l = record { sampled : All IsSampled l.channels.items; size : vec_len l.channels ≡ l.kind-index }
