use Rattle.std.proofs.Common.{◌≡◌, length, vec_len}
use Rattle.exr_image_tests.proofs.image.push_lines.Given as goal

abbrev pub invariant-loop-y : goal.invariant-loop-y
invariant-loop-y l = vec_len l.image.channels ≡ length l.channels
