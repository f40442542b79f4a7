use Rattle.std.proofs.Common.{◌≡◌, ℕ, ◌<◌, List, slice_index_or}
use Rattle.exr_outside.specs.Fakes.{named_files, bytes_under}
use Rattle.exr_outside.proofs.mem_files.are_of_one_world.Given as goal

abbrev pub invariant-loop-name : goal.invariant-loop-name
invariant-loop-name l =
    let files = named_files l.files in
    (k : ℕ) (d : List ℕ × List ℕ) → k < l.name-index
    → (slice_index_or files k d).1 ≡ bytes_under files (slice_index_or files k d).0
