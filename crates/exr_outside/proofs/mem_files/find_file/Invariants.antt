use Rattle.std.proofs.Common.{◌≡◌, drop}
use Rattle.exr_outside.specs.Fakes.{named_files, file_of}
use Rattle.exr_outside.proofs.mem_files.find_file.Given as goal

abbrev pub invariant-loop-file_name : goal.invariant-loop-file_name
invariant-loop-file_name l =
    file_of (named_files (drop l.file_name-index l.files)) l.name
    ≡ file_of (named_files l.files) l.name
