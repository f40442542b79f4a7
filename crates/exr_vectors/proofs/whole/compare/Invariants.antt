use Rattle.exr_outside.specs.Fakes.{named_files, bytes_under}
use Rattle.exr_vectors.proofs.whole.compare.Given as goal

-- the world that gives what is found in memory
abbrev pub ghosts-ran : goal.ghosts-ran
ghosts-ran g a = record { bytes_of = bytes_under (named_files a.files.items) }
