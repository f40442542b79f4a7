use Rattle.exr_outside.specs.Fakes.{named_files, bytes_under}
use Rattle.exr_word_tests.proofs.tests.copies.outcome_of.Given as goal

abbrev pub ghosts-copied : goal.ghosts-copied
ghosts-copied g a = record { bytes_of = bytes_under (named_files a.files.items) }
