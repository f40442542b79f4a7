-- The faults of chunks by their numbers.
use Rattle.std.specs.Prelude.{ℕ}
use Rattle.exr_block.specs.declared.fault.ChunkFault.{ChunkFault}
use Rattle.exr_block.specs.declared.fault.ChunkFault.TheVariants.{Unwritten, Outside, WrongPlace, WrongSize, Unsupported, Rle, Piz, B44, Deep}

abbrev pub number_of : ChunkFault → ℕ
number_of Unwritten = 1
number_of Outside = 2
number_of WrongPlace = 3
number_of WrongSize = 4
number_of (Unsupported method) = 5
number_of Rle = 6
number_of (Piz fault) = 7
number_of (B44 f) = 8
number_of (Deep fault) = 9
