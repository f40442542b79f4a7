-- The fields that a chunk begins with. File Layout, "Chunk Layout".
use Rattle.std.specs.Prelude.{ℕ, ℤ, Bool, List, [], ◌++◌, if◌then◌else◌}
use Rattle.std.specs.Int.{w32, to_le_bytes, cast_unsigned}
use Rattle.exr_chunks.specs.declared.place.Place.{Place}
use Rattle.exr_chunks.specs.declared.place.Place.TheVariants.{Line, Tile}

-- the four bytes of a number, and of one with sign
abbrev pub number_bytes : ℕ → List ℕ
number_bytes n = to_le_bytes w32 n

abbrev pub int_bytes : ℤ → List ℕ
int_bytes z = to_le_bytes w32 (cast_unsigned w32 z)

-- the first line of a block, or the column and the row of a tile and the numbers of its level
abbrev pub place_fields : Place → List ℕ
place_fields (Line y) = int_bytes y
place_fields (Tile tx ty lx ly) = number_bytes tx ++ number_bytes ty ++ number_bytes lx ++ number_bytes ly

-- and before it, in a file for many parts, the number of the part
abbrev pub chunk_fields : Bool → ℕ → Place → List ℕ
chunk_fields multi part place = (if multi then number_bytes part else []) ++ place_fields place
