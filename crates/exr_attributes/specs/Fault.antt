-- The numbers of the faults of a head (own).
use Rattle.std.specs.Prelude.{ℕ}
use Rattle.exr_attributes.specs.declared.fault.HeaderFault.{HeaderFault}
use Rattle.exr_attributes.specs.declared.fault.HeaderFault.TheVariants.{Truncated, BadName, BadSize, Twice, BadMagic, BadVersion, Missing, WrongType, BadChannels, BadWindow, BadSampling, BadTiles, UnknownCompression, BadLineOrder, BadPartType, TwicePart, ChunkCount, Limit, Levels, BadDeepVersion, FieldSize}

-- the number of a fault
abbrev pub number_of : HeaderFault → ℕ
number_of (Truncated at) = 1
number_of (BadName at) = 2
number_of (BadSize at) = 3
number_of (Twice at) = 4
number_of BadMagic = 5
number_of (BadVersion word) = 6
number_of (Missing part field) = 7
number_of (WrongType part field) = 8
number_of (BadChannels part) = 9
number_of (BadWindow part) = 10
number_of (BadSampling part channel) = 11
number_of (BadTiles part) = 12
number_of (UnknownCompression part number) = 13
number_of (BadLineOrder part number) = 14
number_of (BadPartType part) = 15
number_of (TwicePart part) = 16
number_of (ChunkCount part said computed) = 17
number_of (Limit bound) = 18
number_of (Levels part) = 19
number_of (BadDeepVersion part said) = 20
number_of (FieldSize part field) = 21
