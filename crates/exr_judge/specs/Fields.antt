-- The judged attributes: their names, types and sizes, and whether they are there. File Layout, "Header Attributes
-- (All Files)", "Header Attributes for Tile Parts", "Header Attributes for Multi-Part and Deep Data Files".
use Rattle.std.specs.Prelude.{◌==◌, ℕ, Bool, true, List, [], length, codes, Option, Some, None, is_some, Result, Ok, Err, if◌then◌else◌}
use Rattle.std.specs.Str.{bytes_eq}
use Rattle.exr_base.specs.Refusal.{◌>>=◌}
use Rattle.exr_attributes.specs.declared.fault.HeaderFault.{HeaderFault}
use Rattle.exr_attributes.specs.declared.fault.HeaderFault.TheVariants.{Missing, WrongType, FieldSize}
use Rattle.exr_attributes.specs.declared.fault.Field.{Field}
use Rattle.exr_attributes.specs.declared.fault.Field.TheVariants.{Channels, Compression, DataWindow, DisplayWindow, LineOrder, PixelAspectRatio, ScreenWindowCenter, ScreenWindowWidth, Tiles, PartType, PartName, ChunkCount, Version}
use Rattle.exr_attributes.specs.declared.attribute.Attribute.{Attribute}
use Rattle.exr_attributes.specs.declared.attribute.Entry.{Entry}
use Rattle.exr_attributes.specs.Entry.{attribute_of}
use Rattle.exr_judge.specs.declared.kind.PartKind.{PartKind}
use Rattle.exr_judge.specs.declared.kind.Flags.{Flags}
use Rattle.exr_judge.specs.Kind.{is_tiled, is_deep}

abbrev pub name_of_field : Field → List ℕ
name_of_field Channels = codes "channels"
name_of_field Compression = codes "compression"
name_of_field DataWindow = codes "dataWindow"
name_of_field DisplayWindow = codes "displayWindow"
name_of_field LineOrder = codes "lineOrder"
name_of_field PixelAspectRatio = codes "pixelAspectRatio"
name_of_field ScreenWindowCenter = codes "screenWindowCenter"
name_of_field ScreenWindowWidth = codes "screenWindowWidth"
name_of_field Tiles = codes "tiles"
name_of_field PartType = codes "type"
name_of_field PartName = codes "name"
name_of_field ChunkCount = codes "chunkCount"
name_of_field Version = codes "version"

abbrev pub type_of_field : Field → List ℕ
type_of_field Channels = codes "chlist"
type_of_field Compression = codes "compression"
type_of_field DataWindow = codes "box2i"
type_of_field DisplayWindow = codes "box2i"
type_of_field LineOrder = codes "lineOrder"
type_of_field PixelAspectRatio = codes "float"
type_of_field ScreenWindowCenter = codes "v2f"
type_of_field ScreenWindowWidth = codes "float"
type_of_field Tiles = codes "tiledesc"
type_of_field PartType = codes "string"
type_of_field PartName = codes "string"
type_of_field ChunkCount = codes "int"
type_of_field Version = codes "int"

-- the bytes of a value, where its type says them
abbrev pub size_of_field : Field → Option ℕ
size_of_field Channels = None
size_of_field Compression = Some 1
size_of_field DataWindow = Some 16
size_of_field DisplayWindow = Some 16
size_of_field LineOrder = Some 1
size_of_field PixelAspectRatio = Some 4
size_of_field ScreenWindowCenter = Some 8
size_of_field ScreenWindowWidth = Some 4
size_of_field Tiles = Some 9
size_of_field PartType = None
size_of_field PartName = None
size_of_field ChunkCount = Some 4
size_of_field Version = Some 4

abbrev pub fits_size : Option ℕ → ℕ → Bool
fits_size None n = true
fits_size (Some size) n = n == size

-- the value of a field's attribute, empty where there is none
abbrev pub value_in : Option Attribute → List ℕ
value_in None = []
value_in (Some a) = a.value

abbrev pub value_of : Field → List Entry → List ℕ
value_of f es = value_in (attribute_of (name_of_field f) es)

-- whether a field's attribute is there
abbrev pub is_there : Field → List Entry → Bool
is_there f es = is_some (attribute_of (name_of_field f) es)

-- an attribute has its field's type and size
unfoldable pub typed : ℕ → Field → Attribute → Result (List ℕ) HeaderFault
typed part f a =
    if bytes_eq a.kind (type_of_field f) then
    (if fits_size (size_of_field f) (length a.value) then Ok a.value else Err (FieldSize part f))
    else Err (WrongType part f)

-- the value of a needed attribute
abbrev pub needed : ℕ → Field → Option Attribute → Result (List ℕ) HeaderFault
needed part f None = Err (Missing part f)
needed part f (Some a) = typed part f a

unfoldable pub needed_at : ℕ → Field → List Entry → Result (List ℕ) HeaderFault
needed_at part f es = needed part f (attribute_of (name_of_field f) es)

-- the value of an attribute that may be missing
abbrev pub optional : ℕ → Field → Option Attribute → Result (List ℕ) HeaderFault
optional part f None = Ok []
optional part f (Some a) = typed part f a

unfoldable pub optional_at : ℕ → Field → List Entry → Result (List ℕ) HeaderFault
optional_at part f es = optional part f (attribute_of (name_of_field f) es)

-- what every part needs: the first four, and the others
unfoldable pub first_fields : ℕ → List Entry → Result (List ℕ) HeaderFault
first_fields part es = do
  channels ← needed_at part Channels es
  compression ← needed_at part Compression es
  data_window ← needed_at part DataWindow es
  needed_at part DisplayWindow es

unfoldable pub other_fields : ℕ → List Entry → Result (List ℕ) HeaderFault
other_fields part es = do
  order ← needed_at part LineOrder es
  ratio ← needed_at part PixelAspectRatio es
  center ← needed_at part ScreenWindowCenter es
  needed_at part ScreenWindowWidth es

-- what multi-part files need, and what is judged in deep files of one part where it is there
unfoldable pub file_fields : Flags → ℕ → List Entry → Result (List ℕ) HeaderFault
file_fields flags part es =
    if flags.multi then (do
      name ← needed_at part PartName es
      needed_at part ChunkCount es)
    else (if flags.deep then (do
      name ← optional_at part PartName es
      optional_at part ChunkCount es)
    else Ok [])

-- all of them, in their order
unfoldable pub all_fields : Flags → ℕ → PartKind → List Entry → Result (List ℕ) HeaderFault
all_fields flags part kind es = do
  first ← first_fields part es
  others ← other_fields part es
  tiles ← (if is_tiled kind then needed_at part Tiles es else Ok [])
  file ← file_fields flags part es
  (if is_deep kind then needed_at part Version es else Ok [])
