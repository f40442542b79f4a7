-- The one spelling of a header's attributes. File Layout, "Component Three: Header".
use Rattle.std.specs.Prelude.{ℕ, ◌<◌, ◌^◌, List, [], ◌∷◌, ◌++◌, length, slice_index}
use Rattle.std.specs.List.{flat_map}
use Rattle.std.specs.Int.{w32, to_le_bytes}
use Rattle.exr_attributes.specs.declared.attribute.Attribute.{Attribute}
use Rattle.exr_attributes.specs.declared.attribute.Entry.{Entry}
use Rattle.exr_attributes.specs.Entry.{AreEntries}

-- bytes that a zero ends
abbrev pub ended : List ℕ → List ℕ
ended text = text ++ 0 ∷ []

-- a type, the size of the value in four bytes, and the value
abbrev pub attribute_spelling : Attribute → List ℕ
attribute_spelling a = ended a.kind ++ (to_le_bytes w32 (length a.value) ++ a.value)

-- a name and its attribute
abbrev pub entry_spelling : Entry → List ℕ
entry_spelling e = ended e.name ++ attribute_spelling e.attribute

-- one entry after the other
abbrev pub entries_spelling : List Entry → List ℕ
entries_spelling es = flat_map entry_spelling es

-- and a zero, in place of a name
abbrev pub header_spelling : List Entry → List ℕ
header_spelling es = entries_spelling es ++ 0 ∷ []

-- a value whose size is an int
abbrev pub HasSize : Entry → Type 0
HasSize e = length e.attribute.value < 2 ^ 31

abbrev pub AreSized : List Entry → Type 0
AreSized [] = Unit {0}
AreSized (e ∷ es) = HasSize e × AreSized es

-- the attributes of one header: names and types are names, no name stands twice, and sizes are ints
pub record AreAttributes (es : List Entry) : Type 0 where
  pub lawful : AreEntries es
  pub sizes : AreSized es

-- numbers that are bytes
abbrev pub IsBytes : List ℕ → Type 0
IsBytes bytes = (i : ℕ) → slice_index bytes i < 256
