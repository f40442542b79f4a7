-- The name of a part. File Layout, "Header Attributes for Multi-Part and Deep Data Files".
use Rattle.std.specs.Prelude.{ℕ, List, codes, Option, Some, None, if◌then◌else◌}
use Rattle.std.specs.Str.{bytes_eq}
use Rattle.exr_attributes.specs.declared.attribute.Attribute.{Attribute}
use Rattle.exr_attributes.specs.declared.attribute.Entry.{Entry}
use Rattle.exr_attributes.specs.Entry.{attribute_of}

abbrev pub text_in : Option Attribute → Option (List ℕ)
text_in None = None
text_in (Some a) = if bytes_eq a.kind (codes "string") then Some a.value else None

-- the value of the attribute `name`, where it is a string
abbrev pub part_name_of : List Entry → Option (List ℕ)
part_name_of es = text_in (attribute_of (codes "name") es)
