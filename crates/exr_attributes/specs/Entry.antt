-- The attributes of a header as a list, in their order, no two of one name.
use Rattle.std.specs.Prelude.{◌≡◌, ◌<◌, ℕ, Bool, true, false, List, [], ◌∷◌, length, take, slice_index_or, Option, Some, None, if◌then◌else◌}
use Rattle.std.specs.Str.{bytes_eq}
use Rattle.std.specs.List.{list_any}
use Rattle.exr_base.specs.Name.{IsName}
use Rattle.exr_attributes.specs.declared.attribute.Attribute.{Attribute}
use Rattle.exr_attributes.specs.declared.attribute.Entry.{Entry}

-- whether an entry has a name
abbrev pub is_named : List ℕ → Entry → Bool
is_named name e = bytes_eq name e.name

-- whether an entry of some name is there
abbrev pub has_name : List ℕ → List Entry → Bool
has_name name entries = list_any (is_named name) entries

-- the attribute of a name, or none
abbrev pub attribute_of : List ℕ → List Entry → Option Attribute
attribute_of name [] = None
attribute_of name (e ∷ es) = if is_named name e then Some e.attribute else attribute_of name es

-- the list with a name's attribute in place of the earlier one, or else at the end
abbrev pub with_attribute : List ℕ → Attribute → List Entry → List Entry
with_attribute name a [] = record { name = name; attribute = a } ∷ []
with_attribute name a (e ∷ es) =
    if is_named name e then record { name = e.name; attribute = a } ∷ es else e ∷ with_attribute name a es

-- the list without a name
abbrev pub without : List ℕ → List Entry → List Entry
without name [] = []
without name (e ∷ es) = if is_named name e then es else e ∷ without name es

-- names and types are names, and no name stands twice
abbrev pub AreEntries : List Entry → Type 0
AreEntries [] = Unit {0}
AreEntries (e ∷ es) = IsName e.name × IsName e.attribute.kind × (has_name e.name es ≡ false) × AreEntries es

-- the first entry of a name stands at a place
pub record IsFirst (name : List ℕ) (es : List Entry) (i : ℕ) : Type 0 where
  pub within : i < length es
  pub before : has_name name (take i es) ≡ false
  pub here : (d : Entry) → is_named name (slice_index_or es i d) ≡ true
