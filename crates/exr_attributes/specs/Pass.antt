-- A pass over a header that looks at no name, and what it leaves to be said of names.
use Rattle.std.specs.Prelude.{◌≡◌, ◌<◌, ◌+◌, ℕ, true, false, List, [], ◌∷◌, length, take, slice_index, slice_index_or, Option, Some, None, Result, Ok, Err}
use Rattle.exr_base.specs.Cursor.{Position}
use Rattle.exr_base.specs.Name.{IsName}
use Rattle.exr_attributes.specs.declared.fault.HeaderFault.{HeaderFault}
use Rattle.exr_attributes.specs.declared.fault.HeaderFault.TheVariants.{Twice}
use Rattle.exr_attributes.specs.declared.attribute.Entry.{Entry}
use Rattle.exr_attributes.specs.Entry.{has_name}
use Rattle.exr_attributes.specs.Spelling.{HasSize}
use Rattle.exr_attributes.specs.Reading.{header_at}

-- no name stands twice
abbrev pub AreDistinct : List Entry → Type 0
AreDistinct [] = Unit {0}
AreDistinct (e ∷ es) = (has_name e.name es ≡ false) × AreDistinct es

-- each of some numbers is less than the next one
abbrev pub AreRising : List ℕ → Type 0
AreRising numbers = (k : ℕ) → k + 1 < length numbers → slice_index numbers k < slice_index numbers (k + 1)

-- names and types are names, and sizes are ints
abbrev pub AreRead : List Entry → Type 0
AreRead [] = Unit {0}
AreRead (e ∷ es) = IsName e.name × IsName e.attribute.kind × HasSize e × AreRead es

-- the first entry whose name an earlier one has
pub record IsSecond (es : List Entry) (k : ℕ) : Type 0 where
  pub within : k < length es
  pub earlier : AreDistinct (take k es)
  pub second : (d : Entry) → has_name (slice_index_or es k d).name (take k es) ≡ true

-- the first such entry, or that there is none
abbrev pub IsFirstSecond : List Entry → Option ℕ → Type 0
IsFirstSecond es None = AreDistinct es
IsFirstSecond es (Some k) = IsSecond es k

-- entries that are read up to the closing zero, or to a fault
abbrev pub ended_by : List Entry → Option HeaderFault → Position → Result (List Entry × Position) HeaderFault
ended_by es None p = Ok (es, p)
ended_by es (Some fault) p = Err fault

-- A pass from one place to another read entries that begin at some places, and ended with a fault or without: that is
-- the header where their names are distinct, and else a second one of a name is its fault.
pub record IsPass (from to : Position) (es : List Entry) (starts : List ℕ) (fault : Option HeaderFault) : Type 0 where
  pub read : AreRead es
  pub many : length starts ≡ length es
  pub seconds : (k : ℕ) → IsSecond es k → header_at from ≡ Err (Twice (slice_index starts k))
  pub end : AreDistinct es → header_at from ≡ ended_by es fault to
