-- What opening a file answers.
use Rattle.std.specs.Prelude.{◌≡◌, ◌+◌, ◌^◌, min, ℕ, Bool, true, false, List, length, take, Option, Some, None, Result, Ok, Err}
use Rattle.exr_base.specs.declared.refusal.Refusal.{Refusal}
use Rattle.exr_base.specs.declared.refusal.Refusal.TheVariants.{Fault, NoMemory}
use Rattle.exr_attributes.specs.declared.fault.HeaderFault.{HeaderFault}
use Rattle.exr_attributes.specs.declared.fault.HeaderFault.TheVariants.{Truncated}
use Rattle.exr_header.specs.Head.{Head, head_of}
use Rattle.exr_opening.specs.declared.opening.OpenFault.{OpenFault}
use Rattle.exr_opening.specs.declared.opening.OpenFault.TheVariants as fault
use Rattle.exr_opening.specs.declared.opening.Opened.{Opened}

-- why a file could not be opened, against its content; a failed read and want of memory say nothing
abbrev pub IsWhyNot : Refusal OpenFault → List ℕ → Type 0
IsWhyNot (Fault (fault.Head f)) content = head_of content ≡ Err f
IsWhyNot (Fault fault.Read) content = Unit {0}
IsWhyNot NoMemory content = Unit {0}

-- the head of a content and how many bytes it fills, or its fault
abbrev pub Finds : Result (Head × ℕ) (Refusal OpenFault) → List ℕ → Type 0
Finds (Ok found) content = head_of content ≡ Ok found
Finds (Err e) content = IsWhyNot e content

-- the same with the number of all bytes
abbrev pub Opens : Result Opened (Refusal OpenFault) → List ℕ → Type 0
Opens (Ok o) content = (head_of content ≡ Ok (o.head, o.head_bytes)) × (o.length ≡ length content)
Opens (Err e) content = IsWhyNot e content

-- whether a fault is that the bytes end
abbrev pub is_end : HeaderFault → Bool
is_end (Truncated at) = true
is_end _ = false

-- bytes are the first of a content; where no more count, they are all, or one more than a head can have
pub record IsFront (bytes : List ℕ) (more : Bool) (content : List ℕ) : Type 0 where
  pub first : bytes ≡ take (length bytes) content
  pub all : more ≡ false → length bytes ≡ min (length content) (2 ^ 24 + 1)

-- the same as what is found, where no more bytes are needed
abbrev pub FindsOrWants : Result (Option (Head × ℕ)) (Refusal OpenFault) → List ℕ → Type 0
FindsOrWants (Ok None) content = Unit {0}
FindsOrWants (Ok (Some found)) content = head_of content ≡ Ok found
FindsOrWants (Err e) content = IsWhyNot e content

-- a failed read has its cause: the count of failures rose
abbrev pub OwesRead : Refusal OpenFault → Type 0 → Type 0
OwesRead (Fault fault.Read) rose = rose
OwesRead other rose = Unit {0}

-- the same, and there is no fault of a head
abbrev pub OnlyReads : {T : Type 0} → Result T (Refusal OpenFault) → Type 0 → Type 0
OnlyReads (Ok x) rose = Unit {0}
OnlyReads (Err (Fault fault.Read)) rose = rose
OnlyReads (Err (Fault (fault.Head f))) rose = ⊥
OnlyReads (Err NoMemory) rose = Unit {0}
