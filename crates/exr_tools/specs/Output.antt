-- What a command gives, and what is left of it where the command stops.
use Rattle.std.specs.Prelude.{◌≡◌, ◌≢◌, ◌⊎◌, ℕ, IsTrue, List, [], ◌∷◌, ◌++◌, map, take, length}
use Rattle.exr_outside.specs.Count.{Rose}
use Rattle.exr_outside.specs.Sink.{AddsPrefix}
use Rattle.exr_tools.specs.declared.stop.Stop.{Stop}
use Rattle.exr_tools.specs.declared.stop.Stop.TheVariants.{NoMemory, Words, File, Read, Write, Request}
use Rattle.exr_tools.specs.Scene.{Told, Scene}
use Rattle.exr_tools.specs.Texts.{extract_line}

-- the text that a command prints, and the file that it creates, by its name and its bytes: one at the most
pub record Output : Type 0 where
  pub text : List ℕ
  pub files : List (List ℕ × List ℕ)

-- a text alone
abbrev pub text_alone : List ℕ → Output
text_alone text = record { text = text; files = [] }

-- the buffer of an extraction, and the line that says its size
abbrev pub buffer_under : List ℕ → List ℕ → Output
buffer_under name buffer = record { text = extract_line (length buffer); files = (name, buffer) ∷ [] }

abbrev pub names_of : List (List ℕ × List ℕ) → List (List ℕ)
names_of files = map (λ file. file.0) files

-- the first bytes of a file
abbrev pub first_bytes : ℕ → List (List ℕ × List ℕ) → List (List ℕ × List ℕ)
first_bytes count files = map (λ file. (file.0, take count file.1)) files

-- all of the output is there
pub record IsDone (t : Told) (o : Output) (before after : Scene) : Type 0 where
  pub created : IsTrue t.files → after.created ≡ before.created ++ names_of o.files
  pub kept : IsTrue t.files → IsTrue t.sinks → after.kept ≡ before.kept ++ o.files
  pub printed : IsTrue t.printer → after.printed ≡ before.printed ++ o.text

-- an output that is given, all of it
pub record Does (t : Told) (gives : Output → Type 0) (before after : Scene) : Type 0 where
  pub output : Output
  pub given : IsTrue t.sources → gives output
  pub done : IsDone t output before after

-- none of it
pub record IsUntouched (t : Told) (before after : Scene) : Type 0 where
  pub created : IsTrue t.files → after.created ≡ before.created
  pub kept : IsTrue t.files → after.kept ≡ before.kept
  pub printed : IsTrue t.printer → after.printed ≡ before.printed

-- of its file the first bytes, or no file; nothing was printed
pub record IsBegun (t : Told) (o : Output) (before after : Scene) : Type 0 where
  pub created : IsTrue t.files
      → (after.created ≡ before.created) ⊎ (after.created ≡ before.created ++ names_of o.files)
  pub kept : IsTrue t.files → IsTrue t.sinks
      → (after.kept ≡ before.kept) ⊎ ((count : ℕ) × (after.kept ≡ before.kept ++ first_bytes count o.files))
  pub printed : IsTrue t.printer → after.printed ≡ before.printed

-- its whole file, and the first bytes of its text, in which printing failed
pub record IsPrinting (t : Told) (o : Output) (before after : Scene) : Type 0 where
  pub created : IsTrue t.files → after.created ≡ before.created ++ names_of o.files
  pub kept : IsTrue t.files → IsTrue t.sinks → after.kept ≡ before.kept ++ o.files
  pub printed : IsTrue t.printer → AddsPrefix o.text before.printed after.printed
  pub failed : Rose before.print_faults after.print_faults

-- what a stop leaves of an output: want of memory and a write fault are the only ones that may come once it is begun
abbrev pub IsLeft : Stop → Told → Output → Scene → Scene → Type 0
IsLeft NoMemory t o before after = IsBegun t o before after
IsLeft Write t o before after = IsBegun t o before after ⊎ IsPrinting t o before after
IsLeft (Words position) t o before after = ⊥
IsLeft (File file f) t o before after = ⊥
IsLeft Read t o before after = ⊥
IsLeft (Request r) t o before after = ⊥

-- an output that is given, as far as a stop leaves it
pub record LeavesPart (stop : Stop) (t : Told) (gives : Output → Type 0) (before after : Scene) : Type 0 where
  pub output : Output
  pub given : IsTrue t.sources → gives output
  pub left : IsLeft stop t output before after

-- what a stop leaves: nothing, or a part of an output that is given; a write fault comes only where one is
abbrev pub Leaves : Stop → Told → (Output → Type 0) → Scene → Scene → Type 0
Leaves stop t gives before after =
    ((stop ≢ Write) × IsUntouched t before after) ⊎ LeavesPart stop t gives before after
