-- What a set of files means: the sinks that were given back, and the names that were asked.
use Rattle.std.specs.Prelude.{◌≡◌, ℕ, ◌⊎◌, Bool, List, [], ◌∷◌, ◌++◌, Result, Ok, Err}
use Rattle.exr_base.specs.declared.refusal.Refusal.{Refusal}
use Rattle.exr_base.specs.declared.refusal.Refusal.TheVariants as refusal
use Rattle.exr_outside.specs.Source.{SourceMeaning}
use Rattle.exr_outside.specs.Sink.{SinkMeaning}

-- the meaning of a type of files
pub record FilesMeaning (F : Type 0) : Type 0 where
  -- whether the three lists below are what happened, so that clauses may rest on them; false for the files of the system
  pub tells : Bool
  -- the name of each sink given back and what it held, in their order
  pub kept : F → List (List ℕ × List ℕ)
  -- the names asked of open, and those asked of create, in their order
  pub opened : F → List (List ℕ)
  pub created : F → List (List ℕ)
  pub read_faults : F → ℕ
  pub write_faults : F → ℕ

-- the name was added to those asked; where memory ran out it may have been left out
abbrev pub NotesName : {T F : Type 0} → Result T (Refusal F) → List ℕ → List (List ℕ) → List (List ℕ) → Type 0
NotesName (Ok x) name old new = new ≡ old ++ name ∷ []
NotesName (Err (refusal.Fault f)) name old new = new ≡ old ++ name ∷ []
NotesName (Err refusal.NoMemory) name old new = (new ≡ old) ⊎ (new ≡ old ++ name ∷ [])

-- a source as it is opened: of this name, without a failure
pub record IsNewSource {S : Type 0} (means : SourceMeaning S) (asked : List ℕ) (source : S) : Type 0 where
  pub name : means.name source ≡ asked
  pub faults : means.faults source ≡ 0

-- a sink as it is created: of this name, without a failure
pub record IsNewSink {S : Type 0} (means : SinkMeaning S) (asked : List ℕ) (sink : S) : Type 0 where
  pub name : means.name sink ≡ asked
  pub faults : means.faults sink ≡ 0
