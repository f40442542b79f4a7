-- What the files and the printer of a call show, and which of it is known.
use Rattle.std.specs.Prelude.{ℕ, Bool, List}
use Rattle.exr_outside.specs.Source.{SourceMeaning}
use Rattle.exr_outside.specs.Sink.{SinkMeaning}
use Rattle.exr_outside.specs.Files.{FilesMeaning}

-- what is known: the bytes of files that are read, the lists that the files keep, what a file that is written holds, and
-- what the printer holds
pub record Told : Type 0 where
  pub sources : Bool
  pub files : Bool
  pub sinks : Bool
  pub printer : Bool

abbrev pub told_of : {I F K O : Type 0} → SourceMeaning I → FilesMeaning F → SinkMeaning K → SinkMeaning O → Told
told_of sources files sinks printer =
    record { sources = sources.tells; files = files.tells; sinks = sinks.tells; printer = printer.tells }

-- what is shown at one moment
pub record Scene : Type 0 where
  -- the names that were asked of create
  pub created : List (List ℕ)
  -- each file that was written and given back, by its name and what it held
  pub kept : List (List ℕ × List ℕ)
  -- what was printed, and how often printing failed
  pub printed : List ℕ
  pub print_faults : ℕ

abbrev pub scene_of : {F O : Type 0} → FilesMeaning F → SinkMeaning O → F → O → Scene
scene_of means printer files out = record {
  created = means.created files;
  kept = means.kept files;
  printed = printer.holds out;
  print_faults = printer.faults out;
}
