-- The words that the program answers by itself, each where it is the only one.
use Rattle.std.specs.Prelude.{ℕ, bytes_eq, List, codes, Option, Some, None, if◌then◌else◌}
use Rattle.exr.specs.declared.about.Asked.{Asked}
use Rattle.exr.specs.declared.about.Asked.TheVariants.{Help, Version, Faults}

-- what a word asks for
abbrev pub asked_of : List ℕ → Option Asked
asked_of word =
    if bytes_eq word (codes "--help") then Some Help else (
    if bytes_eq word (codes "--version") then Some Version else (
    if bytes_eq word (codes "--faults") then Some Faults else None))
