-- The order of samples in a buffer, by name.
use Rattle.std.specs.Prelude.{ℕ, bytes_eq, List, codes, Option, Some, None, if◌then◌else◌}
use Rattle.exr_asked.specs.declared.choices.Arrangement.{Arrangement}
use Rattle.exr_asked.specs.declared.choices.Arrangement.TheVariants.{Planar, Lines, Pixels}

-- the arrangement of a name
abbrev pub arrangement_of : List ℕ → Option Arrangement
arrangement_of name =
    if bytes_eq name (codes "planar") then Some Planar else (
    if bytes_eq name (codes "lines") then Some Lines else (
    if bytes_eq name (codes "pixels") then Some Pixels else None))
