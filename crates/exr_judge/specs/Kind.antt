-- Kinds of parts and orders of lines, by their names and numbers in files. File Layout, "Header Attributes for
-- Multi-Part and Deep Data Files" (type); "Predefined Attribute Types" (lineOrder).
use Rattle.std.specs.Prelude.{ℕ, Bool, true, false, List, Option, Some, None, codes, if◌then◌else◌}
use Rattle.std.specs.Str.{bytes_eq}
use Rattle.exr_judge.specs.declared.kind.PartKind.{PartKind}
use Rattle.exr_judge.specs.declared.kind.PartKind.TheVariants.{Scan, Tiled, DeepScan, DeepTiled}

abbrev pub is_tiled : PartKind → Bool
is_tiled Scan = false
is_tiled Tiled = true
is_tiled DeepScan = false
is_tiled DeepTiled = true

abbrev pub is_deep : PartKind → Bool
is_deep Scan = false
is_deep Tiled = false
is_deep DeepScan = true
is_deep DeepTiled = true

-- the kind that a type of part names, or none
abbrev pub kind_named : List ℕ → Option PartKind
kind_named text =
    if bytes_eq text (codes "scanlineimage") then Some Scan
    else (if bytes_eq text (codes "tiledimage") then Some Tiled
    else (if bytes_eq text (codes "deepscanline") then Some DeepScan
    else (if bytes_eq text (codes "deeptile") then Some DeepTiled else None)))

-- whether two kinds are one
abbrev pub is_kind : PartKind → PartKind → Bool
is_kind Scan Scan = true
is_kind Tiled Tiled = true
is_kind DeepScan DeepScan = true
is_kind DeepTiled DeepTiled = true
is_kind _ _ = false
