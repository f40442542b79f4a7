-- The parts as the code holds them.
use Rattle.exr_piz.specs.Stored.{Parts}
use Rattle.exr_piz.specs.declared.parts.Parts.{Parts as Held}

abbrev pub parts_from : Held → Parts
parts_from parts = record { first = parts.first; map = parts.map.now; block = parts.block.now }
