use Rattle.std.proofs.Common.{◌≡◌, drop}
use Rattle.exr_attributes.specs.Number.{name_number, number_behind}
use Rattle.exr_attributes.proofs.seconds.name_number.Given as goal

-- what the digits that are left make behind those so far is the number of all
abbrev pub invariant-loop-digit : goal.invariant-loop-digit
invariant-loop-digit l = number_behind l.number (drop l.digit-index l.name) ≡ name_number l.name
