-- The record of accepted chunks, as the view of a seat.
use Rattle.std.specs.Prelude.{ℕ, [], ◌∷◌, ◌++◌}
use mathlib.Core.Option.{Option, none, some}
use Rattle.exr_desk.specs.declared.accepted.Record.{Record}
use Rattle.exr_desk.specs.declared.chunk.Packed.{Packed}

-- the record with the chunk that a step announces at its end
abbrev pub record_with : Record → ℕ → Option Packed → Record
record_with before turn none = before
record_with before turn (some chunk) = record { chunks = before.chunks ++ (turn, chunk.bytes.items) ∷ [] }
