-- What the values of an order keep to.
use Rattle.std.specs.Prelude.{◌≤◌, IfSome}
pub use Rattle.exr_asked.specs.Choices.{AreWithin}
use Rattle.exr_words.specs.Command.{Command, header, check, extract}

abbrev pub IsWithin : Command → Type 0
IsWithin (header inputs) = Unit {0}
IsWithin (check inputs workers) = IfSome workers (λ n. (1 ≤ n) × (n ≤ 16))
IsWithin (extract inputs output c) = AreWithin c
