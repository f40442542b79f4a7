-- What a command line can ask for.
use Rattle.std.specs.Prelude.{ℕ, List, [], ◌∷◌, Option, Some, None, string_bytes}
pub use Rattle.exr_asked.specs.Choices.{Choices}
use Rattle.exr_asked.specs.Choices.{choices_in}
use Rattle.exr_words.specs.declared.order.Order.{Order}
use Rattle.exr_words.specs.declared.order.Order.TheVariants as order

-- the text of a file's head; a test of all chunks of a file, with as many threads as are given; the samples of a part of a
-- file, written into another. Files are named by texts; the first list has the inputs
pub data Command : Type 0 where
  header : List (List ℕ) → Command
  check : List (List ℕ) → Option ℕ → Command
  extract : List (List ℕ) → List ℕ → Choices → Command

-- the first of some names
abbrev pub first_of : List (List ℕ) → List ℕ
first_of [] = []
first_of (name ∷ names) = name

-- names, of which there is one at least
abbrev pub some_names : List (List ℕ) → Option (List (List ℕ))
some_names [] = None
some_names (name ∷ names) = Some (name ∷ names)

-- what an order asks for
abbrev pub command_in : Order → Command
command_in (order.Header inputs) = header inputs
command_in (order.Check inputs workers) = check inputs workers
command_in (order.Extract inputs output choices) = extract inputs (string_bytes output) (choices_in choices)
