-- The number of a name, by which names are told apart: names that are equal make equal numbers.
use Rattle.std.specs.Prelude.{◌+◌, ◌*◌, ◌%◌, ◌^◌, ℕ, List, [], ◌∷◌}

-- one digit more
abbrev pub next_number : ℕ → ℕ → ℕ
next_number number digit = (number * 0x9e3779b97f4a7c15 % 2 ^ 64 + digit) % 2 ^ 64

-- the number that some digits make behind others
abbrev pub number_behind : ℕ → List ℕ → ℕ
number_behind number [] = number
number_behind number (digit ∷ digits) = number_behind (next_number number digit) digits

unfoldable pub name_number : List ℕ → ℕ
name_number digits = number_behind 0 digits
