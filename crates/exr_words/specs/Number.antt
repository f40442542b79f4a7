-- Numbers in decimal digits.
use Rattle.std.specs.Prelude.{◌+◌, ◌-◌, ◌*◌, ◌&&◌, ℕ, nat_lt, nat_le, List, length, fold, Option, Some, None, option_and_then, if◌then◌else◌}
use Rattle.std.specs.List.{list_all}
use Rattle.std.specs.Char.{is_ascii_digit}

-- what digits write, the first of them weighing most; `0` has the code 48
abbrev pub written_by : List ℕ → ℕ
written_by digits = fold (λ sum digit. 10 * sum + (digit - 48)) 0 digits

-- the number that 1 to 20 digits write
abbrev pub number_of : List ℕ → Option ℕ
number_of text =
    if nat_lt 0 (length text) && nat_le (length text) 20 && list_all is_ascii_digit text
    then Some (written_by text)
    else None

-- a number from least to most, both of them included
abbrev pub number_within : ℕ → ℕ → List ℕ → Option ℕ
number_within least most text =
    option_and_then (λ n. if nat_le least n && nat_le n most then Some n else None) (number_of text)
