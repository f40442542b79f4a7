-- Names.
use Rattle.std.specs.Prelude.{◌==◌, ◌&&◌, not, nat_lt, nat_le, ℕ, Bool, IsTrue, List, length, Option, Some, None, if◌then◌else◌}
use Rattle.std.specs.List.{list_any}

-- 1 to 255 bytes, none of them zero
abbrev pub is_name : List ℕ → Bool
is_name bytes =
    nat_lt 0 (length bytes) && nat_le (length bytes) 255 && not (list_any (λ b. b == 0) bytes)

abbrev pub IsName : List ℕ → Type 0
IsName bytes = IsTrue (is_name bytes)

-- the name that bytes are, or none
abbrev pub name_of : List ℕ → Option (List ℕ)
name_of bytes = if is_name bytes then Some bytes else None
