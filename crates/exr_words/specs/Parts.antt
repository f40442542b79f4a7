-- Texts in parts, and readings of which each has to succeed.
use Rattle.std.specs.Prelude.{◌==◌, ℕ, nat_lt, List, [], ◌∷◌, length, Option, Some, None, option_map, option_and_then, if◌then◌else◌}
use Rattle.std.specs.List.{position_or_len, before_first, after_first}

-- first one reading and then the next; where one fails there is no answer
infixl 10 ◌>>=◌
abbrev pub ◌>>=◌ : {A B : Type 0} → Option A → (A → Option B) → Option B
o >>= f = option_and_then f o

-- the text before the first of a byte and the text behind it, where it stands there
abbrev pub around : ℕ → List ℕ → Option (List ℕ × List ℕ)
around byte text =
    if nat_lt (position_or_len (λ b. b == byte) text) (length text)
    then Some (before_first (λ b. b == byte) text, after_first (λ b. b == byte) text)
    else None

-- what each element reads as, where every one reads
abbrev pub all_of : {A B : Type 0} → (A → Option B) → List A → Option (List B)
all_of read [] = Some []
all_of read (x ∷ xs) = read x >>= λ y. option_map (λ ys. y ∷ ys) (all_of read xs)
