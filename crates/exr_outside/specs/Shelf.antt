-- What a chain of boxes keeps.
use Rattle.std.specs.Prelude.{ℕ, List, [], ◌∷◌, Option, Some, None, Box, string_bytes}
use Rattle.std.specs.declared.alloc.Global.{Global}
use Rattle.exr_outside.specs.declared.shelf.Shelf.{Shelf, Shelf', Held-Shelf-before, None', Some'}

abbrev mutual
  -- each name and what was held under it, the newest first
  pub shelved : Shelf → List (List ℕ × List ℕ)
  shelved (Shelf' name bytes before) = (string_bytes name, bytes.items) ∷ shelved_before before

  pub shelved_before : Held-Shelf-before → List (List ℕ × List ℕ)
  shelved_before None' = []
  shelved_before (Some' p shelf) = shelved shelf

-- the same from the newest box on, if there is one
abbrev pub shelved_in : Option (Box Shelf Global) → List (List ℕ × List ℕ)
shelved_in None = []
shelved_in (Some shelf) = shelved shelf.value
