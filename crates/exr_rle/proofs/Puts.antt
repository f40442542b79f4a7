-- What two bytes that were written leave.
use Rattle.std.proofs.Common.{◌≡◌, ℕ, ◌+◌, ◌≤◌, List, [], ◌∷◌, ◌++◌, length, set, take, ap, ◌∙◌, arith}
use Rattle.std.proofs.lemmas.List.{length-set, take_more_set, append_assoc}

-- two bytes written one behind the other
pub take_two_sets : (xs : List ℕ) (to a b : ℕ) → to + 2 ≤ length xs → take (to + 2) (set (set xs to a) (to + 1) b) ≡ take to xs ++ a ∷ b ∷ []
take_two_sets xs to a b room =
    ap (λ n. take n (set (set xs to a) (to + 1) b)) (two_on to)
    ∙ take_more_set (set xs to a) (to + 1) b (omega (arith, length-set xs to a))
    ∙ ap (λ front. front ++ b ∷ []) (take_more_set xs to a (omega arith))
    ∙ append_assoc (take to xs) (a ∷ []) (b ∷ [])
  where
    two_on : (to : ℕ) → to + 2 ≡ to + 1 + 1
    two_on to = omega arith
