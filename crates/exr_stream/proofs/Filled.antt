-- What was read to the front of a buffer.
use Rattle.std.proofs.Common.{◌≡◌, ℕ, ◌≤◌, ◌++◌, min, List, length, take, drop, ap, ◌∙◌, arith}
use Rattle.std.proofs.lemmas.List.{take-take, take-append-le, take_min, length-take, length-drop}
use Rattle.exr_outside.specs.Transfer.{Fills}

-- the buffer is what was given back and the rest of what it was, cut at its length
pub filled : (content old given rest : List ℕ) (at size count len : ℕ) → Fills content at old given count → length old ≡ size → len ≡ size → take count (take len (given ++ rest)) ≡ take size (drop at content)
filled content old given rest at size count len fills whole room =
    let there = length-drop at content in
    let reached : count ≡ min size (length (drop at content)) = omega (arith, fills.reached, whole, there) in
    let short : count ≤ length given = omega (arith, ap length fills.bytes, length-take count given, length-take count (drop at content), reached) in
    take-take count len (given ++ rest) (omega (arith, reached, room))
    ∙ take-append-le count given rest short
    ∙ fills.bytes
    ∙ ap (λ n. take n (drop at content)) reached
    ∙ take_min size (drop at content)
