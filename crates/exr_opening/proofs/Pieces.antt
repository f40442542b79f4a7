-- What stands at the front of a content, read in two pieces.
use Rattle.std.proofs.Common.{◌≡◌, ◌+◌, ◌-◌, ◌≤◌, ◌++◌, min, ℕ, List, length, take, drop, sym, ap, ◌∙◌, arith}
use Rattle.std.proofs.Math.Seq.{take-add}
use Rattle.std.proofs.lemmas.List.{take_min, length-take}
use Rattle.exr_outside.specs.Source.{SourceMeaning, IsSameSource}

pub joined : (content bytes piece : List ℕ) (wanted : ℕ) → bytes ≡ take (length bytes) content → length bytes ≤ wanted → piece ≡ take (wanted - length bytes) (drop (length bytes) content) → bytes ++ piece ≡ take wanted content
joined content bytes piece wanted front le part =
    let parts : wanted ≡ length bytes + (wanted - length bytes) = omega arith in
    ap (λ b. b ++ piece) front ∙ ap (λ p. take (length bytes) content ++ p) part ∙ sym (take-add (length bytes) (wanted - length bytes) content) ∙ ap (λ n. take n content) (sym parts)

-- a source that stayed the same twice
pub same_still : {S : Type 0} (means : SourceMeaning S) (old now new : S) → IsSameSource means old now → IsSameSource means now new → IsSameSource means old new
same_still means old now new first second = record {
  name = second.name ∙ first.name;
  content = λ told. second.content told ∙ first.content told;
}

-- a front is the front of its length
pub own_length : (content bytes : List ℕ) (n : ℕ) → bytes ≡ take n content → bytes ≡ take (length bytes) content
own_length content bytes n front =
    let within : length bytes ≡ min n (length content) = ap length front ∙ length-take n content in
    front ∙ sym (take_min n content) ∙ ap (λ m. take m content) (sym within)
