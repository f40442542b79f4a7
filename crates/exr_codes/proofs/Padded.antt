-- Lists with copies behind them.
use Rattle.std.proofs.Common.{◌≡◌, ℕ, ◌+◌, ◌-◌, ◌≤◌, List, ◌++◌, length, take, replicate, refl, sym, ap, ◌∙◌, ap₂, inl, inr, arith, append-nil}
use Rattle.std.proofs.Math.Seq.{take-add}
use Rattle.std.proofs.lemmas.Bool.{cases_lt}
use Rattle.std.proofs.lemmas.List.{take_at, drop_at, take-append-le, take_all, take-replicate}

-- the front of a list with copies behind it
pub take_padded : {X : Type 0} (m : ℕ) (xs : List X) (a : ℕ) (x : X) → m ≤ length xs + a → take m (xs ++ replicate a x) ≡ take m xs ++ replicate (m - length xs) x
take_padded m xs a x enough = elim (cases_lt m (length xs)) [
  | inl inside ↦
      let none : m - length xs ≡ 0 = omega arith in
      rw none (take-append-le m xs (replicate a x) (omega arith) ∙ sym (append-nil (take m xs)))
  | inr beyond ↦
      let split : m ≡ length xs + (m - length xs) = omega arith in
      ap (λ n. take n (xs ++ replicate a x)) split ∙ take-add (length xs) (m - length xs) (xs ++ replicate a x)
      ∙ ap₂ ◌++◌ (take_at xs (replicate a x) (length xs) refl ∙ sym (take_all m xs beyond)) (ap (take (m - length xs)) (drop_at xs (replicate a x) (length xs) refl) ∙ take-replicate (m - length xs) a x (omega arith))
]
