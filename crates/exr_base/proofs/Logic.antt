-- What tests of two facts, and comparisons of integers, say.
use Rattle.std.proofs.Common.{◌≡◌, ℤ, ◌≤ℤ◌, Bool, true, false, not, ◌||◌, refl, ap, sym, ◌∙◌, arith}
use Rattle.std.specs.Prelude.{◌&&◌, int_le, int_lt}
use Rattle.std.proofs.lemmas.Int.{ints}

-- neither of two
pub neither : (a b : Bool) → (a || b) ≡ false → (a ≡ false) × (b ≡ false)
neither true b e = absurd cc
neither false b e = (refl, e)

pub not_either : (a b : Bool) → not (a || b) ≡ true → (a ≡ false) × (b ≡ false)
not_either false false h = (refl, refl)
not_either false true h = absurd (cc)
not_either true b h = absurd (cc)

-- two tests one after the other, of which the second is tried where the first holds
pub both_true : (r r' a b : Bool) → r ≡ true → r ≡ a → r' ≡ b → r' ≡ (a && b)
both_true r r' a b h e f = f ∙ ap (λ x. x && b) (sym h ∙ e)

-- comparisons
pub lt_false : (a b : ℤ) → int_lt b a ≡ false → a ≤ℤ b
lt_false a b h = grind (arith, ints)

pub le_true : (a b : ℤ) → int_le a b ≡ true → a ≤ℤ b
le_true a b h = grind (arith, ints)

pub true_le : (a b : ℤ) → a ≤ℤ b → int_le a b ≡ true
true_le a b h = grind (arith, ints)
