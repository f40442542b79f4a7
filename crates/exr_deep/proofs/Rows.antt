-- The pixels of one row.
use Rattle.std.proofs.Common.{◌≡◌, ℕ, ◌+◌, ◌-◌, ◌*◌, ◌/◌, ◌%◌, ◌<◌, ◌≤◌, eqb, inl, inr, ap, ◌∙◌, sym, arith}
use Rattle.std.proofs.lemmas.Nat.{div-mul-add, mod-mul-add}
use Rattle.std.proofs.lemmas.Bool.{eq-eqb, ne_eqb, cases_eq}

-- a pixel of a row that begins at pixel number first
pub record IsInRow (width first n : ℕ) : Type 0 where
  pub row : ℕ
  pub begins : first ≡ row * width
  pub from : first ≤ n
  pub below : n < first + width

pub row_of : (width first n : ℕ) → IsInRow width first n → n / width * width ≡ first
row_of width first n is =
    let at : n ≡ is.row * width + (n - first) = omega (arith, is.begins, is.from) in
    ap (λ k. k / width * width) at ∙ ap (λ k. k * width) (div-mul-add is.row width (n - first) (omega (arith, is.from, is.below))) ∙ sym is.begins

pub column_of : (width first n : ℕ) → IsInRow width first n → n % width ≡ n - first
column_of width first n is =
    let at : n ≡ is.row * width + (n - first) = omega (arith, is.begins, is.from) in
    ap (λ k. k % width) at ∙ mod-mul-add is.row width (n - first) (omega (arith, is.from, is.below))

same_zero : (a n first : ℕ) → a ≡ n - first → first ≤ n → eqb a 0 ≡ eqb n first
same_zero a n first is le = elim (cases_eq n first) [
  | inl same ↦ eq-eqb a 0 (omega arith) ∙ sym (eq-eqb n first same)
  | inr other ↦ ne_eqb a 0 (λ none. other (omega arith)) ∙ sym (ne_eqb n first other)
]

pub is_first : (width first n : ℕ) → IsInRow width first n → eqb (n % width) 0 ≡ eqb n first
is_first width first n is = same_zero (n % width) n first (column_of width first n is) is.from
