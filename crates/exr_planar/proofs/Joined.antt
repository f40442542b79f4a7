-- Lists joined end to end, and parts that are cut from them.
use Rattle.std.proofs.Common.{◌≡◌, ◌+◌, ◌<◌, ℕ, zero, suc, List, [], ◌++◌, length, take, drop, refl, sym, ap, ap₂, ◌∙◌, arith, inl, inr, append_assoc}
use Rattle.std.proofs.lemmas.List.{append-nil, length-append, take_at, drop_at}
use Rattle.std.proofs.lemmas.Bool.{cases_eq}
use Rattle.exr_planar.specs.Planar.{joined}

pub joined-none : (list : ℕ → List ℕ) → joined 0 list ≡ []
unfolding joined
joined-none list = refl

pub joined-suc : (n : ℕ) (list : ℕ → List ℕ) → joined (suc n) list ≡ joined n list ++ list n
unfolding joined
joined-suc n list = refl

-- lists of which each is another's
pub joined_same : (n : ℕ) (list other : ℕ → List ℕ) → ((i : ℕ) → i < n → list i ≡ other i) → joined n list ≡ joined n other
joined_same zero list other same = joined-none list ∙ sym (joined-none other)
joined_same (suc n) list other same =
    joined-suc n list ∙ ap₂ (λ (a b : List ℕ). a ++ b) (joined_same n list other (λ i lt. same i (omega arith))) (same n (omega arith)) ∙ sym (joined-suc n other)

-- what is joined of lists that a whole goes on by
pub joined_cuts : (n : ℕ) (list : ℕ → List ℕ) (place : ℕ → ℕ) (whole : List ℕ)
    → ((i : ℕ) → i < n → take (place (suc i)) whole ≡ take (place i) whole ++ list i)
    → take (place n) whole ≡ take (place 0) whole ++ joined n list
joined_cuts zero list place whole cut = sym (ap (λ (l : List ℕ). take (place 0) whole ++ l) (joined-none list) ∙ append-nil (take (place 0) whole))
joined_cuts (suc n) list place whole cut =
    cut n (omega arith)
    ∙ ap (λ (l : List ℕ). l ++ list n) (joined_cuts n list place whole (λ i lt. cut i (omega arith)))
    ∙ append_assoc (take (place 0) whole) (joined n list) (list n)
    ∙ ap (λ (l : List ℕ). take (place 0) whole ++ l) (sym (joined-suc n list))

-- how long they are together
pub length-joined : (n : ℕ) (list : ℕ → List ℕ) (place : ℕ → ℕ) → ((i : ℕ) → i < n → place i + length (list i) ≡ place (suc i)) → place 0 + length (joined n list) ≡ place n
length-joined zero list place step = let e = ap length (joined-none list) in omega arith
length-joined (suc n) list place step =
    let e = length-joined n list place (λ i lt. step i (omega arith)) in
    let f = step n (omega arith) in
    let g = ap length (joined-suc n list) ∙ length-append (joined n list) (list n) in
    omega arith

-- what comes before one of them, it, and what comes after
pub joined_split : (n i : ℕ) (list : ℕ → List ℕ) → i < n → (rest : List ℕ) × (joined n list ≡ joined i list ++ (list i ++ rest))
joined_split zero i list lt = absurd (omega arith)
joined_split (suc n) i list lt =
    elim (cases_eq i n) [
      | inl e ↦ ([], joined-suc n list ∙ ap (λ (k : ℕ). joined k list ++ list k) (sym e) ∙ ap (λ (l : List ℕ). joined i list ++ l) (sym (append-nil (list i))))
      | inr ne ↦
          let s = joined_split n i list (omega arith) in (
            s.0 ++ list n,
            joined-suc n list ∙ ap (λ (l : List ℕ). l ++ list n) s.1
                ∙ append_assoc (joined i list) (list i ++ s.0) (list n)
                ∙ ap (λ (l : List ℕ). joined i list ++ l) (append_assoc (list i) s.0 (list n)),
          )
    ]

-- the middle of three lists
pub middle : (front mid rest : List ℕ) (place size : ℕ) → length front ≡ place → length mid ≡ size → take size (drop place (front ++ (mid ++ rest))) ≡ mid
middle front mid rest place size at long = ap (take size) (drop_at front (mid ++ rest) place at) ∙ take_at mid rest size long
