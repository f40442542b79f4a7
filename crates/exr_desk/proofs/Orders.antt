-- Orders of turns: what they have, one turn more, and how they go on to all turns.
use Rattle.std.proofs.Common.{◌≡◌, ◌⊎◌, inl, inr, ℕ, zero, suc, ◌+◌, ◌<◌, ◌≤◌, Bool, true, false, ◌||◌, eqb, List, [], ◌∷◌, ◌++◌, length, get_or, refl, sym, ap, ◌∙◌, subst, add-zero, append_assoc, arith}
use Rattle.std.specs.Cmp.{nat_eq_equiv}
use Rattle.std.specs.List.{IsDistinct, range_with_len}
use Rattle.std.proofs.lemmas.Bool.{true≢false, false≢true, cases_eq, cases_lt, eq-eqb, eqb-true, ne_eqb}
use Rattle.std.proofs.lemmas.List.{append-nil, length_push}
use Rattle.std.proofs.lemmas.List.Folds.{list_any-append, list_any_at}
use Rattle.std.proofs.lemmas.List.FromFn.{length-range_with_len, get_or-range_with_len}
use Rattle.std.proofs.lemmas.Map.Keys.{IsDistinct-push}
use Rattle.std.proofs.lemmas.Map.Steps.{length-le_from_distinct_below, le-length_from_below}
use Rattle.exr_desk.specs.Order.{has, IsBegun, IsAllowed}

or_true : (b : Bool) → (b || true) ≡ true
or_true true = refl
or_true false = refl

or_false : (b : Bool) → (b || false) ≡ b
or_false true = refl
or_false false = refl

-- ---- one turn more

has-push : (xs : List ℕ) (turn u : ℕ) → has (xs ++ turn ∷ []) u ≡ (has xs u || (eqb u turn || false))
has-push xs turn u = list_any-append (eqb u) xs (turn ∷ [])

pub has-push_same : (xs : List ℕ) (turn : ℕ) → has (xs ++ turn ∷ []) turn ≡ true
has-push_same xs turn = has-push xs turn turn ∙ ap (λ (b : Bool). has xs turn || (b || false)) (eq-eqb turn turn refl) ∙ or_true (has xs turn)

pub has-push_other : (xs : List ℕ) (turn u : ℕ) → (turn ≡ u → ⊥) → has (xs ++ turn ∷ []) u ≡ has xs u
has-push_other xs turn u other = has-push xs turn u ∙ ap (λ (b : Bool). has xs u || (b || false)) (ne_eqb u turn (λ e. other (sym e))) ∙ or_false (has xs u)

pub has-push_kept : (xs : List ℕ) (turn u : ℕ) → has xs u ≡ true → has (xs ++ turn ∷ []) u ≡ true
has-push_kept xs turn u there = has-push xs turn u ∙ ap (λ (b : Bool). b || (eqb u turn || false)) there

-- ---- the turns 0, 1, ..

range-push : (a n : ℕ) → range_with_len a (suc n) ≡ range_with_len a n ++ (a + n) ∷ []
range-push a zero = ap (λ (x : ℕ). x ∷ []) (sym (add-zero a))
range-push a (suc n) =
    let same : a + 1 + n ≡ a + suc n = omega arith in
    ap (λ (l : List ℕ). a ∷ l) (range-push (a + 1) n ∙ ap (λ (x : ℕ). range_with_len (a + 1) n ++ x ∷ []) same)

pub has-range : (n turn : ℕ) → turn < n → has (range_with_len 0 n) turn ≡ true
has-range n turn below =
    let size = length-range_with_len 0 n in
    let there = get_or-range_with_len 0 n turn 0 below in
    list_any_at (eqb turn) (range_with_len 0 n) turn 0 (omega (arith, size, below)) (eq-eqb turn (get_or (range_with_len 0 n) turn 0) (omega (arith, there)))

has-range_below : (a n turn : ℕ) → has (range_with_len a n) turn ≡ true → turn < a + n
has-range_below a zero turn there = absurd (false≢true there)
has-range_below a (suc n) turn there =
    let Goal : Bool → Type 0 = λ b. eqb turn a ≡ b → (b || has (range_with_len (a + 1) n) turn) ≡ true → turn < a + suc n in
    elim (eqb turn a) as Goal [
      | true ↦ λ is found. let same : turn ≡ a = eqb-true turn a is in omega (arith, same)
      | false ↦ λ is found. let later = has-range_below (a + 1) n turn found in omega (arith, later)
    ] refl there

-- the turn behind them is not among them
pub has-range_end : (n : ℕ) → has (range_with_len 0 n) n ≡ false
has-range_end n =
    let Goal : Bool → Type 0 = λ b. has (range_with_len 0 n) n ≡ b → b ≡ false in
    elim (has (range_with_len 0 n) n) as Goal [
      | true ↦ λ there. let below = has-range_below 0 n n there in absurd (omega (arith, below))
      | false ↦ λ there. refl
    ] refl

-- ---- the beginning of an order

pub begun_none : (n : ℕ) (free : Bool) → IsBegun n free []
unfolding IsDistinct
begun_none n free = record { below = λ turn there. absurd (false≢true there); once = tt; rising = λ unfree. refl }

pub begun_push : (n : ℕ) (free : Bool) (xs : List ℕ) (turn : ℕ) → IsBegun n free xs → turn < n → has xs turn ≡ false → (free ≡ true) ⊎ (turn ≡ length xs) → IsBegun n free (xs ++ turn ∷ [])
begun_push n free xs turn begun below fresh next = record {
  below = λ u there. elim (cases_eq turn u) [
    | inl same ↦ subst (λ (x : ℕ). x < n) same below
    | inr other ↦ begun.below u (sym (has-push_other xs turn u other) ∙ there)
  ];
  once = IsDistinct-push nat_eq_equiv xs turn begun.once fresh;
  rising = λ unfree.
      let is : turn ≡ 0 + length xs = elim next [ inl loose ↦ absurd (true≢false (sym loose ∙ unfree)) | inr same ↦ omega (arith, same) ] in
      let size : suc (length xs) ≡ length (xs ++ turn ∷ []) = omega (arith, length_push xs turn) in
      ap (λ (l : List ℕ). l ++ turn ∷ []) (begun.rising unfree)
      ∙ ap (λ (x : ℕ). range_with_len 0 (length xs) ++ x ∷ []) is
      ∙ sym (range-push 0 (length xs))
      ∙ ap (range_with_len 0) size;
}

-- there are at most as many turns in it as there are
pub begun_few : (n : ℕ) (free : Bool) (xs : List ℕ) → IsBegun n free xs → length xs ≤ n
begun_few n free xs begun = length-le_from_distinct_below xs n begun.once begun.below

-- so one more is one of the number
pub begun_more : (n : ℕ) (free : Bool) (xs : List ℕ) (turn : ℕ) → IsBegun n free xs → turn < n → has xs turn ≡ false → length xs < n
begun_more n free xs turn begun below fresh =
    let loose : IsBegun n true xs = record { below = begun.below; once = begun.once; rising = λ unfree. absurd (true≢false unfree) } in
    let more = begun_few n true (xs ++ turn ∷ []) (begun_push n true xs turn loose below fresh (inl refl)) in
    omega (arith, more, length_push xs turn)

-- where the order is not free the next turn is not in it, and each earlier one is
pub rising_end : (n : ℕ) (xs : List ℕ) → IsBegun n false xs → has xs (length xs) ≡ false
rising_end n xs begun = ap (λ (l : List ℕ). has l (length xs)) (begun.rising refl) ∙ has-range_end (length xs)

pub rising_has : (n : ℕ) (xs : List ℕ) (turn : ℕ) → IsBegun n false xs → turn < length xs → has xs turn ≡ true
rising_has n xs turn begun below = ap (λ (l : List ℕ). has l turn) (begun.rising refl) ∙ has-range (length xs) turn below

-- ---- it goes on to an order of all turns

-- what is known of it when the turns below m are in it
abbrev Goes : ℕ → Bool → List ℕ → ℕ → List ℕ → Type 0
Goes n free xs m rest = IsBegun n free (xs ++ rest) × ((turn : ℕ) → turn < m → has (xs ++ rest) turn ≡ true)

-- the next turn that is not in it can come next
comes_next : (n : ℕ) (free : Bool) (ys : List ℕ) (m : ℕ) → IsBegun n free ys → ((turn : ℕ) → turn < m → has ys turn ≡ true) → has ys m ≡ false → (free ≡ true) ⊎ (m ≡ length ys)
comes_next n true ys m begun all fresh = inl refl
comes_next n false ys m begun all fresh =
    let least = le-length_from_below ys m all in
    let most : length ys ≤ m = elim (cases_lt m (length ys)) [
      | inl less ↦ absurd (true≢false (sym (rising_has n ys m begun less) ∙ fresh))
      | inr more ↦ more
    ] in
    inr (omega (arith, least, most))

goes_on : (m n : ℕ) (free : Bool) (xs : List ℕ) → IsBegun n free xs → m ≤ n → (rest : List ℕ) × Goes n free xs m rest
goes_on zero n free xs begun within = ([], (subst (λ (l : List ℕ). IsBegun n free l) (sym (append-nil xs)) begun, λ turn below. absurd (omega (arith, below))))
goes_on (suc m) n free xs begun within =
    let before = goes_on m n free xs begun (omega (arith, within)) in
    let rest = before.0 in
    let ys = xs ++ rest in
    let Goal : Bool → Type 0 = λ b. has ys m ≡ b → (more : List ℕ) × Goes n free xs (suc m) more in
    elim (has ys m) as Goal [
      | true ↦ λ there. (
        rest,
        (before.1.0, λ turn below. elim (cases_eq turn m) [ inl same ↦ ap (has ys) same ∙ there | inr other ↦ before.1.1 turn (omega (arith, below, other)) ]),
      )
      | false ↦ λ fresh.
          let same : ys ++ m ∷ [] ≡ xs ++ (rest ++ m ∷ []) = append_assoc xs rest (m ∷ []) in
          let next = comes_next n free ys m before.1.0 before.1.1 fresh in
          let main : IsBegun n free (ys ++ m ∷ []) × ((turn : ℕ) → turn < suc m → has (ys ++ m ∷ []) turn ≡ true) = (
            begun_push n free ys m before.1.0 (omega (arith, within)) fresh next,
            λ turn below. elim (cases_eq m turn) [
              | inl is ↦ subst (λ (t : ℕ). has (ys ++ m ∷ []) t ≡ true) is (has-push_same ys m)
              | inr other ↦ has-push_kept ys m turn (before.1.1 turn (omega (arith, below, other)))
            ],
          ) in
          (rest ++ m ∷ [], subst (λ (l : List ℕ). IsBegun n free l × ((turn : ℕ) → turn < suc m → has l turn ≡ true)) same main)
    ] refl

pub allowed_of : (n : ℕ) (free : Bool) (xs : List ℕ) → IsBegun n free xs → (rest : List ℕ) × IsAllowed n free (xs ++ rest)
allowed_of n free xs begun =
    let all = goes_on n n free xs begun (omega arith) in
    (all.0, record { begun = all.1.0; all = all.1.1 })
