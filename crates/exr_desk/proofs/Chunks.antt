-- The chunk of a turn, and the chunks of some turns.
use Rattle.std.proofs.Common.{◌≡◌, ℕ, Bool, true, false, cond, ◌||◌, eqb, List, [], ◌∷◌, ◌++◌, Option, Some, None, is_some, IsSome, length, refl, sym, ap, ◌∙◌, arith}
use Rattle.std.proofs.lemmas.Bool.{false≢true, cond-true, cond-false, eq-eqb, eqb-true, ne_eqb}
use Rattle.std.proofs.lemmas.Option.{none-some}
use Rattle.exr_desk.specs.Accepted.{chunk_of, in_front, chunks_at}
use Rattle.exr_desk.specs.Order.{has}

-- what is not there is nothing
pub none_from : {A : Type 0} (o : Option A) → (IsSome o → ⊥) → o ≡ None
none_from None absent = refl
none_from (Some x) absent = absurd (absent refl)

-- what is nothing is not there
pub not_some : {A : Type 0} (o : Option A) → o ≡ None → IsSome o → ⊥
not_some None none some = absurd (false≢true some)
not_some (Some x) none some = absurd (none-some x (sym none))

-- ---- the chunk of a turn, with one chunk more

pub chunk_of-push_same : (cs : List (ℕ × List ℕ)) (turn : ℕ) (chunk : List ℕ) → chunk_of cs turn ≡ None → chunk_of (cs ++ (turn, chunk) ∷ []) turn ≡ Some chunk
chunk_of-push_same [] turn chunk none = cond-true (eqb turn turn) (Some chunk) None (eq-eqb turn turn refl)
chunk_of-push_same (c ∷ cs) turn chunk none =
    let Goal : Bool → Type 0 = λ b. cond b (Some c.1) (chunk_of cs turn) ≡ None → cond b (Some c.1) (chunk_of (cs ++ (turn, chunk) ∷ []) turn) ≡ Some chunk in
    elim (eqb c.0 turn) as Goal [
      | true ↦ λ there. absurd (none-some c.1 (sym there))
      | false ↦ λ there. chunk_of-push_same cs turn chunk there
    ] none

pub chunk_of-push_other : (cs : List (ℕ × List ℕ)) (turn u : ℕ) (chunk : List ℕ) → (turn ≡ u → ⊥) → chunk_of (cs ++ (turn, chunk) ∷ []) u ≡ chunk_of cs u
chunk_of-push_other [] turn u chunk other = cond-false (eqb turn u) (Some chunk) None (ne_eqb turn u other)
chunk_of-push_other (c ∷ cs) turn u chunk other = ap (cond (eqb c.0 u) (Some c.1)) (chunk_of-push_other cs turn u chunk other)

-- a chunk that is there stays
pub chunk_of-push_kept : (cs : List (ℕ × List ℕ)) (x : ℕ × List ℕ) (u : ℕ) → IsSome (chunk_of cs u) → chunk_of (cs ++ x ∷ []) u ≡ chunk_of cs u
chunk_of-push_kept [] x u some = absurd (false≢true some)
chunk_of-push_kept (c ∷ cs) x u some =
    let Goal : Bool → Type 0 = λ b. IsSome (cond b (Some c.1) (chunk_of cs u)) → cond b (Some c.1) (chunk_of (cs ++ x ∷ []) u) ≡ cond b (Some c.1) (chunk_of cs u) in
    elim (eqb c.0 u) as Goal [
      | true ↦ λ there. refl
      | false ↦ λ there. chunk_of-push_kept cs x u there
    ] some

-- ---- the chunks of some turns, each of which has one

pub chunks_at-append : (cs : List (ℕ × List ℕ)) (xs ys : List ℕ) → length (chunks_at cs xs) ≡ length xs → chunks_at cs (xs ++ ys) ≡ chunks_at cs xs ++ chunks_at cs ys
chunks_at-append cs [] ys given = refl
chunks_at-append cs (x ∷ xs) ys given =
    let Goal : Option (List ℕ) → Type 0 = λ o. length (in_front o (chunks_at cs xs)) ≡ length (x ∷ xs) → in_front o (chunks_at cs (xs ++ ys)) ≡ in_front o (chunks_at cs xs) ++ chunks_at cs ys in
    elim (chunk_of cs x) as Goal [
      | None ↦ λ short. absurd (omega (arith, short))
      | Some chunk ↦ λ same. ap (λ (l : List (List ℕ)). chunk ∷ l) (chunks_at-append cs xs ys (omega (arith, same)))
    ] given

-- one turn more
pub chunks_at-push : (cs : List (ℕ × List ℕ)) (xs : List ℕ) (turn : ℕ) (chunk : List ℕ) → length (chunks_at cs xs) ≡ length xs → chunk_of cs turn ≡ Some chunk → chunks_at cs (xs ++ turn ∷ []) ≡ chunks_at cs xs ++ chunk ∷ []
chunks_at-push cs xs turn chunk given is =
    chunks_at-append cs xs (turn ∷ []) given ∙ ap (λ (o : Option (List ℕ)). chunks_at cs xs ++ in_front o []) is

-- with more chunks accepted they stay
pub chunks_at-kept : (cs ds : List (ℕ × List ℕ)) (xs : List ℕ) → length (chunks_at cs xs) ≡ length xs → ((u : ℕ) → IsSome (chunk_of cs u) → chunk_of ds u ≡ chunk_of cs u) → chunks_at ds xs ≡ chunks_at cs xs
chunks_at-kept cs ds [] given kept = refl
chunks_at-kept cs ds (x ∷ xs) given kept =
    let Goal : Option (List ℕ) → Type 0 = λ o. chunk_of cs x ≡ o → length (in_front o (chunks_at cs xs)) ≡ length (x ∷ xs) → in_front (chunk_of ds x) (chunks_at ds xs) ≡ in_front o (chunks_at cs xs) in
    elim (chunk_of cs x) as Goal [
      | None ↦ λ is short. absurd (omega (arith, short))
      | Some chunk ↦ λ is same.
          let there : IsSome (chunk_of cs x) = ap is_some is in
          ap (λ (o : Option (List ℕ)). in_front o (chunks_at ds xs)) (kept x there ∙ is)
          ∙ ap (λ (l : List (List ℕ)). chunk ∷ l) (chunks_at-kept cs ds xs (omega (arith, same)) kept)
    ] refl given

-- each of them has a chunk
pub chunks_at-has : (cs : List (ℕ × List ℕ)) (xs : List ℕ) (turn : ℕ) → length (chunks_at cs xs) ≡ length xs → has xs turn ≡ true → IsSome (chunk_of cs turn)
chunks_at-has cs [] turn given there = absurd (false≢true there)
chunks_at-has cs (x ∷ xs) turn given there =
    let Goal : Option (List ℕ) → Type 0 = λ o. chunk_of cs x ≡ o → length (in_front o (chunks_at cs xs)) ≡ length (x ∷ xs) → IsSome (chunk_of cs turn) in
    elim (chunk_of cs x) as Goal [
      | None ↦ λ is short. absurd (omega (arith, short))
      | Some chunk ↦ λ is same.
          let Found : Bool → Type 0 = λ b. eqb turn x ≡ b → (b || has xs turn) ≡ true → IsSome (chunk_of cs turn) in
          elim (eqb turn x) as Found [
            | true ↦ λ here found. ap (λ (t : ℕ). is_some (chunk_of cs t)) (eqb-true turn x here) ∙ ap is_some is
            | false ↦ λ here found. chunks_at-has cs xs turn (omega (arith, same)) found
          ] refl there
    ] refl given
