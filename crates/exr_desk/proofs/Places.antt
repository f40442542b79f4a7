-- What is kept at each turn, from one step to the next.
use Rattle.std.proofs.Common.{◌≡◌, inl, inr, ℕ, ◌<◌, ◌≤◌, ◌^◌, Bool, true, false, List, [], ◌∷◌, ◌++◌, Option, Some, None, is_some, IsSome, length, get_or, set, replicate, refl, sym, ap, ◌∙◌, subst, arith}
use Rattle.std.proofs.lemmas.Bool.{cases_eq}
use Rattle.std.proofs.lemmas.List.{length-set, get_or-set_same, get_or-set_other, get_or-replicate, length-replicate}
use Rattle.exr_desk.specs.declared.chunk.Packed.{Packed}
use Rattle.exr_desk.specs.declared.waiting.Place.{Place}
use Rattle.exr_desk.specs.declared.waiting.Place.TheVariants as place
use Rattle.exr_desk.specs.Accepted.{chunk_of}
use Rattle.exr_desk.specs.Order.{has, IsBegun}
use Rattle.exr_desk.specs.Waiting.{WaitingState, IsPlaceOf, IsWaiting}
use Rattle.exr_desk.proofs.Chunks.{not_some, chunk_of-push_same, chunk_of-push_other}
use Rattle.exr_desk.proofs.Orders.{begun_none, begun_push, begun_more, has-push_same, has-push_other}

-- a place that has what another has
place_as : (place other : Place) (chunk same : Option (List ℕ)) (was is : Bool) → place ≡ other → chunk ≡ same → is ≡ was → IsPlaceOf other same was → IsPlaceOf place chunk is
place_as place other chunk same was is place_is chunk_is taken_is kept =
    subst (λ (p : Place). IsPlaceOf p chunk is) (sym place_is)
    (subst (λ (o : Option (List ℕ)). IsPlaceOf other o is) (sym chunk_is) (subst (λ (b : Bool). IsPlaceOf other same b) (sym taken_is) kept))

-- a place that is known
pub place_at : (p other : Place) (chunk : Option (List ℕ)) (taken : Bool) → IsPlaceOf p chunk taken → p ≡ other → IsPlaceOf other chunk taken
place_at p other chunk taken kept is = subst (λ (q : Place). IsPlaceOf q chunk taken) is kept

-- no chunk is kept at first
pub none_kept : (places : List Place) (turns : ℕ) → turns < 2 ^ 32 → places ≡ replicate turns place.Free → IsWaiting places [] []
none_kept places turns few is =
    let size : length places ≡ turns = ap length is ∙ length-replicate turns place.Free in
    record {
      few = omega (arith, few, size);
      begun = begun_none (length places) true;
      kept = λ turn d within.
          let free : get_or places turn d ≡ place.Free = ap (λ (l : List Place). get_or l turn d) is ∙ get_or-replicate turns turn place.Free d (omega (arith, within, size)) in
          place_as (get_or places turn d) place.Free None None false false free refl refl (refl, refl);
    }

-- one chunk more
pub kept_with : (places : List Place) (accepted : List (ℕ × List ℕ)) (taken : List ℕ) (turn : ℕ) (packed : Packed) → IsWaiting places accepted taken → turn < length places → chunk_of accepted turn ≡ None
    → has taken turn ≡ false → length packed.bytes.items ≤ 2 ^ 30 → IsWaiting (set places turn (place.Waits packed)) (accepted ++ (turn, packed.bytes.items) ∷ []) taken
kept_with places accepted taken turn packed waiting below none fresh small =
    let chunk = packed.bytes.items in
    let more = set places turn (place.Waits packed) in
    let size = length-set places turn (place.Waits packed) in
    record {
      few = omega (arith, waiting.few, size);
      begun = subst (λ (n : ℕ). IsBegun n true taken) (sym size) waiting.begun;
      kept = λ u d within. elim (cases_eq turn u) [
        | inl same ↦
            let here : get_or more u d ≡ place.Waits packed = subst (λ (n : ℕ). get_or more n d ≡ place.Waits packed) same (get_or-set_same places turn (place.Waits packed) d below) in
            let there : chunk_of (accepted ++ (turn, chunk) ∷ []) u ≡ Some chunk = subst (λ (n : ℕ). chunk_of (accepted ++ (turn, chunk) ∷ []) n ≡ Some chunk) same (chunk_of-push_same accepted turn chunk none) in
            let untaken : has taken u ≡ false = subst (λ (n : ℕ). has taken n ≡ false) same fresh in
            place_as (get_or more u d) (place.Waits packed) (chunk_of (accepted ++ (turn, chunk) ∷ []) u) (Some chunk) false (has taken u) here there untaken (refl, refl, small)
        | inr other ↦
            let here = get_or-set_other places turn u (place.Waits packed) d (λ e. other (sym e)) in
            place_as (get_or more u d) (get_or places u d) (chunk_of (accepted ++ (turn, chunk) ∷ []) u) (chunk_of accepted u) (has taken u) (has taken u) here
            (chunk_of-push_other accepted turn u chunk other) refl (waiting.kept u d (omega (arith, within, size)))
      ];
    }

-- the chunk of a turn was taken
pub kept_without : (places : List Place) (accepted : List (ℕ × List ℕ)) (taken : List ℕ) (turn : ℕ) → IsWaiting places accepted taken → turn < length places → IsSome (chunk_of accepted turn) → has taken turn ≡ false
    → IsWaiting (set places turn place.Taken) accepted (taken ++ turn ∷ [])
kept_without places accepted taken turn waiting below some fresh =
    let more = set places turn place.Taken in
    let after = taken ++ turn ∷ [] in
    let size = length-set places turn place.Taken in
    record {
      few = omega (arith, waiting.few, size);
      begun = subst (λ (n : ℕ). IsBegun n true after) (sym size) (begun_push (length places) true taken turn waiting.begun below fresh (inl refl));
      kept = λ u d within. elim (cases_eq turn u) [
        | inl same ↦
            let here : get_or more u d ≡ place.Taken = subst (λ (n : ℕ). get_or more n d ≡ place.Taken) same (get_or-set_same places turn place.Taken d below) in
            let there : IsSome (chunk_of accepted u) = subst (λ (n : ℕ). IsSome (chunk_of accepted n)) same some in
            let gone : has after u ≡ true = subst (λ (n : ℕ). has after n ≡ true) same (has-push_same taken turn) in
            place_as (get_or more u d) place.Taken (chunk_of accepted u) (chunk_of accepted u) true (has after u) here refl gone (there, refl)
        | inr other ↦
            place_as (get_or more u d) (get_or places u d) (chunk_of accepted u) (chunk_of accepted u) (has taken u) (has after u)
            (get_or-set_other places turn u place.Taken d (λ e. other (sym e))) refl (has-push_other taken turn u other) (waiting.kept u d (omega (arith, within, size)))
      ];
    }

-- ---- as the steps ask for it

-- what contracts see of places
abbrev pub state_of : List Place → List (ℕ × List ℕ) → List ℕ → WaitingState
state_of places accepted taken = record { turns = length places; accepted = accepted; taken = taken }

-- what is kept, and there is room for every turn taken
abbrev pub IsRoomy : List Place → List (ℕ × List ℕ) → List ℕ → ℕ → Type 0
IsRoomy places accepted taken room = IsWaiting places accepted taken × (length places ≤ room)

-- a turn without a chunk was not taken
fresh_of : (p : Place) (chunk : Option (List ℕ)) (taken : Bool) → IsPlaceOf p chunk taken → chunk ≡ None → taken ≡ false
fresh_of place.Free chunk taken kept none = kept.1
fresh_of (place.Waits packed) chunk taken kept none = kept.1
fresh_of place.Taken chunk taken kept none = absurd (not_some chunk none kept.0)

pub kept_new : (places : List Place) (taken : List ℕ) (accepted : List (ℕ × List ℕ)) (turns room : ℕ) → turns < 2 ^ 32 → places ≡ replicate turns place.Free → taken ≡ [] → accepted ≡ [] → turns ≤ room → IsRoomy places accepted taken room
kept_new places taken accepted turns room few is none nothing roomy =
    let size : length places ≡ turns = ap length is ∙ length-replicate turns place.Free in
    let main : IsWaiting places [] [] = none_kept places turns few is in (
      subst (λ (l : List ℕ). IsWaiting places accepted l) (sym none) (subst (λ (l : List (ℕ × List ℕ)). IsWaiting places l []) (sym nothing) main),
      omega (arith, size, roomy),
    )

pub kept_added : (places : List Place) (accepted after : List (ℕ × List ℕ)) (taken : List ℕ) (room turn : ℕ) (packed : Packed) (state : WaitingState) → state_of places accepted taken ≡ state → IsRoomy places accepted taken room
    → turn < state.turns → chunk_of state.accepted turn ≡ None → length packed.bytes.items ≤ 2 ^ 30 → after ≡ accepted ++ (turn, packed.bytes.items) ∷ [] → IsRoomy (set places turn (place.Waits packed)) after taken room
kept_added places accepted after taken room turn packed state is kept below none small after_is =
    let size = length-set places turn (place.Waits packed) in
    let inside : turn < length places = omega (arith, below, ap (λ (s : WaitingState). s.turns) is) in
    let absent : chunk_of accepted turn ≡ None = ap (λ (s : WaitingState). chunk_of s.accepted turn) is ∙ none in
    let here = kept.0.kept turn place.Free inside in
    let fresh = fresh_of (get_or places turn place.Free) (chunk_of accepted turn) (has taken turn) here absent in (
      subst (λ (l : List (ℕ × List ℕ)). IsWaiting (set places turn (place.Waits packed)) l taken) (sym after_is) (kept_with places accepted taken turn packed kept.0 inside absent fresh small),
      omega (arith, kept.1, size),
    )

-- a place whose chunk waits
waits_says : (places : List Place) (accepted : List (ℕ × List ℕ)) (taken : List ℕ) (turn : ℕ) (d : Place) (packed : Packed) → IsWaiting places accepted taken → turn < length places → get_or places turn d ≡ place.Waits packed
    → (IsSome (chunk_of accepted turn)) × (has taken turn ≡ false)
waits_says places accepted taken turn d packed waiting inside is =
    let here = place_at (get_or places turn d) (place.Waits packed) (chunk_of accepted turn) (has taken turn) (waiting.kept turn d inside) is in
    (ap is_some here.0, here.1)

pub taken_fits : (places : List Place) (accepted : List (ℕ × List ℕ)) (taken : List ℕ) (room turn : ℕ) (d : Place) (packed : Packed) (state : WaitingState) → state_of places accepted taken ≡ state → IsRoomy places accepted taken room
    → turn < state.turns → get_or places turn d ≡ place.Waits packed → length taken < room
taken_fits places accepted taken room turn d packed state is kept below place_is =
    let inside : turn < length places = omega (arith, below, ap (λ (s : WaitingState). s.turns) is) in
    let says = waits_says places accepted taken turn d packed kept.0 inside place_is in
    let more = begun_more (length places) true taken turn kept.0.begun inside says.1 in
    omega (arith, more, kept.1)

pub kept_taken : (places : List Place) (accepted : List (ℕ × List ℕ)) (taken more : List ℕ) (room room' turn : ℕ) (d p : Place) (packed : Packed) (state : WaitingState) → state_of places accepted taken ≡ state → IsRoomy places accepted taken room
    → turn < state.turns → get_or places turn d ≡ place.Waits packed → p ≡ place.Taken → more ≡ taken ++ turn ∷ [] → room' ≡ room → IsRoomy (set places turn p) accepted more room'
kept_taken places accepted taken more room room' turn d p packed state is kept below place_is p_is more_is room_is =
    let size = length-set places turn p in
    let inside : turn < length places = omega (arith, below, ap (λ (s : WaitingState). s.turns) is) in
    let says = waits_says places accepted taken turn d packed kept.0 inside place_is in
    let main = kept_without places accepted taken turn kept.0 inside says.0 says.1 in (
      subst (λ (q : Place). IsWaiting (set places turn q) accepted more) (sym p_is) (subst (λ (l : List ℕ). IsWaiting (set places turn place.Taken) accepted l) (sym more_is) main),
      omega (arith, kept.1, size, room_is),
    )
