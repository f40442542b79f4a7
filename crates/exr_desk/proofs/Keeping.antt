-- What a desk keeps, from one step to the next.
use Rattle.std.proofs.Common.{◌≡◌, ◌⊎◌, inl, inr, ℕ, ◌+◌, ◌^◌, ◌<◌, ◌≤◌, min, Bool, true, false, eqb, IsTrue, List, [], ◌∷◌, ◌++◌, Option, None, IsSome, length, get_or, take, drop, refl, sym, ap, ◌∙◌, subst, add-zero, append_assoc, arith, length-append, length-drop}
use Rattle.std.proofs.lemmas.Bool.{true≢false, false≢true, cases_eq, cases_lt, eq-eqb}
use Rattle.std.proofs.lemmas.List.{append-nil, length-take, take_all, drop_all, length_push}
use Rattle.std.proofs.lemmas.List.Folds.{list_any_at}
use Rattle.exr_outside.specs.Count.{Rose}
use Rattle.exr_outside.specs.Sink.{SinkMeaning, replaced}
use Rattle.exr_outside.specs.Transfer.{AddsAtLeast, ReplacesAtLeast}
use Rattle.exr_desk.specs.Accepted.{chunk_of, chunks_at, IsFirstMissing, IsComplete}
use Rattle.exr_desk.specs.Order.{has, IsBegun, IsAllowed}
use Rattle.exr_desk.specs.File.{IsFront, joined, offsets_from, filled, with_offsets, filed, IsPartial, IsMixture}
use Rattle.exr_desk.specs.Waiting.{WaitingState, no_chunk_of, Takes}
use Rattle.exr_desk.specs.Desk.{DeskState, desk_of, chunks_of, IsDesk, CanWrite, IsSettled, IsSettledBut, with_chunk, IsKept}
use Rattle.exr_desk.proofs.Chunks.{none_from, not_some, chunk_of-push_other, chunk_of-push_kept, chunks_at-append, chunks_at-push, chunks_at-kept, chunks_at-has}
use Rattle.exr_desk.proofs.Orders.{begun_none, begun_push, begun_more, begun_few, rising_end, rising_has, allowed_of}
use Rattle.exr_desk.proofs.Bytes.{joined-append, joined-push, length-offsets_from, offsets_from-push, no_offsets, take-longer, take-behind, mixture_of_one, mixture, replaced-front}

-- a count that went up later went up since before
pub rose_since : (begun before now : ℕ) → begun ≤ before → Rose before now → Rose begun now
rose_since begun before now since rose = omega (arith, since, rose)

-- the turns that were taken are turns of the front
pub turn_at : (n : ℕ) (free : Bool) (xs : List ℕ) (k : ℕ) → IsBegun n free xs → k < length xs → get_or xs k 0 < n
turn_at n free xs k begun below = begun.below (get_or xs k 0) (list_any_at (eqb (get_or xs k 0)) xs k 0 below (eq-eqb (get_or xs k 0) (get_or xs k 0) refl))

-- ---- files that are cut short

-- a first part of the front
pub partial_front : (front entries : List ℕ) (free : Bool) (file : List ℕ) (k : ℕ) → file ≡ take k front → IsPartial front entries free [] [] file
partial_front front entries free file k is =
    let all = allowed_of (length entries) free [] (begun_none (length entries) free) in
    record { order = all.0; allowed = all.1; begins = (all.0, refl); holds = inl (k, is) }

-- the front and a first part of the chunks that were taken
pub partial_taken : (front entries : List ℕ) (free : Bool) (accepted : List (ℕ × List ℕ)) (taken file : List ℕ) (k : ℕ) → IsBegun (length entries) free taken → length (chunks_at accepted taken) ≡ length taken
    → file ≡ front ++ take k (joined (chunks_at accepted taken)) → IsPartial front entries free accepted taken file
partial_taken front entries free accepted taken file k begun given is =
    let all = allowed_of (length entries) free taken begun in
    let order = taken ++ all.0 in
    let before = joined (chunks_at accepted taken) in
    let after = joined (chunks_at accepted all.0) in
    let whole : joined (chunks_at accepted order) ≡ before ++ after = ap joined (chunks_at-append accepted taken all.0 given) ∙ joined-append (chunks_at accepted taken) (chunks_at accepted all.0) in
    let count = min k (length before) in
    record {
      order = order;
      allowed = all.1;
      begins = (all.0, refl);
      holds = inr record {
        table = front;
        count = count;
        bytes = is ∙ ap (λ (l : List ℕ). front ++ l) (take-longer before after k) ∙ ap (λ (l : List ℕ). front ++ take count l) (sym whole);
        entered = mixture_of_one front (with_offsets front entries accepted order);
        unfilled = λ turn missing. refl;
      };
    }

module _ {S : Type 0} (means : SinkMeaning S) where
  -- what the sink of any desk holds
  pub partial_of : (d : DeskState S) → IsDesk means d → IsTrue means.tells → IsPartial d.front d.entries d.free d.accepted d.taken (means.holds d.sink)
  partial_of d desk tells =
      let bytes = joined (chunks_of d) in
      let Goal : Bool → Type 0 = λ b. d.broken ≡ b → IsPartial d.front d.entries d.free d.accepted d.taken (means.holds d.sink) in
      elim d.broken as Goal [
        | true ↦ λ broken. let part = desk.cut tells broken in partial_taken d.front d.entries d.free d.accepted d.taken (means.holds d.sink) part.0 desk.order desk.given part.1
        | false ↦ λ unbroken.
            let all : bytes ≡ take (length bytes) bytes = sym (take_all (length bytes) bytes (omega arith)) in
            partial_taken d.front d.entries d.free d.accepted d.taken (means.holds d.sink) (length bytes) desk.order desk.given (desk.whole tells unbroken ∙ ap (λ (l : List ℕ). d.front ++ l) all)
      ] refl

  -- ---- what can be written

  -- where there is no next chunk nothing can be written in an order that is not free
  pub settled_rising : (d : DeskState S) → d.free ≡ false → (length d.taken < length d.entries → IsSome (chunk_of d.accepted (length d.taken)) → ⊥) → IsSettled d
  settled_rising d rising none = λ unbroken turn can. elim can.next [
    | inl free ↦ true≢false (sym free ∙ rising)
    | inr is ↦
        let P : ℕ → Type 0 = λ t. (t < length d.entries) × IsSome (chunk_of d.accepted t) in
        let there = subst P is (can.below, can.there) in
        none there.0 there.1
  ]

  -- the next chunk can be written
  pub can_next : (d : DeskState S) → IsDesk means d → d.free ≡ false → length d.taken < length d.entries → IsSome (chunk_of d.accepted (length d.taken)) → CanWrite d (length d.taken)
  can_next d desk rising below there = record {
    below = below;
    there = there;
    fresh = rising_end (length d.entries) d.taken (subst (λ (b : Bool). IsBegun (length d.entries) b d.taken) rising desk.order);
    next = inr refl;
  }

  -- in a desk that is settled and not broken, a turn that is not taken is not there or waits for the next one
  pub waits_for : (d : DeskState S) (turn : ℕ) → IsDesk means d → IsSettled d → d.broken ≡ false → turn < length d.entries → IsSome (chunk_of d.accepted turn) → has d.taken turn ≡ false
      → (d.free ≡ false) × (length d.taken < turn) × IsFirstMissing (length d.entries) d.accepted (length d.taken)
  waits_for d turn desk settled unbroken below there fresh =
      let next = length d.taken in
      let Goal : Bool → Type 0 = λ b. d.free ≡ b → (d.free ≡ false) × (next < turn) × IsFirstMissing (length d.entries) d.accepted next in
      elim d.free as Goal [
        | true ↦ λ free. absurd (settled unbroken turn (record { below = below; there = there; fresh = fresh; next = inl free }))
        | false ↦ λ rising.
            let order : IsBegun (length d.entries) false d.taken = subst (λ (b : Bool). IsBegun (length d.entries) b d.taken) rising desk.order in
            let after : next ≤ turn = elim (cases_lt turn next) [
              | inl less ↦ absurd (true≢false (sym (rising_has (length d.entries) d.taken turn order less) ∙ fresh))
              | inr more ↦ more
            ] in
            let inside : next < length d.entries = omega (arith, after, below) in
            let missing : IsSome (chunk_of d.accepted next) → ⊥ = λ some. settled unbroken next (can_next d desk rising inside some) in
            let apart : next ≡ turn → ⊥ = λ same. missing (subst (λ (t : ℕ). IsSome (chunk_of d.accepted t)) (sym same) there) in (
              rising,
              omega (arith, after, apart),
              record {
                below = inside;
                missing = none_from (chunk_of d.accepted next) missing;
                earlier = λ u under. chunks_at-has d.accepted d.taken u desk.given (rising_has (length d.entries) d.taken u order under);
              },
            )
      ] refl

  -- where every turn has a chunk, all of them were taken
  pub allowed_all : (d : DeskState S) → IsDesk means d → IsSettled d → d.broken ≡ false → IsComplete (length d.entries) d.accepted → IsAllowed (length d.entries) d.free d.taken
  allowed_all d desk settled unbroken complete = record {
    begun = desk.order;
    all = λ turn below.
        let Goal : Bool → Type 0 = λ b. has d.taken turn ≡ b → b ≡ true in
        let found : has d.taken turn ≡ true = elim (has d.taken turn) as Goal [
          | true ↦ λ is. refl
          | false ↦ λ fresh.
              let waits = waits_for d turn desk settled unbroken below (complete turn below) fresh in
              absurd (not_some (chunk_of d.accepted (length d.taken)) waits.2.missing (complete (length d.taken) waits.2.below))
        ] refl in
        found;
  }

  -- ---- the steps

  -- what contracts see of a desk keeps what its fields keep
  pub seen : {d e : DeskState S} {n : ℕ} {starts : List ℕ} {room appended : ℕ} → d ≡ e → IsKept means d n starts room appended → IsKept means e n starts room appended
  seen {d} {e} {n} {starts} {room} {appended} is kept = subst (λ (x : DeskState S). IsKept means x n starts room appended) is kept

  -- as many starts are kept as chunks were written
  pub starts_are : (d : DeskState S) (n : ℕ) (starts : List ℕ) (room appended : ℕ) → IsKept means d n starts room appended → d.broken ≡ false → length starts ≡ length d.taken
  starts_are d n starts room appended kept unbroken =
      ap length (kept.begins unbroken) ∙ length-offsets_from (length d.front) (chunks_of d) ∙ kept.desk.given

  -- a chunk that can be written is one of few
  pub one_of_few : (d : DeskState S) (turn : ℕ) → IsDesk means d → CanWrite d turn → length d.taken < length d.entries
  one_of_few d turn desk can = begun_more (length d.entries) d.free d.taken turn desk.order can.below can.fresh

  -- there is room for where it begins
  pub start_fits : (d : DeskState S) (n : ℕ) (starts : List ℕ) (room appended turn : ℕ) → IsKept means d n starts room appended → d.broken ≡ false → CanWrite d turn → length starts < room
  start_fits d n starts room appended turn kept unbroken can =
      omega (arith, starts_are d n starts room appended kept unbroken, one_of_few d turn kept.desk can, kept.roomy)

  -- the bytes can be counted
  pub sum_fits : (d : DeskState S) (n : ℕ) (starts : List ℕ) (room appended turn count : ℕ) → IsKept means d n starts room appended → CanWrite d turn → count ≤ 2 ^ 30 → appended + count < 2 ^ 64
  sum_fits d n starts room appended turn count kept can few =
      omega (arith, kept.small, one_of_few d turn kept.desk can, kept.desk.is_front.few, few)

  pub opened : (front entries : List ℕ) (free : Bool) (begun : ℕ) (waiting : WaitingState) (sink : S) (starts : List ℕ) (room appended : ℕ) → IsFront front entries → waiting ≡ no_chunk_of (length entries) → starts ≡ []
      → length entries ≤ room → appended ≡ length front → (IsTrue means.tells → means.holds sink ≡ front) → begun ≤ means.faults sink
      → IsKept means (desk_of front entries free begun waiting.accepted waiting.taken false sink) waiting.turns starts room appended
  opened front entries free begun waiting sink starts room appended is_front waiting_is starts_is roomy appended_is holds later =
      let none = no_chunk_of (length entries) in
      let main : IsKept means (desk_of front entries free begun [] [] false sink) (length entries) [] room appended = record {
        desk = record {
          is_front = is_front;
          order = begun_none (length entries) free;
          given = refl;
          whole = λ tells unbroken. holds tells ∙ sym (append-nil front);
          cut = λ tells broken. absurd (false≢true broken);
          failed = λ broken. absurd (false≢true broken);
          later = later;
        };
        turns = refl;
        begins = λ unbroken. sym (no_offsets (length front));
        roomy = roomy;
        exact = λ unbroken. appended_is ∙ sym (add-zero (length front));
        small = omega (arith, appended_is, is_front.size);
        held = λ tells. omega (arith, appended_is, ap length (holds tells));
      } in
      subst (λ (w : WaitingState). IsKept means (desk_of front entries free begun w.accepted w.taken false sink) w.turns starts room appended) (sym waiting_is)
      (subst (λ (s : List ℕ). IsKept means (desk_of front entries free begun none.accepted none.taken false sink) none.turns s room appended) (sym starts_is) main)

  module _ (front entries : List ℕ) (free : Bool) (begun : ℕ) where
    -- the desk with these chunks and this sink
    abbrev pub with_these : WaitingState → Bool → S → DeskState S
    with_these waiting broken sink = desk_of front entries free begun waiting.accepted waiting.taken broken sink

    pub accepted : (old new : WaitingState) (broken : Bool) (sink : S) (starts : List ℕ) (room appended turn : ℕ) (chunk : List ℕ) → IsKept means (with_these old broken sink) old.turns starts room appended
        → new ≡ record old { accepted = old.accepted ++ (turn, chunk) ∷ [] } → IsKept means (with_these new broken sink) new.turns starts room appended
    accepted old new broken sink starts room appended turn chunk kept new_is =
        let ds = old.accepted ++ (turn, chunk) ∷ [] in
        let same = chunks_at-kept old.accepted ds old.taken kept.desk.given (chunk_of-push_kept old.accepted (turn, chunk)) in
        let bytes = ap joined same in
        let main : IsKept means (with_these (record old { accepted = ds }) broken sink) old.turns starts room appended = record {
          desk = record {
            is_front = kept.desk.is_front;
            order = kept.desk.order;
            given = ap length same ∙ kept.desk.given;
            whole = λ tells unbroken. kept.desk.whole tells unbroken ∙ ap (λ (l : List ℕ). front ++ l) (sym bytes);
            cut = λ tells failed.
                let part = kept.desk.cut tells failed in
                (part.0, part.1 ∙ ap (λ (l : List ℕ). front ++ take part.0 l) (sym bytes));
            failed = kept.desk.failed;
            later = kept.desk.later;
          };
          turns = kept.turns;
          begins = λ unbroken. kept.begins unbroken ∙ ap (offsets_from (length front)) (sym same);
          roomy = kept.roomy;
          exact = λ unbroken. kept.exact unbroken ∙ ap (λ (l : List ℕ). length front + length l) (sym bytes);
          small = kept.small;
          held = kept.held;
        } in
        subst (λ (w : WaitingState). IsKept means (with_these w broken sink) w.turns starts room appended) (sym new_is) main

    pub wrote : (old new : WaitingState) (was : Bool) (sink after : S) (starts more : List ℕ) (room room' appended sum turn : ℕ) (chunk : List ℕ) → IsKept means (with_these old was sink) old.turns starts room appended → was ≡ false
        → CanWrite (with_these old was sink) turn → Takes old turn chunk new → more ≡ starts ++ appended ∷ [] → room' ≡ room → sum ≡ appended + length chunk → (IsTrue means.tells → means.holds after ≡ means.holds sink ++ chunk)
        → means.faults sink ≤ means.faults after → IsKept means (with_these new was after) new.turns more room' sum
    wrote old new was sink after starts more room room' appended sum turn chunk kept unbroken can takes more_is room_is sum_is holds later =
        let order = old.taken ++ turn ∷ [] in
        let chunks = chunks_at old.accepted old.taken in
        let start = length front in
        let next : chunks_at old.accepted order ≡ chunks ++ chunk ∷ [] = chunks_at-push old.accepted old.taken turn chunk kept.desk.given takes.is in
        let longer : joined (chunks_at old.accepted order) ≡ joined chunks ++ chunk = ap joined next ∙ joined-push chunks chunk in
        let appended_is : appended ≡ start + length (joined chunks) = kept.exact unbroken in
        let count = length_push old.taken turn in
        let main : IsKept means (with_these (record old { taken = order }) was after) old.turns more room' sum = record {
          desk = record {
            is_front = kept.desk.is_front;
            order = begun_push (length entries) free old.taken turn kept.desk.order can.below can.fresh can.next;
            given = omega (arith, ap length next, length_push chunks chunk, kept.desk.given, count);
            whole = λ tells still.
                holds tells
                ∙ ap (λ (l : List ℕ). l ++ chunk) (kept.desk.whole tells unbroken)
                ∙ append_assoc front (joined chunks) chunk
                ∙ ap (λ (l : List ℕ). front ++ l) (sym longer);
            cut = λ tells broken. absurd (true≢false (sym broken ∙ unbroken));
            failed = λ broken. absurd (true≢false (sym broken ∙ unbroken));
            later = omega (arith, kept.desk.later, later);
          };
          turns = kept.turns;
          begins = λ still.
              more_is
              ∙ ap (λ (l : List ℕ). l ++ appended ∷ []) (kept.begins unbroken)
              ∙ ap (λ (n : ℕ). offsets_from start chunks ++ n ∷ []) appended_is
              ∙ sym (offsets_from-push start chunks chunk)
              ∙ ap (offsets_from start) (sym next);
          roomy = omega (arith, kept.roomy, room_is);
          exact = λ still. omega (arith, sum_is, appended_is, ap length longer, length-append (joined chunks) chunk);
          small = omega (arith, kept.small, takes.small, sum_is, count);
          held = λ tells. omega (arith, kept.held tells, sum_is, ap length (holds tells), length-append (means.holds sink) chunk);
        } in
        subst (λ (w : WaitingState). IsKept means (with_these w was after) w.turns more room' sum) (sym takes.after) main

    pub broke : (old new : WaitingState) (was : Bool) (sink after : S) (starts : List ℕ) (room appended taken sum turn : ℕ) (chunk : List ℕ) → IsKept means (with_these old was sink) old.turns starts room appended → was ≡ false
        → CanWrite (with_these old was sink) turn → Takes old turn chunk new → sum ≡ appended + taken → taken < length chunk → (IsTrue means.tells → AddsAtLeast taken chunk (means.holds sink) (means.holds after))
        → means.faults sink ≤ means.faults after → Rose (means.faults sink) (means.faults after) → IsKept means (with_these new true after) new.turns starts room sum
    broke old new was sink after starts room appended taken sum turn chunk kept unbroken can takes sum_is less adds later rose =
        let order = old.taken ++ turn ∷ [] in
        let chunks = chunks_at old.accepted old.taken in
        let before = joined chunks in
        let next : chunks_at old.accepted order ≡ chunks ++ chunk ∷ [] = chunks_at-push old.accepted old.taken turn chunk kept.desk.given takes.is in
        let longer : joined (chunks_at old.accepted order) ≡ before ++ chunk = ap joined next ∙ joined-push chunks chunk in
        let count = length_push old.taken turn in
        let main : IsKept means (with_these (record old { taken = order }) true after) old.turns starts room sum = record {
          desk = record {
            is_front = kept.desk.is_front;
            order = begun_push (length entries) free old.taken turn kept.desk.order can.below can.fresh can.next;
            given = omega (arith, ap length next, length_push chunks chunk, kept.desk.given, count);
            whole = λ tells still. absurd (true≢false still);
            cut = λ tells broken.
                let added = adds tells in (
                  length before + added.0,
                  added.2
                      ∙ ap (λ (l : List ℕ). l ++ take added.0 chunk) (kept.desk.whole tells unbroken)
                      ∙ append_assoc front before (take added.0 chunk)
                      ∙ ap (λ (l : List ℕ). front ++ l) (take-behind before chunk added.0)
                      ∙ ap (λ (l : List ℕ). front ++ take (length before + added.0) l) (sym longer),
                );
            failed = λ broken. rose_since begun (means.faults sink) (means.faults after) kept.desk.later rose;
            later = omega (arith, kept.desk.later, later);
          };
          turns = kept.turns;
          begins = λ still. absurd (true≢false still);
          roomy = kept.roomy;
          exact = λ still. absurd (true≢false still);
          small = omega (arith, kept.small, takes.small, sum_is, less, count);
          held = λ tells.
              let added = adds tells in
              omega (arith, kept.held tells, sum_is, less, added.1, ap length added.2, length-append (means.holds sink) (take added.0 chunk), length-take added.0 chunk);
        } in
        subst (λ (w : WaitingState). IsKept means (with_these w true after) w.turns starts room sum) (sym takes.after) main

  -- ---- the tables

  -- the tables that were filled in are those of the chunks that were written
  table_of : (d : DeskState S) (n : ℕ) (starts bytes : List ℕ) (room appended : ℕ) → IsKept means d n starts room appended → d.broken ≡ false → bytes ≡ filled d.entries d.taken starts d.front
      → bytes ≡ with_offsets d.front d.entries d.accepted d.taken
  table_of d n starts bytes room appended kept unbroken filled_is = filled_is ∙ ap (λ (s : List ℕ). filled d.entries d.taken s d.front) (kept.begins unbroken)

  pub finished : (d : DeskState S) (after : S) (n : ℕ) (starts bytes : List ℕ) (room appended : ℕ) → IsKept means d n starts room appended → d.broken ≡ false → bytes ≡ filled d.entries d.taken starts d.front → length bytes ≡ length d.front
      → IsTrue means.tells → means.holds after ≡ replaced 0 bytes (means.holds d.sink) → means.holds after ≡ filed d.front d.entries d.accepted d.taken
  finished d after n starts bytes room appended kept unbroken filled_is size tells put =
      let rest = joined (chunks_of d) in
      let nothing : drop (length bytes) d.front ≡ [] = drop_all (length bytes) d.front (omega (arith, size)) in
      put
      ∙ ap (replaced 0 bytes) (kept.desk.whole tells unbroken)
      ∙ replaced-front d.front rest bytes (omega (arith, size))
      ∙ ap (λ (l : List ℕ). (bytes ++ l) ++ rest) nothing
      ∙ ap (λ (l : List ℕ). l ++ rest) (append-nil bytes)
      ∙ ap (λ (l : List ℕ). l ++ rest) (table_of d n starts bytes room appended kept unbroken filled_is)

  -- the file whose tables were put in part
  half_put : (d : DeskState S) (after : S) (bytes : List ℕ) (k : ℕ) → IsDesk means d → d.broken ≡ false → length bytes ≡ length d.front → IsTrue means.tells → means.holds after ≡ replaced 0 (take k bytes) (means.holds d.sink)
      → means.holds after ≡ (take k bytes ++ drop (length (take k bytes)) d.front) ++ joined (chunks_of d)
  half_put d after bytes k desk unbroken size tells put =
      put ∙ ap (replaced 0 (take k bytes)) (desk.whole tells unbroken) ∙ replaced-front d.front (joined (chunks_of d)) (take k bytes) (omega (arith, size, length-take k bytes))

  pub cut_short : (d : DeskState S) (after : S) (n : ℕ) (starts bytes : List ℕ) (room appended taken : ℕ) → IsKept means d n starts room appended → d.broken ≡ false → IsAllowed (length d.entries) d.free d.taken
      → IsComplete (length d.entries) d.accepted → bytes ≡ filled d.entries d.taken starts d.front → length bytes ≡ length d.front → IsTrue means.tells → ReplacesAtLeast taken 0 bytes (means.holds d.sink) (means.holds after)
      → IsPartial d.front d.entries d.free d.accepted d.taken (means.holds after)
  cut_short d after n starts bytes room appended taken kept unbroken allowed complete filled_is size tells put =
      let rest = joined (chunks_of d) in
      let piece = take put.0 bytes in
      let table = with_offsets d.front d.entries d.accepted d.taken in
      let table_is = table_of d n starts bytes room appended kept unbroken filled_is in
      let same : length table ≡ length d.front = omega (arith, size, ap length table_is) in
      let whole = piece ++ drop (length piece) d.front in
      let file : means.holds after ≡ whole ++ rest = half_put d after bytes put.0 kept.desk unbroken size tells put.2 in
      record {
        order = d.taken;
        allowed = allowed;
        begins = ([], sym (append-nil d.taken));
        holds = inr record {
          table = whole;
          count = length rest;
          bytes = file ∙ ap (λ (l : List ℕ). whole ++ l) (sym (take_all (length rest) rest (omega arith)));
          entered = subst (λ (l : List ℕ). IsMixture d.front table (take put.0 l ++ drop (length (take put.0 l)) d.front)) (sym table_is) (mixture d.front table put.0 same);
          unfilled = λ turn missing. absurd (not_some (chunk_of d.accepted turn) missing.missing (complete turn missing.below));
        };
      }

  -- it is no shorter than what was appended
  pub cut_held : (d : DeskState S) (after : S) (n : ℕ) (starts bytes : List ℕ) (room appended taken : ℕ) → IsKept means d n starts room appended → d.broken ≡ false → length bytes ≡ length d.front → IsTrue means.tells
      → ReplacesAtLeast taken 0 bytes (means.holds d.sink) (means.holds after) → appended ≤ length (means.holds after)
  cut_held d after n starts bytes room appended taken kept unbroken size tells put =
      let rest = joined (chunks_of d) in
      let piece = take put.0 bytes in
      let whole = piece ++ drop (length piece) d.front in
      let file = half_put d after bytes put.0 kept.desk unbroken size tells put.2 in
      omega (
        arith,
        kept.exact unbroken,
        ap length file,
        length-append whole rest,
        length-append piece (drop (length piece) d.front),
        length-drop (length piece) d.front,
        length-take put.0 bytes,
        size,
      )

  -- ---- the same from what contracts see

  pub can_seen : {d e : DeskState S} {turn : ℕ} → d ≡ e → CanWrite e turn → CanWrite d turn
  can_seen {d} {e} {turn} is can = subst (λ (x : DeskState S). CanWrite x turn) (sym is) can

  pub unbroken_seen : {d e : DeskState S} → d ≡ e → e.broken ≡ false → d.broken ≡ false
  unbroken_seen {d} {e} is unbroken = ap (λ (x : DeskState S). x.broken) is ∙ unbroken

  -- the next turn of an order that is not free, as the number of starts
  pub first_is : (d : DeskState S) (n : ℕ) (starts : List ℕ) (room appended first : ℕ) → IsKept means d n starts room appended → d.broken ≡ false → first ≡ length starts
      → (first ≡ length d.taken) × (first ≤ length d.entries) × (first < 2 ^ 32)
  first_is d n starts room appended first kept unbroken is =
      let same = starts_are d n starts room appended kept unbroken in
      let few = begun_few (length d.entries) d.free d.taken kept.desk.order in
      (is ∙ same, omega (arith, is, same, few), omega (arith, is, same, few, kept.desk.is_front.few))

  pub none_next : (e : DeskState S) (n : ℕ) (starts : List ℕ) (room appended first : ℕ) → IsKept means e n starts room appended → e.free ≡ false → e.broken ≡ false → first ≡ length starts
      → ((first ≡ length e.entries) ⊎ (IsSome (chunk_of e.accepted first) → ⊥)) → IsSettled e
  none_next e n starts room appended first kept rising unbroken is none =
      let same = (first_is e n starts room appended first kept unbroken is).0 in
      settled_rising e rising (λ below there. elim none [
        | inl all ↦ absurd (omega (arith, all, same, below))
        | inr missing ↦ missing (subst (λ (t : ℕ). IsSome (chunk_of e.accepted t)) (sym same) there)
      ])

  pub can_first : (e : DeskState S) (n : ℕ) (starts : List ℕ) (room appended first : ℕ) → IsKept means e n starts room appended → e.free ≡ false → e.broken ≡ false → first ≡ length starts → (first ≡ length e.entries → ⊥)
      → IsSome (chunk_of e.accepted first) → CanWrite e first
  can_first e n starts room appended first kept rising unbroken is more there =
      let known = first_is e n starts room appended first kept unbroken is in
      let below : first < length e.entries = omega (arith, known.1, more) in
      subst (λ (t : ℕ). CanWrite e t) (sym known.0) (can_next e kept.desk rising (subst (λ (t : ℕ). t < length e.entries) known.0 below) (subst (λ (t : ℕ). IsSome (chunk_of e.accepted t)) known.0 there))

  pub waits_at : (e : DeskState S) (n : ℕ) (starts : List ℕ) (room appended first turn : ℕ) → IsKept means e n starts room appended → IsSettled e → e.broken ≡ false → turn < length e.entries → IsSome (chunk_of e.accepted turn)
      → has e.taken turn ≡ false → first ≡ length starts → (e.broken ≡ false) × (e.free ≡ false) × (first < turn) × IsFirstMissing (length e.entries) e.accepted first
  waits_at e n starts room appended first turn kept settled unbroken below there fresh is =
      let same = (first_is e n starts room appended first kept unbroken is).0 in
      let waits = waits_for e turn kept.desk settled unbroken below there fresh in
      (unbroken, waits.0, subst (λ (t : ℕ). t < turn) (sym same) waits.1, subst (λ (t : ℕ). IsFirstMissing (length e.entries) e.accepted t) (sym same) waits.2)

  -- ---- a chunk that was accepted

  -- a turn without a chunk was not taken
  pub fresh_turn : (d : DeskState S) (turn : ℕ) → IsDesk means d → chunk_of d.accepted turn ≡ None → has d.taken turn ≡ false
  fresh_turn d turn desk none =
      let Goal : Bool → Type 0 = λ b. has d.taken turn ≡ b → b ≡ false in
      let found : has d.taken turn ≡ false = elim (has d.taken turn) as Goal [
        | true ↦ λ there. absurd (not_some (chunk_of d.accepted turn) none (chunks_at-has d.accepted d.taken turn desk.given there))
        | false ↦ λ there. refl
      ] refl in
      found

  -- no other chunk can be written then
  pub settled_but : (d : DeskState S) (turn : ℕ) (chunk : List ℕ) → IsSettled d → IsSettledBut turn (with_chunk d turn chunk)
  settled_but d turn chunk settled = λ unbroken free u can. elim (cases_eq turn u) [
    | inl same ↦ sym same
    | inr other ↦
        let there = subst (λ (o : Option (List ℕ)). IsSome o) (chunk_of-push_other d.accepted turn u chunk other) can.there in
        absurd (settled unbroken u (record { below = can.below; there = there; fresh = can.fresh; next = can.next }))
  ]
