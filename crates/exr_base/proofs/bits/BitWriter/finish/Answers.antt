use Rattle.std.proofs.Common.{◌≡◌, ℕ, ◌<◌, ◌+◌, ◌-◌, ◌*◌, ◌%◌, ◌^◌, get_or, length, sym, arith, mod-eq_of_lt, inl, inr}
use Rattle.std.proofs.lemmas.Bool.{cases_lt}
use Rattle.std.proofs.lemmas.List.{get_or_past, get_or_append_left, length_push}
use Rattle.exr_base.proofs.BitLists.{bytes_of-whole, bytes_of-filled, filled_below}
use Rattle.exr_base.proofs.bits.BitWriter.finish.Goals as goal

pub overflow_cast-pending : goal.overflow_cast-pending
overflow_cast-pending c =
    let w = c.self.inside in
    let below = filled_below w.count w.pending (omega (arith, c.self.invariant.0)) c.self.invariant.1 in
    let is : w.pending * 2 ^ (8 - w.count) % 2 ^ 64 ≡ w.pending * 2 ^ (8 - w.count) = mod-eq_of_lt (omega (arith, below)) in
    rw is (omega (arith, below))

pub returns-then-count-gt0 : goal.returns-then-count-gt0
returns-then-count-gt0 c =
    let w = c.self.inside in
    let grown = c.push_reserved.new.self.items in
    let below = filled_below w.count w.pending (omega (arith, c.self.invariant.0)) c.self.invariant.1 in
    let is : w.pending * 2 ^ (8 - w.count) % 2 ^ 64 ≡ w.pending * 2 ^ (8 - w.count) = mod-eq_of_lt (omega (arith, below)) in
    let items = c.push_reserved.ensures.items in
    let longer : length grown ≡ length w.bytes.items + 1 = rw items (length_push w.bytes.items _) in
    let small : (i : ℕ) → get_or w.bytes.items i 0 < 256 =
    λ i. elim (cases_lt i (length w.bytes.items)) [
      | inl within ↦ let stays : get_or grown i 0 ≡ get_or w.bytes.items i 0 = rw items (get_or_append_left w.bytes.items _ 0 i within) in omega arith
      | inr past ↦ omega (arith, get_or_past w.bytes.items i 0 past)
    ]
    in
    rw (items, is, ← c.self.view_is) (sym (bytes_of-filled w.bytes.items w.count w.pending small c.if-count-gt0.true c.self.invariant.0 c.self.invariant.1))

pub returns-else-count-gt0 : goal.returns-else-count-gt0
returns-else-count-gt0 c =
    let w = c.self.inside in
    let small : (i : ℕ) → get_or w.bytes.items i 0 < 256 = λ i. elim (cases_lt i (length w.bytes.items)) [ inl within ↦ omega arith | inr past ↦ omega (arith, get_or_past w.bytes.items i 0 past) ] in
    rw (← c.self.view_is) (sym (bytes_of-whole w.bytes.items w.count w.pending small (omega (arith, c.if-count-gt0.false))))
