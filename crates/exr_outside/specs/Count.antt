-- How often an object of I/O has failed, and which answers come only where that count went up in the call.
use Rattle.std.specs.Prelude.{◌≡◌, ℕ, ◌+◌, ◌-◌, ◌^◌, ◌<◌, ◌≤◌, min, max, Result, Ok, Err, OnErr, ⊤, if◌then◌else◌, ◌==◌}
use Rattle.exr_base.specs.declared.refusal.Refusal.{Refusal}
use Rattle.exr_base.specs.declared.refusal.Refusal.TheVariants as refusal

-- the number at which a count stands still
abbrev pub greatest_count : ℕ
greatest_count = 2 ^ 64 - 1

-- a count after one more, as far as it can rise
abbrev pub one_more : ℕ → ℕ
one_more count = min (count + 1) greatest_count

-- the count is greater than before, or stands at the greatest number
abbrev pub Rose : ℕ → ℕ → Type 0
Rose before now = one_more before ≤ now

-- by how much a count went up, which is at least 1 where it stands at the greatest number
abbrev pub rise_of : ℕ → ℕ → ℕ
rise_of before now = max (now - before) (if now == greatest_count then 1 else 0)

-- the call failed only where the count went up in it, and the count did not fall
pub record HasCause {T E : Type 0} (before now : ℕ) (result : Result T E) : Type 0 where
  pub later : before ≤ now
  pub failed : OnErr result (Rose before now)

-- what has to hold where a call refused by a fault, and where it did not
abbrev pub MatchFault : {T F : Type 0} → Result T (Refusal F) → Type 0 → Type 0 → Type 0
MatchFault (Ok x) fault other = other
MatchFault (Err (refusal.Fault f)) fault other = fault
MatchFault (Err refusal.NoMemory) fault other = other

-- the same for a call that may also run out of memory, which says nothing
pub record HasFaultCause {T F : Type 0} (before now : ℕ) (result : Result T (Refusal F)) : Type 0 where
  pub later : before ≤ now
  pub failed : MatchFault result (Rose before now) ⊤

-- the count of calls that failed: it rises at a call that fails, and stands still at any other
pub record CountsFailure {T F : Type 0} (before now : ℕ) (result : Result T (Refusal F)) : Type 0 where
  pub later : before ≤ now
  pub cases : MatchFault result (Rose before now) (now ≡ before)

-- the count at the return of an object that failed so often: it rises where the object failed at all
pub record CountsReturn (failures before now : ℕ) : Type 0 where
  pub later : before ≤ now
  pub failed : 0 < failures → Rose before now
  pub quiet : failures ≡ 0 → now ≡ before
