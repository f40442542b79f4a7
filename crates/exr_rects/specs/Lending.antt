-- What a sheet is once the run of it that was lent has come back, and words on sheets.
use Rattle.std.specs.Prelude.{◌≡◌, ℕ, ◌+◌, ◌<◌, zero, suc, refl, true, not, Bool, List, [], ◌∷◌, length}
use mathlib.Core.Path.{sym, ap, ◌∙◌}
use base.Fml.{Fml}
use denote.RattleType.{RattleType}
use denote.Ref.{MutBor}
use denote.Array.{Array}
use denote.Follow.{follows}
use Rattle.exr_rects.specs.Marks.{marked, marks_in, overwritten, both_items, both_marks}
use Rattle.core.specs.declared.slots.Slots.{Slots}
use Rattle.core.specs.Mem.Slots.{slots_ptr, slots_len, slots_items, slots_filled, IsFull}
use Rattle.exr_rects.specs.declared.sheet.Sheet.{Sheet}
use Rattle.exr_rects.specs.contracts.sheet.Sheet.{the_row}

module _ {X : Type 0} where
  pub length-overwritten : (xs : List X) (at : ℕ) (ws : List X) → length (overwritten xs at ws) ≡ length xs
  length-overwritten [] at ws = refl
  length-overwritten (x ∷ xs) zero [] = refl
  length-overwritten (x ∷ xs) zero (w ∷ ws) = ap suc (length-overwritten xs zero ws)
  length-overwritten (x ∷ xs) (suc at) ws = ap suc (length-overwritten xs at ws)

  -- the sheet with ws over its elements from place `at` on
  abbrev pub with_run : Sheet X → ℕ → List X → Sheet X
  with_run s at ws = record { at = s.at; len = s.len; items = overwritten s.items at ws; mine = s.mine; ok = (s.ok.0 ∙ sym (length-overwritten s.items at ws), s.ok.1); small = s.small }

  -- the number of places of the sheet's buffer, an element for each of them, and which of them the sheet owns
  abbrev pub sheet_len : Sheet X → ℕ
  sheet_len s = s.len

  abbrev pub sheet_items : Sheet X → List X
  sheet_items s = s.items

  abbrev pub sheet_marks : Sheet X → List Bool
  sheet_marks s = s.mine

  -- both are of one buffer
  pub record SameBuffer (a b : Sheet X) : Type 0 where
    pub start : b.at ≡ a.at
    pub count : b.len ≡ a.len

  -- b is of the buffer of a, and owns the same places
  pub record Keeps (a b : Sheet X) : Type 0 where
    pub one_buffer : SameBuffer a b
    pub marks : b.mine ≡ a.mine

  -- `inside` is what `whole` has at the places that p names, and `rest` is what it has elsewhere
  pub record IsCut (p : ℕ → Bool) (whole inside rest : Sheet X) : Type 0 where
    pub one_buffer : SameBuffer whole inside × SameBuffer whole rest
    pub items : (inside.items ≡ whole.items) × (rest.items ≡ whole.items)
    pub inside_marks : inside.mine ≡ marks_in p 0 whole.mine
    pub rest_marks : rest.mine ≡ marks_in (λ k. not (p k)) 0 whole.mine

  -- `both` is what a and b have together
  pub record IsJoined (a b both : Sheet X) : Type 0 where
    pub one_buffer : SameBuffer a both
    pub items : both.items ≡ both_items a.mine a.items b.items
    pub marks : both.mine ≡ both_marks a.mine b.mine

  -- the sheet owns every element of its buffer
  abbrev pub IsWhole : Sheet X → Type 0
  IsWhole s = (k : ℕ) → k < s.len → marked s.mine k ≡ true

  -- the sheet owns xs, which are all elements of its buffer
  pub record IsAllOf (s : Sheet X) (xs : List X) : Type 0 where
    pub whole : IsWhole s
    pub are : s.items ≡ xs

  -- b is of the buffer of a, and owns every element of it
  pub record GivesBack (a b : Sheet X) : Type 0 where
    pub one_buffer : SameBuffer a b
    pub whole : IsWhole b

  -- the sheet has the places of a row of slots, and owns the values that it holds
  pub record IsOfSlots (s : Sheet X) (row : Slots X) : Type 0 where
    pub start : s.at ≡ slots_ptr row
    pub count : s.len ≡ slots_len row
    pub items : s.items ≡ slots_items row
    pub marks : s.mine ≡ slots_filled row

  -- the row of slots is full, and its values are all that the sheet owns
  pub record IsSlotsOf (row : Slots X) (s : Sheet X) : Type 0 where
    pub start : slots_ptr row ≡ s.at
    pub count : slots_len row ≡ s.len
    pub items : slots_items row ≡ s.items
    pub full : IsFull row

  -- b is a with ws over its elements from place `at` on; it owns what a owns
  pub record IsWritten (a b : Sheet X) (at : ℕ) (ws : List X) : Type 0 where
    pub keeps : Keeps a b
    pub items : b.items ≡ overwritten a.items at ws

  -- the sheet owns the elements of the places from `at` to before `at + count`
  abbrev pub OwnsRun : Sheet X → ℕ → ℕ → Type 0
  OwnsRun s at count = (k : ℕ) → k < count → marked s.mine (at + k) ≡ true

-- r is a run of s from place `at` on. When the loan ends, the sheet behind s has there what was written through r
abbrev pub lends_run : (R : RattleType) → MutBor (Sheet R.Denot) → ℕ → MutBor (List R.Denot) → Fml
lends_run R s at r = follows (the_row R) (Array R 0) s.ghost_name r.ghost_name (with_run s.now at)
