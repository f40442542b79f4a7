-- What two sheets have together, and what a run is overwritten with, place by place; a sheet that was cut is whole again.
use Rattle.std.proofs.Common.{◌≡◌, ℕ, zero, suc, ◌+◌, ◌-◌, ◌*◌, ◌<◌, ◌≤◌, ◌⊎◌, List, [], ◌∷◌, length, get_or, refl, sym, ap, subst, ◌∙◌, Bool, true, false, arith}
use mathlib.Core.Bool.{not, ◌&&◌, ◌||◌}
use native.Mathlib.Nat.{not-suc-le-zero}
use Rattle.std.specs.Prelude.{if◌then◌else◌}
use Rattle.core.proofs.slots.Runs.{inside, outside}
use Rattle.exr_rects.specs.Marks.{marks_in, marked, MarksRect, RectFits, both_marks, both_items, overwritten}
use Rattle.exr_rects.specs.Lending.{SameBuffer, Keeps, IsWhole, IsCut, IsJoined, GivesBack}
use Rattle.exr_rects.specs.declared.sheet.Sheet.{Sheet}
use Rattle.exr_rects.proofs.Pieces.{overwritten_is}

or_false : (b : Bool) → (b || false) ≡ b
or_false true = refl
or_false false = refl

pub marked_both : (ms ns : List Bool) (k : ℕ) → marked (both_marks ms ns) k ≡ (marked ms k || marked ns k)
marked_both [] ns k = refl
marked_both (m ∷ ms) [] k = sym (or_false (marked (m ∷ ms) k))
marked_both (m ∷ ms) (n ∷ ns) zero = refl
marked_both (m ∷ ms) (n ∷ ns) (suc k) = marked_both ms ns k

both_or : (q m : Bool) → ((q && m) || (not q && m)) ≡ m
both_or true true = refl
both_or true false = refl
both_or false true = refl
both_or false false = refl

-- the marks that p names and the others are all marks
pub marks_back : (p : ℕ → Bool) (k : ℕ) (ms : List Bool) → both_marks (marks_in p k ms) (marks_in (λ j. not (p j)) k ms) ≡ ms
marks_back p k [] = refl
marks_back p k (m ∷ ms) = let head = both_or (p k) m in let more = marks_back p (suc k) ms in λ i. head i ∷ more i

both_swapped : (q m : Bool) → ((not q && m) || (q && m)) ≡ m
both_swapped true true = refl
both_swapped true false = refl
both_swapped false true = refl
both_swapped false false = refl

-- the same the other way round
pub marks_over : (p : ℕ → Bool) (k : ℕ) (ms : List Bool) → both_marks (marks_in (λ j. not (p j)) k ms) (marks_in p k ms) ≡ ms
marks_over p k [] = refl
marks_over p k (m ∷ ms) = let head = both_swapped (p k) m in let more = marks_over p (suc k) ms in λ i. head i ∷ more i

module _ {X : Type 0} where
  -- an element of two sheets together is the first's where it is marked, and else the second's
  pub item_both : (ms : List Bool) (xs ys : List X) (k : ℕ) (d : X) → length ms ≡ length xs → length ys ≡ length xs
      → get_or (both_items ms xs ys) k d ≡ (if marked ms k then get_or xs k d else get_or ys k d)
  item_both [] xs ys k d e f = refl
  item_both (m ∷ ms) [] ys k d e f = let e' : suc (length ms) ≡ 0 = e in absurd (not-suc-le-zero {n = 0} (omega arith))
  item_both (m ∷ ms) (x ∷ xs) [] k d e f = let f' : 0 ≡ suc (length xs) = f in absurd (not-suc-le-zero {n = 0} (omega arith))
  item_both (true ∷ ms) (x ∷ xs) (y ∷ ys) zero d e f = refl
  item_both (false ∷ ms) (x ∷ xs) (y ∷ ys) zero d e f = refl
  item_both (m ∷ ms) (x ∷ xs) (y ∷ ys) (suc k) d e f =
      let e' : suc (length ms) ≡ suc (length xs) = e in let f' : suc (length ys) ≡ suc (length xs) = f in item_both ms xs ys k d (omega arith) (omega arith)

  module _ (xs : List X) (at : ℕ) (ws : List X) (fits : at + length ws ≤ length xs) where
    pub written_inside : (k : ℕ) (d : X) → at ≤ k → k < at + length ws → get_or (overwritten xs at ws) k d ≡ get_or ws (k - at) d
    written_inside k d low high = ap (λ l. get_or l k d) (sym (overwritten_is xs at (length ws) ws fits refl)) ∙ inside xs at (length ws) fits ws refl k d low high

    pub written_outside : (k : ℕ) (d : X) → (k < at) ⊎ (at + length ws ≤ k) → get_or (overwritten xs at ws) k d ≡ get_or xs k d
    written_outside k d out = ap (λ l. get_or l k d) (sym (overwritten_is xs at (length ws) ws fits refl)) ∙ outside xs at (length ws) fits ws refl k d out

  -- what was cut in two, and joined again, has the marks that it had
  pub joined_back : (p : ℕ → Bool) (s a b a' b' both : Sheet X) → IsCut p s a b → Keeps a a' → Keeps b b' → IsJoined a' b' both → Keeps s both
  joined_back p s a b a' b' both cut ka kb j = record {
    one_buffer = record { start = j.one_buffer.start ∙ ka.one_buffer.start ∙ cut.one_buffer.0.start; count = j.one_buffer.count ∙ ka.one_buffer.count ∙ cut.one_buffer.0.count };
    marks = j.marks ∙ (λ i. both_marks ((ka.marks ∙ cut.inside_marks) i) ((kb.marks ∙ cut.rest_marks) i)) ∙ marks_back p 0 s.mine;
  }

  pub joined_over : (p : ℕ → Bool) (s a b a' b' both : Sheet X) → IsCut p s a b → Keeps a a' → Keeps b b' → IsJoined b' a' both → Keeps s both
  joined_over p s a b a' b' both cut ka kb j = record {
    one_buffer = record { start = j.one_buffer.start ∙ kb.one_buffer.start ∙ cut.one_buffer.1.start; count = j.one_buffer.count ∙ kb.one_buffer.count ∙ cut.one_buffer.1.count };
    marks = j.marks ∙ (λ i. both_marks ((kb.marks ∙ cut.rest_marks) i) ((ka.marks ∙ cut.inside_marks) i)) ∙ marks_over p 0 s.mine;
  }

  pub keeps_itself : (s : Sheet X) → Keeps s s
  keeps_itself s = record { one_buffer = record { start = refl; count = refl }; marks = refl }

  -- a whole sheet owns each rectangle that fits in it
  pub whole_rect : (s : Sheet X) (from rows cols pitch : ℕ) → IsWhole s → RectFits s.len from rows cols pitch → MarksRect s.mine from rows cols pitch
  whole_rect s from rows cols pitch whole fits row col r c = let end = fits row r in whole (from + (row * pitch + col)) (omega arith)

  -- two parts of one sheet are of one buffer
  pub parts_alike : (p : ℕ → Bool) (s a b a' b' : Sheet X) → IsCut p s a b → Keeps a a' → Keeps b b' → SameBuffer a' b'
  parts_alike p s a b a' b' cut ka kb = record {
    start = kb.one_buffer.start ∙ cut.one_buffer.1.start ∙ sym (ka.one_buffer.start ∙ cut.one_buffer.0.start);
    count = kb.one_buffer.count ∙ cut.one_buffer.1.count ∙ sym (ka.one_buffer.count ∙ cut.one_buffer.0.count);
  }

  pub whole_kept : (s t : Sheet X) → IsWhole s → Keeps s t → GivesBack s t
  whole_kept s t whole keeps = record {
    one_buffer = keeps.one_buffer;
    whole = λ k lt. ap (λ ms. marked ms k) keeps.marks ∙ whole k (subst (λ (n : ℕ). k < n) keeps.one_buffer.count lt);
  }
