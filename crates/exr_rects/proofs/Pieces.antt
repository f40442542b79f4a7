-- The pieces of a sheet: made of a row of slots and back, parted and put together, a run taken out and put back, a run seen. Assumes `Logic`.
use mathlib.Core.Path.{◌≡◌, refl, sym, ap, subst, ◌∙◌}
use mathlib.Core.Bool.{Bool, true, false, not, ◌&&◌, ◌||◌}
use Prim.Native.Nat.{ℕ, zero, suc, ◌+◌, ◌*◌, ◌<◌, ◌≤◌}
use native.Mathlib.Nat.{not-suc-le-zero, le_of_suc-le-suc, zero-mul, suc-mul}
use native.Mathlib.Omega.{arith}
use mathlib.Core.List.{List, [], ◌∷◌, ◌++◌}
use lib.ListN.{length, get_or, take, drop, length-drop}
use lib.Seq.{length-take-le}
use seplogic.Ra.Ura.{Ura}
use base.Logic.{SProp, ent, sep, emp, via, snd∗, emp∗, id⊢, mono_r}
use base.Fml.{Fml, Lft, fsep}
use types.Logic.{Logic, sem}
use types.SemTy.{cells}
use types.Kit.{‵, ◌⊛◌, ◌$◌, ◌∵◌, !, qed, by, move, keep, use1, use2, split, rewrite, fsplit, fjoin, frame, done}
use types.Kit.{drop as skip}
use denote.Memory.{mem}
use denote.RawPtr.{block_ptr}
use denote.Index.{place, place_is}
use denote.Slice.{elements_shared}
use denote.Steps.{nothing}
use Rattle.core.proofs.slots.Runs.{run, spliced, unspliced, run_long}
use Rattle.std.specs.Prelude.{if◌then◌else◌}
use Rattle.core.proofs.mem.Param.{El, R, el_x}
use Rattle.core.specs.Mem.Slots.Ownership.{slot, slots, slot_lent, slots_lent}
use Rattle.core.proofs.slots.Places.{sz}
use Rattle.exr_rects.specs.Ownership.{piece, pieces}
use Rattle.exr_rects.specs.Marks.{marks_in, both_marks, both_items, overwritten}

pub length-marks_in : (p : ℕ → Bool) (k : ℕ) (ms : List Bool) → length (marks_in p k ms) ≡ length ms
length-marks_in p k [] = refl
length-marks_in p k (m ∷ ms) = ap suc (length-marks_in p (suc k) ms)

pub length-both_marks : (ms ns : List Bool) → length ns ≡ length ms → length (both_marks ms ns) ≡ length ms
length-both_marks [] ns e = e
length-both_marks (m ∷ ms) [] e = refl
length-both_marks (m ∷ ms) (n ∷ ns) e = let e' : suc (length ns) ≡ suc (length ms) = e in ap suc (length-both_marks ms ns (omega arith))

pub length-both_items : {X : Type 0} (ms : List Bool) (xs ys : List X) → length ys ≡ length xs → length (both_items ms xs ys) ≡ length xs
length-both_items [] xs ys e = e
length-both_items (m ∷ ms) [] ys e = e
length-both_items (m ∷ ms) (x ∷ xs) [] e = e
length-both_items (m ∷ ms) (x ∷ xs) (y ∷ ys) e = let e' : suc (length ys) ≡ suc (length xs) = e in ap suc (length-both_items ms xs ys (omega arith))

module _ {X : Type 0} where
  at_front : (xs ws : List X) → length ws ≤ length xs → ws ++ drop (length ws) xs ≡ overwritten xs 0 ws
  at_front [] [] fits = refl
  at_front [] (w ∷ ws) fits = absurd (not-suc-le-zero fits)
  at_front (x ∷ xs) [] fits = refl
  at_front (x ∷ xs) (w ∷ ws) fits = ap (λ l. w ∷ l) (at_front xs ws (le_of_suc-le-suc fits))

  overwritten_to : (xs : List X) (a j : ℕ) (ws : List X) → j ≡ a + length ws → j ≤ length xs → take a xs ++ (ws ++ drop j xs) ≡ overwritten xs a ws
  overwritten_to xs zero j ws e fits = let same : j ≡ length ws = omega arith in ap (λ (k : ℕ). ws ++ drop k xs) same ∙ at_front xs ws (omega arith)
  overwritten_to xs (suc a) zero ws e fits = absurd (not-suc-le-zero {n = 0} (omega arith))
  overwritten_to [] (suc a) (suc j) ws e fits = absurd (not-suc-le-zero fits)
  overwritten_to (x ∷ xs) (suc a) (suc j) ws e fits = ap (λ l. x ∷ l) (overwritten_to xs a j ws (omega arith) (le_of_suc-le-suc fits))

  -- a run put into its place is the list overwritten there
  pub overwritten_is : (xs : List X) (a n : ℕ) (ws : List X) → a + n ≤ length xs → length ws ≡ n → spliced xs a n ws ≡ overwritten xs a ws
  overwritten_is xs a n ws fits long = overwritten_to xs a (a + n) ws (ap (λ (k : ℕ). a + k) (sym long)) fits

module _ (E : El) {M : Type 1} {𝓤 : Ura M} (𝓛 : Logic 𝓤) (b : ℕ) where
  abbrev ◌⊢◌ : SProp 𝓤 → SProp 𝓤 → Type 1
  P ⊢ Q = ent 𝓤 P Q

  abbrev ◌∗◌ : SProp 𝓤 → SProp 𝓤 → SProp 𝓤
  P ∗ Q = sep 𝓤 P Q

  abbrev ⟦◌⟧ : Fml → SProp 𝓤
  ⟦ P ⟧ = sem 𝓛 P

  infix 26 ◌⊢◌
  infixr 35 ◌∗◌
  abbrev s : ℕ
  s = sz E

  abbrev one : Bool → ℕ → el_x E → Fml
  one m o x = piece (R E) m (block_ptr b o) x

  abbrev all : ℕ → List (el_x E) → List Bool → Fml
  all o xs ms = pieces (R E) (block_ptr b o) xs ms

  -- a row of slots gives the values that it holds
  pub of_slots : (xs : List (el_x E)) (fs : List Bool) (o : ℕ) → ⟦ slots (R E) (block_ptr b o) xs fs ⟧ ⊢ ⟦ all o xs fs ⟧
  of_slots [] fs o = id⊢ 𝓤 (emp 𝓤)
  of_slots (x ∷ xs) [] o = id⊢ 𝓤 (emp 𝓤)
  of_slots (x ∷ xs) (true ∷ fs) o = mono_r 𝓤 ⟦ one true o x ⟧ (of_slots xs fs (o + s))
  of_slots (x ∷ xs) (false ∷ fs) o = qed 𝓛 (‵ (slot (R E) false (block_ptr b o) x) ∷ ‵ (slots (R E) (block_ptr b (o + s)) xs fs) ∷ []) ∵
      skip ! $ use1 𝓛 (‵ (all (o + s) xs fs)) (of_slots xs fs (o + s)) $ nothing ! $ fjoin ! $ done !

  -- a sheet that owns every element is a row of slots that are all full
  pub to_slots : (xs : List (el_x E)) (ms : List Bool) (o : ℕ) → ((k : ℕ) → k < length ms → get_or ms k false ≡ true) → ⟦ all o xs ms ⟧ ⊢ ⟦ slots (R E) (block_ptr b o) xs ms ⟧
  to_slots [] ms o full = id⊢ 𝓤 (emp 𝓤)
  to_slots (x ∷ xs) [] o full = id⊢ 𝓤 (emp 𝓤)
  to_slots (x ∷ xs) (true ∷ ms) o full = mono_r 𝓤 ⟦ one true o x ⟧ (to_slots xs ms (o + s) (λ k lt. full (suc k) (let up : suc k < suc (length ms) = omega arith in up)))
  to_slots (x ∷ xs) (false ∷ ms) o full = let no : false ≡ true = full 0 (let up : 0 < suc (length ms) = omega arith in up) in cc

  shared : (m q : Bool) (o : ℕ) (x : el_x E) → ⟦ one m o x ⟧ ⊢ ⟦ one (q && m) o x ⟧ ∗ ⟦ one (not q && m) o x ⟧
  shared true true o x = qed 𝓛 (‵ (one true o x) ∷ []) ∵ nothing ! $ move ! (1 ∷ 0 ∷ []) $ done !
  shared true false o x = qed 𝓛 (‵ (one true o x) ∷ []) ∵ nothing ! $ done !
  shared false true o x = qed 𝓛 (‵ (one false o x) ∷ []) ∵ nothing ! $ done !
  shared false false o x = qed 𝓛 (‵ (one false o x) ∷ []) ∵ nothing ! $ done !

  -- the elements at the places that p names, and the others
  pub parted : (p : ℕ → Bool) (xs : List (el_x E)) (ms : List Bool) (k o : ℕ) → ⟦ all o xs ms ⟧ ⊢ ⟦ all o xs (marks_in p k ms) ⟧ ∗ ⟦ all o xs (marks_in (λ j. not (p j)) k ms) ⟧
  parted p [] ms k o = qed 𝓛 (‵ (all o [] ms) ∷ []) ∵ nothing ! $ done !
  parted p (x ∷ xs) [] k o = qed 𝓛 (‵ (all o (x ∷ xs) []) ∷ []) ∵ nothing ! $ done !
  parted p (x ∷ xs) (m ∷ ms) k o =
      qed 𝓛 (‵ (one m o x) ∷ ‵ (all (o + s) xs ms) ∷ []) ∵ use1 𝓛 (‵ (one (p k && m) o x) ⊛ ‵ (one (not (p k) && m) o x)) (shared m (p k) o x) $ split ! $ move ! (2 ∷ []) $
      use1 𝓛 (‵ (all (o + s) xs (marks_in p (suc k) ms)) ⊛ ‵ (all (o + s) xs (marks_in (λ j. not (p j)) (suc k) ms))) (parted p xs ms (suc k) (o + s)) $ split ! $
      move ! (3 ∷ 1 ∷ []) $ fjoin ! $ move ! (2 ∷ 1 ∷ []) $ fjoin ! $ done !

  either : (m n : Bool) (o : ℕ) (x y : el_x E) → ⟦ one m o x ⟧ ∗ ⟦ one n o y ⟧ ⊢ ⟦ one (m || n) o (if m then x else y) ⟧
  either true n o x y = qed 𝓛 (‵ (one true o x) ∷ ‵ (one n o y) ∷ []) ∵ keep ! (0 ∷ []) $ done !
  either false n o x y = qed 𝓛 (‵ (one false o x) ∷ ‵ (one n o y) ∷ []) ∵ keep ! (1 ∷ []) $ done !

  -- the elements of two sheets together
  pub merged : (xs ys : List (el_x E)) (ms ns : List Bool) (o : ℕ) → length ys ≡ length xs → length ms ≡ length xs → length ns ≡ length xs
      → ⟦ all o xs ms ⟧ ∗ ⟦ all o ys ns ⟧ ⊢ ⟦ all o (both_items ms xs ys) (both_marks ms ns) ⟧
  merged xs ys [] ns o ey em en = qed 𝓛 (‵ (all o xs []) ∷ ‵ (all o ys ns) ∷ []) ∵ keep ! (1 ∷ []) $ done !
  merged [] ys (m ∷ ms) ns o ey em en = let e' : suc (length ms) ≡ 0 = em in absurd (not-suc-le-zero {n = 0} (omega arith))
  merged (x ∷ xs) [] (m ∷ ms) ns o ey em en = let e' : 0 ≡ suc (length xs) = ey in absurd (not-suc-le-zero {n = 0} (omega arith))
  merged (x ∷ xs) (y ∷ ys) (m ∷ ms) [] o ey em en = let e' : 0 ≡ suc (length xs) = en in absurd (not-suc-le-zero {n = 0} (omega arith))
  merged (x ∷ xs) (y ∷ ys) (m ∷ ms) (n ∷ ns) o ey em en =
      let e₁ : suc (length ys) ≡ suc (length xs) = ey in let e₂ : suc (length ms) ≡ suc (length xs) = em in let e₃ : suc (length ns) ≡ suc (length xs) = en in
      qed 𝓛 (‵ (all o (x ∷ xs) (m ∷ ms)) ∷ ‵ (all o (y ∷ ys) (n ∷ ns)) ∷ []) ∵ fsplit ! $ move ! (2 ∷ []) $ fsplit ! $ move ! (2 ∷ 0 ∷ []) $
      use2 𝓛 (‵ (one (m || n) o (if m then x else y))) (either m n o x y) $ move ! (2 ∷ 1 ∷ []) $
      use2 𝓛 (‵ (all (o + s) (both_items ms xs ys) (both_marks ms ns))) (merged xs ys ms ns (o + s) (omega arith) (omega arith) (omega arith)) $ move ! (1 ∷ 0 ∷ []) $ fjoin ! $ done !

  cut_at : (xs ys : List (el_x E)) (fs gs : List Bool) (o : ℕ) → length fs ≡ length xs → ⟦ all o (xs ++ ys) (fs ++ gs) ⟧ ⊢ ⟦ all o xs fs ⟧ ∗ ⟦ all (place s o (length xs)) ys gs ⟧
  cut_at [] ys [] gs o e = emp∗ 𝓤 ⟦ all o ys gs ⟧
  cut_at [] ys (f ∷ fs) gs o e = let e' : suc (length fs) ≡ 0 = e in absurd (not-suc-le-zero {n = 0} (omega arith))
  cut_at (x ∷ xs) ys [] gs o e = let e' : 0 ≡ suc (length xs) = e in absurd (not-suc-le-zero {n = 0} (omega arith))
  cut_at (x ∷ xs) ys (f ∷ fs) gs o e =
      let e' : suc (length fs) ≡ suc (length xs) = e in
      qed 𝓛 (‵ (one f o x) ∷ ‵ (all (o + s) (xs ++ ys) (fs ++ gs)) ∷ []) ∵ move ! (1 ∷ []) $
      use1 𝓛 (‵ (all (o + s) xs fs) ⊛ ‵ (all (place s (o + s) (length xs)) ys gs)) (cut_at xs ys fs gs (o + s) (omega arith)) $ split ! $ move ! (2 ∷ 0 ∷ []) $ fjoin ! $ done !

  glue_at : (xs ys : List (el_x E)) (fs gs : List Bool) (o : ℕ) → length fs ≡ length xs → ⟦ all o xs fs ⟧ ∗ ⟦ all (place s o (length xs)) ys gs ⟧ ⊢ ⟦ all o (xs ++ ys) (fs ++ gs) ⟧
  glue_at [] ys [] gs o e = snd∗ 𝓤 (emp 𝓤) ⟦ all o ys gs ⟧
  glue_at [] ys (f ∷ fs) gs o e = let e' : suc (length fs) ≡ 0 = e in absurd (not-suc-le-zero {n = 0} (omega arith))
  glue_at (x ∷ xs) ys [] gs o e = let e' : 0 ≡ suc (length xs) = e in absurd (not-suc-le-zero {n = 0} (omega arith))
  glue_at (x ∷ xs) ys (f ∷ fs) gs o e =
      let e' : suc (length fs) ≡ suc (length xs) = e in
      qed 𝓛 (‵ (all o (x ∷ xs) (f ∷ fs)) ∷ ‵ (all (place s (o + s) (length xs)) ys gs) ∷ []) ∵ fsplit ! $ frame ! $ by ! (glue_at xs ys fs gs (o + s) (omega arith))

  -- a row is cut in two at the offset at, and glued again
  module _ (xs ys : List (el_x E)) (fs gs : List Bool) (o at : ℕ) (e : length fs ≡ length xs) (is : at ≡ length xs * s + o) where
    row_cut : ⟦ all o (xs ++ ys) (fs ++ gs) ⟧ ⊢ ⟦ all o xs fs ⟧ ∗ ⟦ all at ys gs ⟧
    row_cut = subst (λ (k : ℕ). ⟦ all o (xs ++ ys) (fs ++ gs) ⟧ ⊢ ⟦ all o xs fs ⟧ ∗ ⟦ all k ys gs ⟧) (place_is s o (length xs) ∙ sym is) (cut_at xs ys fs gs o e)

    row_glue : ⟦ all o xs fs ⟧ ∗ ⟦ all at ys gs ⟧ ⊢ ⟦ all o (xs ++ ys) (fs ++ gs) ⟧
    row_glue = subst (λ (k : ℕ). ⟦ all o xs fs ⟧ ∗ ⟦ all k ys gs ⟧ ⊢ ⟦ all o (xs ++ ys) (fs ++ gs) ⟧) (place_is s o (length xs) ∙ sym is) (glue_at xs ys fs gs o e)

  module _ (o : ℕ) (xs : List (el_x E)) (fs : List Bool) (a n : ℕ) where
    -- the pieces before the run and after it
    abbrev pub Around : Fml
    Around = fsep (all o (take a xs) (take a fs)) (all (n * s + (a * s + o)) (drop (a + n) xs) (drop (a + n) fs))

    module _ (fits : a + n ≤ length xs) (same : length fs ≡ length xs) where
      fronts : (length (take a fs) ≡ length (take a xs)) × (a * s + o ≡ length (take a xs) * s + o)
      fronts = let p = length-take-le a xs (omega arith) in (length-take-le a fs (omega arith) ∙ sym p, ap (λ (j : ℕ). j * s + o) (sym p))

      pub run_out : ⟦ all o xs fs ⟧ ⊢ ⟦ all (a * s + o) (run xs a n) (run fs a n) ⟧ ∗ ⟦ Around ⟧
      run_out =
          let p = run_long xs a n fits in
          qed 𝓛 (‵ (all o xs fs) ∷ []) ∵ rewrite ! 0 (λ (l : List (el_x E)). ‵ (all o l fs)) (sym (unspliced xs a n)) refl $ rewrite ! 0 (λ (l : List Bool). ‵ (all o (spliced xs a n (run xs a n)) l)) (sym (unspliced fs a n)) refl $
          use1 𝓛 (‵ (all o (take a xs) (take a fs)) ⊛ ‵ (all (a * s + o) (run xs a n ++ drop (a + n) xs) (run fs a n ++ drop (a + n) fs)))
          (row_cut (take a xs) _ (take a fs) _ o (a * s + o) fronts.0 fronts.1) $ split ! $ move ! (1 ∷ []) $
          use1 𝓛 (‵ (all (a * s + o) (run xs a n) (run fs a n)) ⊛ ‵ (all (n * s + (a * s + o)) (drop (a + n) xs) (drop (a + n) fs)))
          (row_cut (run xs a n) _ (run fs a n) _ (a * s + o) (n * s + (a * s + o)) (run_long fs a n (omega arith) ∙ sym p) (ap (λ (j : ℕ). j * s + (a * s + o)) (sym p))) $ split ! $ move ! (0 ∷ 2 ∷ []) $ done !

      pub run_in : (ws : List (el_x E)) → length ws ≡ n → ⟦ all (a * s + o) ws (run fs a n) ⟧ ∗ ⟦ Around ⟧ ⊢ ⟦ all o (spliced xs a n ws) fs ⟧
      run_in ws p =
          let q = run_long fs a n (omega arith) in
          qed 𝓛 (‵ (all (a * s + o) ws (run fs a n)) ∷ ‵ Around ∷ []) ∵ move ! (1 ∷ []) $ fsplit ! $ move ! (2 ∷ 1 ∷ []) $
          use2 𝓛 (‵ (all (a * s + o) (ws ++ drop (a + n) xs) (run fs a n ++ drop (a + n) fs))) (row_glue ws _ (run fs a n) _ (a * s + o) (n * s + (a * s + o)) (q ∙ sym p) (ap (λ (j : ℕ). j * s + (a * s + o)) (sym p))) $
          move ! (1 ∷ []) $ use2 𝓛 (‵ (all o (spliced xs a n ws) (spliced fs a n (run fs a n)))) (row_glue (take a xs) _ (take a fs) _ o (a * s + o) fronts.0 fronts.1) $
          rewrite ! 0 (λ (l : List Bool). ‵ (all o (spliced xs a n ws) l)) (unspliced fs a n) refl $ done !

  -- pieces that are all owned are a slice's elements
  pub to_cells : (xs : List (el_x E)) (ms : List Bool) (o : ℕ) → length ms ≡ length xs → ((k : ℕ) → k < length ms → get_or ms k false ≡ true) → ⟦ all o xs ms ⟧ ⊢ ⟦ cells (mem (R E)) xs b o ⟧
  to_cells [] ms o e full = id⊢ 𝓤 (emp 𝓤)
  to_cells (x ∷ xs) [] o e full = let e' : 0 ≡ suc (length xs) = e in absurd (not-suc-le-zero {n = 0} (omega arith))
  to_cells (x ∷ xs) (true ∷ ms) o e full =
      let e' : suc (length ms) ≡ suc (length xs) = e in
      mono_r 𝓤 ⟦ one true o x ⟧ (to_cells xs ms (o + s) (omega arith) (λ k lt. full (suc k) (let up : suc k < suc (length ms) = omega arith in up)))
  to_cells (x ∷ xs) (false ∷ ms) o e full = let no : false ≡ true = full 0 (let up : 0 < suc (length ms) = omega arith in up) in cc

  pub of_cells : (xs : List (el_x E)) (ms : List Bool) (o : ℕ) → ((k : ℕ) → k < length ms → get_or ms k false ≡ true) → ⟦ cells (mem (R E)) xs b o ⟧ ⊢ ⟦ all o xs ms ⟧
  of_cells [] ms o full = id⊢ 𝓤 (emp 𝓤)
  of_cells (x ∷ xs) [] o full = qed 𝓛 (‵ (cells (mem (R E)) (x ∷ xs) b o) ∷ []) ∵ keep ! [] $ done !
  of_cells (x ∷ xs) (true ∷ ms) o full = mono_r 𝓤 ⟦ one true o x ⟧ (of_cells xs ms (o + s) (λ k lt. full (suc k) (let up : suc k < suc (length ms) = omega arith in up)))
  of_cells (x ∷ xs) (false ∷ ms) o full = let no : false ≡ true = full 0 (let up : 0 < suc (length ms) = omega arith in up) in cc

  module _ (κ : Lft) where
    abbrev Seen : ℕ → List (el_x E) → List Bool → Fml
    Seen o xs ms = slots_lent (R E) (block_ptr b o) xs ms κ

    from_on : (xs : List (el_x E)) (ms : List Bool) (i o at : ℕ) → i ≤ length xs → i ≤ length ms → at ≡ i * s + o → ⟦ Seen o xs ms ⟧ ⊢ ⟦ Seen at (drop i xs) (drop i ms) ⟧
    from_on xs ms zero o at lx lm e = let same : o ≡ at = omega (arith, zero-mul s) in subst (λ k. ⟦ Seen o xs ms ⟧ ⊢ ⟦ Seen k xs ms ⟧) same (id⊢ 𝓤 _)
    from_on [] ms (suc i) o at lx lm e = absurd (omega arith)
    from_on (x ∷ xs) [] (suc i) o at lx lm e = absurd (omega arith)
    from_on (x ∷ xs) (m ∷ ms) (suc i) o at lx lm e =
        via 𝓤 ⟦ Seen (o + s) xs ms ⟧ (snd∗ 𝓤 ⟦ slot_lent (R E) m (block_ptr b o) x κ ⟧ ⟦ Seen (o + s) xs ms ⟧) (from_on xs ms i (o + s) at (le_of_suc-le-suc lx) (le_of_suc-le-suc lm) (omega (arith, suc-mul i s)))

    up_to : (n : ℕ) (xs : List (el_x E)) (ms : List Bool) (o : ℕ) → n ≤ length xs → n ≤ length ms → ((k : ℕ) → k < n → get_or ms k false ≡ true) → ⟦ Seen o xs ms ⟧ ⊢ ⟦ elements_shared (R E) (take n xs) b o κ ⟧
    up_to zero xs ms o lx lm full = qed 𝓛 (‵ (Seen o xs ms) ∷ []) ∵ keep ! [] $ done !
    up_to (suc n) [] ms o lx lm full = absurd (not-suc-le-zero lx)
    up_to (suc n) (x ∷ xs) [] o lx lm full = absurd (not-suc-le-zero lm)
    up_to (suc n) (x ∷ xs) (true ∷ ms) o lx lm full =
        qed 𝓛 (‵ (slot_lent (R E) true (block_ptr b o) x κ) ∷ ‵ (Seen (o + s) xs ms) ∷ []) ∵ fsplit ! $ skip ! $ frame ! $
        by ! (up_to n xs ms (o + s) (le_of_suc-le-suc lx) (le_of_suc-le-suc lm) (λ k lt. full (suc k) (let up : suc k < suc n = omega arith in up)))
    up_to (suc n) (x ∷ xs) (false ∷ ms) o lx lm full = let no : false ≡ true = full 0 (let up : 0 < suc n = omega arith in up) in cc

    pub run_seen : (o : ℕ) (xs : List (el_x E)) (ms : List Bool) (a n : ℕ) → a + n ≤ length xs → length ms ≡ length xs → ((k : ℕ) → k < n → get_or (drop a ms) k false ≡ true)
        → ⟦ Seen o xs ms ⟧ ⊢ ⟦ elements_shared (R E) (take n (drop a xs)) b (a * s + o) κ ⟧
    run_seen o xs ms a n fits same full = qed 𝓛 (‵ (Seen o xs ms) ∷ []) ∵ use1 𝓛 (‵ (Seen (a * s + o) (drop a xs) (drop a ms))) (from_on xs ms a o (a * s + o) (omega arith) (omega arith) refl) $
        by ! (up_to n (drop a xs) (drop a ms) (a * s + o) (omega (arith, length-drop a xs)) (omega (arith, length-drop a ms)) full)
