-- Each begins where the one before has ended, or behind it: so no number is claimed by two.
--
-- Slices claim numbers, by keys. The same is said of the slices of a run, of the runs of a plane and of the planes of a
-- layout, where what is claimed once is claimed again a stride further on.
use Rattle.std.proofs.Common.{◌≡◌, ◌+◌, ◌-◌, ◌*◌, ◌/◌, ◌<◌, ◌≤◌, ℕ, zero, suc, false, cond, List, [], ◌∷◌, ◌++◌, length, refl, sym, ap, ap₂, ◌∙◌, subst, inl, inr, arith, eqb}
use Rattle.std.proofs.lemmas.Bool.{cases_lt}
use Rattle.std.proofs.lemmas.Nat.{div-mul-add, mul-le}
use Rattle.std.proofs.lemmas.List.{length-append, get_or_append_left, get_or-append_right}
use Rattle.exr_layout.specs.declared.placement.Placement.{Placement}
use Rattle.exr_layout.specs.Place.{placement_at}
use Rattle.exr_layout.specs.Validation.{end_of}
use Rattle.exr_layout.proofs.Counted.{zero_false}

-- the slices claim numbers from `low` on, before `high`; no number is claimed by two, or by two keys
pub record Stands (K : Type 0) (claims : Placement → K → ℕ → Type 0) (low high : ℕ) (xs : List Placement) : Type 0 where
  pub ordered : low ≤ high
  pub within : (i : ℕ) (k : K) (n : ℕ) → i < length xs → claims (placement_at xs i) k n → (low ≤ n) × (n < high)
  pub once : (i j : ℕ) (k l : K) (n : ℕ) → i < length xs → j < length xs → claims (placement_at xs i) k n → claims (placement_at xs j) l n → (i ≡ j) × (k ≡ l)

pub nothing : (K : Type 0) (claims : Placement → K → ℕ → Type 0) (n : ℕ) → Stands K claims n n []
nothing K claims n = record {
  ordered = omega arith;
  within = λ i k m lt c. absurd (omega arith);
  once = λ i j k l m lt. absurd (omega arith);
}

pub single : (K : Type 0) (claims : Placement → K → ℕ → Type 0) (low high : ℕ) (x : Placement) → low ≤ high → ((k : K) (n : ℕ) → claims x k n → (low ≤ n) × (n < high)) → ((k l : K) (n : ℕ) → claims x k n → claims x l n → k ≡ l) → Stands K claims low high (x ∷ [])
single K claims low high x le within once = record {
  ordered = le;
  within = λ i. elim i as (λ i. (k : K) (n : ℕ) → i < 1 → claims (placement_at (x ∷ []) i) k n → (low ≤ n) × (n < high)) [
    | zero ↦ λ k n lt c. within k n c
    | suc i ↦ λ k n lt c. absurd (omega arith)
  ];
  once = λ i. elim i as (λ i. (j : ℕ) (k l : K) (n : ℕ) → i < 1 → j < 1 → claims (placement_at (x ∷ []) i) k n → claims (placement_at (x ∷ []) j) l n → (i ≡ j) × (k ≡ l)) [
    | zero ↦ λ j. elim j as (λ j. (k l : K) (n : ℕ) → 0 < 1 → j < 1 → claims x k n → claims (placement_at (x ∷ []) j) l n → (0 ≡ j) × (k ≡ l)) [
      | zero ↦ λ k l n lt lu c d. (refl, once k l n c d)
      | suc j ↦ λ k l n lt lu c d. absurd (omega arith)
    ]
    | suc i ↦ λ j k l n lt lu c d. absurd (omega arith)
  ];
}

-- from further down
pub lower : (K : Type 0) (claims : Placement → K → ℕ → Type 0) (low low' high : ℕ) (xs : List Placement) → low ≤ low' → Stands K claims low' high xs → Stands K claims low high xs
lower K claims low low' high xs le s = record {
  ordered = omega (arith, s.ordered);
  within = λ i k n lt c. let w = s.within i k n lt c in (omega arith, w.1);
  once = s.once;
}

at_left : (xs ys : List Placement) (i : ℕ) → i < length xs → placement_at (xs ++ ys) i ≡ placement_at xs i
at_left xs ys i h = get_or_append_left xs ys _ i h

at_right : (xs ys : List Placement) (i : ℕ) → length xs ≤ i → placement_at (xs ++ ys) i ≡ placement_at ys (i - length xs)
at_right xs ys i h = get_or-append_right xs ys (length xs) i _ refl h

-- one list behind another
pub behind : (K : Type 0) (claims : Placement → K → ℕ → Type 0) (low mid mid' high : ℕ) (xs ys : List Placement) → mid ≤ mid' → Stands K claims low mid xs → Stands K claims mid' high ys → Stands K claims low high (xs ++ ys)
behind K claims low mid mid' high xs ys le s t =
    let len = length-append xs ys in
    let left : (i : ℕ) (k : K) (n : ℕ) → i < length xs → claims (placement_at (xs ++ ys) i) k n → claims (placement_at xs i) k n = λ i k n h c. subst (λ (x : Placement). claims x k n) (at_left xs ys i h) c in
    let right : (i : ℕ) (k : K) (n : ℕ) → length xs ≤ i → claims (placement_at (xs ++ ys) i) k n → claims (placement_at ys (i - length xs)) k n = λ i k n h c. subst (λ (x : Placement). claims x k n) (at_right xs ys i h) c in
    record {
      ordered = omega (arith, s.ordered, t.ordered);
      within = λ i k n lt c. elim (cases_lt i (length xs)) [
        | inl h ↦ let w = s.within i k n h (left i k n h c) in let o = t.ordered in (w.0, omega arith)
        | inr h ↦ let w = t.within (i - length xs) k n (omega arith) (right i k n h c) in let o = s.ordered in (omega arith, w.1)
      ];
      once = λ i j k l n lt lu c d. elim (cases_lt i (length xs)) [
        | inl h ↦ elim (cases_lt j (length xs)) [
          | inl g ↦ s.once i j k l n h g (left i k n h c) (left j l n g d)
          | inr g ↦ absurd (let v = s.within i k n h (left i k n h c) in let w = t.within (j - length xs) l n (omega arith) (right j l n g d) in omega arith)
        ]
        | inr h ↦ elim (cases_lt j (length xs)) [
          | inl g ↦ absurd (let v = s.within j l n g (left j l n g d) in let w = t.within (i - length xs) k n (omega arith) (right i k n h c) in omega arith)
          | inr g ↦ let e = t.once (i - length xs) (j - length xs) k l n (omega arith) (omega arith) (right i k n h c) (right j l n g d) in (omega arith, e.1)
        ]
      ];
    }

-- ---- again a stride further on

pub apart : (S a b u v : ℕ) → u < S → v < S → a * S + u ≡ b * S + v → (a ≡ b) × (u ≡ v)
apart S a b u v hu hv e =
    let f : (a * S + u) / S ≡ a = div-mul-add a S u hu in
    let g : (b * S + v) / S ≡ b = div-mul-add b S v hv in
    let h : a ≡ b = sym f ∙ ap (λ n. n / S) e ∙ g in
    let p : a * S ≡ b * S = ap (λ n. n * S) h in
    (h, omega arith)

-- a number that is claimed again: the place that it is counted from, and the number there
pub record Again (K : Type 0) (claims : Placement → K → ℕ → Type 0) (at stride pieces : ℕ) (x : Placement) (k : ℕ × K) (n : ℕ) : Type 0 where
  pub number : ℕ
  pub piece : k.0 < pieces
  pub claimed : claims x k.1 number
  pub here : n ≡ at + k.0 * stride + number

pub end_some : (at stride m each : ℕ) → end_of at stride (suc m) each ≡ at + m * stride + each
end_some at stride m each =
    let t : eqb (suc m) 0 ≡ false = zero_false (suc m) (omega arith) in
    let d : suc m - 1 ≡ m = omega arith in
    ap (λ b. cond b at (at + (suc m - 1) * stride + each)) t ∙ ap (λ k. at + k * stride + each) d

end_none : (at stride each : ℕ) → end_of at stride zero each ≡ at
end_none at stride each = refl

piece_within : (at stride pieces each c w n : ℕ) → c < pieces → w < each → n ≡ at + c * stride + w → (at ≤ n) × (n < end_of at stride pieces each)
piece_within at stride zero each c w n h lt e = absurd (omega arith)
piece_within at stride (suc m) each c w n h lt e =
    let p : c * stride ≤ m * stride = mul-le c stride m stride (omega arith) (omega arith) in
    let f = end_some at stride m each in
    (omega arith, omega arith)

end_ordered : (at stride pieces each : ℕ) → at ≤ end_of at stride pieces each
end_ordered at stride zero each = let f = end_none at stride each in omega arith
end_ordered at stride (suc m) each = let f = end_some at stride m each in omega arith

pub again : (K : Type 0) (claims : Placement → K → ℕ → Type 0) (claims' : Placement → ℕ × K → ℕ → Type 0) (at stride pieces each : ℕ) (xs : List Placement)
    → ((i : ℕ) (k : ℕ × K) (n : ℕ) → i < length xs → claims' (placement_at xs i) k n → Again K claims at stride pieces (placement_at xs i) k n)
    → each ≤ stride → Stands K claims 0 each xs → Stands (ℕ × K) claims' at (end_of at stride pieces each) xs
again K claims claims' at stride pieces each xs from fits s = record {
  ordered = end_ordered at stride pieces each;
  within = λ i k n lt c.
      let a = from i k n lt c in
      let w = s.within i k.1 a.number lt a.claimed in
      piece_within at stride pieces each k.0 a.number n a.piece w.1 a.here;
  once = λ i j k l n lt lu c d.
      let a = from i k n lt c in
      let b = from j l n lu d in
      let v = s.within i k.1 a.number lt a.claimed in
      let w = s.within j l.1 b.number lu b.claimed in
      let e = apart stride k.0 l.0 a.number b.number (omega arith) (omega arith) (omega (arith, a.here, b.here)) in
      let f = s.once i j k.1 l.1 a.number lt lu a.claimed (subst (λ m. claims (placement_at xs j) l.1 m) (sym e.1) b.claimed) in
      (f.0, ap₂ (λ (p : ℕ) (q : K). (p, q)) e.0 f.1);
}
