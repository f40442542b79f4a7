-- Bytes added behind a list, piece after piece.
use Rattle.std.proofs.Common.{◌≡◌, ◌+◌, ◌<◌, ◌⊎◌, ℕ, List, length, refl, sym, ap, ◌∙◌, subst, inl, inr, arith, slice_index}
use Rattle.exr_frame.specs.Gather.{IsGrown}

-- nothing was added
pub grown_none : {K : Type 0} (which : K → Type 0) (place value : K → ℕ) (more : ℕ) (l : List ℕ) → more ≡ 0 → ((k : K) → which k → ⊥) → IsGrown which place value more l l
grown_none which place value more l e none = record { long = omega arith; kept = λ at h. refl; within = λ k w. absurd (none k w); read = λ k w. absurd (none k w) }

-- the same bytes, by other names
pub grown_again : {K L : Type 0} (which : K → Type 0) (place value : K → ℕ) (which' : L → Type 0) (place' value' : L → ℕ) (more more' : ℕ) (old new : List ℕ) → more ≡ more'
    → ((k : L) → which' k → (j : K) × which j × (place j ≡ place' k) × (value j ≡ value' k))
    → IsGrown which place value more old new → IsGrown which' place' value' more' old new
grown_again which place value which' place' value' more more' old new e back p = record {
  long = omega (arith, p.long);
  kept = p.kept;
  within = λ k w. let b = back k w in subst (λ n. n < length new) b.2 (p.within b.0 b.1);
  read = λ k w. let b = back k w in ap (slice_index new) (sym b.2) ∙ p.read b.0 b.1 ∙ b.3;
}

-- and then others
pub grown_more : {K : Type 0} (which which' all : K → Type 0) (place value : K → ℕ) (a b more : ℕ) (old mid new : List ℕ) → more ≡ a + b → ((k : K) → all k → which k ⊎ which' k)
    → IsGrown which place value a old mid → IsGrown which' place value b mid new → IsGrown all place value more old new
grown_more which which' all place value a b more old mid new e split p q = record {
  long = omega (arith, p.long, q.long);
  kept = λ at h. q.kept at (omega (arith, p.long)) ∙ p.kept at h;
  within = λ k w. elim (split k w) [
    | inl l ↦ let h = p.within k l in omega (arith, q.long)
    | inr r ↦ q.within k r
  ];
  read = λ k w. elim (split k w) [
    | inl l ↦ q.kept (place k) (p.within k l) ∙ p.read k l
    | inr r ↦ q.read k r
  ];
}
